-- What code reads on each branch, as its readers do: for proofs here and in the crates above.
use Rattle.std.proofs.Common.{◌≡◌, ℕ, Bool, true, false, cond, List, Option, Some, None, is_some, Result, refl, sym, ap, subst, ◌∙◌, arith}
use Rattle.std.specs.Prelude.{nat_le}
use Rattle.std.proofs.lemmas.Bool.{le-leb, lt-leb}
use Rattle.ui_grammar.specs.Word.{Word}
use Rattle.ui_parse.specs.declared.fault.ParseError.{ParseError}
use Rattle.ui_parse.specs.Reader.{Reader, first, tail, taken, take_by}
use Rattle.ui_parse.specs.Cursor.{after}
use Rattle.ui_parse.specs.View.{Reads}
use Rattle.ui_syntax.specs.Exprs.{is_some as holds_some}

-- ---- room

pub some_room : (room : ℕ) → (room ≡ 0 → ⊥) → nat_le 1 room ≡ true
some_room room some = le-leb _ _ (omega (arith, some))

pub no_room : (room : ℕ) → room ≡ 0 → nat_le 1 room ≡ false
no_room room none = lt-leb _ _ (omega (arith, none))

-- ---- options, by the test

pub none_of : {A : Type 0} (o : Option A) → holds_some o ≡ false → o ≡ None
none_of None e = refl
none_of (Some a) e = absurd cc

-- ---- branches

module _ {A X : Type 0} (see : X → A) (r : Result X ParseError) (left : List Word) where
  pub reads_on : (b : Bool) (p q : Reader A) (ws : List Word) → b ≡ true → Reads see (p ws) r left → Reads see (cond b p q ws) r left
  reads_on true p q ws e h = h
  reads_on false p q ws e h = absurd cc

  pub reads_off : (b : Bool) (p q : Reader A) (ws : List Word) → b ≡ false → Reads see (q ws) r left → Reads see (cond b p q ws) r left
  reads_off true p q ws e h = absurd cc
  reads_off false p q ws e h = h

  took : {B : Type 0} (x : Option B) (b : B) (on : B → Reader A) (other : Reader A) (ws : List Word) → x ≡ Some b → Reads see (on b (tail ws)) r left → Reads see (taken x on other ws) r left
  took None b on other ws e h = absurd cc
  took (Some a) b on other ws e h = let same : b ≡ a = cc in subst (λ (b : _). Reads see (on b (tail ws)) r left) same h

  missed : {B : Type 0} (x : Option B) (on : B → Reader A) (other : Reader A) (ws : List Word) → x ≡ None → Reads see (other ws) r left → Reads see (taken x on other ws) r left
  missed None on other ws e h = h
  missed (Some a) on other ws e h = absurd cc

  pub reads_took : {B : Type 0} (test : Word → Option B) (on : B → Reader A) (other : Reader A) (x : Option B) (b : B) (ws us : List Word) → x ≡ first test ws → x ≡ Some b → us ≡ after x ws → Reads see (on b us) r left → Reads see (take_by test on other ws) r left
  unfolding take_by
  reads_took test on other x b ws us found is behind h =
      took (first test ws) b on other ws (sym found ∙ is) (subst (λ (v : List Word). Reads see (on b v) r left) (behind ∙ ap (λ (x : Option _). after x ws) is) h)

  pub reads_missed : {B : Type 0} (test : Word → Option B) (on : B → Reader A) (other : Reader A) (x : Option B) (ws us : List Word) → x ≡ first test ws → x ≡ None → us ≡ after x ws → Reads see (other us) r left → Reads see (take_by test on other ws) r left
  unfolding take_by
  reads_missed test on other x ws us found is behind h =
      missed (first test ws) on other ws (sym found ∙ is) (subst (λ (v : List Word). Reads see (other v) r left) (behind ∙ ap (λ (x : Option _). after x ws) is) h)

  pub reads_if_took : {B : Type 0} (test : Word → Option B) (on : B → Reader A) (other : Reader A) (x : Option B) (ws us : List Word) → x ≡ first test ws → is_some x ≡ true → us ≡ after x ws → ((b : B) → Reads see (on b us) r left) → Reads see (take_by test on other ws) r left
  reads_if_took test on other None ws us found is behind h = absurd cc
  reads_if_took test on other (Some b) ws us found is behind h = reads_took test on other (Some b) b ws us found refl behind (h b)

  pub reads_if_missed : {B : Type 0} (test : Word → Option B) (on : B → Reader A) (other : Reader A) (x : Option B) (ws us : List Word) → x ≡ first test ws → is_some x ≡ false → us ≡ after x ws → Reads see (other us) r left → Reads see (take_by test on other ws) r left
  reads_if_missed test on other None ws us found is behind h = reads_missed test on other None ws us found refl behind h
  reads_if_missed test on other (Some b) ws us found is behind h = absurd cc
