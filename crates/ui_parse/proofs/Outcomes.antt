-- What holds of an outcome, step by step.
use Rattle.std.proofs.Common.{◌≡◌, ℕ, ◌<◌, ◌≤◌, Bool, true, false, cond, List, [], ◌∷◌, Option, Some, None, Ok, Err, refl, sym, ap, subst, ◌∙◌}
use Rattle.std.specs.Prelude.{nat_le}
use Rattle.std.proofs.lemmas.Bool.{leb-true, leb-false}
use Rattle.ui_base.specs.declared.value.Spot.{Spot}
use Rattle.ui_scan.specs.declared.kind.TokenKind.{TokenKind}
use Rattle.ui_tree.specs.declared.part.Placed.{Placed}
use Rattle.ui_grammar.specs.Word.{Word, ident, lit, mark}
use Rattle.ui_parse.specs.Kind.{is_kind}
use Rattle.ui_parse.proofs.SameKinds.{same_kind, kind_is}
use Rattle.ui_parse.specs.Reader.{Outcome, Reader, and_then, pure, refuse, first, taken, take_by, spot_if, marked, named, eat, expect, expect_name, within}

abbrev pub HoldsBy : {A : Type 0} → (A → List Word → Type 0) → (List Word → Type 0) → Outcome A → Type 0
HoldsBy P E (Ok p) = P p.0 p.1
HoldsBy P E (Err ws) = E ws

-- the outcome is a value with P, or a fault with E
pub record Holds {A : Type 0} (P : A → List Word → Type 0) (E : List Word → Type 0) (o : Outcome A) : Type 0 where
  pub holds : HoldsBy P E o

pub good : {A : Type 0} {P : A → List Word → Type 0} {E : List Word → Type 0} {a : A} {r : List Word} → P a r → Holds P E (Ok (a, r))
good h = record { holds = h }

pub bad : {A : Type 0} {P : A → List Word → Type 0} {E : List Word → Type 0} {r : List Word} → E r → Holds P E (Err r)
bad h = record { holds = h }

bind_by : {A B : Type 0} (P : A → List Word → Type 0) (E : List Word → Type 0) (Q : B → List Word → Type 0) (F : List Word → Type 0) (o : Outcome A) (f : A → Reader B)
    → HoldsBy P E o → ((a : A) (r : List Word) → P a r → Holds Q F (f a r)) → ((r : List Word) → E r → F r) → Holds Q F (and_then o f)
bind_by P E Q F (Ok p) f h on_ok on_err = on_ok p.0 p.1 h
bind_by P E Q F (Err ws) f h on_ok on_err = record { holds = on_err ws h }

pub bind : {A B : Type 0} {P : A → List Word → Type 0} {E : List Word → Type 0} {Q : B → List Word → Type 0} {F : List Word → Type 0} {o : Outcome A} {f : A → Reader B}
    → Holds P E o → ((a : A) (r : List Word) → P a r → Holds Q F (f a r)) → ((r : List Word) → E r → F r) → Holds Q F (and_then o f)
bind {P = P} {E = E} {Q = Q} {F = F} {o = o} {f = f} h on_ok on_err = bind_by P E Q F o f h.holds on_ok on_err

mono_by : {A : Type 0} (P : A → List Word → Type 0) (E : List Word → Type 0) (Q : A → List Word → Type 0) (F : List Word → Type 0) (o : Outcome A)
    → HoldsBy P E o → ((a : A) (r : List Word) → P a r → Q a r) → ((r : List Word) → E r → F r) → Holds Q F o
mono_by P E Q F (Ok p) h on_ok on_err = record { holds = on_ok p.0 p.1 h }
mono_by P E Q F (Err ws) h on_ok on_err = record { holds = on_err ws h }

pub mono : {A : Type 0} {P : A → List Word → Type 0} {E : List Word → Type 0} {Q : A → List Word → Type 0} {F : List Word → Type 0} {o : Outcome A}
    → Holds P E o → ((a : A) (r : List Word) → P a r → Q a r) → ((r : List Word) → E r → F r) → Holds Q F o
mono {P = P} {E = E} {Q = Q} {F = F} {o = o} h on_ok on_err = mono_by P E Q F o h.holds on_ok on_err

both_by : {A : Type 0} (P : A → List Word → Type 0) (E : List Word → Type 0) (Q : A → List Word → Type 0) (F : List Word → Type 0) (o : Outcome A)
    → HoldsBy P E o → HoldsBy Q F o → Holds (λ a r. P a r × Q a r) (λ r. E r × F r) o
both_by P E Q F (Ok p) h g = good (h, g)
both_by P E Q F (Err ws) h g = bad (h, g)

pub both : {A : Type 0} {P : A → List Word → Type 0} {E : List Word → Type 0} {Q : A → List Word → Type 0} {F : List Word → Type 0} {o : Outcome A}
    → Holds P E o → Holds Q F o → Holds (λ a r. P a r × Q a r) (λ r. E r × F r) o
both {P = P} {E = E} {Q = Q} {F = F} {o = o} h g = both_by P E Q F o h.holds g.holds

-- of an outcome that is known
pub holds_at : {A : Type 0} {P : A → List Word → Type 0} {E : List Word → Type 0} {o : Outcome A} {o' : Outcome A} → Holds P E o → o ≡ o' → Holds P E o'
holds_at {P = P} {E = E} h e = subst (Holds P E) e h

pub choose : {A : Type 0} {Q : A → List Word → Type 0} {F : List Word → Type 0} (b : Bool) (p q : Reader A) (ws : List Word)
    → (b ≡ true → Holds Q F (p ws)) → (b ≡ false → Holds Q F (q ws)) → Holds Q F (cond b p q ws)
choose true p q ws on off = on refl
choose false p q ws on off = off refl

pub either : {A : Type 0} {Q : A → List Word → Type 0} {F : List Word → Type 0} (b : Bool) (p q : Outcome A)
    → (b ≡ true → Holds Q F p) → (b ≡ false → Holds Q F q) → Holds Q F (cond b p q)
either true p q on off = on refl
either false p q on off = off refl

-- ---- the first word

taken_by : {A B : Type 0} {Q : A → List Word → Type 0} {F : List Word → Type 0} (test : Word → Option B) (on : B → Reader A) (other : Reader A) (w : Word) (rest : List Word) (x : Option B)
    → test w ≡ x → ((b : B) → test w ≡ Some b → Holds Q F (on b rest)) → (test w ≡ None → Holds Q F (other (w ∷ rest))) → Holds Q F (taken x on other (w ∷ rest))
taken_by test on other w rest None e good_by bad_by = bad_by e
taken_by test on other w rest (Some b) e good_by bad_by = good_by b e

pub taken_holds : {A B : Type 0} {Q : A → List Word → Type 0} {F : List Word → Type 0} (test : Word → Option B) (on : B → Reader A) (other : Reader A) (ws : List Word)
    → ((b : B) (w : Word) (rest : List Word) → ws ≡ w ∷ rest → test w ≡ Some b → Holds Q F (on b rest)) → (first test ws ≡ None → Holds Q F (other ws)) → Holds Q F (take_by test on other ws)
unfolding take_by
taken_holds test on other [] good_by bad_by = bad_by refl
taken_holds test on other (w ∷ rest) good_by bad_by = taken_by test on other w rest (test w) refl (λ b e. good_by b w rest refl e) bad_by

spot_is : (k l : TokenKind) (s t : Spot) (b : Bool) → is_kind k l ≡ b → spot_if b s ≡ Some t → mark k s ≡ mark l t
spot_is k l s t true e h = let same : s ≡ t = cc in ap (λ (z : TokenKind). mark z s) (same_kind k l e) ∙ ap (mark l) same
spot_is k l s t false e h = absurd cc

-- the word that passes
pub marked_is : (k : TokenKind) (w : Word) (s : Spot) → marked k w ≡ Some s → w ≡ mark k s
marked_is k (ident p) s e = absurd cc
marked_is k (lit l t v) s e = absurd cc
marked_is k (mark found t) s e = spot_is found k t s (is_kind found k) refl e

pub named_is : (w : Word) (p : Placed) → named w ≡ Some p → w ≡ ident p
named_is (ident q) p e = cc
named_is (lit l t v) p e = absurd cc
named_is (mark found t) p e = absurd cc

pub first_mark : (k : TokenKind) (s : Spot) (ws : List Word) → first (marked k) (mark k s ∷ ws) ≡ Some s
first_mark k s ws = rw (kind_is k) refl

pub mark_holds : {A : Type 0} {Q : A → List Word → Type 0} {F : List Word → Type 0} (k : TokenKind) (on : Spot → Reader A) (other : Reader A) (ws : List Word)
    → ((s : Spot) (rest : List Word) → ws ≡ mark k s ∷ rest → Holds Q F (on s rest)) → (first (marked k) ws ≡ None → Holds Q F (other ws)) → Holds Q F (take_by (marked k) on other ws)
mark_holds k on other ws good_by bad_by = taken_holds (marked k) on other ws (λ s w rest e h. good_by s rest (e ∙ ap (λ (v : Word). v ∷ rest) (marked_is k w s h))) bad_by

pub name_holds : {A : Type 0} {Q : A → List Word → Type 0} {F : List Word → Type 0} (on : Placed → Reader A) (other : Reader A) (ws : List Word)
    → ((p : Placed) (rest : List Word) → ws ≡ ident p ∷ rest → Holds Q F (on p rest)) → (first named ws ≡ None → Holds Q F (other ws)) → Holds Q F (take_by named on other ws)
name_holds on other ws good_by bad_by = taken_holds named on other ws (λ p w rest e h. good_by p rest (e ∙ ap (λ (v : Word). v ∷ rest) (named_is w p h))) bad_by

pub expect_holds : {Q : Spot → List Word → Type 0} {F : List Word → Type 0} (k : TokenKind) (ws : List Word)
    → ((s : Spot) (rest : List Word) → ws ≡ mark k s ∷ rest → Q s rest) → (first (marked k) ws ≡ None → F ws) → Holds Q F (expect k ws)
unfolding expect
expect_holds k ws on off = mark_holds k pure refuse ws (λ s rest e. good (on s rest e)) (λ e. bad (off e))

pub expect_name_holds : {Q : Placed → List Word → Type 0} {F : List Word → Type 0} (ws : List Word)
    → ((p : Placed) (rest : List Word) → ws ≡ ident p ∷ rest → Q p rest) → (first named ws ≡ None → F ws) → Holds Q F (expect_name ws)
unfolding expect_name
expect_name_holds ws on off = name_holds pure refuse ws (λ p rest e. good (on p rest e)) (λ e. bad (off e))

-- what `eat` gives: the mark that it took, or nothing
abbrev pub Eaten : TokenKind → List Word → Option Spot → List Word → Type 0
Eaten k ws None rest = (rest ≡ ws) × (first (marked k) ws ≡ None)
Eaten k ws (Some s) rest = ws ≡ mark k s ∷ rest

pub eat_says : {F : List Word → Type 0} (k : TokenKind) (ws : List Word) → Holds (Eaten k ws) F (eat k ws)
unfolding eat
eat_says k ws = mark_holds k (λ s. pure (Some s)) (pure None) ws (λ s rest e. good e) (λ e. good (refl, e))

-- `eat` as the step of a rule
pub eat_holds : {A : Type 0} {Q : A → List Word → Type 0} {F : List Word → Type 0} (k : TokenKind) (f : Option Spot → Reader A) (ws : List Word)
    → ((s : Spot) (rest : List Word) → ws ≡ mark k s ∷ rest → Holds Q F (f (Some s) rest)) → (first (marked k) ws ≡ None → Holds Q F (f None ws)) → Holds Q F (and_then (eat k ws) f)
eat_holds {Q = Q} {F = F} k f ws on off = bind (eat_says {F = F} k ws) each (λ r h. h)
  where
    each : (x : Option Spot) (rest : List Word) → Eaten k ws x rest → Holds Q F (f x rest)
    each None rest h = subst (λ (v : List Word). Holds Q F (f None v)) (sym h.0) (off h.1)
    each (Some s) rest h = on s rest h

pub within_holds : {A : Type 0} {Q : A → List Word → Type 0} {F : List Word → Type 0} (least budget : ℕ) (go : Reader A) (ws : List Word)
    → (least ≤ budget → Holds Q F (go ws)) → (budget < least → F ws) → Holds Q F (within least budget go ws)
within_holds least budget go ws on off = choose (nat_le least budget) go refuse ws (λ e. on (leb-true _ _ e)) (λ e. bad (off (leb-false _ _ e)))

-- ---- what readers give of words that are known

pub take_passes : {A B : Type 0} (test : Word → Option B) (on : B → Reader A) (other : Reader A) (w : Word) (ws : List Word) (b : B) → test w ≡ Some b → take_by test on other (w ∷ ws) ≡ on b ws
unfolding take_by
take_passes test on other w ws b e = rw e refl

pub take_other : {A B : Type 0} (test : Word → Option B) (on : B → Reader A) (other : Reader A) (ws : List Word) → first test ws ≡ None → take_by test on other ws ≡ other ws
unfolding take_by
take_other test on other ws e = rw e refl

pub take_mark : {A : Type 0} (k : TokenKind) (on : Spot → Reader A) (other : Reader A) (s : Spot) (ws : List Word) → take_by (marked k) on other (mark k s ∷ ws) ≡ on s ws
take_mark k on other s ws = take_passes (marked k) on other (mark k s) ws s (first_mark k s ws)

pub take_ident : {A : Type 0} (on : Placed → Reader A) (other : Reader A) (p : Placed) (ws : List Word) → take_by named on other (ident p ∷ ws) ≡ on p ws
take_ident on other p ws = take_passes named on other (ident p) ws p refl

pub expect_mark : (k : TokenKind) (s : Spot) (ws : List Word) → expect k (mark k s ∷ ws) ≡ Ok (s, ws)
unfolding expect
expect_mark k s ws = take_mark k pure refuse s ws

pub expect_other : (k : TokenKind) (ws : List Word) → first (marked k) ws ≡ None → expect k ws ≡ Err ws
unfolding expect
expect_other k ws e = take_other (marked k) pure refuse ws e

pub eat_mark : (k : TokenKind) (s : Spot) (ws : List Word) → eat k (mark k s ∷ ws) ≡ Ok (Some s, ws)
unfolding eat
eat_mark k s ws = take_mark k (λ s. pure (Some s)) (pure None) s ws

pub eat_other : (k : TokenKind) (ws : List Word) → first (marked k) ws ≡ None → eat k ws ≡ Ok (None, ws)
unfolding eat
eat_other k ws e = take_other (marked k) (λ s. pure (Some s)) (pure None) ws e

pub expect_name_ident : (p : Placed) (ws : List Word) → expect_name (ident p ∷ ws) ≡ Ok (p, ws)
unfolding expect_name
expect_name_ident p ws = take_ident pure refuse p ws

-- another mark does not pass
pub first_other : (k found : TokenKind) (s : Spot) (ws : List Word) → is_kind found k ≡ false → first (marked k) (mark found s ∷ ws) ≡ None
first_other k found s ws e = rw e refl
