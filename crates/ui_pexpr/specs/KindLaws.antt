-- Faults that are read, and their kinds.
use Rattle.std.proofs.Common.{◌≡◌, ℕ, ◌-◌, ◌≤◌, Bool, true, false, List, length, take, Option, Some, None, Ok, Err, refl, sym, ap, subst, ◌∙◌, arith}
use Rattle.std.specs.Prelude.{nat_le}
use Rattle.std.proofs.lemmas.Bool.{leb-true, leb-false}
use Rattle.ui_scan.specs.declared.kind.Token.{Token}
use Rattle.ui_grammar.specs.Word.{Word}
use Rattle.ui_grammar.specs.Parse.{IsLongest, IsFault, PassesDepth}
use Rattle.ui_parse.specs.Reader.{Outcome, Reader}
use Rattle.ui_parse.proofs.Longest.{Decides, found, fault}
use Rattle.ui_pexpr.specs.declared.fault.Form.{Form}
use Rattle.ui_pexpr.specs.declared.fault.ParseFault.{ParseFault}
use Rattle.ui_pexpr.specs.declared.fault.ParseFault.TheVariants.{Unexpected, TooDeep, Outside, BadImportPath, NoMemory}
use Rattle.ui_pexpr.specs.Faults.{first_offset, StandsAt, NoDeeper, form_behind, IsKind, told}

-- ---- the longest list is one

module _ {T : Type 0} (Has : List Word → T → Type 0) (ws : List Word) where
  pub no_more : (k n : ℕ) → IsLongest Has ws k → IsLongest Has ws n → n ≤ k
  no_more k n a b = by_order (nat_le n k) refl
    where
      by_order : (o : Bool) → nat_le n k ≡ o → n ≤ k
      by_order true e = leb-true _ _ e
      by_order false e = absurd (a.no_longer n (leb-false _ _ e) b.inside b.live)

  pub one_longest : (k n : ℕ) → IsLongest Has ws k → IsLongest Has ws n → k ≡ n
  one_longest k n a b = omega (arith, no_more k n a b, no_more n k b a)

-- ---- a fault is read as one

pub record ReadsFault {X : Type 0} (p : Reader X) (ws : List Word) (k : ℕ) : Type 0 where
  pub rest : List Word
  pub read : p ws ≡ Err rest
  pub place : length ws - length rest ≡ k

pub reads_fault : {T X : Type 0} (Has : List Word → T → Type 0) (p : Reader X) (tree : X → T) → Decides Has p tree → (ws : List Word) (k : ℕ) → IsFault Has ws k → ReadsFault p ws k
reads_fault {T} {X} Has p tree decides ws k h = by_outcome (p ws) refl
  where
    by_outcome : (o : Outcome X) → p ws ≡ o → ReadsFault p ws k
    by_outcome (Ok q) e =
        let f = found Has p tree decides ws q.0 q.1 e in
        let same : length ws - length q.1 ≡ k = one_longest Has ws _ k f.longest h.longest in
        absurd (h.none (tree q.0) (subst (λ (n : ℕ). Has (take n ws) (tree q.0)) same f.has))
    by_outcome (Err rest) e =
        let f = fault Has p tree decides ws rest e in
        record { rest = rest; read = e; place = one_longest Has ws _ k f.longest h.longest }

-- ---- what is told

pub stands_told : (bytes : List ℕ) (rest : List Token) (b : Bool) (o : Option Form) → StandsAt bytes rest (told b o (first_offset bytes rest))
stands_told bytes rest true o = refl
stands_told bytes rest false (Some form) = refl
stands_told bytes rest false None = refl

module _ {T : Type 0} (Has : ℕ → List Word → T → Type 0) (form_at : List Word → Word → Option Form) (ws : List Word) (k : ℕ) where
  kind_by : (at : ℕ) (b : Bool) (o : Option Form) → (b ≡ true → PassesDepth Has ws k) → (b ≡ false → NoDeeper Has ws k) → form_behind form_at ws k ≡ o → IsKind Has form_at ws k (told b o at)
  kind_by at true o deep shallow e = deep refl
  kind_by at false (Some form) deep shallow e = (shallow refl, e)
  kind_by at false None deep shallow e = (shallow refl, e)

  -- what is told by whether a deeper form goes on is of its kind
  pub kind_told : (at : ℕ) (b : Bool) → (b ≡ true → PassesDepth Has ws k) → (b ≡ false → NoDeeper Has ws k) → IsKind Has form_at ws k (told b (form_behind form_at ws k) at)
  kind_told at b deep shallow = kind_by at b (form_behind form_at ws k) deep shallow refl

  -- no other fault is
  pub told_is : (bytes : List ℕ) (rest : List Token) (e : ParseFault) (b : Bool) → StandsAt bytes rest e → IsKind Has form_at ws k e → (b ≡ true → PassesDepth Has ws k) → (b ≡ false → NoDeeper Has ws k)
      → e ≡ told b (form_behind form_at ws k) (first_offset bytes rest)
  told_is bytes rest (Unexpected n) true stands kind deep shallow = absurd (kind.0 (deep refl))
  told_is bytes rest (Unexpected n) false stands kind deep shallow = ap Unexpected stands ∙ sym (ap (λ (o : Option Form). told false o (first_offset bytes rest)) kind.1)
  told_is bytes rest (TooDeep n) true stands kind deep shallow = ap TooDeep stands
  told_is bytes rest (TooDeep n) false stands kind deep shallow = absurd (shallow refl kind)
  told_is bytes rest (Outside n form) true stands kind deep shallow = absurd (kind.0 (deep refl))
  told_is bytes rest (Outside n form) false stands kind deep shallow = ap (λ (m : ℕ). Outside m form) stands ∙ sym (ap (λ (o : Option Form). told false o (first_offset bytes rest)) kind.1)
  told_is bytes rest (BadImportPath n) b stands kind deep shallow = absurd kind
  told_is bytes rest NoMemory b stands kind deep shallow = absurd kind
