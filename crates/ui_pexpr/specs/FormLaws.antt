-- What readings of a front tell.
use Rattle.std.proofs.Common.{◌≡◌, ◌≢◌, ◌⊎◌, inl, inr, ℕ, suc, true, false, nat_eq, List, [], ◌∷◌, length, Ok, Err, refl, ap, ◌∙◌, arith}
use Rattle.std.proofs.lemmas.Bool.Decides.{eqb_tells}
use Rattle.ui_grammar.specs.Word.{Word}
use Rattle.ui_parse.specs.declared.fault.ParseError.TheVariants.{Fault}
use Rattle.ui_parse.specs.Reader.{Outcome}
use Rattle.ui_parse.specs.View.{Reads}
use Rattle.ui_pexpr.specs.Forms.{none_left, is_whole}

not_none : (n : ℕ) → nat_eq (suc n) 0 ≡ false
not_none n = by_case (eqb_tells (suc n) 0)
  where
    by_case : ((nat_eq (suc n) 0 ≡ true) × (suc n ≡ 0)) ⊎ ((nat_eq (suc n) 0 ≡ false) × (suc n ≢ 0)) → nat_eq (suc n) 0 ≡ false
    by_case (inl e) = absurd (omega (arith, e.1))
    by_case (inr e) = e.0

pub none_is : (ws : List Word) → nat_eq (length ws) 0 ≡ none_left ws
none_is [] = refl
none_is (w ∷ ws) = not_none (length ws)

pub whole_ok : {A X : Type 0} (see : X → A) (o : Outcome A) (x : X) (left : List Word) → Reads see o (Ok x) left → nat_eq (length left) 0 ≡ is_whole o
whole_ok see (Ok p) x left h = none_is left ∙ ap none_left h.1
whole_ok see (Err ws) x left h = absurd h

pub whole_fault : {A X : Type 0} (see : X → A) (o : Outcome A) (left : List Word) → Reads see o (Err Fault) left → false ≡ is_whole o
whole_fault see (Ok p) left h = absurd h
whole_fault see (Err ws) left h = refl
