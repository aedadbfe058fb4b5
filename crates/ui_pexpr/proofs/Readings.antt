-- Whether a reading goes farther than another that ended in a fault.
use Rattle.std.proofs.Common.{◌≡◌, ℕ, true, false, List, length, Ok, Err, refl, ap, arith}
use Rattle.std.specs.Prelude.{nat_lt}
use Rattle.std.proofs.lemmas.Bool.{ltb-true, ltb-false}
use Rattle.ui_grammar.specs.Word.{Word}
use Rattle.ui_parse.specs.declared.fault.ParseError.TheVariants.{Fault}
use Rattle.ui_parse.specs.Reader.{Outcome}
use Rattle.ui_parse.specs.View.{Reads}
use Rattle.ui_depth.specs.Laws.{IsFarther}
use Rattle.ui_pexpr.specs.Answers.{goes_farther}

pub farther_ok : {A X : Type 0} (see : X → A) (o : Outcome A) (x : X) (left : List Word) (n : ℕ) → Reads see o (Ok x) left → true ≡ goes_farther o n
farther_ok see (Ok p) x left n h = refl
farther_ok see (Err ws) x left n h = absurd h

pub farther_fault : {A X : Type 0} (see : X → A) (o : Outcome A) (left : List Word) (n : ℕ) → Reads see o (Err Fault) left → nat_lt (length left) n ≡ goes_farther o n
farther_fault see (Ok p) left n h = absurd h
farther_fault see (Err ws) left n h = ap (λ (v : List Word). nat_lt (length v) n) h

pub is_farther : {A : Type 0} (o : Outcome A) (rest : List Word) → goes_farther o (length rest) ≡ true → IsFarther o rest
is_farther (Ok p) rest e = tt
is_farther (Err ws) rest e = ltb-true _ _ e

pub not_farther : {A : Type 0} (o : Outcome A) (rest : List Word) → goes_farther o (length rest) ≡ false → IsFarther o rest → ⊥
not_farther (Ok p) rest e h = absurd cc
not_farther (Err ws) rest e h = absurd (omega (arith, h, ltb-false _ _ e))
