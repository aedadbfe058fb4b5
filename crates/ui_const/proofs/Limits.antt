-- What fits in 128 bits is a constant, and nothing else is.
use Rattle.std.proofs.Common.{◌≡◌, ℕ, ◌^◌, ◌<◌, true, false, cond, Option, Some, None, Result, Ok, Err, sym, ◌∙◌, ap, arith}
use Rattle.std.specs.Prelude.{ℤ, pos, negsuc, FitsSigned, MatchOption, nat_lt}
use Rattle.std.specs.Int.{w128}
use Rattle.std.specs.Option.{SomeIff}
use Rattle.std.proofs.lemmas.Bool.Decides.{nat_tests}
use Rattle.ui_base.specs.declared.value.Value.{Value}
use Rattle.ui_base.specs.declared.value.Value.TheVariants.{Whole}
use Rattle.ui_const.specs.Results.{is_constant, limited_whole}
use Rattle.ui_const.specs.declared.fault.ConstFault.{ConstFault}
use Rattle.ui_const.specs.declared.fault.ConstFault.TheVariants.{ConstTooBig}

pub below : (n m : ℕ) → n < m → nat_lt n m ≡ true
below n m h = grind (arith, nat_tests)

pub not_below : (n m : ℕ) → (n < m → ⊥) → nat_lt n m ≡ false
not_below n m h = grind (arith, nat_tests)

pub is_constant-fits : (z : ℤ) → FitsSigned w128 z → is_constant z ≡ true
is_constant-fits (pos n) h = below n (2 ^ 127) h.sfits
is_constant-fits (negsuc n) h = below n (2 ^ 127) h.sfits

pub is_constant-too_big : (z : ℤ) → (FitsSigned w128 z → ⊥) → is_constant z ≡ false
is_constant-too_big (pos n) h = not_below n (2 ^ 127) (λ l. h (record { sfits = l }))
is_constant-too_big (negsuc n) h = not_below n (2 ^ 127) (λ l. h (record { sfits = l }))

pub limited_is : (o : Option ℤ) (z : ℤ) (r : Result Value ConstFault) → SomeIff o (FitsSigned w128 z) z → MatchOption o (r ≡ Err ConstTooBig) (λ x. r ≡ Ok (Whole x)) → r ≡ limited_whole z
limited_is None z r n h = h ∙ sym (ap (λ b. cond b (Ok (Whole z)) (Err ConstTooBig)) (is_constant-too_big z n))
limited_is (Some x) z r s h = h ∙ ap (λ y. Ok (Whole y)) s.1 ∙ sym (ap (λ b. cond b (Ok (Whole z)) (Err ConstTooBig)) (is_constant-fits z s.0))

pub ruleset constants = (is_constant-fits)
