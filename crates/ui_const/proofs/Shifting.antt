-- What shifts of 128 bits say of whole numbers.
use Rattle.std.proofs.Common.{◌≡◌, ℕ, zero, suc, ◌-◌, ◌*◌, ◌/◌, ◌%◌, ◌^◌, ◌<◌, ◌≤◌, min, false, cond, Ok, Err, refl, sym, ◌∙◌, ap, inl, inr, arith}
use Rattle.std.proofs.Math.Nat.{div-eq_of_lt}
use Rattle.std.proofs.Math.Pow.{pow_mono, pow-lt}
use Rattle.std.specs.Prelude.{◌⊎◌, ℤ, pos, negsuc, ◌*ℤ◌, neg_ℤ, FitsSigned}
use Rattle.std.specs.Int.{w128, cast_signed, cast_unsigned, int_shr}
use Rattle.std.specs.Int.Signed.{shr_z, mag, mag_shr}
use Rattle.std.proofs.lemmas.Bool.{cases_lt}
use Rattle.std.proofs.lemmas.Int.{to_z-of_z}
use Rattle.ui_const.specs.Results.{is_constant, limited}
use Rattle.ui_const.specs.declared.fault.ConstFault.TheVariants.{ConstTooBig}
use Rattle.ui_const.proofs.Limits.{not_below}

one_times : (x : ℕ) → x < 2 ^ 127 → 1 * x % 2 ^ 128 ≡ x
one_times x h = omega arith

pub power_is : (n : ℕ) → n < 127 → cast_signed w128 (1 * 2 ^ n % 2 ^ 128) ≡ pos (2 ^ n)
power_is n h = ap (cast_signed w128) (one_times (2 ^ n) (pow-lt h)) ∙ to_z-of_z w128 (pos (2 ^ n)) (record { sfits = pow-lt h })

negated : (x : ℕ) → 2 ^ 127 < x → is_constant (neg_ℤ (pos x)) ≡ false
negated zero h = absurd (omega arith)
negated (suc y) h = not_below y (2 ^ 127) (λ l. omega arith)

once : (m : ℕ) → 2 ^ 127 < m → 2 ^ 127 < 1 * m
once m h = omega arith

often : (k m : ℕ) → 2 ^ 127 ≤ m → 2 ^ 127 < suc (suc k) * m
often k m h = omega arith

some_times : (k m : ℕ) → 2 ^ 127 ≤ m → suc k * m < 2 ^ 127 → ⊥
some_times k m h l = omega arith

too_far : (a : ℤ) (n : ℕ) → 127 ≤ n → (cast_unsigned w128 a ≡ 0 → ⊥) → ((cast_unsigned w128 a ≡ 2 ^ 128 - 1) × (n ≡ 127 → ⊥)) ⊎ (cast_unsigned w128 a ≡ 2 ^ 128 - 1 → ⊥) → is_constant (a *ℤ pos (2 ^ n)) ≡ false
too_far (pos zero) n h z o = absurd (z refl)
too_far (pos (suc k)) n h z o = not_below (suc k * 2 ^ n) (2 ^ 127) (some_times k (2 ^ n) (pow_mono h))
too_far (negsuc zero) n h z (inl o) =
    let farther : 127 < n = omega (arith, o.1) in
    negated (1 * 2 ^ n) (once (2 ^ n) (pow-lt farther))
too_far (negsuc zero) n h z (inr o) = absurd (o refl)
too_far (negsuc (suc k)) n h z o = negated (suc (suc k) * 2 ^ n) (often k (2 ^ n) (pow_mono h))

pub left_too_far : (a : ℤ) (n : ℕ) → 127 ≤ n → (cast_unsigned w128 a ≡ 0 → ⊥) → ((cast_unsigned w128 a ≡ 2 ^ 128 - 1) × (n ≡ 127 → ⊥)) ⊎ (cast_unsigned w128 a ≡ 2 ^ 128 - 1 → ⊥) → Err ConstTooBig ≡ limited (a *ℤ pos (2 ^ n))
left_too_far a n h z o = sym (ap (λ b. cond b (Ok (a *ℤ pos (2 ^ n))) (Err ConstTooBig)) (too_far a n h z o))

quotient_stays : (x n : ℕ) → x < 2 ^ 127 → (n < 127) ⊎ (127 ≤ n) → x / 2 ^ min n 127 ≡ x / 2 ^ n
quotient_stays x n h (inl l) =
    let e : min n 127 ≡ n = omega arith in
    ap (λ k. x / 2 ^ k) e
quotient_stays x n h (inr l) =
    let e : min n 127 ≡ 127 = omega arith in
    let longer : 2 ^ 127 ≤ 2 ^ n = pow_mono l in
    let below : x < 2 ^ n = omega arith in
    ap (λ k. x / 2 ^ k) e ∙ div-eq_of_lt h ∙ sym (div-eq_of_lt below)

shr_stays : (a : ℤ) (n : ℕ) → FitsSigned w128 a → shr_z a (2 ^ min n 127) ≡ shr_z a (2 ^ n)
shr_stays (pos x) n h = ap pos (quotient_stays x n h.sfits (cases_lt n 127))
shr_stays (negsuc x) n h = ap negsuc (quotient_stays x n h.sfits (cases_lt n 127))

below_mag : (a b : ℤ) → mag a ≤ mag b → FitsSigned w128 b → FitsSigned w128 a
below_mag a b h f = let l : mag b < 2 ^ 127 = f.sfits in record { sfits = omega arith }

pub right_is : (a : ℤ) (m n : ℕ) → FitsSigned w128 a → m ≡ min n 127 → cast_signed w128 (cast_unsigned w128 (shr_z (cast_signed w128 (cast_unsigned w128 a)) (2 ^ m))) ≡ int_shr a n
right_is a m n f e =
    ap (λ z. cast_signed w128 (cast_unsigned w128 (shr_z z (2 ^ m)))) (to_z-of_z w128 a f)
    ∙ to_z-of_z w128 (shr_z a (2 ^ m)) (below_mag (shr_z a (2 ^ m)) a (mag_shr a (2 ^ m)) f)
    ∙ ap (λ k. shr_z a (2 ^ k)) e ∙ shr_stays a n f
