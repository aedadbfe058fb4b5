-- Bitwise operators of 128 bits are those on rows of bits without end.
use Rattle.std.proofs.Common.{◌≡◌, ℕ, zero, suc, ◌+◌, ◌-◌, ◌*◌, ◌/◌, ◌%◌, ◌^◌, ◌<◌, ◌≤◌, min, sym, ◌∙◌, ap, arith}
use Rattle.std.proofs.Math.Nat.{pow-suc}
use Rattle.std.specs.Prelude.{ℤ, pos, negsuc, bit_and, bit_or, bit_xor, FitsSigned}
use Rattle.std.specs.Int.{w128, int_bit_and, int_bit_or, int_bit_xor, cast_signed}
use Rattle.std.specs.Int.Bits.{and_step, and_comm, or_comm, xor_comm, and_le_l, and_le_r, or_lt, xor_lt, or_add_and, xor_add_and}
use Rattle.std.proofs.lemmas.Int.{to_z-of_z}
use Rattle.ui_const.specs.Bits.{without, whole_and, whole_or, whole_xor}

nothing : (a : ℕ) → a < 1 → a ≡ 0
nothing a h = omega arith

half : (k b : ℕ) → b < 2 ^ suc k → (2 ^ suc k - 1 - b) / 2 ≡ 2 ^ k - 1 - b / 2
half k b h = omega (arith, pow-suc 2 k)

odd : (k b : ℕ) → b < 2 ^ suc k → (2 ^ suc k - 1 - b) % 2 ≡ 1 - b % 2
odd k b h = omega (arith, pow-suc 2 k)

-- the bits of a that b has, and those that b lacks, are all of a's
split : (k a b : ℕ) → a < 2 ^ k → b < 2 ^ k → bit_and a (2 ^ k - 1 - b) + bit_and a b ≡ a
split zero a b h l =
    let e : a ≡ 0 = nothing a h in
    ap (λ n. bit_and n (2 ^ 0 - 1 - b) + bit_and n b) e ∙ sym e
split (suc k) a b h l =
    let ih : bit_and (a / 2) (2 ^ k - 1 - b / 2) + bit_and (a / 2) (b / 2) ≡ a / 2 = split k (a / 2) (b / 2) (omega (arith, pow-suc 2 k)) (omega (arith, pow-suc 2 k)) in
    let first : bit_and a (2 ^ suc k - 1 - b) ≡ bit_and (a / 2) (2 ^ k - 1 - b / 2) * 2 + min (a % 2) (1 - b % 2) =
    and_step a (2 ^ suc k - 1 - b) ∙ ap (λ n. bit_and (a / 2) n * 2 + min (a % 2) ((2 ^ suc k - 1 - b) % 2)) (half k b l) ∙ ap (λ n. bit_and (a / 2) (2 ^ k - 1 - b / 2) * 2 + min (a % 2) n) (odd k b l) in
    omega (arith, first, and_step a b, ih)

-- 2^k - (b + 1) has the bits of b turned round
and_turned : (k a b : ℕ) → a < 2 ^ k → b < 2 ^ k → bit_and a (2 ^ k - suc b) ≡ without a b
and_turned k a b h l =
    let same : 2 ^ k - suc b ≡ 2 ^ k - 1 - b = omega arith in
    ap (bit_and a) same ∙ omega (arith, split k a b h l)

turned_lt : (k a : ℕ) → a < 2 ^ k → 2 ^ k - suc a < 2 ^ k
turned_lt k a h = omega arith

and_both_turned : (k a b : ℕ) → a < 2 ^ k → b < 2 ^ k → bit_and (2 ^ k - suc a) (2 ^ k - suc b) ≡ 2 ^ k - suc (bit_or a b)
and_both_turned k a b h l =
    omega (arith, and_turned k (2 ^ k - suc a) b (turned_lt k a h) l, and_comm (2 ^ k - suc a) b, and_turned k b a l h, or_add_and a b, and_comm a b, and_le_l a b, and_le_r a b, or_lt k a b h l)

or_turned : (k a b : ℕ) → a < 2 ^ k → b < 2 ^ k → bit_or a (2 ^ k - suc b) ≡ 2 ^ k - suc (without b a)
or_turned k a b h l =
    omega (arith, or_add_and a (2 ^ k - suc b), and_turned k a b h l, and_comm a b, and_le_l a b, and_le_r a b)

or_both_turned : (k a b : ℕ) → a < 2 ^ k → b < 2 ^ k → bit_or (2 ^ k - suc a) (2 ^ k - suc b) ≡ 2 ^ k - suc (bit_and a b)
or_both_turned k a b h l =
    omega (arith, or_add_and (2 ^ k - suc a) (2 ^ k - suc b), and_both_turned k a b h l, or_add_and a b, and_le_l a b, and_le_r a b, or_lt k a b h l)

xor_turned : (k a b : ℕ) → a < 2 ^ k → b < 2 ^ k → bit_xor a (2 ^ k - suc b) ≡ 2 ^ k - suc (bit_xor a b)
xor_turned k a b h l =
    omega (arith, xor_add_and a (2 ^ k - suc b), and_turned k a b h l, xor_add_and a b, and_le_l a b, and_le_r a b, xor_lt k a b h l)

xor_both_turned : (k a b : ℕ) → a < 2 ^ k → b < 2 ^ k → bit_xor (2 ^ k - suc a) (2 ^ k - suc b) ≡ bit_xor a b
xor_both_turned k a b h l =
    omega (arith, xor_add_and (2 ^ k - suc a) (2 ^ k - suc b), and_both_turned k a b h l, xor_add_and a b, or_add_and a b, and_le_l a b, and_le_r a b, or_lt k a b h l)

wide : (n : ℕ) → n < 2 ^ 127 → n < 2 ^ 128
wide n h = omega arith

small : (m n : ℕ) → m ≤ n → n < 2 ^ 127 → m < 2 ^ 127
small m n h l = omega arith

without_le : (a b : ℕ) → without a b ≤ a
without_le a b = omega arith

pub and_is : (a b : ℤ) → FitsSigned w128 a → FitsSigned w128 b → int_bit_and w128 a b ≡ whole_and a b
and_is (pos a) (pos b) h l = to_z-of_z w128 (pos (bit_and a b)) (record { sfits = small _ a (and_le_l a b) h.sfits })
and_is (pos a) (negsuc b) h l = ap (cast_signed w128) (and_turned 128 a b (wide a h.sfits) (wide b l.sfits)) ∙ to_z-of_z w128 (pos (without a b)) (record { sfits = small _ a (without_le a b) h.sfits })
and_is (negsuc a) (pos b) h l = ap (cast_signed w128) (and_comm (2 ^ 128 - suc a) b ∙ and_turned 128 b a (wide b l.sfits) (wide a h.sfits)) ∙ to_z-of_z w128 (pos (without b a)) (record { sfits = small _ b (without_le b a) l.sfits })
and_is (negsuc a) (negsuc b) h l = ap (cast_signed w128) (and_both_turned 128 a b (wide a h.sfits) (wide b l.sfits)) ∙ to_z-of_z w128 (negsuc (bit_or a b)) (record { sfits = or_lt 127 a b h.sfits l.sfits })

pub or_is : (a b : ℤ) → FitsSigned w128 a → FitsSigned w128 b → int_bit_or w128 a b ≡ whole_or a b
or_is (pos a) (pos b) h l = to_z-of_z w128 (pos (bit_or a b)) (record { sfits = or_lt 127 a b h.sfits l.sfits })
or_is (pos a) (negsuc b) h l = ap (cast_signed w128) (or_turned 128 a b (wide a h.sfits) (wide b l.sfits)) ∙ to_z-of_z w128 (negsuc (without b a)) (record { sfits = small _ b (without_le b a) l.sfits })
or_is (negsuc a) (pos b) h l = ap (cast_signed w128) (or_comm (2 ^ 128 - suc a) b ∙ or_turned 128 b a (wide b l.sfits) (wide a h.sfits)) ∙ to_z-of_z w128 (negsuc (without a b)) (record { sfits = small _ a (without_le a b) h.sfits })
or_is (negsuc a) (negsuc b) h l = ap (cast_signed w128) (or_both_turned 128 a b (wide a h.sfits) (wide b l.sfits)) ∙ to_z-of_z w128 (negsuc (bit_and a b)) (record { sfits = small _ a (and_le_l a b) h.sfits })

pub xor_is : (a b : ℤ) → FitsSigned w128 a → FitsSigned w128 b → int_bit_xor w128 a b ≡ whole_xor a b
xor_is (pos a) (pos b) h l = to_z-of_z w128 (pos (bit_xor a b)) (record { sfits = xor_lt 127 a b h.sfits l.sfits })
xor_is (pos a) (negsuc b) h l = ap (cast_signed w128) (xor_turned 128 a b (wide a h.sfits) (wide b l.sfits)) ∙ to_z-of_z w128 (negsuc (bit_xor a b)) (record { sfits = xor_lt 127 a b h.sfits l.sfits })
xor_is (negsuc a) (pos b) h l = ap (cast_signed w128) (xor_comm (2 ^ 128 - suc a) b ∙ xor_turned 128 b a (wide b l.sfits) (wide a h.sfits) ∙ ap (λ n. 2 ^ 128 - suc n) (xor_comm b a)) ∙ to_z-of_z w128 (negsuc (bit_xor a b)) (record { sfits = xor_lt 127 a b h.sfits l.sfits })
xor_is (negsuc a) (negsuc b) h l = ap (cast_signed w128) (xor_both_turned 128 a b (wide a h.sfits) (wide b l.sfits)) ∙ to_z-of_z w128 (pos (bit_xor a b)) (record { sfits = xor_lt 127 a b h.sfits l.sfits })
