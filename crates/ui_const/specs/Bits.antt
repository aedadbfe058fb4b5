-- The bits of whole numbers, as rows that have no end: -(n + 1) has the bits of n turned round. Go specification,
-- "Arithmetic operators", whose bitwise operators on constants have no width.
use Rattle.std.specs.Prelude.{ℕ, ◌-◌, ℤ, pos, negsuc, bit_and, bit_or, bit_xor}

-- the bits of a that b lacks
abbrev pub without : ℕ → ℕ → ℕ
without a b = a - bit_and a b

-- each bit turned round
abbrev pub whole_not : ℤ → ℤ
whole_not (pos a) = negsuc a
whole_not (negsuc a) = pos a

-- `&`: a bit is set where both have it
abbrev pub whole_and : ℤ → ℤ → ℤ
whole_and (pos a) (pos b) = pos (bit_and a b)
whole_and (pos a) (negsuc b) = pos (without a b)
whole_and (negsuc a) (pos b) = pos (without b a)
whole_and (negsuc a) (negsuc b) = negsuc (bit_or a b)

-- `|`: a bit is set where one of them has it
abbrev pub whole_or : ℤ → ℤ → ℤ
whole_or (pos a) (pos b) = pos (bit_or a b)
whole_or (pos a) (negsuc b) = negsuc (without b a)
whole_or (negsuc a) (pos b) = negsuc (without a b)
whole_or (negsuc a) (negsuc b) = negsuc (bit_and a b)

-- `^`: a bit is set where just one of them has it
abbrev pub whole_xor : ℤ → ℤ → ℤ
whole_xor (pos a) (pos b) = pos (bit_xor a b)
whole_xor (pos a) (negsuc b) = negsuc (bit_xor a b)
whole_xor (negsuc a) (pos b) = negsuc (bit_xor a b)
whole_xor (negsuc a) (negsuc b) = pos (bit_xor a b)

-- `&^`: a bit is set where a has it and b lacks it
abbrev pub whole_and_not : ℤ → ℤ → ℤ
whole_and_not a b = whole_and a (whole_not b)
