-- Numbers and truth values as bytes, each in its shortest spelling. This project's own, after the
-- varints of internal/pkgbits of the Go tree: groups of seven bits, the lowest first.
use Rattle.std.specs.Prelude.{◌≡◌, ℕ, zero, suc, ◌+◌, ◌*◌, ◌/◌, ◌%◌, ◌^◌, ◌<◌, ◌≤◌, List, [], ◌∷◌, ◌++◌, nat_lt, if◌then◌else◌, ℤ, pos, negsuc, Bool}

-- A byte below 128 is the last, and stands for itself. One from 128 on has the low seven bits, and the
-- bytes after it stand for the rest, which isn't 0: so each number has one form.
abbrev pub IsUint : List ℕ → ℕ → Type 0
IsUint [] n = ⊥
IsUint (b ∷ []) n = (b < 128) × (n ≡ b)
IsUint (b ∷ c ∷ bs) n = (128 ≤ b) × (b < 256) × (high : ℕ) × (0 < high) × (n + 128 ≡ b + 128 * high) × IsUint (c ∷ bs) high

-- the bytes are a front of a spelling of 64 bits, but not the whole of it
abbrev pub IsCutUint : List ℕ → Type 0
IsCutUint bytes = (b : ℕ) × (more : List ℕ) × (n : ℕ) × (n < 2 ^ 64) × IsUint (bytes ++ b ∷ more) n

-- the one form, of at most so many groups
unfoldable pub groups : ℕ → ℕ → List ℕ
groups zero n = []
groups (suc more) n = if nat_lt n 128 then n ∷ [] else (128 + n % 128) ∷ groups more (n / 128)

-- of a number below 2 ^ 64
unfoldable pub uint : ℕ → List ℕ
uint n = groups 10 n

-- a front of the spelling was appended, maybe nothing of it or all
pub record AppendsFront (spelling old new : List ℕ) : Type 0 where
  pub front : List ℕ
  pub rest : List ℕ
  pub whole : spelling ≡ front ++ rest
  pub appended : new ≡ old ++ front

-- a signed number as one without a sign
abbrev pub zigzag : ℤ → ℕ
zigzag (pos n) = 2 * n
zigzag (negsuc n) = 2 * n + 1

abbrev pub int : ℤ → List ℕ
int z = uint (zigzag z)

abbrev pub truth : Bool → List ℕ
truth b = (if b then 1 else 0) ∷ []
