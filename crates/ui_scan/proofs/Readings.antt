-- What is read where a token stands at the front.
use Rattle.std.proofs.Common.{◌≡◌, ℕ, ◌<◌, ◌≤◌, List, ◌++◌, length, take}
use Rattle.ui_scan.specs.Language.{IsToken, IsFaulty}
use Rattle.ui_scan.specs.declared.kind.TokenKind.{TokenKind}
use Rattle.ui_scan.specs.declared.piece.Piece.{Piece}
use Rattle.ui_scan.specs.declared.piece.Piece.TheVariants as a

-- the bytes begin with a faulty number that is longer
pub record Outdone (bytes : List ℕ) (n : ℕ) : Type 0 where
  pub text : List ℕ
  pub rest : List ℕ
  pub faulty : IsFaulty text
  pub spelling : bytes ≡ text ++ rest
  pub longer : n < length text

-- where a token of this kind and length stands, the one that is read is no shorter; of the same length it is the same
abbrev pub Reads : List ℕ → TokenKind → ℕ → Piece → Type 0
Reads bytes kind n (a.Blank len ends_line) = ⊥
Reads bytes kind n (a.Token k len) = (n ≤ len) × (n ≡ len → kind ≡ k)
Reads bytes kind n (a.Fault k at) = Outdone bytes n
Reads bytes kind n (a.Open k) = Outdone bytes n

-- a token that is read is one
abbrev pub Sound : List ℕ → Piece → Type 0
Sound bytes (a.Blank len ends_line) = Unit {0}
Sound bytes (a.Token k len) = IsToken k (take len bytes)
Sound bytes (a.Fault k at) = Unit {0}
Sound bytes (a.Open k) = Unit {0}

-- a token that is read has so many bytes or more
abbrev pub HasAtLeast : ℕ → Piece → Type 0
HasAtLeast n (a.Blank len ends_line) = Unit {0}
HasAtLeast n (a.Token k len) = n ≤ len
HasAtLeast n (a.Fault k at) = Unit {0}
HasAtLeast n (a.Open k) = Unit {0}
