-- The longest token that bytes begin with. Go specification, "Tokens".
use Rattle.std.specs.Prelude.{◌≡◌, ◌<◌, ◌≤◌, ◌↔◌, ℕ, List, ◌++◌, length, take}
use Rattle.ui_scan.specs.Language.{IsToken, IsFaulty}
use Rattle.ui_scan.specs.Piece.{lexeme}
use Rattle.ui_scan.specs.declared.kind.TokenKind.{TokenKind}
use Rattle.ui_scan.specs.declared.piece.Piece.TheVariants as piece

-- No token that the bytes begin with has more bytes, and no faulty number. (No token begins where a faulty literal in
-- quotes does.)
pub record IsLongest (bytes : List ℕ) (len : ℕ) : Type 0 where
  pub of_tokens : (kind : TokenKind) (text rest : List ℕ) → IsToken kind text → bytes ≡ text ++ rest → length text ≤ len
  pub of_faulty : (text rest : List ℕ) → IsFaulty text → bytes ≡ text ++ rest → length text ≤ len

-- the bytes begin with a token of this kind and length, which is the longest
pub record IsLongestToken (bytes : List ℕ) (kind : TokenKind) (len : ℕ) : Type 0 where
  pub within : len ≤ length bytes
  pub token : IsToken kind (take len bytes)
  pub longest : IsLongest bytes len

-- what is read is that token, and it is read wherever there is one
abbrev pub ReadsTheLongest : Type 0
ReadsTheLongest = (bytes : List ℕ) (kind : TokenKind) (len : ℕ) → 0 < length bytes → (lexeme bytes ≡ piece.Token kind len) ↔ IsLongestToken bytes kind len
