-- What a cursor says of the words that are left.
use Rattle.std.specs.Prelude.{◌≡◌, ◌≤◌, ℕ, Bool, true, false, List, length, Option, Some, None}
use Rattle.ui_scan.specs.declared.kind.Token.{Token}
use Rattle.ui_scan.specs.declared.kind.TokenKind.{TokenKind}
use Rattle.ui_scan.specs.declared.kind.TokenKind.TheVariants.{Ident, Int, Rune, Str}
use Rattle.ui_scan.specs.Value.{IsIfLiteral}
use Rattle.ui_tree.specs.declared.part.LiteralKind.{LiteralKind}
use Rattle.ui_tree.specs.declared.part.LiteralKind.TheVariants.{Whole, Rune as ARune, Text}
use Rattle.ui_grammar.specs.Word.{Word, ident, lit, mark}
use Rattle.ui_parse.specs.declared.literal.Literal.{Literal}
use Rattle.ui_parse.specs.Reader.{tail}

-- the words behind the first, where that was taken
abbrev pub after : {B : Type 0} → Option B → List Word → List Word
after None ws = ws
after (Some b) ws = tail ws

abbrev pub a_literal : Word → Option Literal
a_literal (ident p) = None
a_literal (lit k s v) = Some (record { kind = k; spot = s; value = v })
a_literal (mark k s) = None

abbrev pub kind_of_literal : LiteralKind → TokenKind
kind_of_literal Whole = Int
kind_of_literal ARune = Rune
kind_of_literal Text = Str

-- the kind of the token that a word is
abbrev pub kind_of : Word → Option TokenKind
kind_of (ident p) = Some Ident
kind_of (lit k s v) = Some (kind_of_literal k)
kind_of (mark k s) = Some k

-- a keyword or an operator
abbrev pub is_mark : TokenKind → Bool
is_mark Ident = false
is_mark Int = false
is_mark Rune = false
is_mark Str = false
is_mark _ = true

abbrev pub is_name : TokenKind → Bool
is_name Ident = true
is_name _ = false

abbrev pub literal_kind : TokenKind → Option LiteralKind
literal_kind Int = Some Whole
literal_kind Rune = Some ARune
literal_kind Str = Some Text
literal_kind _ = None

-- the text of a token of these bytes can be read, where its word has one
pub record IsReadable (bytes : List ℕ) (t : Token) : Type 0 where
  pub ordered : is_name t.kind ≡ true → t.start ≤ t.end
  pub within : is_name t.kind ≡ true → t.end ≤ length bytes
  pub literal : IsIfLiteral bytes t
