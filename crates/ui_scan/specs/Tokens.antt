-- The tokens of a file, as a relation between the whole file and the list. Go specification, "Source code
-- representation", "Lexical elements" and "Semicolons".
use Rattle.std.specs.Prelude.{◌≡◌, ◌≢◌, ◌≤◌, ◌<◌, ◌⊎◌, ℕ, ◌-◌, Bool, true, false, ◌||◌, ◌&&◌, ◌==◌, List, [], ◌∷◌, ◌++◌, take, drop, length, Option, None, Some, if◌then◌else◌, slice_index}
use Rattle.std.specs.List.{list_any, concat}
use Rattle.std.specs.Str.{IsUtf8}
use Rattle.ui_scan.specs.Longest.{IsLongestToken}
use Rattle.ui_scan.specs.Piece.{is_line_end, is_blank, is_end, comment_len}
use Rattle.ui_scan.specs.Source.{begins_mark, mark_len, after_mark}
use Rattle.ui_scan.specs.Scan.{place_after, origin, semicolons, due_after}
use Rattle.ui_scan.specs.declared.place.Place.{Place}
use Rattle.ui_scan.specs.declared.kind.Token.{Token}
use Rattle.ui_scan.specs.declared.kind.TokenKind.TheVariants.{End}

-- behind a U+FEFF at the very start the bytes are UTF-8, with no zero byte and no further U+FEFF
pub record IsSource (bytes : List ℕ) : Type 0 where
  pub utf8 : IsUtf8 (after_mark bytes)
  pub no_zero : (i : ℕ) → i < length (after_mark bytes) → slice_index (after_mark bytes) i ≢ 0
  pub no_mark : (i : ℕ) → i < length (after_mark bytes) → begins_mark (drop i (after_mark bytes)) ≡ false

-- a blank, a tab, a carriage return or a line feed
pub record IsWhite (text : List ℕ) : Type 0 where
  pub byte : ℕ
  pub spelling : text ≡ byte ∷ []
  pub white : (is_line_end byte || is_blank byte) ≡ true

-- a line ends here, or the file does
abbrev pub at_line_end : List ℕ → Bool
at_line_end [] = true
at_line_end (b ∷ bytes) = is_line_end b

-- `//` (47 is '/') and what follows, up to the line's end
pub record IsLineComment (text after : List ℕ) : Type 0 where
  pub body : List ℕ
  pub spelling : text ≡ 47 ∷ 47 ∷ body
  pub one_line : list_any is_line_end body ≡ false
  pub to_its_end : at_line_end after ≡ true

-- `/*` (42 is '*') and what follows, up to the first `*/` and with it
pub record IsGeneralComment (text : List ℕ) : Type 0 where
  pub body : List ℕ
  pub spelling : text ≡ 47 ∷ 42 ∷ body
  pub closed : comment_len body ≡ Some (length body)

-- one white character or one comment, with what follows it
abbrev pub IsBlank : List ℕ → List ℕ → Type 0
IsBlank text after = IsWhite text ⊎ (IsLineComment text after ⊎ IsGeneralComment text)

-- each of these, with what follows it
abbrev pub AreBlanks : List (List ℕ) → List ℕ → Type 0
AreBlanks [] after = Unit {0}
AreBlanks (text ∷ texts) after = IsBlank text (concat texts ++ after) × AreBlanks texts after

-- what stands before some rest of the bytes is white space and comments
pub record IsGap (bytes after : List ℕ) : Type 0 where
  pub blanks : List (List ℕ)
  pub spelling : bytes ≡ concat blanks ++ after
  pub each : AreBlanks blanks after

-- white space or a comment begins
abbrev pub begins_blank : List ℕ → Bool
begins_blank bytes =
    let b = slice_index bytes 0 in
    let next = slice_index bytes 1 in
    is_line_end b || (is_blank b || ((b == 47 && next == 47) || (b == 47 && next == 42)))

-- the token is the longest that the bytes from its start begin with, and neither white space nor a comment begins there
pub record IsLexeme (bytes : List ℕ) (t : Token) : Type 0 where
  pub no_blank : begins_blank (drop t.start bytes) ≡ false
  pub some_bytes : t.start < t.end
  pub in_bytes : t.end ≤ length bytes
  pub longest : IsLongestToken (drop t.start bytes) t.kind (t.end - t.start)

-- the place of an offset
abbrev pub place_at : List ℕ → ℕ → Place
place_at bytes i = place_after origin (take i bytes)

-- white space and comments alone stand between an offset and the token, which has the line and column of its start
pub record Stands (bytes : List ℕ) (at : ℕ) (t : Token) : Type 0 where
  pub ascends : at ≤ t.start
  pub within : t.start ≤ length bytes
  pub gap : IsGap (drop at bytes) (drop t.start bytes)
  pub line : t.line ≡ (place_at bytes t.start).line
  pub col : t.col ≡ (place_at bytes t.start).col

-- the end of the bytes
pub record IsLast (bytes : List ℕ) (t : Token) : Type 0 where
  pub kind : t.kind ≡ End
  pub start : t.start ≡ length bytes
  pub end : t.end ≡ length bytes

-- the tokens whose span isn't empty, from an offset on, and the end of the bytes behind them
abbrev pub AreWords : List ℕ → ℕ → List Token → Type 0
AreWords bytes at [] = ⊥
AreWords bytes at (t ∷ []) = Stands bytes at t × IsLast bytes t
AreWords bytes at (t ∷ u ∷ ts) = Stands bytes at t × IsLexeme bytes t × AreWords bytes t.end (u ∷ ts)

-- a line ends between an offset and a token: with a line feed in white space or in a comment, or with the file
abbrev pub ends_line : List ℕ → ℕ → Token → Bool
ends_line bytes at t = is_end t.kind || list_any is_line_end (take (t.start - at) (drop at bytes))

-- the semicolon that is due before a token, if a line ends there
abbrev pub semicolon_before : Bool → Option Place → List Token
semicolon_before line_ended due = if line_ended then semicolons due else []

-- The same tokens with the semicolons that line ends bring about. One is due behind a line's last token, at its end, if
-- that ends a statement.
abbrev pub with_semicolons : List ℕ → Option Place → ℕ → List Token → List Token
with_semicolons bytes due at [] = []
with_semicolons bytes due at (t ∷ ts) =
    semicolon_before (ends_line bytes at t) due ++ (t ∷ with_semicolons bytes (due_after t.kind (place_at bytes t.end)) t.end ts)

-- the tokens of what follows an offset, behind a token after which a semicolon may be due
pub record AreTokensFrom (bytes : List ℕ) (due : Option Place) (at : ℕ) (ts : List Token) : Type 0 where
  pub words : List Token
  pub stand : AreWords bytes at words
  pub tokens : ts ≡ with_semicolons bytes due at words

-- the tokens of a file
pub record Tokens (bytes : List ℕ) (ts : List Token) : Type 0 where
  pub source : IsSource bytes
  pub tokens : AreTokensFrom bytes None (mark_len bytes) ts
