-- What the bytes begin with. Go specification, "Lexical elements".
use Rattle.std.specs.Prelude.{◌≡◌, ◌≤◌, ℕ, ◌+◌, Bool, true, false, ◌&&◌, ◌||◌, ◌==◌, List, [], ◌∷◌, take, drop, Option, None, Some, option_map, if◌then◌else◌, slice_index}
use Rattle.std.specs.Int.{is_in_range}
use Rattle.std.specs.List.{list_any, position_or_len}
use Rattle.ui_scan.specs.Letters.{begins_name, name_len}
use Rattle.ui_scan.specs.Number.{number}
use Rattle.ui_scan.specs.Literal.{string, rune, raw_string}
use Rattle.ui_scan.specs.Table.{word_kind, operator}
use Rattle.ui_scan.specs.declared.piece.Piece.{Piece}
use Rattle.ui_scan.specs.declared.piece.Piece.TheVariants.{Blank, Token, Fault, Open}
use Rattle.ui_scan.specs.declared.kind.TokenKind.{TokenKind}
use Rattle.ui_scan.specs.declared.kind.TokenKind.TheVariants.{End}
use Rattle.ui_scan.specs.declared.kind.ScanKind.TheVariants.{FloatLiteral, OpenComment}

-- a line feed
abbrev pub is_line_end : ℕ → Bool
is_line_end b = b == 10

-- a comment that begins with `//` goes up to the line's end
unfoldable pub line_comment : List ℕ → Piece
line_comment bytes = Blank (position_or_len is_line_end bytes) false

-- how many bytes there are up to the first `*/` and with it: 42 is '*', and 47 is '/'
abbrev pub comment_len : List ℕ → Option ℕ
comment_len [] = None
comment_len (b ∷ bytes) = if b == 42 && slice_index bytes 0 == 47 then Some 2 else option_map (λ n. 1 + n) (comment_len bytes)

abbrev pub comment_piece : List ℕ → Option ℕ → Piece
comment_piece bytes None = Open OpenComment
comment_piece bytes (Some n) = Blank (2 + n) (list_any is_line_end (take (2 + n) bytes))

-- a comment that begins with `/*` goes up to the first `*/` behind that; with a line feed it counts as one
unfoldable pub general_comment : List ℕ → Piece
general_comment bytes = comment_piece bytes (comment_len (drop 2 bytes))

-- an identifier or a keyword
unfoldable pub word : List ℕ → Piece
word bytes = Token (word_kind (take (name_len bytes) bytes)) (name_len bytes)

-- a blank, a tab or a carriage return
abbrev pub is_blank : ℕ → Bool
is_blank b = b == 32 || (b == 9 || b == 13)

abbrev pub is_decimal : ℕ → Bool
is_decimal b = is_in_range 48 57 b

-- a token that is neither a literal in quotes nor a number
abbrev pub word_or_operator : List ℕ → Piece
word_or_operator bytes = if begins_name bytes then word bytes else operator bytes

-- a token or a faulty one: 34, 39 and 96 are the quotes, and 46 is '.'
unfoldable pub lexeme : List ℕ → Piece
lexeme bytes =
    let b = slice_index bytes 0 in
    if b == 34 then string bytes
    else (if b == 39 then rune bytes
    else (if b == 96 then raw_string bytes
    else (if is_decimal b then number bytes
    else (if b == 46 && is_decimal (slice_index bytes 1) then Fault FloatLiteral 0
    else word_or_operator bytes))))

-- white space, a comment, a token or a fault
unfoldable pub piece : List ℕ → Piece
piece bytes =
    let b = slice_index bytes 0 in
    if is_line_end b then Blank 1 true
    else (if is_blank b then Blank 1 false
    else (if b == 47 && slice_index bytes 1 == 47 then line_comment bytes
    else (if b == 47 && slice_index bytes 1 == 42 then general_comment bytes
    else lexeme bytes)))

-- the kind of no piece
abbrev pub is_end : TokenKind → Bool
is_end End = true
is_end _ = false

-- a piece of at most so many bytes
abbrev pub IsPieceIn : ℕ → Piece → Type 0
IsPieceIn n (Blank len ends_line) = (1 ≤ len) × (len ≤ n)
IsPieceIn n (Token kind len) = (1 ≤ len) × (len ≤ n) × (is_end kind ≡ false)
IsPieceIn n (Fault kind at) = at ≤ n
IsPieceIn n (Open kind) = Unit {0}
