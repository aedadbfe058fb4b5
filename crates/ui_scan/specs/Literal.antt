-- What stands in quotes. Go specification, "Rune literals" and "String literals".
use Rattle.std.specs.Prelude.{◌≤◌, ℕ, suc, zero, ◌+◌, ◌-◌, ◌==◌, List, [], ◌∷◌, take, drop, length, Option, None, Some, option_and_then, option_map, is_some, if◌then◌else◌, slice_index, nat_lt}
use Rattle.std.specs.List.{position_or_len}
use Rattle.std.specs.Char.{len_utf8}
use Rattle.ui_scan.specs.Letters.{front_char}
use Rattle.ui_scan.specs.Escape.{escape, code_of}
use Rattle.ui_scan.specs.declared.literal.Body.{Body}
use Rattle.ui_scan.specs.declared.literal.Body.TheVariants.{Closed, Newline, BadEscape, Open}
use Rattle.ui_scan.specs.declared.piece.Piece.{Piece}
use Rattle.ui_scan.specs.declared.piece.Piece.TheVariants as piece
use Rattle.ui_scan.specs.declared.kind.TokenKind.TheVariants as kind
use Rattle.ui_scan.specs.declared.kind.ScanKind.TheVariants as fault

-- the same body with so many bytes before it
abbrev pub behind : ℕ → Body → Body
behind n (Closed len) = Closed (n + len)
behind n Newline = Newline
behind n (BadEscape at) = BadEscape (n + at)
behind n Open = Open

-- how many bytes the escape or the single byte at the front has, and none where a backslash begins no escape
unfoldable pub item_len : ℕ → List ℕ → Option ℕ
item_len quote bytes = if slice_index bytes 0 == 92 then option_map (λ e. e.len) (escape quote bytes) else Some 1

-- what follows an item, if it is one
abbrev pub after_item : Option ℕ → (ℕ → Body) → Body
after_item None rest = BadEscape 0
after_item (Some n) rest = behind 1 (rest (n - 1))

-- Where the quote stands that closes a literal, counted from behind its first one; a line's end or a bad escape may come
-- before it. The first bytes, as many as said, are passed over and counted.
abbrev pub body_from : ℕ → ℕ → List ℕ → Body
body_from quote passed [] = Open
body_from quote (suc passed) (b ∷ bytes) = behind 1 (body_from quote passed bytes)
body_from quote zero (b ∷ bytes) =
    if b == quote then Closed 1
    else (if b == 10 then Newline
    else after_item (item_len quote (b ∷ bytes)) (λ n. body_from quote n bytes))

unfoldable pub body : ℕ → List ℕ → Body
body quote bytes = body_from quote 0 bytes

-- a body of at most so many bytes
abbrev pub IsBodyIn : ℕ → Body → Type 0
IsBodyIn n (Closed len) = (1 ≤ len) × (len ≤ n)
IsBodyIn n Newline = Unit {0}
IsBodyIn n (BadEscape at) = at ≤ n
IsBodyIn n Open = Unit {0}

-- the code of the one character or escape that these bytes are
unfoldable pub rune_code : List ℕ → Option ℕ
rune_code bytes =
    if slice_index bytes 0 == 92 then
    option_and_then (λ e. if e.len == length bytes then Some (code_of e.stands_for) else None) (escape 39 bytes)
    else option_and_then (λ c. if len_utf8 c == length bytes then Some c else None) (front_char bytes)

abbrev pub string_piece : Body → Piece
string_piece (Closed len) = piece.Token kind.Str (1 + len)
string_piece Newline = piece.Fault fault.NewlineInString 0
string_piece (BadEscape at) = piece.Fault fault.BadEscape (1 + at)
string_piece Open = piece.Open fault.OpenString

-- the string in double quotes (34) that the bytes begin with
unfoldable pub string : List ℕ → Piece
string bytes = string_piece (body 34 (drop 1 bytes))

abbrev pub rune_piece : List ℕ → Body → Piece
rune_piece bytes (Closed len) =
    if is_some (rune_code (take (len - 1) (drop 1 bytes))) then piece.Token kind.Rune (1 + len) else piece.Fault fault.BadRune 0
rune_piece bytes Newline = piece.Fault fault.BadRune 0
rune_piece bytes (BadEscape at) = piece.Fault fault.BadEscape (1 + at)
rune_piece bytes Open = piece.Open fault.BadRune

-- the character in single quotes (39) that the bytes begin with
unfoldable pub rune : List ℕ → Piece
rune bytes = rune_piece bytes (body 39 (drop 1 bytes))

-- where a raw string's closing quote (96) stands
abbrev pub raw_end : List ℕ → ℕ
raw_end bytes = 1 + position_or_len (λ b. b == 96) (drop 1 bytes)

-- the raw string that the bytes begin with
unfoldable pub raw_string : List ℕ → Piece
raw_string bytes = if nat_lt (raw_end bytes) (length bytes) then piece.Token kind.Str (raw_end bytes + 1) else piece.Open fault.OpenString
