-- What of the bytes may hold tokens. Go specification, "Source code representation".
use Rattle.std.specs.Prelude.{ℕ, ◌+◌, Bool, ◌||◌, ◌==◌, List, [], ◌∷◌, take, drop, length, Option, None, Some, if◌then◌else◌, nat_lt, nat_eq}
use Rattle.std.specs.List.{starts_with}
use Rattle.std.specs.Str.Lossy.{utf8_valid_len}
use Rattle.ui_scan.specs.declared.kind.ScanKind.{ScanKind}
use Rattle.ui_scan.specs.declared.kind.ScanKind.TheVariants.{BadUtf8, BadByte}

-- the bytes of U+FEFF
abbrev pub mark : List ℕ
mark = 0xEF ∷ 0xBB ∷ 0xBF ∷ []

abbrev pub begins_mark : List ℕ → Bool
begins_mark bytes = starts_with nat_eq bytes mark

-- how many bytes come before the first zero byte or U+FEFF
abbrev pub clean_len : List ℕ → ℕ
clean_len [] = 0
clean_len (b ∷ bytes) = if b == 0 || begins_mark (b ∷ bytes) then 0 else 1 + clean_len bytes

-- the length of a U+FEFF at the start
unfoldable pub mark_len : List ℕ → ℕ
mark_len bytes = if begins_mark bytes then 3 else 0

-- what follows such a mark, and how much of it is UTF-8
abbrev pub after_mark : List ℕ → List ℕ
after_mark bytes = drop (mark_len bytes) bytes

abbrev pub valid_len : List ℕ → ℕ
valid_len bytes = utf8_valid_len (after_mark bytes)

-- how much of that is of characters that a source may have
abbrev pub clean_part : List ℕ → ℕ
clean_part bytes = clean_len (take (valid_len bytes) (after_mark bytes))

-- where the first byte stands that isn't of such a character, or else the bytes end
unfoldable pub text_len : List ℕ → ℕ
text_len bytes = mark_len bytes + clean_part bytes

-- the fault there, if the bytes go on: a character that may not stand there, or bytes that are none
unfoldable pub text_fault : List ℕ → Option ScanKind
text_fault bytes =
    if nat_lt (clean_part bytes) (valid_len bytes) then Some BadByte
    else (if nat_lt (valid_len bytes) (length (after_mark bytes)) then Some BadUtf8 else None)
