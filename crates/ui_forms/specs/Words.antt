-- The words of a source. Go specification, "Letters and digits", "Identifiers" and "Import declarations"; a part of
-- its language.
use Rattle.std.specs.Prelude.{ℕ, Bool, not, ◌&&◌, ◌||◌, ◌==◌, nat_le, List, codes, bytes_eq}
use Rattle.std.specs.List.{list_all, after_last}
use Rattle.ui_base.specs.Names.{begins_with, is_keyword}

abbrev pub is_slash : ℕ → Bool
is_slash b = b == 47

abbrev pub is_digit : ℕ → Bool
is_digit b = nat_le 48 b && nat_le b 57

abbrev pub is_capital : ℕ → Bool
is_capital b = nat_le 65 b && nat_le b 90

-- an ASCII letter; `_` is one
abbrev pub is_letter : ℕ → Bool
is_letter b = is_capital b || (nat_le 97 b && nat_le b 122) || b == 95

abbrev pub is_letter_or_digit : ℕ → Bool
is_letter_or_digit b = is_letter b || is_digit b

-- letters and digits, the first of them a letter
abbrev pub is_ascii_name : List ℕ → Bool
is_ascii_name bytes = begins_with is_letter bytes && list_all is_letter_or_digit bytes

-- the name of a constant begins with a capital
abbrev pub is_constant_name : List ℕ → Bool
is_constant_name bytes = begins_with is_capital bytes && is_ascii_name bytes

-- what stands behind the last slash, or everything
abbrev pub last_segment : List ℕ → List ℕ
last_segment path = after_last is_slash path

-- the name of a package is the last segment of its path, and neither `_` nor a keyword
abbrev pub is_package_name : List ℕ → List ℕ → Bool
is_package_name path name = bytes_eq name (last_segment path) && is_ascii_name name && not (bytes_eq name (codes "_")) && not (is_keyword name)
