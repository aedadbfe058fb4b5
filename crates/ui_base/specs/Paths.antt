-- Package paths. This project's own rule; Go leaves the form of a path to the implementation ("Import declarations").
use Rattle.std.specs.Prelude.{ℕ, Bool, not, ◌&&◌, ◌||◌, ◌==◌, nat_le, List, length, codes, bytes_eq}
use Rattle.std.specs.List.{list_all, slice_split}

-- an ASCII letter or digit, or one of `_`, `-` and `.`
abbrev pub is_path_byte : ℕ → Bool
is_path_byte b = (nat_le 48 b && nat_le b 57) || (nat_le 65 b && nat_le b 90) || (nat_le 97 b && nat_le b 122) || b == 95 || b == 45 || b == 46

abbrev pub has_path_bytes : List ℕ → Bool
has_path_bytes segment = list_all is_path_byte segment

-- the part between two slashes
abbrev pub is_segment : List ℕ → Bool
is_segment segment = not (length segment == 0) && has_path_bytes segment && not (bytes_eq segment (codes ".")) && not (bytes_eq segment (codes ".."))

-- the names that stand for no package of the program
abbrev pub is_reserved : List ℕ → Bool
is_reserved path = bytes_eq path (codes "builtin") || bytes_eq path (codes "unsafe") || bytes_eq path (codes "C")

-- segments joined by `/`
abbrev pub has_segments : List ℕ → Bool
has_segments path = list_all is_segment (slice_split (λ b. b == 47) path)

-- such a text of at most 255 bytes, which is none of the reserved names
unfoldable pub is_path : List ℕ → Bool
is_path path = nat_le (length path) 255 && not (is_reserved path) && has_segments path
