-- The tests of a container, in their order, over the whole bytes; and the parts that its tables give.
-- This project's own; the law `one_container` says that the tests pass for the containers alone.
use Rattle.std.specs.Prelude.{ℕ, zero, suc, ◌+◌, ◌-◌, ◌*◌, List, [], ◌∷◌, length, take, drop, slice_range, Bool, true, ◌&&◌, not, nat_lt, nat_le, ◌==◌, if◌then◌else◌, Option, Some, None}
use Rattle.std.specs.Str.{bytes_eq}
use Rattle.byteorder.specs.Endian.{little_number}
use Rattle.ui_frame.specs.Container.{Parts, fingerprint_after, version, flags}
use Rattle.ui_frame.specs.declared.frame.FrameFault.{FrameFault}
use Rattle.ui_frame.specs.declared.frame.FrameFault.TheVariants as fault

-- the four-byte number at a place, and so many of them from a place on
unfoldable pub word_at : ℕ → List ℕ → ℕ
word_at place bytes = little_number 4 (drop place bytes)

abbrev pub words_at : ℕ → ℕ → List ℕ → List ℕ
words_at zero place bytes = []
words_at (suc n) place bytes = word_at place bytes ∷ words_at n (place + 4) bytes

-- no number is less than the one before it, nor the first less than low
abbrev pub ascends : ℕ → List ℕ → Bool
ascends low [] = true
ascends low (n ∷ ns) = nat_le low n && ascends n ns

-- the last number, or low where there is none
abbrev pub last_from : ℕ → List ℕ → ℕ
last_from low [] = low
last_from low (n ∷ ns) = last_from n ns

-- the ten running counts, and the last of them: the number of elements
unfoldable pub counts_in : List ℕ → List ℕ
counts_in bytes = words_at 10 8 bytes

abbrev pub total_in : List ℕ → ℕ
total_in bytes = word_at 44 bytes

-- the running ends of the elements' bytes
unfoldable pub ends_in : List ℕ → List ℕ
ends_in bytes = words_at (total_in bytes) 48 bytes

-- the last eight bytes, and the fingerprint of those before
unfoldable pub kept_in : List ℕ → List ℕ
kept_in bytes = drop (length bytes - 8) bytes

unfoldable pub computed_in : List ℕ → List ℕ
computed_in bytes = fingerprint_after (take (length bytes - 8) bytes)

-- the first test that fails; a number before a test that needs it is there, since the tests before passed
unfoldable pub first_failing : List ℕ → Option FrameFault
first_failing bytes =
    if nat_lt (length bytes) 56 then Some fault.Short
    else if not (word_at 0 bytes == version) then Some fault.Version
    else if not (word_at 4 bytes == flags) then Some fault.Flags
    else if not (ascends 0 (counts_in bytes) && nat_le (56 + 4 * total_in bytes) (length bytes)) then Some fault.Counts
    else if not (ascends 0 (ends_in bytes)) then Some fault.Ends
    else if not (56 + 4 * total_in bytes + last_from 0 (ends_in bytes) == length bytes) then Some fault.Length
    else if not (bytes_eq (kept_in bytes) (computed_in bytes)) then Some (fault.Fingerprint (kept_in bytes) (computed_in bytes))
    else None

-- the pieces of a list up to each of the ends, the first from start on
abbrev pub cut : {X : Type 0} → ℕ → List ℕ → List X → List (List X)
cut start [] xs = []
cut start (end ∷ ends) xs = slice_range xs start end ∷ cut end ends xs

-- what the two tables give: the elements are cut from the bytes behind the tables, and the sections from
-- the elements. The fingerprint lies past the last end
unfoldable pub parts_in : List ℕ → Parts
parts_in bytes = cut 0 (counts_in bytes) (cut 0 (ends_in bytes) (drop (48 + 4 * total_in bytes) bytes))
