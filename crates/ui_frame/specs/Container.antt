-- The container of unit and linked files, version 1. This project's own, after internal/pkgbits of
-- the Go tree; SHA-256 is that of FIPS 180-4.
--
-- A container is: the version, the flags, ten running counts of elements by section, one running end
-- of bytes for each element, the elements' bytes, and eight bytes of fingerprint. The numbers have four
-- bytes, the lowest first.
use Rattle.std.specs.Prelude.{◌≡◌, ℕ, ◌+◌, ◌^◌, ◌<◌, ◌≤◌, ◌⊎◌, List, [], ◌∷◌, ◌++◌, length, map, take, replicate, slice_index_or, slice_set}
use Rattle.std.specs.List.{flat_map}
use Rattle.byteorder.specs.Endian.{little_bytes}
use Rattle.sha2.specs.Sha256.{sha256}
use Rattle.ui_frame.specs.Sections.{number_of}
use Rattle.ui_frame.specs.declared.section.Section.{Section}

-- what a container holds: the ten sections in the order of their numbers, each the list of its
-- elements, and each element a list of bytes
abbrev pub Parts : Type 0
Parts = List (List (List ℕ))

-- the elements of a section
abbrev pub section : Section → Parts → List (List ℕ)
section s parts = slice_index_or parts (number_of s) []

-- lists joined end to end
abbrev pub joined : {X : Type 0} → List (List X) → List X
joined xss = flat_map (λ xs. xs) xss

-- all elements, section by section, and their bytes
abbrev pub elements : Parts → List (List ℕ)
elements parts = joined parts

abbrev pub contents : Parts → List ℕ
contents parts = joined (elements parts)

-- the sums of the first number, of the first two and so on, each with what came before
abbrev pub running : ℕ → List ℕ → List ℕ
running before [] = []
running before (n ∷ ns) = (before + n) ∷ running (before + n) ns

-- for each list the number of items up to its end
abbrev pub ends_of : {X : Type 0} → List (List X) → List ℕ
ends_of xss = running 0 (map length xss)

-- a number in four bytes, and several one after another
unfoldable pub word : ℕ → List ℕ
word n = little_bytes 4 n

abbrev pub words : List ℕ → List ℕ
words ns = flat_map word ns

abbrev pub version : ℕ
version = 1

abbrev pub flags : ℕ
flags = 0

-- all bytes of a container before its fingerprint: the tables, and what the elements hold
unfoldable pub before_fingerprint : Parts → List ℕ
before_fingerprint parts = words ((version ∷ flags ∷ ends_of parts) ++ ends_of (elements parts)) ++ contents parts

-- the first eight bytes of the digest of the bytes before
unfoldable pub fingerprint_after : List ℕ → List ℕ
fingerprint_after bytes = take 8 (sha256 bytes)

-- the fingerprint of a container
abbrev pub fingerprint : Parts → List ℕ
fingerprint parts = fingerprint_after (before_fingerprint parts)

-- the one spelling of the parts
abbrev pub container : Parts → List ℕ
container parts = before_fingerprint parts ++ fingerprint parts

-- the parts have a spelling: there are ten sections, and the counts and ends fit their four bytes
pub record HasContainer (parts : Parts) : Type 0 where
  pub ten : length parts ≡ 10
  pub count_fits : length (elements parts) < 2 ^ 32
  pub bytes_fit : length (contents parts) < 2 ^ 32

-- the bytes are the container of the parts
pub record IsContainer (bytes : List ℕ) (parts : Parts) : Type 0 where
  pub fits : HasContainer parts
  pub spelled : bytes ≡ container parts

-- no elements, and one more at the end of a section
abbrev pub no_elements : Parts
no_elements = replicate 10 []

abbrev pub with_element : Section → List ℕ → Parts → Parts
with_element s bytes parts = slice_set parts (number_of s) (section s parts ++ bytes ∷ [])

-- one more element of these bytes passes what the counts or the ends can hold
abbrev pub IsTooMany : List ℕ → Parts → Type 0
IsTooMany bytes parts = (2 ^ 32 ≤ length (elements parts) + 1) ⊎ (2 ^ 32 ≤ length (contents parts) + length bytes)
