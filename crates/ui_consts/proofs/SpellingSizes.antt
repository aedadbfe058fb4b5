-- How long spellings and containers are.
use Rattle.std.proofs.Common.{◌≡◌, ℕ, zero, suc, ◌+◌, ◌*◌, ◌/◌, ◌%◌, ◌≤◌, Bool, true, false, cond, List, [], ◌∷◌, ◌++◌, length, map, take, refl, ap, ◌∙◌, arith, ltb}
use Rattle.std.specs.List.{flat_map}
use Rattle.std.proofs.lemmas.List.{length-append, length-take}
use Rattle.byteorder.specs.Numbers.{length-bytes_low_first}
use Rattle.ui_frame.specs.Container.{Parts, IsContainer, before_fingerprint, contents, elements, ends_of, fingerprint, fingerprint_after, running, version, flags, word, words}
use Rattle.ui_frame.specs.Number.{groups, uint, zigzag}
use Rattle.ui_strpos.specs.Items.{Item, UInt, Int, Truth, Use, target, place_in, table_by, bytes_by, entry, spelling}
use Rattle.ui_strpos.specs.Bytes.{table_from, data_from}
use Rattle.ui_strpos.specs.Whole.{spelling_is}
use Rattle.ui_strpos.specs.declared.target.Target.{Target}

length-groups : (f n : ℕ) → length (groups f n) ≤ f
unfolding groups
length-groups zero n = omega arith
length-groups (suc f) n = elim (ltb n 128) as (λ b. length (cond b (n ∷ []) ((128 + n % 128) ∷ groups f (n / 128))) ≤ suc f) [ true ↦ omega arith | false ↦ omega (arith, length-groups f (n / 128)) ]

length-uint : (n : ℕ) → length (uint n) ≤ 10
unfolding uint
length-uint n = length-groups 10 n

one-longer : (b : Bool) (table : List Target) (t : Target) → length (cond b table (table ++ t ∷ [])) ≤ length table + 1
one-longer true table t = omega arith
one-longer false table t = omega (arith, length-append table (t ∷ []))

length-table_by : (table : List Target) (i : Item) → length (table_by table i) ≤ length table + 1
length-table_by table (UInt n) = omega arith
length-table_by table (Int z) = omega arith
length-table_by table (Truth b) = omega arith
length-table_by table (Use s k) = one-longer (ltb (place_in table (target s k)) (length table)) table (target s k)

pub length-table_from : (is : List Item) (table : List Target) → length (table_from table is) ≤ length table + length is
length-table_from [] table = omega arith
length-table_from (i ∷ is) table = omega (arith, length-table_from is (table_by table i), length-table_by table i)

length-bytes_by : (table : List Target) (i : Item) → length (bytes_by table i) ≤ 10
length-bytes_by table (UInt n) = length-uint n
length-bytes_by table (Int z) = length-uint (zigzag z)
length-bytes_by table (Truth b) = omega arith
length-bytes_by table (Use s k) = length-uint (place_in table (target s k))

length-data_from : (is : List Item) (table : List Target) → length (data_from table is) ≤ 10 * length is
length-data_from [] table = omega arith
length-data_from (i ∷ is) table = omega (arith, length-append (bytes_by table i) (data_from (table_by table i) is), length-bytes_by table i, length-data_from is (table_by table i))

length-entries : (table : List Target) → length (flat_map entry table) ≤ 20 * length table
length-entries [] = omega arith
length-entries (t ∷ ts) = omega (arith, length-append (entry t) (flat_map entry ts), length-append (uint t.section) (uint t.index), length-uint t.section, length-uint t.index, length-entries ts)

-- a spelling has at most so many bytes
pub length-spelling : (is : List Item) → length (spelling is) ≤ 10 + 30 * length is
length-spelling is =
    let table : List Target = table_from [] is in
    omega (arith, ap length (spelling_is is), length-append (uint (length table) ++ flat_map entry table) (data_from [] is), length-append (uint (length table)) (flat_map entry table), length-uint (length table), length-entries table, length-data_from is [], length-table_from is [])

-- ---- containers

length-words : (ns : List ℕ) → length (words ns) ≡ 4 * length ns
unfolding word
length-words [] = refl
length-words (n ∷ ns) = omega (arith, length-append (word n) (words ns), length-bytes_low_first 0 4 n, length-words ns)

length-running : (before : ℕ) (ns : List ℕ) → length (running before ns) ≡ length ns
length-running before [] = refl
length-running before (n ∷ ns) = ap suc (length-running (before + n) ns)

length-ends : {X : Type 0} (xss : List (List X)) → length (ends_of xss) ≡ length xss
length-ends xss = length-running 0 (map length xss) ∙ length-map-length xss
  where
    length-map-length : {X : Type 0} (xss : List (List X)) → length (map length xss) ≡ length xss
    length-map-length [] = refl
    length-map-length (xs ∷ xss) = ap suc (length-map-length xss)

at_most_eight : (xs : List ℕ) → length (take 8 xs) ≤ 8
at_most_eight xs = omega (arith, length-take 8 xs)

length-fingerprint : (bytes : List ℕ) → length (fingerprint_after bytes) ≤ 8
unfolding fingerprint_after
length-fingerprint bytes = at_most_eight _

pub length-container : (bytes : List ℕ) (parts : Parts) → IsContainer bytes parts → length bytes ≤ 56 + 4 * length (elements parts) + length (contents parts)
unfolding before_fingerprint
length-container bytes parts is =
    let tables : List ℕ = version ∷ flags ∷ ends_of parts ++ ends_of (elements parts) in
    let whole : length bytes ≡ length (before_fingerprint parts ++ fingerprint parts) = ap length is.spelled in
    omega (arith, whole, length-append (before_fingerprint parts) (fingerprint parts), length-append (words tables) (contents parts), length-words tables, length-append (ends_of parts) (ends_of (elements parts)), length-ends parts, length-ends (elements parts), length-fingerprint (before_fingerprint parts), is.fits.ten)
