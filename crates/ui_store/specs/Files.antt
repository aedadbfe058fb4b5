-- The files of a store as a finite map, and what each call gives. This project's own.
use Rattle.std.specs.Prelude.{◌≡◌, ℕ, ◌+◌, ◌≤◌, Bool, false, cond, ◌&&◌, not, nat_lt, nat_eq, List, [], ◌∷◌, slice_index, length, drop, map, filter_map, Option, Some, None, Result, Ok, Err, Vec, String, string_bytes, if◌then◌else◌}
use Rattle.std.specs.Ordering.{nat_cmp}
use Rattle.std.specs.Cmp.Lexicographic.{slice_cmp, nat_list_cmp_total}
use Rattle.std.specs.Cmp.{eq_by_cmp_equiv}
use Rattle.std.specs.FinMap.{FinMap, get, insert, keys, get-insert}
use Rattle.std.specs.List.{starts_with, list_any}
use Rattle.std.specs.declared.alloc.Global.{Global}
use Rattle.std.proofs.Common.{◌∙◌, ap, arith}
use Rattle.ui_store.specs.declared.fault.StoreFault.{StoreFault}
use Rattle.ui_store.specs.declared.fault.StoreFault.TheVariants.{Missing, TooLong}

-- from names to contents
abbrev pub Files : Type 0
Files = FinMap (slice_cmp nat_cmp) (List ℕ)

-- the texts of a list of strings
abbrev pub texts : Vec (String Global) Global → List (List ℕ)
texts v = map string_bytes v.items

-- whether a name holds `/`
abbrev pub has_slash : List ℕ → Bool
has_slash name = list_any (λ b. nat_eq b 47) name

-- whether a name is the folder, `/` and a rest without `/`
abbrev pub is_part : List ℕ → List ℕ → Bool
is_part folder name = nat_lt (length folder) (length name) && starts_with nat_eq name folder && nat_eq (slice_index name (length folder)) 47 && not (has_slash (drop (length folder + 1) name))

-- the last part of such a name
abbrev pub part_in : List ℕ → List ℕ → Option (List ℕ)
part_in folder name = if is_part folder name then Some (drop (length folder + 1) name) else None

-- the last parts of the names in a folder, ascending
abbrev pub names_in : Files → List ℕ → List (List ℕ)
names_in files folder = filter_map (part_in folder) (keys files)

-- no names are no folder
abbrev pub if_names : List (List ℕ) → Result (List (List ℕ)) StoreFault
if_names [] = Err Missing
if_names (x ∷ xs) = Ok (x ∷ xs)

-- what `list` gives of told files
unfoldable pub listing : Files → List ℕ → Result (List (List ℕ)) StoreFault
listing files folder = if_names (names_in files folder)

-- bytes within a limit
abbrev pub within : ℕ → Option (List ℕ) → Result (List ℕ) StoreFault
within limit None = Err Missing
within limit (Some bytes) = if nat_lt limit (length bytes) then Err TooLong else Ok bytes

-- what `read` gives of told files
unfoldable pub reading : Files → List ℕ → ℕ → Result (List ℕ) StoreFault
reading files name limit = within limit (get files name)

not_above : (a b : ℕ) → b ≤ a → nat_lt a b ≡ false
not_above a b h = grind arith

-- what was put is read
pub reading_put : (files : Files) (name bytes : List ℕ) (limit : ℕ) → length bytes ≤ limit → reading (insert files name bytes) name limit ≡ Ok bytes
unfolding reading
reading_put files name bytes limit h =
    ap (within limit) (get-insert nat_list_cmp_total files name bytes name ∙ ap (λ b. cond b (Some bytes) (get files name)) ((eq_by_cmp_equiv nat_list_cmp_total).refl name))
    ∙ ap (λ b. cond b (Err TooLong) (Ok bytes)) (not_above limit (length bytes) h)

-- the told files with these bytes under the name; what is not told stays so
unfoldable pub put : Option Files → List ℕ → List ℕ → Option Files
put None name bytes = None
put (Some files) name bytes = Some (insert files name bytes)
