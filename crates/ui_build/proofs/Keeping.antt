-- A file outside the sources is written: what is found of the sources stays.
use Rattle.std.proofs.Common.{◌≡◌, ◌+◌, ℕ, ◌∙◌, ap, sym, refl, Bool, true, false, cond, ◌&&◌, List, [], ◌∷◌, ◌++◌, map, Option, Some, None, Result}
use Rattle.std.specs.Prelude.{filter, nat_eq, nat_lt, not, length, drop, slice_index, filter_map, codes}
use Rattle.std.specs.Ordering.{nat_cmp, eq_by_cmp, is_eq}
use Rattle.std.specs.List.{starts_with, cons_option}
use Rattle.std.specs.Cmp.{eq_by_cmp_equiv}
use Rattle.std.specs.Cmp.Lexicographic.{slice_cmp, nat_list_cmp_total}
use Rattle.std.specs.declared.cmp.Ordering.{Ordering}
use Rattle.std.specs.declared.cmp.Ordering.TheVariants.{Less, Equal, Greater}
use Rattle.std.specs.FinMap.{FinMap, get, insert, entries, get-insert, entries-insert, slice_cmp-IsAntisymmetric, nat_cmp-IsAntisymmetric}
use Rattle.std.specs.FinMap.Entries.{put, by_order}
use Rattle.std.proofs.lemmas.List.{append_cancel_right}
use Rattle.ui_store.specs.Files.{Files, listing, reading, within, part_in, if_names, has_slash}
use Rattle.ui_store.specs.declared.fault.StoreFault.{StoreFault}
use Rattle.ui_store.specs.declared.store.AskKind.TheVariants as ask
use Rattle.ui_build.specs.Plan.{Text, Plan, done, ◌>>=◌, asking}
use Rattle.ui_sources.specs.Sources.{SourceFile, source_limit}
use Rattle.ui_build.specs.Package.{folder, unit_file, linked_file, file_in, is_source, listed_as, read_as, read_source, read_sources, some_source, find}
use Rattle.ui_build.specs.Built.{SameSources}
use Rattle.ui_build.proofs.Plans.{bind_same}

-- ---- other names

abbrev pub same_name : Text → Text → Bool
same_name a b = eq_by_cmp (slice_cmp nat_cmp) a b

pub get_other : {X : Type 0} (m : FinMap (slice_cmp nat_cmp) X) (k q : Text) (v : X) → same_name q k ≡ false → get (insert m k v) q ≡ get m q
get_other m k q v e = get-insert nat_list_cmp_total m k v q ∙ ap (λ b. cond b (Some v) (get m q)) e

pub get_same : {X : Type 0} (m : FinMap (slice_cmp nat_cmp) X) (k : Text) (v : X) → get (insert m k v) k ≡ Some v
get_same m k v = get-insert nat_list_cmp_total m k v k ∙ ap (λ b. cond b (Some v) (get m k)) ((eq_by_cmp_equiv nat_list_cmp_total).refl k)

reading_other : (files : Files) (other name bytes : Text) (limit : ℕ) → same_name name other ≡ false → reading (insert files other bytes) name limit ≡ reading files name limit
unfolding reading
reading_other files other name bytes limit e = ap (within limit) (get_other files other name bytes e)

-- ---- listings

kept_keys : (h : Text → Option Text) (k v : Text) (es : List (Text × Text)) → h k ≡ None → filter_map h (map (λ e. e.0) (put (slice_cmp nat_cmp) k v es)) ≡ filter_map h (map (λ e. e.0) es)
kept_keys h k v [] none = ap (λ o. cons_option o []) none
kept_keys h k v (e ∷ es) none =
    elim (slice_cmp nat_cmp k e.0) as (λ o. filter_map h (map (λ x. x.0) (by_order o ((k, v) ∷ e ∷ es) ((e.0, v) ∷ es) (e ∷ put (slice_cmp nat_cmp) k v es))) ≡ filter_map h (map (λ x. x.0) (e ∷ es))) [
      | Less ↦ ap (λ o. cons_option o (filter_map h (e.0 ∷ map (λ x. x.0) es))) none
      | Equal ↦ refl
      | Greater ↦ ap (cons_option (h e.0)) (kept_keys h k v es none)
    ]

listing_other : (files : Files) (other dir bytes : Text) → part_in dir other ≡ None → listing (insert files other bytes) dir ≡ listing files dir
unfolding listing
listing_other files other dir bytes none =
    ap (λ es. if_names (filter_map (part_in dir) (map (λ e. e.0) es))) (entries-insert nat_list_cmp_total files other bytes)
    ∙ ap if_names (kept_keys (part_in dir) other bytes (entries files) none)

-- ---- a name that is none of a source's

pub record IsElsewhere (name : Text) : Type 0 where
  pub file : (rest : Text) → same_name (115 ∷ rest) name ≡ false
  pub part : (path : Text) → part_in (folder path) name ≡ None

and_false : (a b c : Bool) → (((a && false) && b) && c) ≡ false
and_false true b c = refl
and_false false b c = refl

no_part : (dir name : Text) → starts_with nat_eq name dir ≡ false → part_in dir name ≡ None
no_part dir name e =
    ap (λ b. cond (((nat_lt (length dir) (length name) && b) && nat_eq (slice_index name (length dir)) 47) && not (has_slash (drop (length dir + 1) name))) (Some (drop (length dir + 1) name)) None) e
    ∙ ap (λ b. cond b (Some (drop (length dir + 1) name)) None) (and_false _ _ _)

pub unit_elsewhere : (path : Text) → IsElsewhere (unit_file path)
unit_elsewhere path = record { file = λ rest. refl; part = λ p. no_part (folder p) (unit_file path) refl }

pub linked_elsewhere : (path : Text) → IsElsewhere (linked_file path)
linked_elsewhere path = record { file = λ rest. refl; part = λ p. no_part (folder p) (linked_file path) refl }

-- ---- sources

read_other : (files : Files) (other bytes path : Text) (sources : List SourceFile) (names : List Text) → IsElsewhere other
    → read_sources (insert files other bytes) (folder path) sources names ≡ read_sources files (folder path) sources names
unfolding read_sources
read_other files other bytes path sources [] out = refl
read_other files other bytes path sources (name ∷ names) out =
    let file : Text = file_in (folder path) name in
    ap (λ r. (asking (ask.Read, file) (read_as file r) >>= λ b. done (file, b)) >>= λ s. read_sources (insert files other bytes) (folder path) (sources ++ s ∷ []) names) (reading_other files other file bytes source_limit (out.file ((codes "rc/" ++ path) ++ (codes "/" ++ name))))
    ∙ bind_same (read_source files file) (λ s. read_sources (insert files other bytes) (folder path) (sources ++ s ∷ []) names) (λ s. read_sources files (folder path) (sources ++ s ∷ []) names) (λ s _. read_other files other bytes path (sources ++ s ∷ []) names out)

abbrev found_with : Files → Text → Result (List Text) StoreFault → Plan (List SourceFile)
found_with files dir r = asking (ask.List, dir) (listed_as dir r) >>= λ names. read_sources files dir [] (filter is_source names) >>= λ sources. some_source dir sources

pub find_other : (files : Files) (other bytes path : Text) → IsElsewhere other → find (insert files other bytes) (folder path) ≡ find files (folder path)
find_other files other bytes path out =
    ap (found_with (insert files other bytes) (folder path)) (listing_other files other (folder path) bytes (out.part path))
    ∙ bind_same (asking (ask.List, folder path) (listed_as (folder path) (listing files (folder path)))) (λ names. read_sources (insert files other bytes) (folder path) [] (filter is_source names) >>= λ sources. some_source (folder path) sources)
    (λ names. read_sources files (folder path) [] (filter is_source names) >>= λ sources. some_source (folder path) sources)
    (λ names _. ap (λ p. p >>= λ sources. some_source (folder path) sources) (read_other files other bytes path [] (filter is_source names) out))

pub keeps_sources : (files told : Files) (other bytes : Text) → IsElsewhere other → SameSources files told → SameSources files (insert told other bytes)
keeps_sources files told other bytes out same = λ path. find_other told other bytes path out ∙ same path

-- ---- the names of linked files

equal_order : (o : Ordering) → is_eq o ≡ true → o ≡ Equal
equal_order Less e = absurd cc
equal_order Equal e = refl
equal_order Greater e = absurd cc

pub equal_names : (a b : Text) → same_name a b ≡ true → a ≡ b
equal_names a b e = slice_cmp-IsAntisymmetric nat_cmp-IsAntisymmetric a b (equal_order (slice_cmp nat_cmp a b) e)

pub names_equal : (a b : Text) → a ≡ b → same_name a b ≡ true
names_equal a b e = ap (same_name a) (sym e) ∙ (eq_by_cmp_equiv nat_list_cmp_total).refl a

-- packages have linked files of their own
pub linked_apart : (p q : Text) → same_name p q ≡ false → same_name (linked_file p) (linked_file q) ≡ false
linked_apart p q apart = elim (same_name (linked_file p) (linked_file q)) as (λ b. same_name (linked_file p) (linked_file q) ≡ b → b ≡ false) [
  | false ↦ λ _. refl
  | true ↦ λ e.
      let same : p ++ codes ".u" ≡ q ++ codes ".u" = equal_names (p ++ codes ".u") (q ++ codes ".u") e in
      absurd (apart_true (names_equal p q (append_cancel_right p q (codes ".u") same)) apart)
] refl
  where
    apart_true : same_name p q ≡ true → same_name p q ≡ false → ⊥
    apart_true a b = absurd cc
