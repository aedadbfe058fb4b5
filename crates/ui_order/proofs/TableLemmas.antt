-- The maps of the code as finite maps of the definitions.
use Rattle.std.specs.Prelude.{◌≡◌, ℕ, Bool, true, false, cond, ◌||◌, ◌+◌, ◌<◌, if◌then◌else◌, List, [], ◌∷◌, ◌++◌, map, take, get_or, Option, Some, None, option_map, option_copied, is_some, Vec, String, string_bytes, string_cmp, bytes_eq, slice_get, refl}
use Rattle.std.proofs.Common.{◌∙◌, ap, sym, length}
use Rattle.std.specs.declared.alloc.Global.{Global}
use Rattle.std.specs.Ordering.{nat_cmp, eq_by_cmp, is_eq}
use Rattle.std.specs.Map.{lookup}
use Rattle.std.specs.BTreeMap.{is_at, insert_entry}
use Rattle.std.specs.BTreeSet.{BTreeSet, contains_text}
use Rattle.std.specs.BTreeSet as tree
use Rattle.std.specs.List.{list_any}
use Rattle.std.specs.List.Sorted.{IsStrictlySortedBy}
use Rattle.std.specs.Cmp.Lexicographic.{slice_cmp, nat_list_cmp_total}
use Rattle.std.specs.Cmp.{eq_by_cmp_equiv}
use Rattle.std.specs.FinMap.{get, contains_key, insert, remove, entries, keys, len, len-entries, get-from_entries, get-insert, get-remove, same_map, slice_cmp-IsAntisymmetric, nat_cmp-IsAntisymmetric}
use Rattle.std.specs.FinMap.Entries.{find}
use Rattle.std.proofs.lemmas.Map.Text.{is_eq-slice_cmp, btree_set_updates_text}
use denote.Ref.{Bor}
use Rattle.std.proofs.lemmas.List.{take_more, map-append, length-map}
use Rattle.ui_base.proofs.EntryLemmas as base
use Rattle.ui_base.proofs.EntryLemmas.{entries_in_order, entries-map_of, look-map_of, has-map_of, map_of-insert}
use Rattle.ui_order.specs.Found.{Text, Paths, Graph, Found, begun, with_unread, with_imports}
use Rattle.ui_order.specs.FoundLaws.{contains-insert}
use Rattle.ui_order.specs.Tables.{Entry, texts, package_of, path_of, paths_of, graph_of}

-- strings in order have their bytes in order
pub sorted_texts : (ks : List (String Global)) → IsStrictlySortedBy string_cmp ks → IsStrictlySortedBy (slice_cmp nat_cmp) (map string_bytes ks)
sorted_texts ks h = base.sorted_texts string_bytes ks h

keys_of_paths : (ks : List (String Global)) → map (λ e. e.0) (map path_of ks) ≡ map string_bytes ks
keys_of_paths [] = refl
keys_of_paths (k ∷ ks) = ap (λ xs. string_bytes k ∷ xs) (keys_of_paths ks)

pub keys_of_packages : (es : List Entry) → map (λ e. e.0) (map package_of es) ≡ map string_bytes (map (λ e. e.0) es)
keys_of_packages [] = refl
keys_of_packages (e ∷ es) = ap (λ xs. string_bytes e.0 ∷ xs) (keys_of_packages es)

pub keys-paths_of : (ks : List (String Global)) → IsStrictlySortedBy string_cmp ks → keys (paths_of ks) ≡ map string_bytes ks
unfolding paths_of
keys-paths_of ks h =
    let s : IsStrictlySortedBy (slice_cmp nat_cmp) (map (λ e. e.0) (map path_of ks)) = rw (keys_of_paths ks) (sorted_texts ks h) in
    ap (map (λ e. e.0)) (entries_in_order (map path_of ks) s) ∙ keys_of_paths ks

pub len-paths_of : (ks : List (String Global)) → IsStrictlySortedBy string_cmp ks → len (paths_of ks) ≡ length ks
len-paths_of ks h = len-entries (paths_of ks) ∙ sym (length-map (entries (paths_of ks)) (λ e. e.0)) ∙ ap length (keys-paths_of ks h) ∙ length-map ks string_bytes

pub entries-graph_of : (es : List Entry) → IsStrictlySortedBy string_cmp (map (λ e. e.0) es) → entries (graph_of es) ≡ map package_of es
unfolding graph_of
entries-graph_of es h = entries-map_of string_bytes texts es h

pub len-graph_of : (es : List Entry) → IsStrictlySortedBy string_cmp (map (λ e. e.0) es) → len (graph_of es) ≡ length es
len-graph_of es h = len-entries (graph_of es) ∙ ap length (entries-graph_of es h) ∙ length-map es package_of

first_path : (ks : List (String Global)) (o : Option (String Global)) → slice_get ks 0 ≡ o → slice_get (map string_bytes ks) 0 ≡ option_map string_bytes o
first_path [] o h = ap (option_map string_bytes) h
first_path (k ∷ ks) o h = ap (option_map string_bytes) h

-- the first key is the least path
pub least-paths_of : (ks : List (String Global)) (o : Option (String Global)) → IsStrictlySortedBy string_cmp ks → slice_get ks 0 ≡ o → option_map string_bytes o ≡ slice_get (keys (paths_of ks)) 0
least-paths_of ks o h e = sym (first_path ks o e) ∙ ap (λ xs. slice_get xs 0) (sym (keys-paths_of ks h))

-- a look-up in the map finds the imports
pub get-graph_of : (es : List Entry) (q : Text) (r : Option (Bor (Vec (String Global) Global))) → option_copied r ≡ lookup (is_at (λ (k : String Global). slice_cmp nat_cmp q (string_bytes k))) es → option_map (λ v. texts v.now) r ≡ get (graph_of es) q
unfolding graph_of
get-graph_of es q r e = look-map_of string_bytes texts es q r e

-- one key and no entry are the beginning
pub begun_of : (ks : List (String Global)) (es : List Entry) (k : String Global) (root : Text) → ks ≡ k ∷ [] → es ≡ [] → string_bytes k ≡ root → ◌≡◌ {A = Found} (record { unread = paths_of ks; read = graph_of es }) (begun root)
unfolding paths_of graph_of begun
begun_of ks es k root one none same =
    let start : ◌≡◌ {A = Found} (record { unread = paths_of (k ∷ []); read = graph_of [] }) (begun (string_bytes k)) = refl in
    (λ i. record { unread = paths_of (one i); read = graph_of (none i) }) ∙ start ∙ ap begun same

-- ---- what a change of the set changes
path_found : (q : Text) (ks : List (String Global)) → find (slice_cmp nat_cmp) q (map path_of ks) ≡ cond (list_any (is_at (λ (k : String Global). slice_cmp nat_cmp q (string_bytes k))) ks) (Some tt) None
path_found q [] = refl
path_found q (k ∷ ks) = elim (is_eq (slice_cmp nat_cmp q (string_bytes k))) as (λ b. cond b (Some tt) (find (slice_cmp nat_cmp) q (map path_of ks)) ≡ cond (b || list_any (is_at (λ (k : String Global). slice_cmp nat_cmp q (string_bytes k))) ks) (Some tt) None)
    [ true ↦ refl | false ↦ path_found q ks ]

get-paths_of : (s : BTreeSet (String Global)) (q : Text) → get (paths_of s.keys) q ≡ cond (contains_text s q) (Some tt) None
unfolding paths_of
get-paths_of s q = get-from_entries nat_list_cmp_total (map path_of s.keys) q ∙ path_found q s.keys

turned : (a b : Text) → bytes_eq a b ≡ eq_by_cmp (slice_cmp nat_cmp) b a
turned a b = sym (is_eq-slice_cmp a b) ∙ (eq_by_cmp_equiv nat_list_cmp_total).symm a b

inserted : (a b : Bool) (o : Option (Unit {0})) → cond (cond a true b) o None ≡ cond a o (cond b o None)
inserted true b o = refl
inserted false b o = refl

removed : (a b : Bool) (o : Option (Unit {0})) → cond (cond a false b) o None ≡ cond a None (cond b o None)
removed true b o = refl
removed false b o = refl

pub paths_of-insert : (bs : Text) (s n : BTreeSet (String Global)) → tree.UpdatesBy string_cmp (λ k. slice_cmp nat_cmp bs (string_bytes k)) s n true → paths_of n.keys ≡ insert (paths_of s.keys) bs tt
paths_of-insert bs s n u = same_map nat_list_cmp_total (slice_cmp-IsAntisymmetric nat_cmp-IsAntisymmetric) _ _ (λ q.
    get-paths_of n q
    ∙ ap (λ b. cond b (Some tt) None) (btree_set_updates_text bs s n true u q)
    ∙ inserted (bytes_eq bs q) (contains_text s q) (Some tt)
    ∙ (λ i. cond (turned bs q i) (Some tt) (sym (get-paths_of s q) i))
    ∙ sym (get-insert nat_list_cmp_total (paths_of s.keys) bs tt q))

pub paths_of-remove : (bs : Text) (s n : BTreeSet (String Global)) → tree.UpdatesBy string_cmp (λ k. slice_cmp nat_cmp bs (string_bytes k)) s n false → paths_of n.keys ≡ remove (paths_of s.keys) bs
paths_of-remove bs s n u = same_map nat_list_cmp_total (slice_cmp-IsAntisymmetric nat_cmp-IsAntisymmetric) _ _ (λ q.
    get-paths_of n q
    ∙ ap (λ b. cond b (Some tt) None) (btree_set_updates_text bs s n false u q)
    ∙ removed (bytes_eq bs q) (contains_text s q) (Some tt)
    ∙ (λ i. cond (turned bs q i) None (sym (get-paths_of s q) i))
    ∙ sym (get-remove nat_list_cmp_total (paths_of s.keys) bs q))

-- to insert an entry is to read a package
pub graph_of-insert : (es : List Entry) (k : String Global) (v : Vec (String Global) Global) → graph_of (insert_entry string_cmp es k v) ≡ insert (graph_of es) (string_bytes k) (texts v)
unfolding graph_of
graph_of-insert es k v = map_of-insert string_bytes texts es k v

pub contains-graph_of : (es : List Entry) (q : Text) → contains_key (graph_of es) q ≡ is_some (lookup (is_at (λ (k : String Global). slice_cmp nat_cmp q (string_bytes k))) es)
unfolding graph_of
contains-graph_of es q = has-map_of string_bytes texts es q

-- one import
pub import_kept : (read : Graph) (unread : Paths) (p q : Text) (own : List Text) → (bytes_eq q p || contains_key read q) ≡ true → unread ≡ with_unread (insert read p own) unread (q ∷ [])
import_kept read unread p q own h = ap (λ b. cond b unread (insert unread q tt)) (sym (contains-insert read p own q ∙ h))

pub import_put : (read : Graph) (unread : Paths) (p q : Text) (own : List Text) → (bytes_eq q p || contains_key read q) ≡ false → insert unread q tt ≡ with_unread (insert read p own) unread (q ∷ [])
import_put read unread p q own h = ap (λ b. cond b unread (insert unread q tt)) (sym (contains-insert read p own q ∙ h))

with_unread-append : (read : Graph) (unread : Paths) (ps qs : List Text) → with_unread read unread (ps ++ qs) ≡ with_unread read (with_unread read unread ps) qs
with_unread-append read unread [] qs = refl
with_unread-append read unread (p ∷ ps) qs = with_unread-append read (if contains_key read p then unread else insert unread p tt) ps qs

pub with_unread-more : (read : Graph) (unread : Paths) (ss : List (String Global)) (i : ℕ) (s : String Global) → i < length ss → s ≡ get_or ss i s
    → with_unread read unread (map string_bytes (take (i + 1) ss)) ≡ with_unread read (with_unread read unread (map string_bytes (take i ss))) (string_bytes s ∷ [])
with_unread-more read unread ss i s h e =
    ap (λ xs. with_unread read unread (map string_bytes xs)) (take_more ss i s h)
    ∙ ap (λ xs. with_unread read unread xs) (map-append string_bytes (take i ss) (get_or ss i s ∷ []))
    ∙ with_unread-append read unread (map string_bytes (take i ss)) (string_bytes (get_or ss i s) ∷ [])
    ∙ ap (λ x. with_unread read (with_unread read unread (map string_bytes (take i ss))) (string_bytes x ∷ [])) (sym e)

-- the parts of a step of discovery
pub with_imports-parts : (u0 u1 u2 : Paths) (r0 r1 : Graph) (p : Text) (own : List Text) → u1 ≡ remove u0 p → u2 ≡ with_unread (insert r0 p own) u1 own → r1 ≡ insert r0 p own
    → ◌≡◌ {A = Found} (record { unread = u2; read = r1 }) (with_imports (record { unread = u0; read = r0 }) p own)
unfolding with_imports
with_imports-parts u0 u1 u2 r0 r1 p own without found read =
    let unread : u2 ≡ with_unread (insert r0 p own) (remove u0 p) own = found ∙ ap (λ u. with_unread (insert r0 p own) u own) without in
    λ i. record { unread = unread i; read = read i }
