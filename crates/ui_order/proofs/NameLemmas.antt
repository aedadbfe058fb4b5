-- Paths and their numbers in the tables of the code.
use Rattle.std.specs.Prelude.{◌≡◌, ℕ, zero, suc, ◌+◌, ◌<◌, Bool, true, false, cond, ◌||◌, nat_eq, List, [], ◌∷◌, ◌++◌, map, length, get_or, take, Some, None, find, slice_get, unwrap_or, Vec, String, string_bytes, string_cmp, string_eq, bytes_eq, refl}
use Rattle.std.proofs.Common.{◌∙◌, ap, sym, subst, arith, append_assoc}
use Rattle.std.specs.declared.alloc.Global.{Global}
use Rattle.std.specs.declared.cmp.Ordering.TheVariants.{Less}
use Rattle.std.specs.Ordering.{nat_cmp, is_eq}
use Rattle.std.specs.List.{AllByRecursion, list_any}
use Rattle.std.specs.List.Sorted.{IsStrictlySortedBy}
use Rattle.std.specs.FinMap.{keys, get-from_entries}
use Rattle.std.specs.FinMap.Entries.{find as find_entry}
use Rattle.std.specs.Cmp.Lexicographic.{slice_cmp, nat_list_cmp_total}
use Rattle.std.proofs.lemmas.List.{take_more, map-append, append-nil}
use Rattle.std.proofs.lemmas.Map.Text.{is_eq-slice_cmp}
use Rattle.std.proofs.lemmas.Slice.Eq.{bytes_eq-Decides}
use Rattle.std.proofs.lemmas.Bool.{or_parts, or_from, or_left, or_right, true≢false, false_from_ne_true}
use Rattle.indexmap.specs.IndexSet.{insert_key}
use Rattle.ui_order.specs.Steps.{has}
use Rattle.ui_order.specs.Found.{Text, Graph, IsClosed, imports_of}
use Rattle.ui_order.specs.Tables.{Entry, texts, package_of, graph_of}
use Rattle.ui_order.specs.Numbers.{Links}
use Rattle.ui_order.specs.Numbered.{path_at, AreLinksOf}
use Rattle.ui_order.proofs.TableLemmas.{entries-graph_of, keys_of_packages, sorted_texts}
use Rattle.ui_order.specs.OrderLaws.{contains-has}

each_at : {X : Type 0} (P : X → Type 0) (xs : List X) (p : X) (ys : List X) → AllByRecursion P (xs ++ p ∷ ys) → P p
each_at P [] p ys h = h.0
each_at P (x ∷ xs) p ys h = each_at P xs p ys h.1

-- in an ascending list a path isn't among those before it
pub not_before : (xs : List Text) (p : Text) (ys : List Text) → IsStrictlySortedBy (slice_cmp nat_cmp) (xs ++ p ∷ ys) → has bytes_eq xs p ≡ false
unfolding IsStrictlySortedBy
not_before [] p ys h = refl
not_before (x ∷ xs) p ys h =
    let less : slice_cmp nat_cmp x p ≡ Less = each_at (λ y. slice_cmp nat_cmp x y ≡ Less) xs p ys h.0 in
    let apart : bytes_eq x p ≡ false = sym (is_eq-slice_cmp x p) ∙ ap is_eq less in
    or_from (bytes_eq p x) (has bytes_eq xs p)
    (false_from_ne_true (bytes_eq p x) (λ e. true≢false (sym ((bytes_eq-Decides x p).1 (sym ((bytes_eq-Decides p x).0 e))) ∙ apart)))
    (not_before xs p ys h.1)

any_text : (k : String Global) (ks : List (String Global)) → list_any (string_eq k) ks ≡ has bytes_eq (map string_bytes ks) (string_bytes k)
any_text k [] = refl
any_text k (x ∷ ks) = ap (λ b. bytes_eq (string_bytes k) (string_bytes x) || b) (any_text k ks)

pub any_named : (q : Text) (ks : List (String Global)) → list_any (λ (k : String Global). bytes_eq q (string_bytes k)) ks ≡ has bytes_eq (map string_bytes ks) q
any_named q [] = refl
any_named q (x ∷ ks) = ap (λ b. bytes_eq q (string_bytes x) || b) (any_named q ks)

-- the next path goes last
pub named_more : (ks : List (String Global)) (k next : String Global) (rest : List (String Global)) (all : List Text) → map string_bytes ks ++ map string_bytes (next ∷ rest) ≡ all → IsStrictlySortedBy (slice_cmp nat_cmp) all
    → string_bytes k ≡ string_bytes next → map string_bytes (insert_key string_eq ks k) ++ map string_bytes rest ≡ all
named_more ks k next rest all e sorted same =
    let new : has bytes_eq (map string_bytes ks) (string_bytes next) ≡ false = not_before (map string_bytes ks) (string_bytes next) (map string_bytes rest) (subst (λ xs. IsStrictlySortedBy (slice_cmp nat_cmp) xs) (sym e) sorted) in
    let out : list_any (string_eq k) ks ≡ false = any_text k ks ∙ ap (λ x. has bytes_eq (map string_bytes ks) x) same ∙ new in
    ap (λ b. map string_bytes (cond b ks (ks ++ k ∷ [])) ++ map string_bytes rest) out
    ∙ ap (λ xs. xs ++ map string_bytes rest) (map-append string_bytes ks (k ∷ []))
    ∙ append_assoc (map string_bytes ks) (string_bytes k ∷ []) (map string_bytes rest)
    ∙ ap (λ x. map string_bytes ks ++ x ∷ map string_bytes rest) same
    ∙ e

pub named_all : (ks : List (String Global)) (all : List Text) → map string_bytes ks ++ [] ≡ all → map string_bytes ks ≡ all
named_all ks all e = sym (append-nil (map string_bytes ks)) ∙ e

pub keys-graph_of : (es : List Entry) → IsStrictlySortedBy string_cmp (map (λ e. e.0) es) → keys (graph_of es) ≡ map string_bytes (map (λ e. e.0) es)
keys-graph_of es h = ap (map (λ e. e.0)) (entries-graph_of es h) ∙ keys_of_packages es

find_test : {X : Type 0} (t : X → Bool) (xs : List X) (p : X) → find t xs ≡ Some p → t p ≡ true
find_test t [] p e = cc
find_test t (x ∷ xs) p e =
    elim (t x) as (λ b. t x ≡ b → cond b (Some x) (find t xs) ≡ Some p → t p ≡ true) [
      | true ↦ λ tx s. let same : x ≡ p = cc in subst (λ y. t y ≡ true) same tx
      | false ↦ λ tx s. find_test t xs p s
    ] refl e

named_place : (ks : List (String Global)) (i : ℕ) (v : String Global) → slice_get ks i ≡ Some v → (path_at (map string_bytes ks) i ≡ string_bytes v) × (i < length (map string_bytes ks))
named_place [] i v e = cc
named_place (k ∷ ks) zero v e = (let same : k ≡ v = cc in ap string_bytes same, omega arith)
named_place (k ∷ ks) (suc i) v e = let r = named_place ks i v e in (r.0, let l = r.1 in omega arith)

-- the number that is found is the path's
pub found_number : (ks : List (String Global)) (q : Text) (i : ℕ) (v : String Global) → slice_get ks i ≡ Some v → Some v ≡ find (λ (k : String Global). bytes_eq q (string_bytes k)) ks
    → (path_at (map string_bytes ks) i ≡ q) × (i < length (map string_bytes ks))
found_number ks q i v e f =
    let place = named_place ks i v e in
    let same : q ≡ string_bytes v = (bytes_eq-Decides q (string_bytes v)).0 (find_test (λ (k : String Global). bytes_eq q (string_bytes k)) ks v (sym f)) in
    (place.0 ∙ sym same, place.1)

pub has_text : (ss : List (String Global)) (i : ℕ) (s : String Global) → i < length ss → s ≡ get_or ss i s → has bytes_eq (map string_bytes ss) (string_bytes s) ≡ true
has_text [] i s h e = absurd (omega arith)
has_text (x ∷ ss) zero s h e = or_left (bytes_eq (string_bytes s) (string_bytes x)) (has bytes_eq (map string_bytes ss) (string_bytes s)) ((bytes_eq-Decides (string_bytes s) (string_bytes x)).1 (ap string_bytes e))
has_text (x ∷ ss) (suc i) s h e = or_right (bytes_eq (string_bytes s) (string_bytes x)) (has bytes_eq (map string_bytes ss) (string_bytes s)) (has_text ss i s (omega arith) e)

pub numbers_more : (paths : List Text) (ns : List ℕ) (n : ℕ) (ss : List (String Global)) (i : ℕ) (s : String Global) → i < length ss → s ≡ get_or ss i s → map (path_at paths) ns ≡ map string_bytes (take i ss) → path_at paths n ≡ string_bytes s
    → map (path_at paths) (ns ++ n ∷ []) ≡ map string_bytes (take (i + 1) ss)
numbers_more paths ns n ss i s h e so at =
    map-append (path_at paths) ns (n ∷ []) ∙ ap (λ xs. xs ++ path_at paths n ∷ []) so ∙ ap (λ x. map string_bytes (take i ss) ++ x ∷ []) (at ∙ ap string_bytes e)
    ∙ sym (map-append string_bytes (take i ss) (get_or ss i s ∷ [])) ∙ ap (map string_bytes) (sym (take_more ss i s h))

pub links_more : (graph : Graph) (paths ks : List Text) (vs : Links) (k : Text) (v : Vec ℕ Global) → AreLinksOf graph paths ks vs → map (path_at paths) v.items ≡ imports_of graph k
    → ((j : ℕ) → has nat_eq v.items j ≡ true → j < length paths) → AreLinksOf graph paths (ks ++ k ∷ []) (vs ++ v ∷ [])
links_more graph paths [] [] k v a e s = (e, s, tt)
links_more graph paths [] (w ∷ vs) k v a e s = absurd a
links_more graph paths (x ∷ ks) [] k v a e s = absurd a
links_more graph paths (x ∷ ks) (w ∷ vs) k v a e s = (a.0, a.1, links_more graph paths ks vs k v a.2 e s)

find_at : (xs : List Entry) (k : String Global) (v : Vec (String Global) Global) (ys : List Entry) → has bytes_eq (map string_bytes (map (λ e. e.0) xs)) (string_bytes k) ≡ false
    → find_entry (slice_cmp nat_cmp) (string_bytes k) (map package_of (xs ++ (k, v) ∷ ys)) ≡ Some (texts v)
find_at [] k v ys h = ap (λ b. cond b (Some (texts v)) (find_entry (slice_cmp nat_cmp) (string_bytes k) (map package_of ys))) (is_eq-slice_cmp (string_bytes k) (string_bytes k) ∙ (bytes_eq-Decides (string_bytes k) (string_bytes k)).1 refl)
find_at (x ∷ xs) k v ys h =
    let parts = or_parts (bytes_eq (string_bytes k) (string_bytes x.0)) (has bytes_eq (map string_bytes (map (λ e. e.0) xs)) (string_bytes k)) h in
    ap (λ b. cond b (Some (texts x.1)) (find_entry (slice_cmp nat_cmp) (string_bytes k) (map package_of (xs ++ (k, v) ∷ ys)))) (is_eq-slice_cmp (string_bytes k) (string_bytes x.0) ∙ parts.0)
    ∙ find_at xs k v ys parts.1

keys_in : (xs : List Entry) (k : String Global) (v : Vec (String Global) Global) (ys : List Entry)
    → map string_bytes (map (λ e. e.0) (xs ++ (k, v) ∷ ys)) ≡ map string_bytes (map (λ e. e.0) xs) ++ string_bytes k ∷ map string_bytes (map (λ e. e.0) ys)
keys_in [] k v ys = refl
keys_in (x ∷ xs) k v ys = ap (λ zs. string_bytes x.0 ∷ zs) (keys_in xs k v ys)

-- an entry's imports are the path's
pub imports_at : (es xs : List Entry) (k : String Global) (v : Vec (String Global) Global) (ys : List Entry) → xs ++ (k, v) ∷ ys ≡ es → IsStrictlySortedBy string_cmp (map (λ e. e.0) es) → imports_of (graph_of es) (string_bytes k) ≡ texts v
unfolding graph_of
imports_at es xs k v ys e s =
    let sorted = subst (λ zs. IsStrictlySortedBy (slice_cmp nat_cmp) zs) (ap (λ zs. map string_bytes (map (λ x. x.0) zs)) (sym e) ∙ keys_in xs k v ys) (sorted_texts (map (λ x. x.0) es) s) in
    let new = not_before (map string_bytes (map (λ x. x.0) xs)) (string_bytes k) (map string_bytes (map (λ x. x.0) ys)) sorted in
    ap (λ o. unwrap_or o []) (get-from_entries nat_list_cmp_total (map package_of es) (string_bytes k) ∙ ap (λ zs. find_entry (slice_cmp nat_cmp) (string_bytes k) (map package_of zs)) (sym e) ∙ find_at xs k v ys new)

keys_push : (xs : List Entry) (e : Entry) → map string_bytes (map (λ x. x.0) (xs ++ e ∷ [])) ≡ map string_bytes (map (λ x. x.0) xs) ++ string_bytes e.0 ∷ []
keys_push [] e = refl
keys_push (x ∷ xs) e = ap (λ zs. string_bytes x.0 ∷ zs) (keys_push xs e)

-- So far: the entries that were gone over, and the links of their paths.
pub record Linked (entries : List Entry) (paths : List Text) (left : List Entry) (so_far : Links) : Type 0 where
  pub done : List Entry
  pub parts : done ++ left ≡ entries
  pub links : AreLinksOf (graph_of entries) paths (map string_bytes (map (λ e. e.0) done)) so_far

pub linked_none : (entries : List Entry) (paths : List Text) (left : List Entry) → left ≡ entries → Linked entries paths left []
linked_none entries paths left e = record { done = []; parts = e; links = tt }

pub linked_more : (entries : List Entry) (paths : List Text) (left rest : List Entry) (k : String Global) (v : Vec (String Global) Global) (vs : Links) (ns : Vec ℕ Global) → Linked entries paths left vs → left ≡ (k, v) ∷ rest
    → IsStrictlySortedBy string_cmp (map (λ e. e.0) entries) → map (path_at paths) ns.items ≡ texts v → ((j : ℕ) → has nat_eq ns.items j ≡ true → j < length paths) → Linked entries paths rest (vs ++ ns ∷ [])
linked_more entries paths left rest k v vs ns l e s so small =
    let parts : l.done ++ (k, v) ∷ rest ≡ entries = ap (λ xs. l.done ++ xs) (sym e) ∙ l.parts in
    record {
      done = l.done ++ (k, v) ∷ [];
      parts = append_assoc l.done ((k, v) ∷ []) rest ∙ parts;
      links = subst (λ xs. AreLinksOf (graph_of entries) paths xs (vs ++ ns ∷ [])) (sym (keys_push l.done (k, v)))
          (links_more (graph_of entries) paths (map string_bytes (map (λ x. x.0) l.done)) vs (string_bytes k) ns l.links (so ∙ sym (imports_at entries l.done k v rest parts s)) small);
    }

pub linked_asked : (entries : List Entry) (paths : List Text) (left rest : List Entry) (k : String Global) (v : Vec (String Global) Global) (vs : Links) → Linked entries paths left vs → left ≡ (k, v) ∷ rest
    → IsStrictlySortedBy string_cmp (map (λ e. e.0) entries) → IsClosed (graph_of entries) → paths ≡ keys (graph_of entries) → (q : Text) → has bytes_eq (texts v) q ≡ true → has bytes_eq paths q ≡ true
linked_asked entries paths left rest k v vs l e s closed all q h =
    let parts : l.done ++ (k, v) ∷ rest ≡ entries = ap (λ xs. l.done ++ xs) (sym e) ∙ l.parts in
    ap (λ xs. has bytes_eq xs q) all ∙ sym (contains-has (graph_of entries) q) ∙ closed (string_bytes k) q (ap (λ xs. has bytes_eq xs q) (imports_at entries l.done k v rest parts s) ∙ h)

pub linked_all : (entries : List Entry) (paths : List Text) (left : List Entry) (vs : Links) → Linked entries paths left vs → left ≡ [] → IsStrictlySortedBy string_cmp (map (λ e. e.0) entries) → paths ≡ keys (graph_of entries)
    → AreLinksOf (graph_of entries) paths paths vs
linked_all entries paths left vs l none s all =
    let whole : l.done ≡ entries = sym (append-nil l.done) ∙ ap (λ xs. l.done ++ xs) (sym none) ∙ l.parts in
    subst (λ xs. AreLinksOf (graph_of entries) paths xs vs) (ap (λ xs. map string_bytes (map (λ e. e.0) xs)) whole ∙ sym (keys-graph_of entries s) ∙ sym all) l.links

pub texts_more : (paths : List Text) (ss : List (String Global)) (s : String Global) (ns : List ℕ) (i : ℕ) → i < length ns → map string_bytes ss ≡ map (path_at paths) (take i ns) → string_bytes s ≡ path_at paths (get_or ns i 0)
    → map string_bytes (ss ++ s ∷ []) ≡ map (path_at paths) (take (i + 1) ns)
texts_more paths ss s ns i h so at =
    map-append string_bytes ss (s ∷ []) ∙ ap (λ xs. xs ++ string_bytes s ∷ []) so ∙ ap (λ x. map (path_at paths) (take i ns) ++ x ∷ []) at
    ∙ sym (map-append (path_at paths) (take i ns) (get_or ns i 0 ∷ [])) ∙ ap (map (path_at paths)) (sym (take_more ns i 0 h))

pub place_in : (ks : List (String Global)) (i : ℕ) → slice_get ks i ≡ None → i < length (map string_bytes ks) → ⊥
place_in [] i e h = omega arith
place_in (k ∷ ks) zero e h = cc
place_in (k ∷ ks) (suc i) e h = place_in ks i e (omega arith)

pub named_at : (ks : List (String Global)) (i : ℕ) (v : String Global) → slice_get ks i ≡ Some v → path_at (map string_bytes ks) i ≡ string_bytes v
named_at ks i v e = (named_place ks i v e).0
