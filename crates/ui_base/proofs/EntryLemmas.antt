-- The entries of maps by texts.
use Rattle.std.proofs.Common.{◌≡◌, ℕ, Bool, true, false, cond, List, [], ◌∷◌, map, option_map, Option, Some, None, refl, sym, ap, ◌∙◌, subst}
use Rattle.std.specs.Prelude.{is_some}
use Rattle.std.specs.Option.{option_copied}
use Rattle.std.specs.declared.cmp.Ordering.{Ordering}
use Rattle.std.specs.declared.cmp.Ordering.TheVariants.{Less, Equal, Greater}
use Rattle.std.specs.Ordering.{nat_cmp, match_ordering, eq_by_cmp, is_eq}
use Rattle.std.specs.Map.{lookup}
use Rattle.std.specs.List.{AllByRecursion}
use Rattle.std.specs.List.Sorted.{IsStrictlySortedBy}
use Rattle.std.specs.BTreeMap.{is_at, insert_entry}
use Rattle.std.specs.Cmp.Lexicographic.{slice_cmp, nat_list_cmp_total}
use Rattle.std.specs.FinMap.{get, insert, empty, entries, keys, from_entries, entries-insert, len-entries, len-empty, get-from_entries, get-insert, same_map, slice_cmp-IsAntisymmetric, nat_cmp-IsAntisymmetric}
use Rattle.std.specs.FinMap.Entries.{put, find, find-put, by_order}
use Rattle.std.proofs.lemmas.List.{nil_from_length}
use denote.Ref.{Bor}
use Rattle.ui_base.specs.Entries.{entry_of, map_of}

-- ---- entries in order

module _ {X : Type 0} where
  -- an entry below all others goes to the front
  put_front : (k : List ℕ) (v : X) (es : List (List ℕ × X)) → AllByRecursion (λ y. slice_cmp nat_cmp k y ≡ Less) (map (λ e. e.0) es) → put (slice_cmp nat_cmp) k v es ≡ (k, v) ∷ es
  put_front k v [] h = refl
  put_front k v (e ∷ es) h = ap (λ o. by_order o ((k, v) ∷ e ∷ es) ((e.0, v) ∷ es) (e ∷ put (slice_cmp nat_cmp) k v es)) h.0

  -- entries in order are those of their map
  pub entries_in_order : (es : List (List ℕ × X)) → IsStrictlySortedBy (slice_cmp nat_cmp) (map (λ e. e.0) es) → entries (from_entries {R = slice_cmp nat_cmp} es) ≡ es
  unfolding IsStrictlySortedBy
  entries_in_order [] h = nil_from_length _ (sym (len-entries {X = X} {R = slice_cmp nat_cmp} empty) ∙ len-empty (slice_cmp nat_cmp) X)
  entries_in_order (e ∷ es) h =
      entries-insert nat_list_cmp_total (from_entries es) e.0 e.1
      ∙ ap (put (slice_cmp nat_cmp) e.0 e.1) (entries_in_order es h.1)
      ∙ put_front e.0 e.1 es h.0

-- keys in order have their texts in order
module _ {K : Type 0} (text : K → List ℕ) where
  abbrev pub by_text : K → K → Ordering
  by_text x y = slice_cmp nat_cmp (text x) (text y)

  below_texts : (k : K) (ks : List K) → AllByRecursion (λ y. by_text k y ≡ Less) ks → AllByRecursion (λ y. slice_cmp nat_cmp (text k) y ≡ Less) (map text ks)
  below_texts k [] h = tt
  below_texts k (x ∷ xs) h = (h.0, below_texts k xs h.1)

  pub sorted_texts : (ks : List K) → IsStrictlySortedBy by_text ks → IsStrictlySortedBy (slice_cmp nat_cmp) (map text ks)
  unfolding IsStrictlySortedBy
  sorted_texts [] h = tt
  sorted_texts (k ∷ ks) h = (below_texts k ks h.0, sorted_texts ks h.1)

module _ {K V X : Type 0} (text : K → List ℕ) (shown : V → X) where
  abbrev seen : K × V → List ℕ × X
  seen = entry_of text shown

  -- the key's text is this
  abbrev pub is_text : List ℕ → K → Bool
  is_text q = is_at (λ (k : K). slice_cmp nat_cmp q (text k))

  -- ---- one entry more

  chosen : (o : Ordering) (a b c : List (K × V)) → map seen (match_ordering o a b c) ≡ by_order o (map seen a) (map seen b) (map seen c)
  chosen Less a b c = refl
  chosen Equal a b c = refl
  chosen Greater a b c = refl

  put_entry : (es : List (K × V)) (k : K) (v : V) → map seen (insert_entry (by_text text) es k v) ≡ put (slice_cmp nat_cmp) (text k) (shown v) (map seen es)
  put_entry [] k v = refl
  put_entry (e ∷ es) k v =
      chosen (by_text text k e.0) _ _ _
      ∙ ap (λ rest. by_order (by_text text k e.0) (seen (k, v) ∷ seen e ∷ map seen es) ((text e.0, shown v) ∷ map seen es) (seen e ∷ rest)) (put_entry es k v)

  pub map_of-insert : (es : List (K × V)) (k : K) (v : V) → map_of text shown (insert_entry (λ x y. slice_cmp nat_cmp (text x) (text y)) es k v) ≡ insert (map_of text shown es) (text k) (shown v)
  map_of-insert es k v = same_map nat_list_cmp_total (slice_cmp-IsAntisymmetric nat_cmp-IsAntisymmetric) _ _
      (λ q. get-from_entries nat_list_cmp_total _ q ∙ ap (find (slice_cmp nat_cmp) q) (put_entry es k v) ∙ find-put (slice_cmp nat_cmp) nat_list_cmp_total q (text k) (shown v) (map seen es)
      ∙ ap (λ o. cond (eq_by_cmp (slice_cmp nat_cmp) q (text k)) (Some (shown v)) o) (sym (get-from_entries nat_list_cmp_total (map seen es) q)) ∙ sym (get-insert nat_list_cmp_total (from_entries (map seen es)) (text k) (shown v) q))

  -- ---- looking up

  found_in : (q : List ℕ) (es : List (K × V)) → find (slice_cmp nat_cmp) q (map seen es) ≡ option_map shown (lookup (is_text q) es)
  found_in q [] = refl
  found_in q (e ∷ es) = elim (is_eq (slice_cmp nat_cmp q (text e.0))) as (λ b. cond b (Some (shown e.1)) (find (slice_cmp nat_cmp) q (map seen es)) ≡ option_map shown (cond b (Some e.1) (lookup (is_text q) es)))
      [ true ↦ refl | false ↦ found_in q es ]

  pub get-map_of : (es : List (K × V)) (q : List ℕ) → get (map_of text shown es) q ≡ option_map shown (lookup (is_at (λ (k : K). slice_cmp nat_cmp q (text k))) es)
  get-map_of es q = get-from_entries nat_list_cmp_total (map seen es) q ∙ found_in q es

  copied : (r : Option (Bor V)) → option_map (λ v. shown v.now) r ≡ option_map shown (option_copied r)
  copied None = refl
  copied (Some x) = refl

  -- what a look-up in the map finds
  pub look-map_of : (es : List (K × V)) (q : List ℕ) (r : Option (Bor V)) → option_copied r ≡ lookup (is_at (λ (k : K). slice_cmp nat_cmp q (text k))) es → option_map (λ v. shown v.now) r ≡ get (map_of text shown es) q
  look-map_of es q r e = copied r ∙ ap (option_map shown) e ∙ sym (get-map_of es q)

  mapped : (o : Option V) → is_some (option_map shown o) ≡ is_some o
  mapped None = refl
  mapped (Some v) = refl

  -- a text that is there
  pub has-map_of : (es : List (K × V)) (q : List ℕ) → is_some (get (map_of text shown es) q) ≡ is_some (lookup (is_at (λ (k : K). slice_cmp nat_cmp q (text k))) es)
  has-map_of es q = ap is_some (get-map_of es q) ∙ mapped _

  -- ---- all entries

  texts_of : (es : List (K × V)) → map (λ e. e.0) (map seen es) ≡ map text (map (λ e. e.0) es)
  texts_of [] = refl
  texts_of (e ∷ es) = ap (λ ts. text e.0 ∷ ts) (texts_of es)

  -- the texts of entries in order are in order
  pub texts-entry_of : (es : List (K × V)) → IsStrictlySortedBy (λ x y. slice_cmp nat_cmp (text x) (text y)) (map (λ e. e.0) es) → IsStrictlySortedBy (slice_cmp nat_cmp) (map (λ e. e.0) (map (entry_of text shown) es))
  texts-entry_of es h = subst (IsStrictlySortedBy (slice_cmp nat_cmp)) (sym (texts_of es)) (sorted_texts text _ h)

  -- the map of entries in order has them
  pub entries-map_of : (es : List (K × V)) → IsStrictlySortedBy (λ x y. slice_cmp nat_cmp (text x) (text y)) (map (λ e. e.0) es) → entries (map_of text shown es) ≡ map (entry_of text shown) es
  entries-map_of es h = entries_in_order (map seen es) (texts-entry_of es h)

  pub keys-map_of : (es : List (K × V)) → IsStrictlySortedBy (λ x y. slice_cmp nat_cmp (text x) (text y)) (map (λ e. e.0) es) → keys (map_of text shown es) ≡ map text (map (λ e. e.0) es)
  keys-map_of es h = ap (map (λ e. e.0)) (entries-map_of es h) ∙ texts_of es
