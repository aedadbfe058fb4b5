-- Laws of the list of the packages below.
use Rattle.std.proofs.Common.{arith, length, ◌≡◌, ◌∙◌, sym, ap, subst, refl, ℕ, Bool, true, false, cond, not, ◌||◌, ◌&&◌, T, List, [], ◌∷◌, ◌++◌, append_assoc, map, filter, filter_map, Option, Some, None, option_map, Result, Ok, Err, slice_get}
use Rattle.std.specs.Prelude.{is_some, bytes_eq}
use Rattle.std.proofs.lemmas.Slice.Eq.{bytes_eq-Decides}
use Rattle.std.specs.List.{list_any, list_all, AllByRecursion}
use Rattle.std.specs.List.Sorted.{IsStrictlySortedBy}
use Rattle.std.specs.declared.cmp.Ordering.{Ordering}
use Rattle.std.specs.declared.cmp.Ordering.TheVariants.{Less, Equal, Greater}
use Rattle.std.specs.Ordering.{nat_cmp, eq_by_cmp, is_lt}
use Rattle.std.specs.Cmp.Lexicographic.{slice_cmp, texts_ties, nat_list_cmp_total}
use Rattle.std.specs.FinMap.{get, len-entries, len-empty, entries, entries_sorted, empty, from_entries, contains_key, get-entries, get-from_entries, entries-insert, slice_cmp-IsAntisymmetric, nat_cmp-IsAntisymmetric}
use Rattle.std.specs.FinMap.Entries.{find, put, by_order, below_all, is_sorted, same_entries}
use Rattle.std.proofs.lemmas.List.{nil_from_length}
use Rattle.ui_exports.specs.Linked.{Below}
use Rattle.ui_below.specs.Claims.{Held, ByPath, claim, about, held, held_of, first_print}
use Rattle.ui_below.specs.Join.{Apart, Cycle, stale_in, below_in, first_of, unless, joined, marked}
use Rattle.ui_below.proofs.HeldLaws.{get_held, held_if}

-- ---- maps by path

texts_same : {x y : List ℕ} → bytes_eq x y ≡ true → x ≡ y
texts_same {x} {y} e = (bytes_eq-Decides x y).0 e

itself : (x : List ℕ) → bytes_eq x x ≡ true
itself x = (bytes_eq-Decides x x).1 refl

same_path : (x y : List ℕ) → slice_cmp nat_cmp x y ≡ Equal → x ≡ y
same_path = slice_cmp-IsAntisymmetric nat_cmp-IsAntisymmetric

-- entries whose values are made of others, each with its key
abbrev with : {X Y : Type 0} → (List ℕ → X → Y) → List (List ℕ × X) → List (List ℕ × Y)
with f es = map (λ e. (e.0, f e.0 e.1)) es

find_with : {X Y : Type 0} (f : List ℕ → X → Y) (es : List (List ℕ × X)) (q : List ℕ) → find (slice_cmp nat_cmp) q (with f es) ≡ option_map (f q) (find (slice_cmp nat_cmp) q es)
find_with f [] q = refl
find_with f (e ∷ es) q =
    elim (eq_by_cmp (slice_cmp nat_cmp) q e.0) as (λ b. bytes_eq q e.0 ≡ b → cond b (Some (f e.0 e.1)) (find (slice_cmp nat_cmp) q (with f es)) ≡ option_map (f q) (cond b (Some e.1) (find (slice_cmp nat_cmp) q es))) [
      | true ↦ λ t. ap (λ k. Some (f k e.1)) (sym (texts_same t))
      | false ↦ λ t. find_with f es q
    ] (texts_ties q e.0)

below_with : {X Y : Type 0} (f : List ℕ → X → Y) (x : List ℕ) (es : List (List ℕ × X)) → below_all (slice_cmp nat_cmp) x (with f es) ≡ below_all (slice_cmp nat_cmp) x es
below_with f x [] = refl
below_with f x (e ∷ es) = ap (λ b. is_lt (slice_cmp nat_cmp x e.0) && b) (below_with f x es)

sorted_with : {X Y : Type 0} (f : List ℕ → X → Y) (es : List (List ℕ × X)) → is_sorted (slice_cmp nat_cmp) (with f es) ≡ is_sorted (slice_cmp nat_cmp) es
sorted_with f [] = refl
sorted_with f (e ∷ es) = ap (λ b. b && is_sorted (slice_cmp nat_cmp) (with f es)) (below_with f e.0 es) ∙ ap (λ b. below_all (slice_cmp nat_cmp) e.0 es && b) (sorted_with f es)

entries_with : {X Y : Type 0} (f : List ℕ → X → Y) (m : ByPath Y) (n : ByPath X) → ((q : List ℕ) → get m q ≡ option_map (f q) (get n q)) → entries m ≡ with f (entries n)
entries_with f m n is =
    same_entries (slice_cmp nat_cmp) nat_list_cmp_total same_path (entries m) (with f (entries n)) (entries_sorted m) (subst T (sym (sorted_with f (entries n))) (entries_sorted n))
    (λ q. sym (get-entries m q) ∙ is q ∙ ap (option_map (f q)) (get-entries n q) ∙ sym (find_with f (entries n) q))

-- ---- marks

abbrev is_about : List ℕ → List ℕ × Bool → Bool
is_about q m = bytes_eq q m.0

abbrev mark : Below → List ℕ × Bool
mark c = (c.path, c.direct)

abbrev marks_if : List (List ℕ × Bool) → Option Bool
marks_if [] = None
marks_if (m ∷ ms) = Some (list_any (λ n. n.1) (m ∷ ms))

abbrev some_if : {A B : Type 0} → List A → B → Option B
some_if [] x = None
some_if (a ∷ rest) x = Some x

find_marked : (f : List ℕ → Bool) (ms : List (List ℕ × Bool)) (q : List ℕ) → find (slice_cmp nat_cmp) q (map (λ m. (m.0, f m.0)) ms) ≡ some_if (filter (is_about q) ms) (f q)
find_marked f [] q = refl
find_marked f (m ∷ ms) q =
    ap (λ b. cond b (Some (f m.0)) (find (slice_cmp nat_cmp) q (map (λ x. (x.0, f x.0)) ms))) (sym (texts_ties q m.0))
    ∙ elim (bytes_eq q m.0) as (λ b. bytes_eq q m.0 ≡ b → cond b (Some (f m.0)) (find (slice_cmp nat_cmp) q (map (λ x. (x.0, f x.0)) ms)) ≡ some_if (cond b (m ∷ filter (is_about q) ms) (filter (is_about q) ms)) (f q)) [
      | true ↦ λ t. ap (λ k. Some (f k)) (sym (texts_same t))
      | false ↦ λ t. find_marked f ms q
    ] refl

some_marks : (ms all : List (List ℕ × Bool)) → ms ≡ all → some_if ms (list_any (λ n. n.1) all) ≡ marks_if ms
some_marks [] all e = refl
some_marks (m ∷ ms) all e = ap (λ l. Some (list_any (λ n. n.1) l)) (sym e)

get_marked : (ms : List (List ℕ × Bool)) (q : List ℕ) → get (marked ms) q ≡ marks_if (filter (is_about q) ms)
unfolding marked
get_marked ms q =
    get-from_entries nat_list_cmp_total _ q
    ∙ find_marked (λ path. list_any (λ n. n.1) (filter (is_about path) ms)) ms q
    ∙ some_marks (filter (is_about q) ms) (filter (is_about q) ms) refl

is_marked : (ms : List (List ℕ × Bool)) (q : List ℕ) → is_some (marks_if (filter (is_about q) ms)) ≡ list_any (is_about q) ms
is_marked [] q = refl
is_marked (m ∷ ms) q =
    elim (bytes_eq q m.0) as (λ b. is_some (marks_if (cond b (m ∷ filter (is_about q) ms) (filter (is_about q) ms))) ≡ (b || list_any (is_about q) ms)) [ true ↦ refl | false ↦ is_marked ms q ]

pub marks_the_paths : (ms : List (List ℕ × Bool)) (q : List ℕ) → is_some (get (marked ms) q) ≡ list_any (λ m. bytes_eq q m.0) ms
marks_the_paths ms q = ap is_some (get_marked ms q) ∙ is_marked ms q

-- ---- one fingerprint a path

marks_about : (cs : List Below) (q : List ℕ) → filter (is_about q) (map mark cs) ≡ map mark (about q cs)
marks_about [] q = refl
marks_about (c ∷ cs) q =
    ap (λ l. cond (bytes_eq q c.path) (mark c ∷ l) l) (marks_about cs q)
    ∙ elim (bytes_eq q c.path) as (λ b. cond b (mark c ∷ map mark (about q cs)) (map mark (about q cs)) ≡ map mark (cond b (c ∷ about q cs) (about q cs))) [ true ↦ refl | false ↦ refl ]

module _ (print : List ℕ → List ℕ) where
  all_about : (cs : List Below) (q : List ℕ) → AllByRecursion (λ c. c.print ≡ print c.path) cs → AllByRecursion (λ c. c.print ≡ print q) (about q cs)
  all_about [] q h = tt
  all_about (c ∷ cs) q h =
      elim (bytes_eq q c.path) as (λ b. bytes_eq q c.path ≡ b → AllByRecursion (λ x. x.print ≡ print q) (cond b (c ∷ about q cs) (about q cs))) [
        | true ↦ λ t. (h.0 ∙ ap print (sym (texts_same t)), all_about cs q h.1)
        | false ↦ λ t. all_about cs q h.1
      ] refl

  no_others : (p first : List ℕ) (cs : List Below) → first ≡ p → AllByRecursion (λ c. c.print ≡ p) cs → filter (λ x. not (bytes_eq first x)) (map (λ c. c.print) cs) ≡ []
  no_others p first [] is h = refl
  no_others p first (c ∷ cs) is h =
      ap (λ b. cond (not b) (c.print ∷ filter (λ x. not (bytes_eq first x)) (map (λ x. x.print) cs)) (filter (λ x. not (bytes_eq first x)) (map (λ x. x.print) cs)))
      (ap (λ x. bytes_eq x c.print) (is ∙ sym h.0) ∙ itself c.print)
      ∙ no_others p first cs is h.1

  abbrev alone : List ℕ → Bool → Held
  alone q d = record { print = print q; other = None; direct = d }

  held_alone : (l : List Below) (q : List ℕ) → AllByRecursion (λ c. c.print ≡ print q) l → held_if l ≡ option_map (alone q) (marks_if (map mark l))
  unfolding held_of
  held_alone [] q h = refl
  held_alone (c ∷ cs) q h =
      ap (λ o. Some (record { print = c.print; other = slice_get o 0; direct = list_any (λ x. x.direct) (c ∷ cs) })) (no_others (print q) c.print (c ∷ cs) h.0 h)
      ∙ ap (λ p. Some (record { print = p; other = None; direct = list_any (λ x. x.direct) (c ∷ cs) })) h.0
      ∙ ap (λ d. Some (alone q d)) (directs (c ∷ cs))
    where
      directs : (l : List Below) → list_any (λ x. x.direct) l ≡ list_any (λ n. n.1) (map mark l)
      directs [] = refl
      directs (x ∷ xs) = ap (λ b. x.direct || b) (directs xs)

  get_alone : (cs : List Below) (q : List ℕ) → AllByRecursion (λ c. c.print ≡ print c.path) cs → get (held cs) q ≡ option_map (alone q) (get (marked (map mark cs)) q)
  get_alone cs q h =
      get_held cs q ∙ held_alone (about q cs) q (all_about cs q h)
      ∙ ap (λ l. option_map (alone q) (marks_if l)) (sym (marks_about cs q))
      ∙ ap (option_map (alone q)) (sym (get_marked (map mark cs) q))

  none_stale : (es : List (List ℕ × Bool)) → filter_map stale_in (with alone es) ≡ []
  none_stale [] = refl
  none_stale (e ∷ es) = none_stale es

  as_claims : (es : List (List ℕ × Bool)) → map below_in (with alone es) ≡ map (λ e. claim e.0 (print e.0) e.1) es
  as_claims [] = refl
  as_claims (e ∷ es) = ap (λ l. claim e.0 (print e.0) e.1 ∷ l) (as_claims es)

no_claim : (own : List ℕ) (cs : List Below) → AllByRecursion (λ c. bytes_eq own c.path ≡ false) cs → about own cs ≡ []
no_claim own [] h = refl
no_claim own (c ∷ cs) h = ap (λ b. cond b (c ∷ about own cs) (about own cs)) h.0 ∙ no_claim own cs h.1

pub joined_as_marked : (own : List ℕ) (cs : List Below) (print : List ℕ → List ℕ) → AllByRecursion (λ c. c.print ≡ print c.path) cs → AllByRecursion (λ c. bytes_eq own c.path ≡ false) cs
    → joined own cs ≡ Ok (map (λ e. claim e.0 (print e.0) e.1) (entries (marked (map mark cs))))
unfolding joined
joined_as_marked own cs print h apart =
    let es : entries (held cs) ≡ with (alone print) (entries (marked (map mark cs))) = entries_with (alone print) (held cs) (marked (map mark cs)) (λ q. get_alone print cs q h) in
    let away : contains_key (held cs) own ≡ false = ap is_some (get_held cs own ∙ ap held_if (no_claim own cs apart)) in
    ap (λ s. unless (first_of s) (cond (contains_key (held cs) own) (Err Cycle) (Ok (map below_in (entries (held cs)))))) (ap (filter_map stale_in) es ∙ none_stale print (entries (marked (map mark cs))))
    ∙ ap (λ b. cond b (Err Cycle) (Ok (map below_in (entries (held cs))))) away
    ∙ ap (λ l. Ok (map below_in l)) es
    ∙ ap Ok (as_claims print (entries (marked (map mark cs))))

-- ---- what a list that is joined has

same_ok : (L list : List Below) → ◌≡◌ {A = Result (List Below) Apart} (Ok L) (Ok list) → L ≡ list
same_ok L list e = cc

of_key : (k : Bool) (L list : List Below) → ◌≡◌ {A = Result (List Below) Apart} (cond k (Err Cycle) (Ok L)) (Ok list) → L ≡ list
of_key true L list e = absurd cc
of_key false L list e = same_ok L list e

of_stale : (s : Option Apart) (k : Bool) (L list : List Below) → ◌≡◌ {A = Result (List Below) Apart} (unless s (cond k (Err Cycle) (Ok L))) (Ok list) → L ≡ list
of_stale (Some a) k L list e = absurd cc
of_stale None k L list e = of_key k L list e

of_joined : (own : List ℕ) (cs list : List Below) → joined own cs ≡ Ok list → map below_in (entries (held cs)) ≡ list
unfolding joined
of_joined own cs list e = of_stale _ _ _ list e

is_less : (o : Ordering) → T (is_lt o) → o ≡ Less
is_less Less t = refl
is_less Equal t = absurd t
is_less Greater t = absurd t

left_true : (a b : Bool) → T (a && b) → T a
left_true true b t = tt
left_true false b t = absurd t

right_true : (a b : Bool) → T (a && b) → T b
right_true true b t = t
right_true false b t = absurd t

below_listed : (x : List ℕ) (es : List (List ℕ × Held)) → T (below_all (slice_cmp nat_cmp) x es) → AllByRecursion (λ y. slice_cmp nat_cmp x y ≡ Less) (map (λ b. b.path) (map below_in es))
below_listed x [] t = tt
below_listed x (e ∷ es) t = (is_less _ (left_true _ _ t), below_listed x es (right_true _ _ t))

listed : (es : List (List ℕ × Held)) → T (is_sorted (slice_cmp nat_cmp) es) → IsStrictlySortedBy (slice_cmp nat_cmp) (map (λ b. b.path) (map below_in es))
unfolding IsStrictlySortedBy
listed [] t = tt
listed (e ∷ es) t = (below_listed e.0 es (left_true _ _ t), listed es (right_true _ _ t))

pub joined_is_listed : (own : List ℕ) (cs list : List Below) → joined own cs ≡ Ok list → IsStrictlySortedBy (slice_cmp nat_cmp) (map (λ b. b.path) list)
joined_is_listed own cs list e =
    let P : List Below → Type 0 = λ l. IsStrictlySortedBy (slice_cmp nat_cmp) (map (λ b. b.path) l) in
    subst P (of_joined own cs list e) (listed (entries (held cs)) (entries_sorted (held cs)))

no_entries : entries (empty {X = Held} {R = slice_cmp nat_cmp}) ≡ []
no_entries = nil_from_length _ (sym (len-entries empty) ∙ len-empty (slice_cmp nat_cmp) Held)

module _ (test : List ℕ → List ℕ → Bool) where
  abbrev passes : List ℕ × Held → Bool
  passes e = test e.0 e.1.print

  abbrev all_pass : List (List ℕ × Held) → Bool
  all_pass es = list_all passes es

  true_and : (a b : Bool) → a ≡ true → b ≡ true → (a && b) ≡ true
  true_and a b x y = ap (λ c. c && b) x ∙ y

  and_left : (a b : Bool) → (a && b) ≡ true → a ≡ true
  and_left true b e = refl
  and_left false b e = e

  and_right : (a b : Bool) → (a && b) ≡ true → b ≡ true
  and_right true b e = e
  and_right false b e = absurd cc

  put_passes : (k : List ℕ) (v : Held) (es : List (List ℕ × Held)) → test k v.print ≡ true → all_pass es ≡ true → all_pass (put (slice_cmp nat_cmp) k v es) ≡ true
  put_passes k v [] p h = true_and _ _ p refl
  put_passes k v (e ∷ es) p h =
      elim (slice_cmp nat_cmp k e.0) as (λ o. slice_cmp nat_cmp k e.0 ≡ o → all_pass (by_order o ((k, v) ∷ e ∷ es) ((e.0, v) ∷ es) (e ∷ put (slice_cmp nat_cmp) k v es)) ≡ true) [
        | Less ↦ λ o. true_and _ _ p h
        | Equal ↦ λ o. true_and _ _ (ap (λ x. test x v.print) (sym (same_path k e.0 o)) ∙ p) (and_right _ _ h)
        | Greater ↦ λ o. true_and _ _ (and_left _ _ h) (put_passes k v es p (and_right _ _ h))
      ] refl

  entries_pass : (xs : List (List ℕ × Held)) → all_pass xs ≡ true → all_pass (entries (from_entries {R = slice_cmp nat_cmp} xs)) ≡ true
  entries_pass [] h = ap all_pass no_entries
  entries_pass (x ∷ xs) h =
      ap all_pass (entries-insert nat_list_cmp_total (from_entries xs) x.0 x.1)
      ∙ put_passes x.0 x.1 (entries (from_entries xs)) (and_left _ _ h) (entries_pass xs (and_right _ _ h))

  first_passes : (q : List ℕ) (cs : List Below) (c : Below) (rest : List Below) → about q cs ≡ c ∷ rest → list_all (λ x. test x.path x.print) cs ≡ true → test q c.print ≡ true
  first_passes q [] c rest e h = absurd cc
  first_passes q (x ∷ cs) c rest e h =
      elim (bytes_eq q x.path) as (λ b. bytes_eq q x.path ≡ b → cond b (x ∷ about q cs) (about q cs) ≡ c ∷ rest → test q c.print ≡ true) [
        | true ↦ λ t e1. ap (λ l. test q (first_print l)) (sym e1) ∙ ap (λ k. test k x.print) (texts_same t) ∙ and_left _ _ h
        | false ↦ λ t e1. first_passes q cs c rest e1 (and_right _ _ h)
      ] refl e

  some_about : (q : List ℕ) (pre post : List Below) (c : Below) → q ≡ c.path → (x : Below) × ((xs : List Below) × (about q (pre ++ c ∷ post) ≡ x ∷ xs))
  some_about q [] post c is = (c, (about q post, ap (λ b. cond b (c ∷ about q post) (about q post)) (ap (bytes_eq q) (sym is) ∙ itself q)))
  some_about q (p ∷ pre) post c is =
      elim (bytes_eq q p.path) as (λ b. (x : Below) × ((xs : List Below) × (cond b (p ∷ about q (pre ++ c ∷ post)) (about q (pre ++ c ∷ post)) ≡ x ∷ xs))) [
        | true ↦ (p, (about q (pre ++ c ∷ post), refl))
        | false ↦ some_about q pre post c is
      ]

  claims_pass : (pre post cs : List Below) → cs ≡ pre ++ post → list_all (λ x. test x.path x.print) cs ≡ true → all_pass (map (λ c. (c.path, held_of (about c.path cs))) post) ≡ true
  unfolding held_of
  claims_pass pre [] cs e h = refl
  claims_pass pre (c ∷ post) cs e h =
      let there = some_about c.path pre post c refl in
      let is : about c.path cs ≡ there.0 ∷ there.1.0 = ap (about c.path) e ∙ there.1.1 in
      true_and _ _ (ap (λ l. test c.path (first_print l)) is ∙ first_passes c.path cs there.0 there.1.0 is h)
      (claims_pass (pre ++ c ∷ []) post cs (e ∙ sym (append_assoc pre (c ∷ []) post)) h)

  as_belows : (es : List (List ℕ × Held)) → all_pass es ≡ list_all (λ b. test b.path b.print) (map below_in es)
  as_belows [] = refl
  as_belows (e ∷ es) = ap (λ b. passes e && b) (as_belows es)

  pub joined_holds : (own : List ℕ) (cs list : List Below) → list_all (λ c. test c.path c.print) cs ≡ true → joined own cs ≡ Ok list → list_all (λ b. test b.path b.print) list ≡ true
  unfolding held
  joined_holds own cs list h e =
      ap (list_all (λ b. test b.path b.print)) (sym (of_joined own cs list e)) ∙ sym (as_belows (entries (held cs))) ∙ entries_pass _ (claims_pass [] cs cs refl h)
