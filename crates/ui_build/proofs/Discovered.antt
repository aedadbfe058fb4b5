-- What discovery found, and the order of it.
use Rattle.std.proofs.Common.{◌≡◌, ◌∙◌, ap, sym, subst, refl, ℕ, zero, suc, ◌+◌, ◌≤◌, length, true, false, cond, Bool, List, [], ◌∷◌, ◌++◌, Some, None, Result, Ok, Err, arith, append_assoc}
use Rattle.std.specs.Prelude.{bytes_eq, is_some, ◌||◌, nat_lt, find, unwrap_or}
use Rattle.std.specs.List.{AllByRecursion}
use Rattle.std.specs.Ordering.{nat_cmp}
use Rattle.std.specs.Cmp.Lexicographic.{slice_cmp, nat_list_cmp_total, nat_list_eq_equiv}
use Rattle.std.specs.FinMap.{empty, get, insert, contains_key, get-insert, get-empty, len, len-insert, len-empty, keys}
use Rattle.std.proofs.lemmas.Bool.{ltb-false}
use Rattle.std.proofs.lemmas.List.{length-append}
use Rattle.ui_store.specs.Files.{Files}
use Rattle.ui_order.specs.Steps.{has, order_from, and_then, is_ready}
use Rattle.ui_order.specs.Found.{Graph, Found, IsFound, begun, least_unread, with_imports, found_count, imports_of}
use Rattle.ui_order.specs.Order as orders
use Rattle.ui_order.specs.Order.{Arrangement, cycle, paths, arranged}
use Rattle.ui_order.specs.Laws.{BeginsFound, KeepsFound, ClosesAtEnd, TakesImportsFirst, TakesAll, ArrangesAcyclic}
use Rattle.ui_build.specs.Plan.{Text, Refusal, TooMany, settled}
use Rattle.ui_build.specs.Package.{folder, imports_in}
use Rattle.ui_build.specs.Package as packages
use Rattle.ui_build.specs.Build.{package_limit, within_limit, discover, discover_next, discover_one, order_or, ordered, build_order}
use Rattle.ui_build.specs.Built.{imports_by, imports_found, IsInOrder}
use Rattle.ui_build.proofs.Steps.{bind_ok}
use Rattle.ui_build.proofs.Keeping.{same_name, equal_names}

-- the laws of discovery and order
pub record Orders : Type 0 where
  pub begins : BeginsFound
  pub keeps : KeepsFound
  pub closes : ClosesAtEnd
  pub imports_first : TakesImportsFirst
  pub all : TakesAll
  pub acyclic : ArrangesAcyclic

-- What is found has the imports that the sources spell.
pub record IsKnown (files : Files) (root : Text) (found : Found) : Type 0 where
  pub is_found : IsFound root found
  pub few : found_count found ≤ package_limit
  pub reads : (p : Text) → contains_key found.read p ≡ true → imports_of found.read p ≡ imports_by files p

abbrev some_found : Found → Result Found Refusal
some_found found = Ok found

found_is : (a b : Found) → some_found a ≡ some_found b → a ≡ b
found_is a b e = cc

-- the root alone is found at the beginning
pub begun_few : (root : Text) → found_count (begun root) ≤ package_limit
unfolding begun
begun_few root =
    let a = len-insert nat_list_cmp_total (empty {X = Unit {0}}) root tt in
    let b = len-empty (slice_cmp nat_cmp) (Unit {0}) in
    let c = len-empty (slice_cmp nat_cmp) (List Text) in
    one_found a b c
  where
    one_found : len (insert (empty {X = Unit {0}} {R = slice_cmp nat_cmp}) root tt) ≡ cond (contains_key (empty {X = Unit {0}} {R = slice_cmp nat_cmp}) root) (len (empty {X = Unit {0}} {R = slice_cmp nat_cmp})) (len (empty {X = Unit {0}} {R = slice_cmp nat_cmp}) + 1) → len (empty {X = Unit {0}} {R = slice_cmp nat_cmp}) ≡ 0
        → len (empty {X = List Text} {R = slice_cmp nat_cmp}) ≡ 0 → len (insert (empty {X = Unit {0}} {R = slice_cmp nat_cmp}) root tt) + len (empty {X = List Text} {R = slice_cmp nat_cmp}) ≤ 1024
    one_found a b c =
        let d = a ∙ ap (λ o. cond o (len (empty {X = Unit {0}} {R = slice_cmp nat_cmp})) (len (empty {X = Unit {0}} {R = slice_cmp nat_cmp}) + 1)) (ap is_some (get-empty (slice_cmp nat_cmp) root)) in
        omega (arith, b, c, d)

pub known_begun : (laws : Orders) (files : Files) (root : Text) → IsKnown files root (begun root)
unfolding begun
known_begun laws files root = record {
  is_found = laws.begins root;
  few = begun_few root;
  reads = λ p there. absurd (none (sym (ap is_some (get-empty (slice_cmp nat_cmp) p)) ∙ there));
}
  where
    none : false ≡ true → ⊥
    none e = absurd cc

-- one more path was read
reads_more : (files : Files) (read : Graph) (path : Text) (imports : List Text) → imports ≡ imports_by files path → ((p : Text) → contains_key read p ≡ true → imports_of read p ≡ imports_by files p)
    → (p : Text) → contains_key (insert read path imports) p ≡ true → imports_of (insert read path imports) p ≡ imports_by files p
reads_more files read path imports is before p there =
    let at = get-insert nat_list_cmp_total read path imports p in
    elim (same_name p path) as (λ b. same_name p path ≡ b → get (insert read path imports) p ≡ cond b (Some imports) (get read p) → imports_of (insert read path imports) p ≡ imports_by files p) [
      | true ↦ λ e g. ap (λ o. unwrap_or o []) g ∙ is ∙ ap (imports_by files) (sym (equal_names p path e))
      | false ↦ λ e g. ap (λ o. unwrap_or o []) g ∙ before p (sym (ap is_some g) ∙ there)
    ] refl at

pub limited : (found x : Found) → (settled (within_limit found)).value ≡ Ok x → (found ≡ x) × (found_count found ≤ package_limit)
limited found x e = elim (nat_lt package_limit (found_count found)) as (λ b. nat_lt package_limit (found_count found) ≡ b → (settled (cond b (Err TooMany) (Ok found))).value ≡ Ok x → (found ≡ x) × (found_count found ≤ package_limit)) [
  | true ↦ λ _ h. absurd (never x h)
  | false ↦ λ l h. (found_is found x h, ltb-false package_limit (found_count found) l)
] refl e
  where
    never : (x : Found) → ◌≡◌ {A = Result Found Refusal} (Err TooMany) (Ok x) → ⊥
    never x h = absurd cc

pub known_next : (laws : Orders) (files : Files) (root : Text) (found x : Found) (path : Text) → IsKnown files root found → (discover_one files found path).value ≡ Ok x → IsKnown files root x
unfolding with_imports
known_next laws files root found x path known e =
    let a = bind_ok (packages.find files (folder path)) (λ sources. settled (within_limit (with_imports found path (imports_in path sources)))) x e in
    let b = limited (with_imports found path (imports_in path a.0)) x a.2 in
    let by : imports_in path a.0 ≡ imports_by files path = sym (ap (imports_found path) a.1) in
    let P : Found → Type 0 = IsKnown files root in
    subst P b.0 (record {
      is_found = laws.keeps root found path (imports_in path a.0) known.is_found;
      few = b.1;
      reads = reads_more files found.read path (imports_in path a.0) by known.reads;
    })

discovered : (laws : Orders) (files : Files) (root : Text) (n : ℕ) (found x : Found) → IsKnown files root found → (discover n files found).value ≡ Ok x → IsKnown files root x × (least_unread x ≡ None)
unfolding discover
discovered laws files root zero found x known e = absurd cc
discovered laws files root (suc n) found x known e =
    elim (least_unread found) as (λ o. least_unread found ≡ o → (discover_next (discover n files) files found o).value ≡ Ok x → IsKnown files root x × (least_unread x ≡ None)) [
      | None ↦ λ none h.
          let P : Found → Type 0 = λ f. IsKnown files root f × (least_unread f ≡ None) in
          subst P (found_is found x h) (known, none)
      | Some path ↦ λ _ h.
          let a = bind_ok (discover_one files found path) (discover n files) x h in
          discovered laws files root n a.0 x (known_next laws files root found a.0 path known a.1) a.2
    ] refl e

-- ---- the order

takes : {K : Type 0} (eq : K → K → Bool) (imports : K → List K) (n : ℕ) (ks taken : List K) → length (order_from eq imports n ks taken) ≤ n + length taken
takes eq imports zero ks taken = omega arith
takes {K = K} eq imports (suc n) ks taken =
    elim (find (is_ready eq imports taken) ks) as (λ o. length (and_then (order_from eq imports n ks) taken o) ≤ suc n + length taken) [
      | None ↦ omega arith
      | Some p ↦
          let more = takes eq imports n ks (taken ++ p ∷ []) in
          let long : length (taken ++ p ∷ []) ≡ length taken + 1 = length-append taken (p ∷ []) in
          omega (arith, more, long)
    ]

few_ordered : (graph : Graph) → length (orders.build_order graph) ≤ len graph
unfolding orders.build_order
few_ordered graph = let h = takes bytes_eq (imports_of graph) (len graph) (keys graph) [] in omega (arith, h)

each_has : (so_far imports : List Text) → ((q : Text) → has bytes_eq imports q ≡ true → has bytes_eq so_far q ≡ true) → AllByRecursion (λ q. has bytes_eq so_far q ≡ true) imports
each_has so_far [] h = tt
each_has so_far (p ∷ ps) h = (
  h p (ap (λ b. b || has bytes_eq ps p) (nat_list_eq_equiv.refl p)),
  each_has so_far ps (λ q k. h q (ap (λ b. bytes_eq q p || b) k ∙ or_true (bytes_eq q p))),
)
  where
    or_true : (b : Bool) → (b || true) ≡ true
    or_true true = refl
    or_true false = refl

in_order : (laws : Orders) (files : Files) (graph : Graph) → ((p : Text) → contains_key graph p ≡ true → imports_of graph p ≡ imports_by files p) → (so_far rest : List Text) → orders.build_order graph ≡ so_far ++ rest → IsInOrder files so_far rest
in_order laws files graph reads so_far [] e = tt
in_order laws files graph reads so_far (path ∷ rest) e =
    let t = laws.imports_first graph so_far rest path e in
    let P : List Text → Type 0 = AllByRecursion (λ q. has bytes_eq so_far q ≡ true) in
    (t.1, subst P (reads path t.0) (each_has so_far (imports_of graph path) t.2), in_order laws files graph reads (so_far ++ path ∷ []) rest (e ∙ sym (append_assoc so_far (path ∷ []) rest)))

-- What holds of the order of a build.
pub record IsOrderOf (files : Files) (root : Text) (order : List Text) : Type 0 where
  pub sorted : IsInOrder files [] order
  pub few : length order ≤ package_limit
  pub has_root : has bytes_eq order root ≡ true

order_is : (a : Arrangement) (order : List Text) → order_or a ≡ Ok order → a ≡ paths order
order_is (cycle p) order e = absurd cc
order_is (paths ps) order e = ap paths (texts_are ps order e)
  where
    texts_are : (x y : List Text) → ◌≡◌ {A = Result (List Text) Refusal} (Ok x) (Ok y) → x ≡ y
    texts_are x y h = cc

settled_ok : (r : Result (List Text) Refusal) (order : List Text) → (settled r).value ≡ Ok order → r ≡ Ok order
settled_ok (Ok x) order e = e
settled_ok (Err r) order e = absurd cc

pub order_of_build : (laws : Orders) (files : Files) (root : Text) (order : List Text) → (build_order files root).value ≡ Ok order → IsOrderOf files root order
order_of_build laws files root order e =
    let a = bind_ok (discover (suc package_limit) files (begun root)) (λ found. settled (ordered found.read)) order e in
    let d = discovered laws files root (suc package_limit) (begun root) a.0 (known_begun laws files root) a.1 in
    let graph = a.0.read in
    let closed = laws.closes root a.0 d.0.is_found d.1 in
    let acyclic = (laws.acyclic graph order).0 (order_is (arranged graph) order (settled_ok (ordered graph) order a.2)) in
    let P : List Text → Type 0 = IsOrderOf files root in
    subst P (sym acyclic.0) (record {
      sorted = in_order laws files graph d.0.reads [] (orders.build_order graph) refl;
      few = (let h = few_ordered graph in let k = d.0.few in omega (arith, h, k));
      has_root = laws.all graph closed.1 acyclic.1 root closed.0;
    })
