-- The laws of cycles and of the build order.
use Rattle.std.specs.Prelude.{◌≡◌, suc, true, ◌||◌, not, List, [], ◌∷◌, length, map, Option, Some, None, find, is_some, unwrap_or, bytes_eq, refl}
use Rattle.std.proofs.Common.{◌∙◌, ap, sym, subst, arith}
use Rattle.std.specs.Ordering.{nat_cmp, eq_by_cmp}
use Rattle.std.specs.List.{list_any}
use Rattle.std.specs.Cmp.Lexicographic.{slice_cmp}
use Rattle.std.specs.FinMap.{get, contains_key, len, keys, entries, len-entries, contains_key-keys}
use Rattle.std.proofs.lemmas.Map.Text.{is_eq-slice_cmp}
use Rattle.std.proofs.lemmas.Slice.Eq.{bytes_eq-Decides}
use Rattle.std.proofs.lemmas.Bool.{false≢true, true≢false, false_from_ne_true}
use Rattle.ui_order.specs.Steps.{has, is_ready, reaches}
use Rattle.ui_order.specs.StepLaws.{count_bound, find-none, none_found, leads_where_reached, reached_where_leads, first_import}
use Rattle.ui_order.specs.OrderFrom.{IsOrder, order_from-IsOrder, order_before, order_acyclic, settles, all_taken}
use Rattle.ui_order.specs.Found.{Text, Graph, imports_of}
use Rattle.ui_order.specs.Order.{build_order, on_cycle, IsOnCycle, least_on_cycle, paths, cycle_or, arranged}
use Rattle.ui_order.specs.Laws.{ComputesCycles, TakesImportsFirst, TakesAll, TakesNoCycle, ArrangesAcyclic}

same_test : (xs : List Text) (q : Text) → list_any (eq_by_cmp (slice_cmp nat_cmp) q) xs ≡ has bytes_eq xs q
same_test [] q = refl
same_test (x ∷ xs) q = λ i. is_eq-slice_cmp q x i || same_test xs q i

pub contains-has : (graph : Graph) (q : Text) → contains_key graph q ≡ has bytes_eq (keys graph) q
contains-has graph q = contains_key-keys graph q ∙ same_test (keys graph) q

length-map : {X Y : Type 0} (f : X → Y) (xs : List X) → length (map f xs) ≡ length xs
length-map f [] = refl
length-map f (x ∷ xs) = ap suc (length-map f xs)

pub len-keys : (graph : Graph) → len graph ≡ length (keys graph)
len-keys graph = len-entries graph ∙ sym (length-map (λ e. e.0) (entries graph))

-- whoever has imports is a key
pub grounded : (graph : Graph) (p q : Text) → has bytes_eq (imports_of graph p) q ≡ true → has bytes_eq (keys graph) p ≡ true
grounded graph p q h = sym (contains-has graph p) ∙ (elim (get graph p) as (λ o. has bytes_eq (unwrap_or o []) q ≡ true → is_some o ≡ true) [ None ↦ λ e. absurd (false≢true e) | Some v ↦ λ e. refl ] h)

pub computes_cycles : ComputesCycles
unfolding on_cycle
computes_cycles graph path = (
  λ h. leads_where_reached bytes_eq bytes_eq-Decides (imports_of graph) path (len graph) path h,
  λ l. subst (λ n. reaches bytes_eq (imports_of graph) n (imports_of graph path) path ≡ true) (sym (len-keys graph))
      (reached_where_leads bytes_eq bytes_eq-Decides (imports_of graph) (keys graph) (grounded graph) path path l
      (first_import bytes_eq bytes_eq-Decides (imports_of graph) (keys graph) (grounded graph) path path l)),
)

pub build_order-IsOrder : (graph : Graph) → IsOrder bytes_eq bytes_eq-Decides (imports_of graph) (keys graph) [] (build_order graph)
unfolding build_order
build_order-IsOrder graph = order_from-IsOrder bytes_eq bytes_eq-Decides (imports_of graph) (keys graph) (len graph) [] tt

pub takes_imports_first : TakesImportsFirst
takes_imports_first graph before after path e =
    let n = order_before bytes_eq bytes_eq-Decides (imports_of graph) (keys graph) (build_order graph) before path after (build_order-IsOrder graph) e in
    (contains-has graph path ∙ n.key, n.new, n.imported)

pub takes_no_cycle : TakesNoCycle
takes_no_cycle graph path l = order_acyclic bytes_eq bytes_eq-Decides (imports_of graph) (keys graph) (build_order graph) path (build_order-IsOrder graph) l

nothing_ready : (graph : Graph) → find (is_ready bytes_eq (imports_of graph) (build_order graph)) (keys graph) ≡ None
unfolding build_order
nothing_ready graph =
    let few = count_bound (λ k. not (has bytes_eq [] k)) (keys graph) in
    let all = len-keys graph in
    settles bytes_eq bytes_eq-Decides (imports_of graph) (keys graph) (len graph) [] (omega arith)

pub takes_all : TakesAll
takes_all graph closed acyclic path k =
    all_taken bytes_eq bytes_eq-Decides (imports_of graph) (keys graph) (grounded graph)
    (λ p q h. sym (contains-has graph q) ∙ closed p q h) acyclic (build_order graph) path (nothing_ready graph) (sym (contains-has graph path) ∙ k)

no_cycle_found : (graph : Graph) → least_on_cycle graph ≡ None → (p : Text) → IsOnCycle graph p → ⊥
unfolding least_on_cycle
no_cycle_found graph e p l =
    let key = first_import bytes_eq bytes_eq-Decides (imports_of graph) (keys graph) (grounded graph) p p l in
    true≢false (sym ((computes_cycles graph p).1 l) ∙ find-none bytes_eq bytes_eq-Decides (on_cycle graph) (keys graph) p e key)

pub no_cycle_to_find : (graph : Graph) → ((p : Text) → IsOnCycle graph p → ⊥) → least_on_cycle graph ≡ None
unfolding least_on_cycle
no_cycle_to_find graph acyclic = none_found bytes_eq bytes_eq-Decides (on_cycle graph) (keys graph) (λ q k. false_from_ne_true (on_cycle graph q) (λ h. acyclic q ((computes_cycles graph q).0 h)))

cycle_or-paths : (order : List Text) (o : Option Text) (xs : List Text) → cycle_or order o ≡ paths xs → (xs ≡ order) × (o ≡ None)
cycle_or-paths order None xs e = (cc, refl)
cycle_or-paths order (Some p) xs e = cc

pub arranges_acyclic : ArrangesAcyclic
unfolding arranged
arranges_acyclic graph order = (
  λ e. let r = cycle_or-paths (build_order graph) (least_on_cycle graph) order e in (r.0, no_cycle_found graph r.1),
  λ h. ap (cycle_or (build_order graph)) (no_cycle_to_find graph h.1) ∙ ap paths (sym h.0),
)
