use Rattle.std.specs.Prelude.{◌<◌, Some, length, map, nat_eq, string_bytes}
use Rattle.std.proofs.Common.{◌∙◌, ap, sym, subst, arith}
use Rattle.ui_order.specs.Steps.{has}
use Rattle.ui_order.specs.Tables.{graph_of, texts}
use Rattle.ui_order.specs.Numbers.{number_order, IsFirstOnCycle}
use Rattle.ui_order.specs.Numbered.{names, path_at}
use Rattle.ui_order.proofs.ArrangeLemmas.{linked_slice, count_named, order_small, cycle_is, paths_are}
use Rattle.ui_order.proofs.order.arrange.Goals as goal

pub in_order-requires : goal.in_order-requires
in_order-requires c = linked_slice (graph_of c.args.read.now.entries) (names c.in_ok-paths.paths) c.in_ok-paths.ensures c.in_ok-links.links.items c.in_ok-links.ensures c.as_slice.result.now c.as_slice.ensures.value

pub first_on_cycle-requires : goal.first_on_cycle-requires
first_on_cycle-requires c = linked_slice (graph_of c.args.read.now.entries) (names c.in_ok-paths.paths) c.in_ok-paths.ensures c.in_ok-links.links.items c.in_ok-links.ensures c.as_slice-2.result.now c.as_slice-2.ensures.value

pub path_of-requires : goal.path_of-requires
path_of-requires c =
    let first : IsFirstOnCycle c.as_slice-2.result.now (Some c.in-Some.first) = subst (λ r. IsFirstOnCycle c.as_slice-2.result.now r) c.in-Some.is c.in_ok-first.ensures in
    let count = count_named (graph_of c.args.read.now.entries) (names c.in_ok-paths.paths) c.in_ok-paths.ensures c.in_ok-links.links.items c.in_ok-links.ensures in
    let low : c.in-Some.first < length c.as_slice-2.result.now = first.0 in
    let size = ap length c.as_slice-2.ensures.value in
    omega arith

pub returns-in-Some : goal.returns-in-Some
returns-in-Some c =
    cycle_is (graph_of c.args.read.now.entries) (names c.in_ok-paths.paths) c.in_ok-paths.ensures c.in_ok-links.links.items c.in_ok-links.ensures c.as_slice-2.result.now c.in-Some.first (string_bytes c.in_ok-path_of-in-Some.field-0)
    c.as_slice-2.ensures.value (subst (λ r. IsFirstOnCycle c.as_slice-2.result.now r) c.in-Some.is c.in_ok-first.ensures) c.in_ok-path_of-in-Some.ensures

pub paths_of-requires : goal.paths_of-requires
paths_of-requires c = λ k h.
    let low : k < length c.as_slice.result.now = order_small c.as_slice.result.now k (ap (λ xs. has nat_eq xs k) (sym (c.as_slice-in-None.ensures.value ∙ c.in_ok-order.ensures)) ∙ h) in
    let count = count_named (graph_of c.args.read.now.entries) (names c.in_ok-paths.paths) c.in_ok-paths.ensures c.in_ok-links.links.items c.in_ok-links.ensures in
    let size = ap length c.as_slice.ensures.value in
    omega arith

pub returns : goal.returns
returns c =
    paths_are (graph_of c.args.read.now.entries) (names c.in_ok-paths.paths) c.in_ok-paths.ensures c.in_ok-links.links.items c.in_ok-links.ensures c.as_slice-2.result.now c.in_ok-order.order.items (texts c.in_ok-paths_of-in-None.field-0)
    c.as_slice-2.ensures.value (subst (λ r. IsFirstOnCycle c.as_slice-2.result.now r) c.in-None.is c.in_ok-first.ensures) (c.in_ok-order.ensures ∙ ap number_order c.as_slice.ensures.value)
    (c.in_ok-paths_of-in-None.ensures ∙ ap (map (path_at (names c.in_ok-paths.paths))) c.as_slice-in-None.ensures.value)
