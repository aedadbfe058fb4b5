use Rattle.std.specs.Prelude.{map, string_bytes, bytes_eq}
use Rattle.std.proofs.Common.{◌∙◌, ap, sym, subst}
use Rattle.ui_order.specs.Steps.{has}
use Rattle.ui_order.specs.Numbered.{names}
use Rattle.ui_order.proofs.NameLemmas.{Linked, linked_none, linked_more, linked_asked, linked_all}
use Rattle.ui_order.proofs.table.links_of.Goals as goal

pub loop-path-init : goal.loop-path-init
loop-path-init c = subst (λ vs. Linked c.args.read.now.entries (names c.args.paths.now) c.into_iter-path-iterator.result vs) (sym c.new-links.ensures.items)
    (linked_none c.args.read.now.entries (names c.args.paths.now) c.into_iter-path-iterator.result (c.into_iter-path-iterator.ensures.into_iter_gives ∙ c.iter-path-items.ensures.rest))

pub numbers_of-requires : goal.numbers_of-requires
numbers_of-requires c = λ q h.
    linked_asked c.args.read.now.entries (names c.args.paths.now) c.loop-path._path-iterator c.next.new.self c.in-Some._path.now c.in-Some.imports.now c.loop-path.links.items c.loop-path.invariant c.in-Some.ensures.steps
    c.iter-path-items.ensures.ordered c.requires.closed c.requires.paths q
    (ap (λ xs. has bytes_eq (map string_bytes xs) q) (sym c.as_slice.ensures.value) ∙ h)

pub loop-path-preserved : goal.loop-path-preserved
loop-path-preserved c = subst (λ vs. Linked c.args.read.now.entries (names c.args.paths.now) c.next.new.self vs) (sym c.in_ok-push.ensures.items)
    (linked_more c.args.read.now.entries (names c.args.paths.now) c.loop-path._path-iterator c.next.new.self c.in-Some._path.now c.in-Some.imports.now c.loop-path.links.items c.in_ok-numbers_of.field-0 c.loop-path.invariant c.in-Some.ensures.steps
    c.iter-path-items.ensures.ordered (c.in_ok-numbers_of.ensures.paths ∙ ap (map string_bytes) c.as_slice.ensures.value) c.in_ok-numbers_of.ensures.small)

pub returns : goal.returns
returns c = linked_all c.args.read.now.entries (names c.args.paths.now) c.loop-path._path-iterator c.loop-path.links.items c.loop-path.invariant c.in-None.ensures.steps.0 c.iter-path-items.ensures.ordered c.requires.paths
