use Rattle.std.proofs.Common.{◌∙◌, sym, map}
use Rattle.ui_exports.specs.Linked.{below}
use Rattle.ui_build.proofs.loading.record_of.Goals as goal

pub returns-in-Some-clause-listed : goal.returns-in-Some-clause-listed
returns-in-Some-clause-listed c =
    let is = rw c.in-Some.is at c.branch.view_is in
    c.lists_are_lists.ensures c.args.frame.now (record { export = c.in-Some.linked.package; below = map below c.in-Some.linked.below.items }) (sym c.in_ok-linked.ensures ∙ sym is)
