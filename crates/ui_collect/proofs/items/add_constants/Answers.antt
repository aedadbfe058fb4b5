use Rattle.std.proofs.Common.{sym, subst, List}
use Rattle.std.specs.Prelude.{OnOk}
use Rattle.ui_collect.specs.Items as shown
use Rattle.ui_collect.specs.Views.{Adds, maybe_at}
use Rattle.ui_collect.proofs.ItemLemmas.{counted, uncounted}
use Rattle.ui_collect.proofs.items.add_constants.Goals as goal

pub returns-then-names-values : goal.returns-then-names-values
returns-then-names-values c =
    let P : List shown.Item → Type 0 = λ x. OnOk c.add_valued.result (Adds c.args.found.now.items
    c.add_valued.new.found.items x) in
    subst P (sym (counted c.args.file c.args.iota (maybe_at c.args.of) c.args.names.now
    c.args.values.now c.if-names-values.true)) c.add_valued.ensures

pub returns-else-names-values : goal.returns-else-names-values
returns-else-names-values c =
    let P : List shown.Item → Type 0 = λ x. OnOk c.add_miscounted.result (Adds
    c.args.found.now.items c.add_miscounted.new.found.items x) in
    subst P (sym (uncounted c.args.file c.args.iota (maybe_at c.args.of) c.args.names.now
    c.args.values.now c.if-names-values.false)) c.add_miscounted.ensures
