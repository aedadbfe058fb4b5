use Rattle.std.specs.Prelude.{map, string_bytes}
use Rattle.std.proofs.Common.{◌∙◌, ap}
use Rattle.ui_order.specs.Numbered.{names}
use Rattle.ui_order.proofs.NumberLemmas.{has-get_or}
use Rattle.ui_order.proofs.NameLemmas.{texts_more}
use Rattle.ui_order.proofs.order.paths_of.Goals as goal

pub path_of-requires : goal.path_of-requires
path_of-requires c = c.requires _ (has-get_or c.args.numbers.now c.loop-number.number-index 0 c.loop-number-test.true)

pub loop-number-preserved : goal.loop-number-preserved
loop-number-preserved c =
    ap (map string_bytes) c.in_ok-push.ensures.items
    ∙ texts_more (names c.args.paths.now) c.loop-number.found.items c.in_ok-path_of.field-0 c.args.numbers.now c.loop-number.number-index c.loop-number-test.true c.loop-number.invariant c.in_ok-path_of.ensures
