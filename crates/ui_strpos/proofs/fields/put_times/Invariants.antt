use Rattle.std.proofs.Common.{◌≡◌, take}
use Rattle.std.specs.List.{flat_map}
use Rattle.ui_strpos.specs.Items.{written}
use Rattle.ui_strpos.proofs.fields.put_times.Given as goal

abbrev pub invariant-loop-item : goal.invariant-loop-item
invariant-loop-item g l = l.out ≡ written l.fn.out (flat_map g.T.Fields.form.items (take l.item-index l.list))
