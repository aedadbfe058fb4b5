use Rattle.std.proofs.Common.{◌≡◌, ◌+◌, ◌*◌, take}
use Rattle.ui_types.specs.Ty.{size, sizes}
use Rattle.ui_types.specs.Table.{tree, parts}
use Rattle.ui_weight.specs.Weight.{counted}
use Rattle.ui_weight.specs.Parts.{texts_by, IsMemo}
use Rattle.ui_weight.proofs.texts.+texts.Given as goal

abbrev pub decreases-texts_in : goal.decreases-texts_in
decreases-texts_in l = 3 * size (tree l.table.now l.t) + 1

abbrev pub decreases-counted_anew : goal.decreases-counted_anew
decreases-counted_anew l = 3 * size (tree l.table.now l.t)

abbrev pub decreases-texts_of_all : goal.decreases-texts_of_all
decreases-texts_of_all l = 3 * sizes (parts l.table.now l.ids.now) + 2

abbrev pub invariant-texts_of_all-loop-id : goal.invariant-texts_of_all-loop-id
invariant-texts_of_all-loop-id l = record {
  so_far : l.count ≡ counted (texts_by l.table (take l.id-index l.ids));
  memo : IsMemo l.table l.memo;
}
