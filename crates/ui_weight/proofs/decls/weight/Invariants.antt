use Rattle.std.proofs.Common.{◌≡◌, take}
use Rattle.ui_types.specs.Decls.{shown_decls}
use Rattle.ui_weight.specs.Weight.{weight, counted}
use Rattle.ui_weight.specs.Parts.{IsMemo}
use Rattle.ui_weight.proofs.decls.weight.Given as goal

abbrev pub invariant-loop-name : goal.invariant-loop-name
invariant-loop-name l = record {
  so_far : l.count ≡ counted (weight (shown_decls l.table (take l.name-index l.decls)));
  memo : IsMemo l.table l.memo;
}
