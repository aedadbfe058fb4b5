use Rattle.std.proofs.Common.{◌≡◌, drop}
use Rattle.ui_types.specs.Table.{Table}
use Rattle.ui_infer.specs.Bindings.{first_of}
use Rattle.ui_infer.specs.Shown.{shown_bindings}
use Rattle.ui_infer.proofs.binding.first_of.Given as goal

abbrev pub invariant-loop-binding : goal.invariant-loop-binding
invariant-loop-binding l = (table : Table)
    → first_of l.k (shown_bindings table l.bindings)
    ≡ first_of l.k (shown_bindings table (drop l.binding-index l.bindings))
