use Rattle.std.proofs.Common.{◌≡◌, drop}
use Rattle.ui_types.specs.Table.{Grows}
use Rattle.ui_sets.proofs.Lacking.{lacking_from}
use Rattle.ui_sets.proofs.implement.has_methods.Given as goal

abbrev pub invariant-loop-method : goal.invariant-loop-method
invariant-loop-method l = Grows l.initial.table l.table ×
    (lacking_from l.initial.table l.site (drop l.method-index l.methods)
    ≡ lacking_from l.initial.table l.site l.methods)
