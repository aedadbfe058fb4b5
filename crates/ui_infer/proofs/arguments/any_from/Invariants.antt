use Rattle.std.proofs.Common.{◌≡◌, drop, nat_le}
use Rattle.std.specs.List.{list_any}
use Rattle.ui_types.specs.Table.{Table}
use Rattle.ui_infer.specs.Shown.{shown_bindings}
use Rattle.ui_infer.proofs.arguments.any_from.Given as goal

abbrev pub invariant-loop-binding : goal.invariant-loop-binding
invariant-loop-binding l = (table : Table)
    → list_any (λ b. nat_le l.given b.param) (shown_bindings table l.bindings)
    ≡ list_any (λ b. nat_le l.given b.param) (shown_bindings table
    (drop l.binding-index l.bindings))
