use Rattle.std.proofs.Common.{◌≡◌, ◌^◌, ◌<◌, [], drop}
use Rattle.ui_base.specs.declared.fault.FaultKind.TheVariants.{ConstTooBig}
use Rattle.ui_forms.specs.Scope.{selection_of}
use Rattle.ui_forms.specs.Verdict.{constant_value, fault_at, sum_of, term_value}
use Rattle.ui_forms.proofs.values.constant_value.Given as goal

abbrev pub invariant-loop-term : goal.invariant-loop-term
invariant-loop-term l =
    (l.sum < 2 ^ 127)
    × (sum_of (term_value (selection_of l.scope) l.file l.before.decls) (fault_at l.file ConstTooBig l.first []) l.sum (drop l.term-index l.term-items) ≡ constant_value (selection_of l.scope) l.file l.before.decls l.constant)
