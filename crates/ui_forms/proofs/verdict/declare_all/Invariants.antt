use Rattle.std.proofs.Common.{◌≡◌, drop}
use Rattle.ui_exports.specs.Adding.{with_decls}
use Rattle.ui_forms.specs.Scope.{selection_of}
use Rattle.ui_forms.specs.Verdict.{declared_from}
use Rattle.ui_forms.proofs.verdict.declare_all.Given as goal

abbrev pub invariant-loop-constant : goal.invariant-loop-constant
invariant-loop-constant l =
    (l.exported ≡ with_decls l.initial.exported l.exported.decls)
    × (declared_from (selection_of l.scope) l.file l.exported.decls (drop l.constant-index l.constants) ≡ declared_from (selection_of l.scope) l.file l.initial.exported.decls l.constants)
