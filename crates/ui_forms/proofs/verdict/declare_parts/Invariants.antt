use Rattle.std.proofs.Common.{◌≡◌, drop}
use Rattle.ui_exports.specs.Adding.{with_decls}
use Rattle.ui_forms.specs.Verdict.{environment_of, parts_from}
use Rattle.ui_forms.proofs.verdict.declare_parts.Given as goal

abbrev pub invariant-loop-part : goal.invariant-loop-part
invariant-loop-part l =
    (l.exported ≡ with_decls l.initial.exported l.exported.decls)
    × (parts_from (environment_of l.imports) l.exported.decls (drop l.part-index l.parts) ≡ parts_from (environment_of l.imports) l.initial.exported.decls l.parts)
