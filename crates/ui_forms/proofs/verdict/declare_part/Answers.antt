use Rattle.std.proofs.Common.{subst}
use Rattle.std.specs.Result.{IfErr}
use Rattle.ui_forms.specs.Verdict.{IsRefusal}
use Rattle.ui_forms.proofs.VerdictLemmas.{part_declared}
use Rattle.ui_forms.proofs.verdict.declare_part.Goals as goal

pub returns-clause-refused : goal.returns-clause-refused
returns-clause-refused c =
    subst (λ v. IfErr c.declare_all.result (λ e. IsRefusal v e))
    (part_declared c.args.part.now c.args.imports.now c.args.exported.now.decls c.as_slice.result.now c.bytes.result.now c.as_slice-2.result.now c.in_ok-scope.scope c.in_ok-scope.ensures c.as_slice.ensures c.bytes.ensures c.as_slice-2.ensures)
    c.declare_all.ensures.refused
