use Rattle.std.proofs.Common.{ap, ◌∙◌}
use Rattle.ui_exports.specs.Adding.{with_decls}
use Rattle.ui_forms.specs.Scope.{selection_of}
use Rattle.ui_forms.proofs.VerdictLemmas.{declared_more, declared_stops}
use Rattle.ui_forms.proofs.verdict.declare_all.Goals as goal

pub loop-constant-preserved : goal.loop-constant-preserved
loop-constant-preserved c = (
  c.in-Ok.ensures.stays ∙ ap (λ x. with_decls x c.declare.new.exported.decls) c.loop-constant.invariant.0,
  declared_more (selection_of c.args.scope.now) c.args.file.now c.loop-constant.exported.decls c.args.constants.now c.loop-constant.constant-index c.constant-item.result c.loop-constant-test.true c.constant-item.is _ c.loop-constant.invariant.1 c.declare.new.exported.decls c.in-Ok.ensures.accepted,
)

pub returns-in-Err-clause-refused : goal.returns-in-Err-clause-refused
returns-in-Err-clause-refused c =
    declared_stops (selection_of c.args.scope.now) c.args.file.now c.loop-constant.exported.decls c.args.constants.now c.loop-constant.constant-index c.constant-item.result c.loop-constant-test.true c.constant-item.is _ c.loop-constant.invariant.1 c.in-Err.e c.in-Err.ensures.refused
