use Rattle.ui_top.proofs.Saying.{on_err, first_fails, second_fails}
use Rattle.ui_top.proofs.report.put_three.Goals as goal

pub returns-in_err-put_all-clause-err : goal.returns-in_err-put_all-clause-err
returns-in_err-put_all-clause-err g c = on_err _ (first_fails _ _ c.args.label.now c.args.name.now c.args.end.now c.in_err-put_all.ensures.err)

pub returns-in_err-put_all-2-clause-err : goal.returns-in_err-put_all-2-clause-err
returns-in_err-put_all-2-clause-err g c = on_err _ (second_fails _ _ _ c.args.label.now c.args.name.now c.args.end.now c.in_ok-put_all.ensures.ok c.in_err-put_all-2.ensures.err)
