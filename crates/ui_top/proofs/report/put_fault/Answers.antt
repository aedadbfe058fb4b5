use Rattle.ui_top.specs.Outcome.{place, name_end}
use Rattle.ui_top.proofs.Saying.{on_err, first_fails, second_fails, third_fails}
use Rattle.ui_top.proofs.report.put_fault.Goals as goal

pub returns-in_err-put_place-clause-err : goal.returns-in_err-put_place-clause-err
returns-in_err-put_place-clause-err g c = on_err _ (first_fails _ _ (place c.args.pos.now) c.args.word.now (name_end c.args.name.now) c.in_err-put_place.ensures.err)

pub returns-in_err-put_all-clause-err : goal.returns-in_err-put_all-clause-err
returns-in_err-put_all-clause-err g c = on_err _ (second_fails _ _ _ (place c.args.pos.now) c.args.word.now (name_end c.args.name.now) c.in_ok-put_place.ensures.ok c.in_err-put_all.ensures.err)

pub returns-in_err-put_name-clause-err : goal.returns-in_err-put_name-clause-err
returns-in_err-put_name-clause-err g c = on_err _ (third_fails _ _ _ _ (place c.args.pos.now) c.args.word.now (name_end c.args.name.now) c.in_ok-put_place.ensures.ok c.in_ok-put_all.ensures.ok c.in_err-put_name.ensures.err)
