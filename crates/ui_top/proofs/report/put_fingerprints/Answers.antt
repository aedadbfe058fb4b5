use Rattle.std.proofs.Common.{◌++◌}
use Rattle.std.specs.Prelude.{codes}
use Rattle.ui_top.proofs.Saying.{on_err, first_fails, second_fails, third_fails}
use Rattle.ui_top.proofs.report.put_fingerprints.Goals as goal

pub returns-in_err-put_three-clause-err : goal.returns-in_err-put_three-clause-err
returns-in_err-put_three-clause-err g c =
    on_err _ (first_fails _ _ (codes ": Fingerprint kept " ++ c.args.kept.now ++ codes " computed ") c.args.computed.now (codes "\n") c.in_err-put_three.ensures.err)

pub returns-in_err-put_all-clause-err : goal.returns-in_err-put_all-clause-err
returns-in_err-put_all-clause-err g c =
    on_err _ (second_fails _ _ _ (codes ": Fingerprint kept " ++ c.args.kept.now ++ codes " computed ") c.args.computed.now (codes "\n") c.in_ok-put_three.ensures.ok c.in_err-put_all.ensures.err)

pub returns-in_err-put_all-2-clause-err : goal.returns-in_err-put_all-2-clause-err
returns-in_err-put_all-2-clause-err g c =
    on_err _ (third_fails _ _ _ _ (codes ": Fingerprint kept " ++ c.args.kept.now ++ codes " computed ") c.args.computed.now (codes "\n") c.in_ok-put_three.ensures.ok c.in_ok-put_all.ensures.ok c.in_err-put_all-2.ensures.err)
