use Rattle.std.specs.Prelude.{codes}
use Rattle.ui_top.proofs.Saying.{on_err, first_fails, second_fails, third_fails, all_written}
use Rattle.ui_top.proofs.report.put_mismatch.Goals as goal

pub returns-in_err-put_all-clause-err : goal.returns-in_err-put_all-clause-err
returns-in_err-put_all-clause-err g c = on_err _ (first_fails _ _ (codes "bad file: ") c.args.name.now _ c.in_err-put_all.ensures.err)

pub returns-clause-ok : goal.returns-clause-ok
returns-clause-ok g c = all_written _ _ _ _ _ _ _ c.in_ok-put_all.ensures.ok c.in_ok-put_all-2.ensures.ok (rw (c.hex_of-kept.ensures, c.hex_of-computed.ensures) at c.in_ok-put_fingerprints.ensures.ok)

pub returns-in_err-put_all-2-clause-err : goal.returns-in_err-put_all-2-clause-err
returns-in_err-put_all-2-clause-err g c = on_err _ (second_fails _ _ _ (codes "bad file: ") c.args.name.now _ c.in_ok-put_all.ensures.ok c.in_err-put_all-2.ensures.err)

pub returns-in_err-put_fingerprints-clause-err : goal.returns-in_err-put_fingerprints-clause-err
returns-in_err-put_fingerprints-clause-err g c =
    on_err _ (third_fails _ _ _ _ (codes "bad file: ") c.args.name.now _ c.in_ok-put_all.ensures.ok c.in_ok-put_all-2.ensures.ok (rw (c.hex_of-kept.ensures, c.hex_of-computed.ensures) at c.in_err-put_fingerprints.ensures.err))
