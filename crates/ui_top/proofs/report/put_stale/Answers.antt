use Rattle.std.proofs.Common.{◌++◌}
use Rattle.std.specs.Prelude.{codes}
use Rattle.hex.specs.Hex.{encode_lower}
use Rattle.ui_top.proofs.Saying.{on_err, first_fails, second_fails, third_fails}
use Rattle.ui_top.proofs.report.put_stale.Goals as goal

pub returns-in_err-put_three-clause-err : goal.returns-in_err-put_three-clause-err
returns-in_err-put_three-clause-err g c =
    on_err _ (first_fails _ _ (codes "stale: " ++ c.args.path.now ++ codes " ") (encode_lower c.args.first ++ codes " " ++ encode_lower c.args.second) (codes "\n") c.in_err-put_three.ensures.err)

pub returns-in_err-put_three-2-clause-err : goal.returns-in_err-put_three-2-clause-err
returns-in_err-put_three-2-clause-err g c =
    on_err _ (second_fails _ _ _ (codes "stale: " ++ c.args.path.now ++ codes " ") (encode_lower c.args.first ++ codes " " ++ encode_lower c.args.second) (codes "\n") c.in_ok-put_three.ensures.ok
    (rw (c.hex_of-first.ensures, c.hex_of-second.ensures) at c.in_err-put_three-2.ensures.err))

pub returns-in_err-put_all-clause-err : goal.returns-in_err-put_all-clause-err
returns-in_err-put_all-clause-err g c =
    on_err _ (third_fails _ _ _ _ (codes "stale: " ++ c.args.path.now ++ codes " ") (encode_lower c.args.first ++ codes " " ++ encode_lower c.args.second) (codes "\n") c.in_ok-put_three.ensures.ok
    (rw (c.hex_of-first.ensures, c.hex_of-second.ensures) at c.in_ok-put_three-2.ensures.ok) c.in_err-put_all.ensures.err)
