use Rattle.std.proofs.Common.{◌++◌}
use Rattle.std.specs.Prelude.{codes, decimal}
use Rattle.ui_store.specs.Sinks.{partly_first, partly_next}
use Rattle.ui_top.proofs.Saying.{on_err}
use Rattle.ui_top.proofs.report.put_place.Goals as goal

pub returns-in_err-put_three-clause-err : goal.returns-in_err-put_three-clause-err
returns-in_err-put_three-clause-err g c =
    let pos = c.args.pos.now in
    on_err _ (partly_first _ _ (pos.file ++ codes ":" ++ decimal pos.line) (codes ":" ++ decimal pos.col ++ codes ": ") (rw (c.bytes.ensures, c.as_bytes.ensures.value, c.format.ensures.text) at c.in_err-put_three.ensures.err))

pub returns-in_err-put_three-2-clause-err : goal.returns-in_err-put_three-2-clause-err
returns-in_err-put_three-2-clause-err g c =
    let pos = c.args.pos.now in
    on_err _ (partly_next _ _ _ (pos.file ++ codes ":" ++ decimal pos.line) (codes ":" ++ decimal pos.col ++ codes ": ") (rw (c.bytes.ensures, c.as_bytes.ensures.value, c.format.ensures.text) at c.in_ok-put_three.ensures.ok)
    (rw (c.as_bytes-2.ensures.value, c.format-2.ensures.text) at c.in_err-put_three-2.ensures.err))
