use Rattle.std.proofs.Common.{sym, ◌∙◌}
use Rattle.std.proofs.lemmas.Result.{err_from_is_err_and}
use Rattle.ui_strpos.proofs.TableEntries.{step, ends, is_done}
use Rattle.ui_strpos.proofs.input.ElementIn.entries.Goals as goal

pub returns-in_err-entry : goal.returns-in_err-entry
returns-in_err-entry c = let p = err_from_is_err_and c.from_residual.result c.from_residual.ensures.1 in rw (p.1, p.2) (ends _ c.args.count c.entries.counter c.entries.self _ c.entries-test.true c.in_err-entry.ensures c.entries.invariant)

pub entries-preserved : goal.entries-preserved
entries-preserved c = sym (step c.args.count c.entries.counter c.entries.self c.entry.new.self c.entries-test.true c.in_ok-entry.ensures) ∙ c.entries.invariant

pub returns : goal.returns
returns c = is_done c.args.count c.entries.counter c.entries.self _ c.entries-test.false c.entries.invariant
