use Rattle.std.proofs.Common.{◌∙◌, ap, rules}
use Rattle.std.proofs.lemmas.Result.{err_from_is_err_and}
use Rattle.ui_strpos.specs.EntryLists.{last_of, step, ends, is_done, known_push}
use Rattle.ui_strpos.proofs.entries.so_many.Goals as goal

pub returns-in_err-entry-clause-read : goal.returns-in_err-entry-clause-read
returns-in_err-entry-clause-read g c =
    let p = err_from_is_err_and c.from_residual.result c.from_residual.ensures.1 in
    let before = c.last.ensures.value ∙ ap last_of c.deref.ensures.value in
    rw (p.1, p.2) (ends g.T.ListEntry.form _ c.entries.list.items c.args.count c.entries.counter c.entries.input _ c.entries-test.true (rw before at c.in_err-entry.ensures.read) c.entries.invariant.so_far)

pub entries-preserved : goal.entries-preserved
entries-preserved g c =
    let before = c.last.ensures.value ∙ ap last_of c.deref.ensures.value in record {
      so_far = rw c.in_ok-push.ensures.items (step g.T.ListEntry.form c.entries.list.items c.args.count c.entries.counter c.entries.input c.get.new.input c.in_ok-entry.entry _ c.entries-test.true (rw before at c.in_ok-entry.ensures.read) c.entries.invariant.so_far);
      context = c.in_ok-entry.ensures.context ∙ c.entries.invariant.context;
      last = rw c.in_ok-push.ensures.items (known_push g.T.ListEntry.known _ _ c.entries.list.items c.in_ok-entry.entry c.in_ok-entry.ensures.known (search rules));
    }

pub returns-clause-read : goal.returns-clause-read
returns-clause-read g c = is_done g.T.ListEntry.form c.entries.list.items c.args.count c.entries.counter c.entries.input _ c.entries-test.false c.entries.invariant.so_far
