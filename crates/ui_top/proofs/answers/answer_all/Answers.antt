use Rattle.std.proofs.Common.{rules, arith, sym, ◌∙◌, ◌≡◌, ap, string_bytes, get_or}
use Rattle.ui_store.specs.Told.{more_none}
use Rattle.ui_top.specs.Answers.{answer}
use Rattle.ui_top.proofs.Answering.{so_far, so_far_next, one_more_written, one_more_all}
use Rattle.ui_top.proofs.answers.answer_all.Goals as goal

pub loop-query-init : goal.loop-query-init
loop-query-init g c = record { written = sym (more_none _); all = search rules; count = omega arith }

pub returns-in_default-clause-part : goal.returns-in_default-clause-part
returns-in_default-clause-part g c = so_far _ _ c.loop-query.query-index _ _ c.loop-query.invariant.written

pub returns-in-Err-clause-part : goal.returns-in-Err-clause-part
returns-in-Err-clause-part g c =
    let shown : c.deref.result.now ≡ (answer c.args.of.now (string_bytes (get_or c.args.queries.now c.loop-query.query-index c.query-item.result))).0 =
    c.deref.ensures.value ∙ c.in-Ok.ensures.text ∙ ap (λ q. (answer c.args.of.now q).0) (c.as_bytes.ensures.value ∙ ap string_bytes c.query-item.is) in
    so_far_next _ _ c.loop-query.query-index c.query-item.result _ _ _ (omega arith) c.loop-query.invariant.written (rw shown at c.in-Err.ensures.err)

pub loop-query-preserved : goal.loop-query-preserved
loop-query-preserved g c =
    let shown : c.deref.result.now ≡ (answer c.args.of.now (string_bytes (get_or c.args.queries.now c.loop-query.query-index c.query-item.result))).0 =
    c.deref.ensures.value ∙ c.in-Ok.ensures.text ∙ ap (λ q. (answer c.args.of.now q).0) (c.as_bytes.ensures.value ∙ ap string_bytes c.query-item.is) in
    let answered : c.in-Ok.answer.is_answered ≡ (answer c.args.of.now (string_bytes (get_or c.args.queries.now c.loop-query.query-index c.query-item.result))).1 =
    c.in-Ok.ensures.answered ∙ ap (λ q. (answer c.args.of.now q).1) (c.as_bytes.ensures.value ∙ ap string_bytes c.query-item.is) in
    record {
      written = one_more_written _ _ c.loop-query.query-index c.query-item.result _ _ _ (omega arith) c.loop-query.invariant.written (rw shown at c.in-Ok-put_all.ensures.ok);
      all = one_more_all c.args.of.now c.args.queries.now c.loop-query.query-index c.query-item.result _ _ (omega arith) c.loop-query.invariant.all answered;
      count = omega (arith, c.in-Ok-put_all.ensures.cause.later);
    }
