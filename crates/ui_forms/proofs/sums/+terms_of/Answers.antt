use Rattle.std.proofs.Common.{Ok, Err, sym, ap, subst, ◌∙◌}
use Rattle.std.proofs.lemmas.Result.{err_from_is_err_and}
use Rattle.ui_forms.specs.Choosing.{GivesPart}
use Rattle.ui_tree.specs.View.{view}
use Rattle.ui_forms.specs.Numbers.{has}
use Rattle.ui_forms.specs.Sums.{term_of, terms_of}
use Rattle.ui_forms.proofs.SumLemmas.{both_taken, left_stops, no_sum, not_added, right_stops}
use Rattle.ui_forms.proofs.sums.+terms_of.Goals as goal

pub returns-then-not-is_add : goal.returns-then-not-is_add
returns-then-not-is_add t c = not_added (has c.args.imports.now) (has c.args.own.now) c.args.of.now c.in-Binary.spot c.in-Binary.op c.in-Binary.left c.in-Binary.right c.in-Binary.is (sym c.is_add.ensures ∙ c.if-not-is_add.true)

pub returns-in_err-terms-in-Binary : goal.returns-in_err-terms-in-Binary
returns-in_err-terms-in-Binary t c =
    let p = err_from_is_err_and c.from_residual.result c.from_residual.ensures.1 in
    rw (p.1, p.2) (left_stops (has c.args.imports.now) (has c.args.own.now) c.args.of.now c.in-Binary.spot c.in-Binary.op c.in-Binary.left c.in-Binary.right c.in-Binary.is c.in_err-terms-in-Binary.field-0.0 (sym c.is_add.ensures ∙ c.if-not-is_add.false) (subst (λ l. GivesPart (terms_of (has c.args.imports.now) (has c.args.own.now) (view l)) (Err c.in_err-terms-in-Binary.field-0.0)) c.get.ensures c.in_err-terms-in-Binary.ensures))

pub returns-in_err-term-in-Binary : goal.returns-in_err-term-in-Binary
returns-in_err-term-in-Binary t c =
    let p = err_from_is_err_and c.from_residual-in_err-term-in-Binary.result c.from_residual-in_err-term-in-Binary.ensures.1 in
    rw (p.1, p.2) (right_stops (has c.args.imports.now) (has c.args.own.now) c.args.of.now c.in-Binary.spot c.in-Binary.op c.in-Binary.left c.in-Binary.right c.in-Binary.is c.in_ok-terms-in-Binary.terms c.in_err-term-in-Binary.field-0.0 (sym c.is_add.ensures ∙ c.if-not-is_add.false) (rw c.get.ensures at c.in_ok-terms-in-Binary.ensures) (subst (λ r. GivesPart (term_of (has c.args.imports.now) (has c.args.own.now) (view r)) (Err c.in_err-term-in-Binary.field-0.0)) c.get-in-Binary.ensures c.in_err-term-in-Binary.ensures))

pub returns-in_ok-push-in-Binary : goal.returns-in_ok-push-in-Binary
returns-in_ok-push-in-Binary t c =
    both_taken (has c.args.imports.now) (has c.args.own.now) c.args.of.now c.in-Binary.spot c.in-Binary.op c.in-Binary.left c.in-Binary.right c.in-Binary.is c.in_ok-terms-in-Binary.terms c.in_ok-term-in-Binary.term (sym c.is_add.ensures ∙ c.if-not-is_add.false) (rw c.get.ensures at c.in_ok-terms-in-Binary.ensures) (rw c.get-in-Binary.ensures at c.in_ok-term-in-Binary.ensures)
    ∙ ap Ok (sym c.in_ok-push-in-Binary.ensures.ok)

pub returns-in_default : goal.returns-in_default
returns-in_default t c =
    subst (λ v. GivesPart v c.alone.result) (sym (no_sum (has c.args.imports.now) (has c.args.own.now) c.args.of.now c.in_default.not-Binary)) c.alone.ensures
