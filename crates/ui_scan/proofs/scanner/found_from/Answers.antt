use Rattle.std.proofs.Common.{◌∙◌, sym, ap, rules}
use Rattle.std.specs.Prelude.{Ok, Err}
use Rattle.std.proofs.lemmas.List.{take_rest}
use Rattle.ui_scan.specs.Scan.{first, rest, outcome}
use Rattle.ui_scan.proofs.ScanLaws.{by_semicolon, by_no_semicolon, by_token, by_fault, by_open, Steps-from}
use Rattle.ui_scan.proofs.scanner.found_from.Goals as goal

pub returns-in-Some-clause-step : goal.returns-in-Some-clause-step
returns-in-Some-clause-step c =
    let s = c.args.state in
    let e = sym c.loop-place.invariant.same ∙ by_semicolon c.args.text.now c.args.fault s.due c.loop-place.place _ (take_rest c.args.text.now c.loop-place.place.at)
    c.in-Blank.len c.in-Blank.ends_line c.after-place.result c.in-Some.token c.in-Blank.ensures.within.0 c.in-Blank.ensures.within.1 c.in-Blank.ensures.piece
    c.after-place.ensures.place (sym c.semicolon_due.ensures ∙ c.in-Some.is) in
    (ap first e, sym (ap rest e))

pub loop-place-preserved : goal.loop-place-preserved
loop-place-preserved c =
    let s = c.args.state in
    record {
      at = search rules;
      same = sym (by_no_semicolon c.args.text.now c.args.fault s.due c.loop-place.place _ (take_rest c.args.text.now c.loop-place.place.at)
          c.in-Blank.len c.in-Blank.ends_line c.after-place.result c.in-Blank.ensures.within.0 c.in-Blank.ensures.within.1 c.in-Blank.ensures.piece
          c.after-place.ensures.place (sym c.semicolon_due.ensures ∙ c.in_default.is))
          ∙ c.loop-place.invariant.same;
    }

pub returns-in-Token-clause-step : goal.returns-in-Token-clause-step
returns-in-Token-clause-step c =
    let s = c.args.state in
    let e = sym c.loop-place.invariant.same ∙ by_token c.args.text.now c.args.fault s.due c.loop-place.place _ (take_rest c.args.text.now c.loop-place.place.at)
    c.in-Token.kind c.in-Token.len c.after-end.result c.in-Token.ensures.within.0 c.in-Token.ensures.within.1 c.in-Token.ensures.piece c.after-end.ensures.place in
    (ap first e ∙ ap Ok (sym c.token_between.ensures), ap (λ d. outcome c.args.text.now c.args.fault d c.after-end.result) c.due_after.ensures ∙ sym (ap rest e))

pub returns-in-Fault-clause-step : goal.returns-in-Fault-clause-step
returns-in-Fault-clause-step c =
    let s = c.args.state in
    let e = sym c.loop-place.invariant.same ∙ by_fault c.args.text.now c.args.fault s.due c.loop-place.place _ (take_rest c.args.text.now c.loop-place.place.at)
    c.in-Fault.kind c.in-Fault.at c.loop-place-test.true c.in-Fault.ensures.piece in
    (ap first e, ap rest e ∙ sym e)

pub returns-in-Open-clause-step : goal.returns-in-Open-clause-step
returns-in-Open-clause-step c =
    let s = c.args.state in
    let e = sym c.loop-place.invariant.same ∙ by_open c.args.text.now c.args.fault s.due c.loop-place.place _ (take_rest c.args.text.now c.loop-place.place.at)
    c.in-Open.kind c.loop-place-test.true c.in-Open.ensures.piece in
    (ap first e ∙ ap Err (sym c.open_fault.ensures), ap rest e ∙ sym e)

pub returns-clause-step : goal.returns-clause-step
returns-clause-step c =
    Steps-from c.args.text.now c.args.fault _ _ c.found_at_end.result c.loop-place.invariant.same c.found_at_end.ensures.step
