use Rattle.std.proofs.Common.{◌∙◌, sym, ap}
use Rattle.std.specs.Prelude.{Ok, None}
use Rattle.ui_scan.specs.Scan.{first, rest, at_end}
use Rattle.ui_scan.proofs.ScanLaws.{outcome_end}
use Rattle.ui_scan.proofs.scanner.found_at_end.Goals as goal

pub returns-in-Some-default-clause-step : goal.returns-in-Some-default-clause-step
returns-in-Some-default-clause-step c =
    let s = c.args.state in
    let e = outcome_end c.args.text.now c.args.fault s.due s.place c.requires.end ∙ ap (λ f. at_end f s.due s.place) c.in-Some-default.is-0 in
    (ap first e, ap rest e ∙ sym e)

pub returns-in-None-Some-clause-step : goal.returns-in-None-Some-clause-step
returns-in-None-Some-clause-step c =
    let s = c.args.state in
    let e = outcome_end c.args.text.now c.args.fault s.due s.place c.requires.end ∙ ap (λ f. at_end f s.due s.place) c.in-None-Some.is-0
    ∙ ap (λ d. at_end None d s.place) c.in-None-Some.is-1 in
    let after = outcome_end c.args.text.now c.args.fault None s.place c.requires.end ∙ ap (λ f. at_end f None s.place) c.in-None-Some.is-0 in
    (ap first e ∙ ap Ok (sym c.token_between.ensures), after ∙ sym (ap rest e))

pub returns-in-None-None-clause-step : goal.returns-in-None-None-clause-step
returns-in-None-None-clause-step c =
    let s = c.args.state in
    let e = outcome_end c.args.text.now c.args.fault s.due s.place c.requires.end ∙ ap (λ f. at_end f s.due s.place) c.in-None-None.is-0
    ∙ ap (λ d. at_end None d s.place) c.in-None-None.is-1 in
    (ap first e ∙ ap Ok (sym c.token_between-in-None-None.ensures), e ∙ sym (ap rest e))
