use Rattle.std.proofs.Common.{◌≡◌, ◌∙◌, ◌++◌, ◌∷◌, [], ◌<◌, length, sym, ap, subst, is_ok}
use Rattle.std.specs.Prelude.{Ok}
use Rattle.std.proofs.lemmas.Result.{err_from_is_err_and}
use Rattle.std.proofs.ResultArms.{chosen}
use Rattle.ui_scan.specs.Scan.{then_outcome, first}
use Rattle.ui_scan.proofs.ScanLaws.{EndsOnce, scanned_once, tokens_fail, tokens_end, tokens_more, rest_once, rest_shorter}
use Rattle.ui_scan.proofs.scanner.all_tokens.Goals as goal
use Rattle.ui_scan.proofs.scanner.all_tokens.Goals.{After-is_end}

pub loop-found-init : goal.loop-found-init
loop-found-init c = record {
  so_far = ap (λ xs. then_outcome xs c.new-scanner.result) c.new-found.ensures.items ∙ c.new-scanner.ensures;
  once = subst EndsOnce (sym c.new-scanner.ensures) (scanned_once c.args.bytes.now);
}

pub returns-in_err-token : goal.returns-in_err-token
returns-in_err-token c =
    let p = err_from_is_err_and c.from_residual.result c.from_residual.ensures.1 in
    rw (p.1, p.2) (tokens_fail c.args.bytes.now c.loop-found.found.items c.loop-found.scanner c.loop-found.invariant.so_far c.loop-found.invariant.once
    c.in_err-token.field-0.0 (sym c.next.ensures.gives ∙ c.in_err-token.was))

-- the token goes to the end of those found
pushed : (c : After-is_end) → c.push.new.self.items ≡ c.loop-found.found.items ++ c.in_ok-token.token ∷ []
pushed c = chosen _ _ _ _ c.push.ensures.items (ap is_ok c.in_ok-push.was)

given : (c : After-is_end) → first c.loop-found.scanner ≡ Ok c.in_ok-token.token
given c = sym c.next.ensures.gives ∙ c.in_ok-token.was

pub returns-then-is_end : goal.returns-then-is_end
returns-then-is_end c =
    let a = (goal.at.returns-then-is_end c).After-is_end in
    tokens_end c.args.bytes.now c.loop-found.found.items c.loop-found.scanner c.loop-found.invariant.so_far c.loop-found.invariant.once
    c.in_ok-token.token (given a) (sym c.is_end.ensures ∙ c.if-is_end.true)
    ∙ ap Ok (sym (pushed a))

pub loop-found-preserved : goal.loop-found-preserved
loop-found-preserved c =
    let a = (goal.at.loop-found-preserved c).After-is_end in
    record {
      so_far = ap (λ xs. then_outcome xs c.next.new.self) (pushed a) ∙ ap (then_outcome (c.loop-found.found.items ++ c.in_ok-token.token ∷ [])) c.next.ensures.after
          ∙ tokens_more c.args.bytes.now c.loop-found.found.items c.loop-found.scanner c.loop-found.invariant.so_far c.loop-found.invariant.once
          c.in_ok-token.token (given a) (sym c.is_end.ensures ∙ c.if-is_end.false);
      once = subst EndsOnce (sym c.next.ensures.after)
          (rest_once c.args.bytes.now c.loop-found.found.items c.loop-found.scanner c.loop-found.invariant.so_far c.loop-found.invariant.once);
    }

pub loop-found-smaller : goal.loop-found-smaller
loop-found-smaller c =
    let a = (goal.at.loop-found-smaller c).After-is_end in
    let less = rest_shorter c.args.bytes.now c.loop-found.found.items c.loop-found.scanner c.loop-found.invariant.so_far c.loop-found.invariant.once
    c.in_ok-token.token (given a) (sym c.is_end.ensures ∙ c.if-is_end.false) in
    subst (λ o. length o.front < length c.loop-found.scanner.front) (sym c.next.ensures.after) less
