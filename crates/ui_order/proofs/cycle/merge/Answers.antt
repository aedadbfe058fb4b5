use Rattle.std.specs.Prelude.{◌≡◌, ◌↔◌, ◌<◌, ◌≤◌, ◌-◌, true, nat_eq, get_or}
use Rattle.std.proofs.Common.{◌∙◌, sym, subst, arith}
use Rattle.ui_order.specs.Steps.{has}
use Rattle.ui_order.proofs.NumberLemmas.{get_or-any}
use Rattle.ui_order.proofs.RisingLemmas.{has_taken}
use Rattle.ui_order.proofs.cycle.merge.Goals as goal
use Rattle.ui_order.proofs.cycle.merge.Goals.{then-loop-count-test+else-index-position, else-loop-count-test}

pub returns-clause-kept : goal.returns-clause-kept
returns-clause-kept c = λ b.
    let old = c.args.bounds.now.items in
    let n = c.loop-count.count in
    let small : 0 < n → get_or old (n - 1) 0 ≤ c.args.position = λ l. elim c.loop-count-test.branch [
      | then-loop-count-test+else-index-position w ↦
          let is : w.index.result.now ≡ get_or old (n - 1) 0 = w.index.ensures ∙ get_or-any old (n - 1) w.index.result.now 0 (omega arith) in
          omega arith
      | else-loop-count-test w ↦ absurd (omega arith)
    ] in
    subst (λ xs. (has nat_eq xs b ≡ true) ↔ ((has nat_eq old b ≡ true) × (b ≤ c.args.position))) (sym c.truncate.ensures.items)
    (has_taken old n c.args.position c.requires (omega arith) small (λ i g l. c.loop-count.invariant.larger i g (omega arith)) b)
