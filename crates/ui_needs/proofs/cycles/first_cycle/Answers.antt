use Rattle.std.proofs.Common.{ℕ, Option, subst}
use Rattle.ui_order.specs.Numbers.{IsFirstOnCycle}
use Rattle.ui_needs.proofs.CycleLemmas.{no_cycle, some_cycle}
use Rattle.ui_needs.proofs.cycles.first_cycle.Goals as goal

pub returns-in-None : goal.returns-in-None
returns-in-None c =
    let P : Option ℕ → Type 0 = λ o. IsFirstOnCycle c.args.links.now o in
    no_cycle c.args.links.now c.args.count c.requires.count
    (subst P c.in-None.is c.in_ok-first_on_cycle.ensures)

pub returns-in-Some : goal.returns-in-Some
returns-in-Some c =
    let P : Option ℕ → Type 0 = λ o. IsFirstOnCycle c.args.links.now o in
    some_cycle c.args.links.now c.args.count c.in-Some.node c.requires.count
    (subst P c.in-Some.is c.in_ok-first_on_cycle.ensures)
