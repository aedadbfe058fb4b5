use Rattle.std.proofs.Common.{sym, arith, rules}
use Rattle.ui_sets.proofs.implement.listed_fit.Goals as goal

pub returns-clause-answer : goal.returns-clause-answer
returns-clause-answer g c =
    let a = c.methods_fit.ensures.answer in
    let k = c.items.ensures in
    rw (sym c.in_ok-methods.ensures.names, sym c.in_ok-methods.ensures.sigs)
    (first_of (assumption (a, k), grind (arith, a, k), search (rules, a, k)))
