use Rattle.std.proofs.Common.{option_map, sym, ap, ◌∙◌}
use Rattle.ui_below.specs.Holding.{held_as}
use Rattle.ui_below.proofs.HoldingLemmas.{find_held}
use Rattle.ui_below.proofs.claims.held_of.Goals as goal

pub returns-in-Some : goal.returns-in-Some
returns-in-Some c = ap (option_map (λ x. held_as x.now)) (sym c.in-Some.is) ∙ find_held _ _ c.get.result c.get.ensures.value

pub returns-in-None : goal.returns-in-None
returns-in-None c = ap (option_map (λ x. held_as x.now)) (sym c.in-None.is) ∙ find_held _ _ c.get.result c.get.ensures.value
