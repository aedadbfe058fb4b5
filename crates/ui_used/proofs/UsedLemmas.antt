-- Rules that give nothing, one after another.
use Rattle.ui_collect.proofs.StepLemmas.{then_next, Walked-start, Walked-more, Walked-failed}
use Rattle.ui_collect.proofs.StepLemmas.{Walked-end}

pub ruleset walking = (then_next, Walked-start, Walked-more, Walked-failed, Walked-end)
