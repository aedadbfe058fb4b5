-- What the tests' functions are proved with: ids stay valid as the table grows.
use Rattle.ui_types.specs.Trees.{growth}
use Rattle.ui_types.specs.Kept.{keeping}
use Rattle.ui_types.specs.Stays.{staying}
use Rattle.ui_infer.proofs.StepLemmas.{showing}

pub ruleset steps = (growth, keeping, staying, showing)
