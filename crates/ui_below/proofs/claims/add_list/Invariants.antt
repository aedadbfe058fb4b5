use Rattle.std.proofs.Common.{◌≡◌, map, drop}
use Rattle.ui_exports.specs.Linked.{below}
use Rattle.ui_below.specs.Claims.{indirect}
use Rattle.ui_below.specs.Holding.{holding, with_claims}
use Rattle.ui_below.proofs.claims.add_list.Given as goal

abbrev pub invariant-loop-below : goal.invariant-loop-below
invariant-loop-below l = with_claims (holding l.by_path.entries) (map indirect (map below (drop l.below-index l.list))) ≡ with_claims (holding l.initial.by_path.entries) (map indirect (map below l.list))
