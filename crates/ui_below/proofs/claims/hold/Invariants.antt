use Rattle.std.proofs.Common.{◌≡◌, drop}
use Rattle.std.specs.FinMap.{empty}
use Rattle.ui_below.specs.Claims.{claims}
use Rattle.ui_below.specs.Holding.{holding, with_claims}
use Rattle.ui_below.proofs.claims.hold.Given as goal

abbrev pub invariant-loop-i : goal.invariant-loop-i
invariant-loop-i l = with_claims (holding l.by_path.entries) (claims (drop l.i l.files) (drop l.i l.prints)) ≡ with_claims empty (claims l.files l.prints)
