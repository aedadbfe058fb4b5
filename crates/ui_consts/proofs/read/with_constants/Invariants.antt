use Rattle.std.proofs.Common.{◌≡◌, Some}
use Rattle.ui_consts.proofs.ReadSteps.{from_place}
use Rattle.ui_consts.proofs.read.with_constants.Given as goal

abbrev pub invariant-loop-k : goal.invariant-loop-k
invariant-loop-k l = Some l.package ≡ from_place l.frame l.count l.fn.empty l.k
