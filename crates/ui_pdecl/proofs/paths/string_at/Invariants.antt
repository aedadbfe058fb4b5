use Rattle.std.proofs.Common.{◌≡◌, drop}
use Rattle.ui_pdecl.specs.FileResult.{string_at}
use Rattle.ui_pdecl.proofs.paths.string_at.Given as goal

abbrev pub invariant-loop-token : goal.invariant-loop-token
invariant-loop-token l = string_at l.spot l.tokens ≡ string_at l.spot (drop l.token-index l.tokens)
