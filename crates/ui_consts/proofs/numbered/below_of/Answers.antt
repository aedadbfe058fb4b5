use Rattle.std.proofs.Common.{ap, length, arith, [], ◌∷◌}
use Rattle.ui_consts.proofs.NumberingLemmas.{path_short}
use Rattle.ui_consts.proofs.UseLemmas.{covers_both}
use Rattle.ui_consts.proofs.numbered.below_of.Goals as goal

pub place_of-requires-clause-short : goal.place_of-requires-clause-short
place_of-requires-clause-short c = omega (arith, ap length c.bytes.ensures, path_short _ c.requires.is.path)

pub returns-clause-used : goal.returns-clause-used
returns-clause-used c = covers_both (c.in_ok-path.path ∷ []) (c.in_ok-print.print ∷ []) _ _ _ c.in_ok-path.ensures.used c.in_ok-print.ensures.used
