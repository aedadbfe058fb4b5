use Rattle.std.proofs.Common.{◌≡◌, suc}
use Rattle.ui_syntax.specs.Exprs.{operations}
use Rattle.ui_syntax.specs.Read.{readers}
use Rattle.ui_ptype.specs.Seen.{see}
use Rattle.ui_pread.proofs.exprs.Exprs.operations.Given as goal

abbrev pub invariant-loop-site : goal.invariant-loop-site
invariant-loop-site g l =
    operations l.self.types.room (readers l.self.types.room) l.site l.least (suc l.turns) (see l.left) l.words
    ≡ operations l.self.types.room (readers l.self.types.room) l.site l.least (suc (suc l.self.types.room)) (see l.fn.left) l.fn.words

abbrev pub decreases-loop-site : goal.decreases-loop-site
decreases-loop-site g l = l.turns
