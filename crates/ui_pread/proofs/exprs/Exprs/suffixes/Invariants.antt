use Rattle.std.proofs.Common.{◌≡◌, suc}
use Rattle.ui_syntax.specs.Exprs.{suffixes}
use Rattle.ui_syntax.specs.Read.{readers}
use Rattle.ui_ptype.specs.Seen.{see}
use Rattle.ui_pread.proofs.exprs.Exprs.suffixes.Given as goal

abbrev pub invariant-loop-site : goal.invariant-loop-site
invariant-loop-site g l =
    suffixes l.self.types.room (readers l.self.types.room) l.site (suc l.turns) (see l.of) l.words
    ≡ suffixes l.self.types.room (readers l.self.types.room) l.site (suc (suc l.self.types.room)) (see l.fn.of) l.fn.words

abbrev pub decreases-loop-site : goal.decreases-loop-site
decreases-loop-site g l = l.turns
