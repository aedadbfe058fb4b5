use Rattle.std.proofs.Common.{◌≡◌, ℕ, suc}
use Rattle.ui_stmts.specs.Decls.{each}
use Rattle.ui_pdecl.proofs.PartTurns.{go}
use Rattle.ui_pdecl.proofs.each.each.Given as goal

abbrev pub invariant-loop-all : goal.invariant-loop-all
invariant-loop-all g l = (room : ℕ) → go g.R.PartReader.see (g.R.PartReader.reader l.reader) room (suc l.turns) l.all l.words ≡ each room (g.R.PartReader.reader l.reader) l.fn.words

abbrev pub decreases-loop-all : goal.decreases-loop-all
decreases-loop-all g l = l.turns
