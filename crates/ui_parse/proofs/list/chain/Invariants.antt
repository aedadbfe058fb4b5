use Rattle.std.proofs.Common.{List, length, suc, Result}
use Rattle.ui_grammar.specs.Word.{Word}
use Rattle.ui_parse.specs.declared.fault.ParseError.{ParseError}
use Rattle.ui_parse.specs.List.{Called, ChainRan}
use Rattle.ui_parse.proofs.list.chain.Given as goal

abbrev pub invariant-loop-separator : goal.invariant-loop-separator
invariant-loop-separator g l =
    (r : Result g.row.S.Denot ParseError) (left : List Word) → ChainRan l.separator (Called (goal.F-post g l.step)) (suc l.turns) l.state l.cursor r left
    → ChainRan l.separator (Called (goal.F-post g l.step)) (suc (length l.fn.cursor)) l.fn.state l.fn.cursor r left

abbrev pub decreases-loop-separator : goal.decreases-loop-separator
decreases-loop-separator g l = l.turns
