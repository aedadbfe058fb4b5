use Rattle.std.proofs.Common.{List, length, suc, Result}
use Rattle.ui_grammar.specs.Word.{Word}
use Rattle.ui_parse.specs.declared.fault.ParseError.{ParseError}
use Rattle.ui_parse.specs.List.{Called, PartsRan}
use Rattle.ui_parse.proofs.list.parts.Given as goal

abbrev pub invariant-loop-last : goal.invariant-loop-last
invariant-loop-last g l =
    (r : Result g.row.S.Denot ParseError) (left : List Word) → PartsRan l.separator l.close g.S.Ends.ending (Called (goal.F-post g l.step)) (suc l.turns) l.state l.cursor r left
    → PartsRan l.separator l.close g.S.Ends.ending (Called (goal.F-post g l.step)) (suc (length l.fn.cursor)) l.fn.state l.fn.cursor r left

abbrev pub decreases-loop-last : goal.decreases-loop-last
decreases-loop-last g l = l.turns
