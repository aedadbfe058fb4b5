use Rattle.ui_expr_tests.proofs.SceneLemmas.{IsLevel-after}
use Rattle.ui_expr_tests.proofs.scene.put.Goals as goal

pub returns : goal.returns
returns c =
    IsLevel-after c.args.table.now c.args.level.now c.put.new.self _ c.args.meaning c.put.result
    c.put.ensures.put c.put.ensures.unchanged c.requires.meaning c.requires.level
