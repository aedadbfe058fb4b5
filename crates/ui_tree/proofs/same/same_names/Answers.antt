use Rattle.std.proofs.Common.{rules, arith}
use Rattle.std.proofs.lemmas.Grind.{common_steps}
use Rattle.ui_tree.specs.View.{placed, forgotten}
use Rattle.ui_tree.proofs.Pairs.{images_at}
use Rattle.ui_tree.proofs.same.same_names.Goals as goal

pub returns-then-not-same_name : goal.returns-then-not-same_name
returns-then-not-same_name c =
    (λ h. search rules, λ e. let p = images_at (placed forgotten) c.args.a.now c.args.b.now c.loop-i.i c.index-a-i.result c.index-b-i.result c.loop-i-test.true c.if-a-b.false c.index-a-i.is c.index-b-i.is e in grind (arith, common_steps))
