use Rattle.std.proofs.Common.{rules, arith, ◌∙◌}
use Rattle.std.proofs.lemmas.Grind.{common_steps}
use Rattle.ui_below.specs.Holding.{holding}
use Rattle.ui_below.proofs.ClaimLemmas.{one_file, no_file_left}
use Rattle.ui_below.proofs.HeldLaws.{all_held}
use Rattle.ui_below.proofs.claims.hold.Goals as goal

pub loop-i-init : goal.loop-i-init
unfolding holding
loop-i-init c = search rules

pub loop-i-preserved : goal.loop-i-preserved
loop-i-preserved c =
    one_file _ _ _ c.args.files.now c.args.prints.now c.loop-i.i c.index-files-i.result (grind (arith, common_steps)) (grind (arith, common_steps)) c.index-files-i.is c.in_ok-add_file.ensures c.loop-i.invariant

pub returns : goal.returns
returns c = let x = c.loop-i-test.false in no_file_left _ _ c.args.files.now c.args.prints.now c.loop-i.i (grind (arith, common_steps)) c.loop-i.invariant ∙ all_held _
