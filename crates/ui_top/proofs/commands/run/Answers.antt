use Rattle.std.proofs.Common.{sym}
use Rattle.ui_top.proofs.Running.{runs_as, completes_as}
use Rattle.ui_top.proofs.commands.run.Goals as goal

pub returns-in-Some-Build-clause-runs : goal.returns-in-Some-Build-clause-runs
returns-in-Some-Build-clause-runs g c = λ command is. runs_as _ command _ _ _ _ (sym (rw c.in-Some-Build.field-0-is at c.in-Some-Build.ensures)) (c.run_build.ensures (g.I.Source.told c.args.input.now) c.args.steps.now) is

pub returns-in-Some-Build-clause-completes : goal.returns-in-Some-Build-clause-completes
returns-in-Some-Build-clause-completes g c = λ command is. completes_as _ command _ _ _ _ (sym (rw c.in-Some-Build.field-0-is at c.in-Some-Build.ensures)) (c.run_build.ensures (g.I.Source.told c.args.input.now) c.args.steps.now) is

pub returns-in-Some-Dump-clause-runs : goal.returns-in-Some-Dump-clause-runs
returns-in-Some-Dump-clause-runs g c = λ command is. runs_as _ command _ _ _ _ (sym (rw c.in-Some-Dump.field-0-is at c.in-Some-Dump.ensures)) (c.run_dump.ensures (g.I.Source.told c.args.input.now) c.args.steps.now) is

pub returns-in-Some-Dump-clause-completes : goal.returns-in-Some-Dump-clause-completes
returns-in-Some-Dump-clause-completes g c = λ command is. completes_as _ command _ _ _ _ (sym (rw c.in-Some-Dump.field-0-is at c.in-Some-Dump.ensures)) (c.run_dump.ensures (g.I.Source.told c.args.input.now) c.args.steps.now) is
