use Rattle.std.proofs.Common.{refl}
use Rattle.ui_top.proofs.Running.{always, runs}
use Rattle.ui_top.specs.Outcome.{Build, words_of}
use Rattle.ui_top.proofs.commands.run_build.Goals as goal

pub returns : goal.returns
returns g c = λ input steps.
    runs (Build c.args.path.now (words_of c.args.queries.now)) _ _ c.build-exported.result _ c.build-exported.ensures.does (always c.build-exported.result) c.build-exported.ensures.cause c.build-exported.ensures.heard c.answer_by.ensures (record { input = refl; steps = refl })
