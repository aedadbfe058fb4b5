use Rattle.std.proofs.Common.{refl}
use Rattle.ui_top.proofs.Running.{runs}
use Rattle.ui_top.specs.Outcome.{Dump, words_of}
use Rattle.ui_top.proofs.commands.run_dump.Goals as goal

pub returns : goal.returns
returns g c = λ input steps.
    runs (Dump c.args.path.now (words_of c.args.queries.now)) _ _ c.dump-exported.result _ c.dump-exported.ensures.does c.dump-exported.ensures.stop c.dump-exported.ensures.cause c.dump-exported.ensures.heard c.answer_by.ensures (record { input = refl; steps = refl })
