use Rattle.ui_build.proofs.Judged.{export_names, small_export}
use Rattle.ui_build.proofs.judging.export_of.Goals as goal

pub returns-in-Ok-clause-named : goal.returns-in-Ok-clause-named
returns-in-Ok-clause-named c = export_names c.in-Ok.package c.in-Ok.ensures.small

pub returns-in-Ok-clause-small : goal.returns-in-Ok-clause-small
returns-in-Ok-clause-small c = small_export c.in-Ok.package c.in-Ok.ensures.small
