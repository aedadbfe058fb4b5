use Rattle.std.proofs.Common.{refl}
use Rattle.std.specs.Prelude.{nat_eq}
use Rattle.ui_consts.proofs.NumberingLemmas.{base_is, files_is}
use Rattle.ui_consts.proofs.UseLemmas.{covers_by, covers_new, stored_there}
use Rattle.ui_consts.proofs.numbered.base_of.Goals as goal

pub returns-clause-files : goal.returns-clause-files
returns-clause-files c = files_is c.args.file.now c.args.file.now c.in_ok-file.file _ c.args.bases.now.keys _ refl c.in_ok-base.ensures.keys c.in_ok-file.ensures.place

pub returns-clause-is : goal.returns-clause-is
returns-clause-is c = base_is c.args.file.now c.in_ok-file.file c.in_ok-base.base _ _ c.in_ok-base.ensures.stored c.in_ok-file.ensures.place

pub returns-clause-used : goal.returns-clause-used
returns-clause-used c = covers_by _ c.in_ok-file.file _ _ (stored_there _ c.in_ok-base.base c.in_ok-file.file c.in_ok-base.ensures.within c.in_ok-base.ensures.stored) c.in_ok-file.ensures.used

pub returns-clause-file_used : goal.returns-clause-file_used
returns-clause-file_used c = covers_new nat_eq c.args.bases.now.keys _ c.in_ok-file.file c.in_ok-base.base c.in_ok-base.ensures.keys c.in_ok-base.ensures.index

pub returns-clause-apart : goal.returns-clause-apart
returns-clause-apart c = c.in_ok-base.ensures.unique
