use Rattle.std.proofs.Common.{◌∙◌, ap, take, drop}
use Rattle.std.proofs.lemmas.List.{take_at}
use Rattle.ui_frame.specs.Number.{int, truth}
use Rattle.ui_frame.specs.Laws.{int_again, int_takes, truth_again, truth_takes}
use Rattle.ui_frame.proofs.Spellings.{int-faults}
use Rattle.ui_frame.proofs.number.one_signed_spelling.Goals as goal

pub returns-clause-read : goal.returns-clause-read
returns-clause-read c z rest lt = int_again z rest lt

pub returns-clause-found : goal.returns-clause-found
returns-clause-found c bytes x fits e =
    let t = int_takes bytes x fits e in
    (ap (take x.1) t.0.parts ∙ take_at (int x.0) (drop x.1 bytes) x.1 t.0.len_is, t.1)

pub returns-clause-faults : goal.returns-clause-faults
returns-clause-faults c bytes fault = int-faults bytes fault

pub returns-clause-truth_read : goal.returns-clause-truth_read
returns-clause-truth_read c b rest = truth_again b rest

pub returns-clause-truth_found : goal.returns-clause-truth_found
returns-clause-truth_found c bytes x e =
    let t = truth_takes bytes x e in
    ap (take x.1) t.parts ∙ take_at (truth x.0) (drop x.1 bytes) x.1 t.len_is
