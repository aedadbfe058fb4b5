use Rattle.std.proofs.Common.{◌∙◌}
use Rattle.ui_satisfy.proofs.MarkLemmas.{in_marks}
use Rattle.ui_satisfy.proofs.marks.is_in.Goals as goal

pub returns : goal.returns
returns c =
    c.contains.ensures
    ∙ in_marks c.args.table.now c.once.ensures c.args.t c.args.set.now.keys c.requires.id
    c.requires.set
