use Rattle.std.proofs.Common.{List, length, ap, ◌∙◌}
use Rattle.ui_types.specs.declared.id.TypeId.{TypeId}
use Rattle.ui_types.specs.Table.{trees}
use Rattle.ui_satisfy.proofs.MarkLemmas.{put_marks, put_more}
use Rattle.ui_satisfy.proofs.marks.put.Goals as goal

pub returns-clause-answer : goal.returns-clause-answer
returns-clause-answer c =
    ap (trees c.args.table.now) c.in_ok-insert.ensures.keys
    ∙ put_marks c.args.table.now c.once.ensures c.args.t c.args.set.now.keys c.requires.id
    c.requires.set

pub returns-clause-more : goal.returns-clause-more
returns-clause-more c = λ e.
    ap (λ (ks : List TypeId). length ks) c.in_ok-insert.ensures.keys
    ∙ put_more c.args.table.now c.once.ensures c.args.t c.args.set.now.keys c.requires.id
    c.requires.set e
