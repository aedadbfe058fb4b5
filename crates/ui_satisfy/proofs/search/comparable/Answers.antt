use Rattle.std.proofs.Common.{refl, ap}
use Rattle.ui_types.specs.Table.{tree, trees}
use Rattle.ui_satisfy.specs.Marks.{seen}
use Rattle.ui_satisfy.proofs.Turns.{looks_at}
use Rattle.ui_satisfy.proofs.Whole.{whole_answer, whole_right}
use Rattle.ui_satisfy.proofs.search.comparable.Goals as goal

pub returns-clause-right : goal.returns-clause-right
returns-clause-right g c =
    let old = c.args.table.now in
    let m = c.no_marks-marks.result in
    whole_right (g.E.Env.decls c.args.env.now old) (trees old c.args.bounds.now) (tree old c.args.t)
    old c.look.new.table m m
    c.look.new.marks c.look.result c.no_marks-marks.ensures.good c.no_marks-marks.ensures.bad
    (looks_at (seen old m) c.look.new.table m c.look.new.marks c.look.result refl
    (ap (trees old) c.items.ensures) refl c.look.ensures.answer)

pub returns-clause-answer : goal.returns-clause-answer
returns-clause-answer g c =
    let old = c.args.table.now in
    let m = c.no_marks-marks.result in
    whole_answer (g.E.Env.decls c.args.env.now old) (trees old c.args.bounds.now)
    (tree old c.args.t) old c.look.new.table m m
    c.look.new.marks c.look.result c.no_marks-marks.ensures.good c.no_marks-marks.ensures.bad
    (looks_at (seen old m) c.look.new.table m c.look.new.marks c.look.result refl
    (ap (trees old) c.items.ensures) refl c.look.ensures.answer)
