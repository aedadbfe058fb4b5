use Rattle.std.proofs.Common.{map, sym, ap, ◌∙◌}
use Rattle.ui_exports.specs.Linked.{below}
use Rattle.ui_consts.proofs.NumbersLemmas.{before_below, numbers_all}
use Rattle.ui_consts.proofs.numbered.number.Goals as goal

pub number_below-requires-clause-room : goal.number_below-requires-clause-room
number_below-requires-clause-room c =
    before_below c.args.linked.now c.linked.inside.package _ _ c.new-strings.result.keys _ _ c.number_constants.new.strings.keys c.requires (ap (λ l. l.export) c.linked.view_is) c.new-strings.ensures.empty c.in_ok-path.ensures.texts c.in_ok-name.ensures.texts c.in_ok-bases.ensures.numbers

pub returns : goal.returns
returns c =
    numbers_all _ c.args.linked.now c.linked.inside.package (map below c.deref.result.now) c.path.result.now c.name.result.now c.in_ok-below.below.items c.new-strings.result.keys _ _ c.number_constants.new.strings.keys _ c.requires (ap (λ l. l.export) c.linked.view_is)
    (ap (map below) c.deref.ensures.value ∙ ap (λ l. l.below) c.linked.view_is) c.path.ensures c.name.ensures (sym c.new.ensures) c.new-strings.ensures.empty c.in_ok-strings.ensures c.in_ok-path.ensures.texts c.in_ok-path.ensures.place c.in_ok-path.ensures.used c.in_ok-name.ensures.texts c.in_ok-name.ensures.place c.in_ok-name.ensures.used
    c.in_ok-bases.ensures.numbers c.in_ok-bases.ensures.listed c.in_ok-below.ensures
