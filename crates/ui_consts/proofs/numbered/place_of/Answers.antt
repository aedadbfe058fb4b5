use Rattle.std.specs.Cmp.Lexicographic.{pointwise}
use Rattle.std.specs.Prelude.{nat_eq}
use Rattle.ui_consts.proofs.NumberingLemmas.{grown_is, place_is}
use Rattle.ui_consts.proofs.UseLemmas.{covers_new}
use Rattle.ui_consts.proofs.numbered.place_of.Goals as goal

pub returns-clause-place : goal.returns-clause-place
returns-clause-place c = place_is c.args.strings.now.keys c.insert_full.new.self.keys c.args.text.now c.in_ok-text.text c.in_ok-place.place c.in_ok-text.ensures c.in_ok-place.ensures.within c.in_ok-place.ensures.stored

pub returns-clause-texts : goal.returns-clause-texts
returns-clause-texts c = grown_is c.args.strings.now.keys c.insert_full.new.self.keys c.in_ok-text.text c.args.text.now c.in_ok-text.ensures c.requires.short c.in_ok-place.ensures.keys c.in_ok-place.ensures.unique

pub returns-clause-used : goal.returns-clause-used
returns-clause-used c = covers_new (pointwise nat_eq) c.args.strings.now.keys c.insert_full.new.self.keys c.in_ok-text.text c.in_ok-place.place c.in_ok-place.ensures.keys c.in_ok-place.ensures.index
