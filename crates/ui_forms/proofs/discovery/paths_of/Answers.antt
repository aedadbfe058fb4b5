use Rattle.std.specs.Map.Iter.{deref_pair}
use Rattle.std.proofs.lemmas.Map.Iter.{iter_end, iter_turn}
use Rattle.ui_forms.proofs.SetLemmas.{turn_path, all_turns}
use Rattle.ui_forms.proofs.discovery.paths_of.Goals as goal

pub text_of-requires : goal.text_of-requires
text_of-requires c =
    turn_path c.args.numbers.now.entries _ (c.in-Some.path.now, c.in-Some._number.now) c.deref.result.now c.requires c.into_iter-path-iterator.ensures.into_iter_gives.5
    (iter_turn deref_pair c.args.numbers.now.entries c.loop-path.yielded c.into_iter-path-iterator.result c.loop-path.path-iterator c.next.new.self c.next.result c.into_iter-path-iterator.ensures.into_iter_gives.0 c.loop-path.yielded_by (c.in-Some.path, c.in-Some._number) c.in-Some.is c.next.ensures.steps).1
    c.deref.ensures.value

pub returns : goal.returns
returns c =
    all_turns c.args.numbers.now.entries _ c.loop-path.yielded c.into_iter-path-iterator.ensures.into_iter_gives.5
    (iter_end deref_pair c.args.numbers.now.entries c.loop-path.yielded c.into_iter-path-iterator.result c.loop-path.path-iterator c.next.new.self c.next.result c.into_iter-path-iterator.ensures.into_iter_gives.0 c.loop-path.yielded_by c.in-None.is c.next.ensures.steps).0
    c.loop-path.invariant
