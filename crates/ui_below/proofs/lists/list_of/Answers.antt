use Rattle.std.proofs.Common.{◌∙◌, sym, ap, map}
use Rattle.std.specs.Map.Iter.{deref_pair}
use Rattle.std.proofs.lemmas.Map.Iter.{iter_end}
use Rattle.std.proofs.lemmas.Simd.{map-map}
use Rattle.ui_below.specs.Holding.{entry_of}
use Rattle.ui_below.specs.Join.{below_in}
use Rattle.ui_below.proofs.HoldingLemmas.{entries-holding}
use Rattle.ui_below.proofs.lists.list_of.Goals as goal

pub returns : goal.returns
returns c =
    let e = (iter_end deref_pair c.args.by_path.now.entries c.loop-path.yielded c.into_iter-path-iterator.result c.loop-path.path-iterator c.next.new.self c.next.result c.into_iter-path-iterator.ensures.into_iter_gives.0 c.loop-path.yielded_by c.in-None.is c.next.ensures.steps).0 in
    c.loop-path.invariant ∙ ap (map below_in) (sym (map-map entry_of deref_pair c.loop-path.yielded) ∙ ap (map entry_of) e ∙ sym (entries-holding c.args.by_path.now.entries c.into_iter-path-iterator.ensures.into_iter_gives.5))
