use Rattle.std.proofs.Common.{◌∙◌, sym, ap, filter_map}
use Rattle.std.specs.Map.Iter.{deref_pair}
use Rattle.std.proofs.lemmas.Map.Iter.{rest_more, rest_all}
use Rattle.ui_below.specs.Join.{stale_in, first_of}
use Rattle.ui_below.proofs.HoldingLemmas.{entries-holding}
use Rattle.ui_below.proofs.Turns.{one_print, two_prints, no_entry}
use Rattle.ui_below.proofs.lists.stale_in.Goals as goal

pub loop-path-preserved : goal.loop-path-preserved
loop-path-preserved c =
    (tt, tt, one_print (deref_pair (c.in-Some.path, c.in-Some.held)) c.next.new.self c.loop-path.path-iterator c.args.by_path.now.entries (rest_more deref_pair c.loop-path.path-iterator c.next.new.self c.next.result (c.in-Some.path, c.in-Some.held) c.in-Some.is c.next.ensures.steps) c.in_default.is c.loop-path.invariant.2)

pub returns-in-Some-other : goal.returns-in-Some-other
returns-in-Some-other c =
    two_prints (deref_pair (c.in-Some.path, c.in-Some.held)) c.next.new.self c.loop-path.path-iterator c.args.by_path.now.entries c.in-Some-other.second c.in_ok-path.path (rest_more deref_pair c.loop-path.path-iterator c.next.new.self c.next.result (c.in-Some.path, c.in-Some.held) c.in-Some.is c.next.ensures.steps)
    (c.in_ok-path.ensures ∙ c.deref.ensures.value) c.in-Some-other.is c.loop-path.invariant.2
    ∙ ap (λ es. first_of (filter_map stale_in es)) (sym (entries-holding c.args.by_path.now.entries c.into_iter-path-iterator.ensures.into_iter_gives.5))

pub returns : goal.returns
returns c = no_entry c.loop-path.path-iterator c.args.by_path.now.entries (rest_all deref_pair c.loop-path.path-iterator c.next.new.self c.next.result c.in-None.is c.next.ensures.steps) c.loop-path.invariant.2
    ∙ ap (λ es. first_of (filter_map stale_in es)) (sym (entries-holding c.args.by_path.now.entries c.into_iter-path-iterator.ensures.into_iter_gives.5))
