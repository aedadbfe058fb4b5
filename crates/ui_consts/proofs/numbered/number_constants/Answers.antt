use Rattle.std.proofs.Common.{map, ap}
use Rattle.std.specs.Map.Iter.{deref_pair}
use Rattle.std.proofs.lemmas.Map.Iter.{iter_end, iter_turn}
use Rattle.ui_consts.specs.Numbering.{entry}
use Rattle.ui_consts.specs.Size.{IsSmallEntry}
use Rattle.ui_consts.proofs.NumberingLemmas.{constants_none, item_at, kept_map, loop_end, loop_next, loop_room}
use Rattle.ui_consts.proofs.numbered.number_constants.Goals as goal

pub loop-text-init : goal.loop-text-init
loop-text-init c = constants_none c.args.strings.now.keys (map entry c.new-entries.result.items) c.new-bases.result.keys (ap (map entry) c.new-entries.ensures.items) c.new-bases.ensures.empty

pub entry_of-requires-clause-strings : goal.entry_of-requires-clause-strings
entry_of-requires-clause-strings c =
    (loop_room c.args.«package».now c.constants-text-items.result.now.entries c.loop-text.yielded _ c.loop-text.bases.keys c.args.strings.now.keys c.loop-text.strings.keys c.requires.small c.constants-text-items.ensures c.into_iter-text-iterator.ensures.into_iter_gives.5
    (iter_turn deref_pair c.constants-text-items.result.now.entries c.loop-text.yielded c.into_iter-text-iterator.result c.loop-text.text-iterator c.next.new.self c.next.result c.into_iter-text-iterator.ensures.into_iter_gives.0 c.loop-text.yielded_by (c.in-Some.text, c.in-Some.constant) c.in-Some.is c.next.ensures.steps).0
    c.requires.room c.loop-text.invariant).0

pub entry_of-requires-clause-bases : goal.entry_of-requires-clause-bases
entry_of-requires-clause-bases c =
    (loop_room c.args.«package».now c.constants-text-items.result.now.entries c.loop-text.yielded _ c.loop-text.bases.keys c.args.strings.now.keys c.loop-text.strings.keys c.requires.small c.constants-text-items.ensures c.into_iter-text-iterator.ensures.into_iter_gives.5
    (iter_turn deref_pair c.constants-text-items.result.now.entries c.loop-text.yielded c.into_iter-text-iterator.result c.loop-text.text-iterator c.next.new.self c.next.result c.into_iter-text-iterator.ensures.into_iter_gives.0 c.loop-text.yielded_by (c.in-Some.text, c.in-Some.constant) c.in-Some.is c.next.ensures.steps).0
    c.requires.room c.loop-text.invariant).1

pub entry_of-requires-clause-small : goal.entry_of-requires-clause-small
entry_of-requires-clause-small c =
    item_at IsSmallEntry c.args.«package».now c.constants-text-items.result.now.entries _ (c.in-Some.text, c.in-Some.constant) c.deref.result.now c.requires.small.entries c.constants-text-items.ensures c.into_iter-text-iterator.ensures.into_iter_gives.5
    (iter_turn deref_pair c.constants-text-items.result.now.entries c.loop-text.yielded c.into_iter-text-iterator.result c.loop-text.text-iterator c.next.new.self c.next.result c.into_iter-text-iterator.ensures.into_iter_gives.0 c.loop-text.yielded_by (c.in-Some.text, c.in-Some.constant) c.in-Some.is c.next.ensures.steps).1
    c.deref.ensures.value

pub loop-text-preserved : goal.loop-text-preserved
loop-text-preserved c =
    loop_next c.args.«package».now c.constants-text-items.result.now.entries c.loop-text.yielded (c.in-Some.text, c.in-Some.constant) c.deref.result.now c.loop-text.entries.items _ c.in_ok-entry.entry c.loop-text.bases.keys _ c.args.strings.now.keys c.loop-text.strings.keys _ c.requires.names c.constants-text-items.ensures c.into_iter-text-iterator.ensures.into_iter_gives.5
    (iter_turn deref_pair c.constants-text-items.result.now.entries c.loop-text.yielded c.into_iter-text-iterator.result c.loop-text.text-iterator c.next.new.self c.next.result c.into_iter-text-iterator.ensures.into_iter_gives.0 c.loop-text.yielded_by (c.in-Some.text, c.in-Some.constant) c.in-Some.is c.next.ensures.steps).1
    c.deref.ensures.value c.in_ok-push.ensures.items c.loop-text.invariant c.in_ok-entry.ensures.texts c.in_ok-entry.ensures.files c.in_ok-entry.ensures.is c.in_ok-entry.ensures.apart c.in_ok-entry.ensures.used c.in_ok-entry.ensures.file_used

pub returns-clause-numbers : goal.returns-clause-numbers
returns-clause-numbers c =
    loop_end c.args.«package».now c.constants-text-items.result.now.entries c.loop-text.yielded (map entry c.loop-text.entries.items) c.loop-text.bases.keys _ c.args.strings.now.keys c.loop-text.strings.keys c.constants-text-items.ensures c.into_iter-text-iterator.ensures.into_iter_gives.5
    (iter_end deref_pair c.constants-text-items.result.now.entries c.loop-text.yielded c.into_iter-text-iterator.result c.loop-text.text-iterator c.next.new.self c.next.result c.into_iter-text-iterator.ensures.into_iter_gives.0 c.loop-text.yielded_by c.in-None.is c.next.ensures.steps).0
    c.in_ok-bases.ensures c.loop-text.invariant

pub returns-clause-listed : goal.returns-clause-listed
returns-clause-listed c = kept_map c.args.«package».now c.constants-text-items.result.now.entries c.constants-text-items.ensures c.into_iter-text-iterator.ensures.into_iter_gives.5
