use Rattle.std.proofs.Common.{lit≤}
use Rattle.ui_consts.proofs.FileLemmas.{bases_ready, front_ready, names_ready}
use Rattle.ui_consts.proofs.WriteLemmas.{less, room_at_first}
use Rattle.ui_consts.proofs.write.add_front.Goals as goal

pub add_bases-requires-clause-fits : goal.add_bases-requires-clause-fits
add_bases-requires-clause-fits c = bases_ready c.args.x.now c.requires.numbers.0 c.requires.numbers.1 c.deref-2.result.now c.deref-2.ensures.value

pub add_bases-requires-clause-room : goal.add_bases-requires-clause-room
add_bases-requires-clause-room c = less 9 1 c.add_strings.new.out (lit≤ tt) (c.in_ok-add_strings.ensures.room 9 (room_at_first c.args.out.now c.requires.empty))

pub add_one-requires-clause-room : goal.add_one-requires-clause-room
add_one-requires-clause-room c = less 8 1 c.add_bases.new.out (lit≤ tt) (c.in_ok-add_bases.ensures.room 8 (c.in_ok-add_strings.ensures.room 9 (room_at_first c.args.out.now c.requires.empty)))

pub add_names-requires-clause-fits : goal.add_names-requires-clause-fits
add_names-requires-clause-fits c = names_ready c.args.x.now c.requires.numbers.0 c.requires.numbers.1 c.deref-3.result.now c.deref-3.ensures.value

pub add_names-requires-clause-room : goal.add_names-requires-clause-room
add_names-requires-clause-room c = less 7 1 c.add_one.new.out (lit≤ tt) (c.in_ok-add_one.ensures.room 7 (c.in_ok-add_bases.ensures.room 8 (c.in_ok-add_strings.ensures.room 9 (room_at_first c.args.out.now c.requires.empty))))

pub returns : goal.returns
returns c =
    front_ready c.args.x.now c.requires.numbers.0 c.requires.numbers.1 c.deref.result.now c.deref-2.result.now c.deref-3.result.now c.args.out.now c.add_strings.new.out c.add_bases.new.out c.add_one.new.out c.add_names.new.out c.deref.ensures.value c.deref-2.ensures.value c.deref-3.ensures.value c.requires.empty
    c.in_ok-add_strings.ensures c.in_ok-add_bases.ensures c.in_ok-add_one.ensures c.in_ok-add_names.ensures
