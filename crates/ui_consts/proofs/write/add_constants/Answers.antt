use Rattle.std.proofs.Common.{arith, lit≤}
use Rattle.ui_consts.proofs.FileLemmas.{middle_ready, objects_ready}
use Rattle.ui_consts.proofs.WriteLemmas.{less}
use Rattle.ui_consts.proofs.write.add_constants.Goals as goal

pub add_objects-requires-clause-fits : goal.add_objects-requires-clause-fits
add_objects-requires-clause-fits c = objects_ready c.args.x.now c.requires.numbers.0 c.requires.numbers.1 c.deref.result.now c.deref.ensures.value

pub add_objects-requires-clause-room : goal.add_objects-requires-clause-room
add_objects-requires-clause-room c = less 5 1 c.add_same.new.out (lit≤ tt) (c.in_ok-add_same.ensures.room 5 c.requires.front.room)

pub add_same-requires-2-clause-room : goal.add_same-requires-2-clause-room
add_same-requires-2-clause-room c = less 4 1 c.add_objects.new.out (lit≤ tt) (c.in_ok-add_objects.ensures.room 4 (c.in_ok-add_same.ensures.room 5 c.requires.front.room))

pub add_same-requires-3-clause-room : goal.add_same-requires-3-clause-room
add_same-requires-3-clause-room c = less 3 1 c.add_same-2.new.out (lit≤ tt) (c.in_ok-add_same-2.ensures.room 3 (c.in_ok-add_objects.ensures.room 4 (c.in_ok-add_same.ensures.room 5 c.requires.front.room)))

pub returns : goal.returns
returns c =
    middle_ready c.args.x.now c.requires.numbers.0 c.requires.numbers.1 c.deref.result.now c.len-count.result c.min.result c.args.out.now c.add_same.new.out c.add_objects.new.out c.add_same-2.new.out c.add_same-3.new.out c.deref.ensures.value (let k = c.args.x.now.entries.ok in omega (arith, c.len-count.ensures)) c.min.ensures c.requires.front
    c.in_ok-add_same.ensures c.in_ok-add_objects.ensures c.in_ok-add_same-2.ensures c.in_ok-add_same-3.ensures
