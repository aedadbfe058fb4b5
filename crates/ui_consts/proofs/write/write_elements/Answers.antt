use Rattle.ui_consts.specs.Numbering.{elements_of}
use Rattle.ui_consts.proofs.FileLemmas.{private_few}
use Rattle.ui_consts.proofs.WriteLemmas.{whole}
use Rattle.ui_consts.proofs.write.write_elements.Goals as goal

pub add_one-requires-clause-few : goal.add_one-requires-clause-few
add_one-requires-clause-few c = private_few c.args.x.now c.requires.0 c.requires.1

pub add_one-requires-clause-room : goal.add_one-requires-clause-room
add_one-requires-clause-room c = c.in_ok-add_public_root.ensures.room 1 c.in_ok-add_constants.ensures.room

pub returns-clause-spelled : goal.returns-clause-spelled
returns-clause-spelled c = whole (elements_of c.args.x.now) c.add_constants.new.out c.add_public_root.new.out _ c.in_ok-add_constants.ensures.is c.in_ok-add_public_root.ensures.parts c.in_ok-add_one.ensures.parts

pub returns-clause-room : goal.returns-clause-room
returns-clause-room c = c.in_ok-add_one.ensures.room 0 (c.in_ok-add_public_root.ensures.room 1 c.in_ok-add_constants.ensures.room)
