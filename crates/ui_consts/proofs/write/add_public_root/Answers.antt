use Rattle.std.proofs.Common.{◌∙◌, arith}
use Rattle.ui_consts.proofs.FileLemmas.{public_few, public_ready, public_same}
use Rattle.ui_consts.proofs.write.add_public_root.Goals as goal

pub add_one-requires-clause-fits : goal.add_one-requires-clause-fits
add_one-requires-clause-fits c = public_ready c.args.x.now c.requires.numbers.0 c.requires.numbers.1 c.new-objects.result c.len.result (let k = c.args.x.now.entries.ok in omega (arith, c.len.ensures)) (c.new-objects.ensures ∙ c.in_ok-object_uses.ensures)

pub add_one-requires-clause-few : goal.add_one-requires-clause-few
add_one-requires-clause-few c = public_few c.args.x.now c.requires.numbers.0 c.requires.numbers.1 c.new-objects.result c.len.result (let k = c.args.x.now.entries.ok in omega (arith, c.len.ensures)) (c.new-objects.ensures ∙ c.in_ok-object_uses.ensures)

pub returns : goal.returns
returns c = public_same c.args.x.now c.requires.numbers.0 c.requires.numbers.1 c.new-objects.result c.len.result c.args.out.now c.add_one.new.out (let k = c.args.x.now.entries.ok in omega (arith, c.len.ensures)) (c.new-objects.ensures ∙ c.in_ok-object_uses.ensures) c.in_ok-add_one.ensures
