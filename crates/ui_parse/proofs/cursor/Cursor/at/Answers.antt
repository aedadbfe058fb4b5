use Rattle.std.proofs.Common.{subst, sym}
use Rattle.std.specs.List.{AllByRecursion}
use Rattle.ui_parse.specs.Cursor.{IsReadable}
use Rattle.ui_parse.proofs.Readable.{readable, drop_readable}
use Rattle.ui_parse.proofs.cursor.Cursor.at.Goals as goal

pub invariant_of-result : goal.invariant_of-result
invariant_of-result c = subst (AllByRecursion (IsReadable c.args.bytes.now)) (sym c.from_place.ensures) (drop_readable c.args.bytes.now c.args.from c.args.tokens.now (readable c.args.bytes.now c.args.tokens.now c.requires.found (c.literals_have_values.ensures c.args.bytes.now c.args.tokens.now c.requires.found)))
