use Rattle.ui_parse.proofs.Readable.{readable}
use Rattle.ui_parse.proofs.cursor.Cursor.new.Goals as goal

pub invariant_of-result : goal.invariant_of-result
invariant_of-result c = readable c.args.bytes.now c.args.tokens.now c.requires (c.literals_have_values.ensures c.args.bytes.now c.args.tokens.now c.requires)
