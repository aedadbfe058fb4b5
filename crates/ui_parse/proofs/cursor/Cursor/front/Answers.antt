use Rattle.std.proofs.Common.{subst, sym}
use Rattle.std.specs.List.{AllByRecursion}
use Rattle.ui_parse.specs.Cursor.{IsReadable}
use Rattle.ui_parse.proofs.Readable.{take_readable}
use Rattle.ui_parse.proofs.cursor.Cursor.front.Goals as goal

pub invariant_of-result : goal.invariant_of-result
invariant_of-result c = subst (AllByRecursion (IsReadable c.self.inside.bytes.now)) (sym c.first_tokens.ensures) (take_readable c.self.inside.bytes.now c.args.count c.self.inside.rest.now c.self.invariant)
