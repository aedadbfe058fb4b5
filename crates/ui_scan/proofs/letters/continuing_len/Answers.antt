use Rattle.std.proofs.Common.{◌∙◌, refl, arith}
use Rattle.ui_scan.proofs.LowLaws.{continuing_low}
use Rattle.ui_scan.proofs.letters.continuing_len.Goals as goal

pub returns-in-len1-up : goal.returns-in-len1-up
returns-in-len1-up c = c.low_len.ensures ∙ continuing_low c.args.bytes.now _ (omega arith) refl c.if-b-lt128.true
