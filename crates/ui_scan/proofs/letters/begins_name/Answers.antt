use Rattle.std.proofs.Common.{◌∙◌, refl, arith}
use Rattle.ui_scan.proofs.LowLaws.{begins_low}
use Rattle.ui_scan.proofs.letters.begins_name.Goals as goal

pub returns-in-len1-up : goal.returns-in-len1-up
returns-in-len1-up c = c.is_low_letter.ensures ∙ begins_low c.args.bytes.now _ (omega arith) refl c.if-b-lt128.true
