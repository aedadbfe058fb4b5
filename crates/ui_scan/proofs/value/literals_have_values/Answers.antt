use Rattle.ui_scan.proofs.LiteralTokens.{literal_tokens}
use Rattle.ui_scan.proofs.value.literals_have_values.Goals as goal

pub returns : goal.returns
returns c = literal_tokens
