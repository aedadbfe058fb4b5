use Rattle.std.proofs.Common.{◌∙◌, sym, arith}
use Rattle.std.proofs.lemmas.Bool.Decides.{nat_tests}
use Rattle.ui_scan.proofs.LiteralTokens.{literal_tokens}
use Rattle.ui_text_tests.proofs.tokens.literal_value.Goals as goal

pub value_of-requires : goal.value_of-requires
value_of-requires c =
    literal_tokens c.args.text.now c.args.found.now c.requires 0 _ (grind (arith, nat_tests)) (sym c.is_literal.ensures ∙ c.if-not-is_literal.false)
