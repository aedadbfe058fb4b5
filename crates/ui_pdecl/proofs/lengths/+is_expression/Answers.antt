use Rattle.ui_pdecl.proofs.TypeTexts.{named_expression, parenthesized_expression, pointer_expression, no_expression}
use Rattle.ui_pdecl.proofs.lengths.+is_expression.Goals as goal

pub returns-in-Named : goal.returns-in-Named
returns-in-Named t c = named_expression c.args.of.now c.in-Named.name c.in-Named.member c.in-Named.args c.in-Named.is

pub returns-in-Parenthesized : goal.returns-in-Parenthesized
returns-in-Parenthesized t c = parenthesized_expression c.args.of.now c.in-Parenthesized.of c.get.result.now c.in-Parenthesized.spot c.is_expression.result c.get.ensures c.in-Parenthesized.is c.is_expression.ensures

pub returns-in-Pointer : goal.returns-in-Pointer
returns-in-Pointer t c = pointer_expression c.args.of.now c.in-Pointer.of c.get-in-Pointer.result.now c.in-Pointer.spot c.is_expression-in-Pointer.result c.get-in-Pointer.ensures c.in-Pointer.is c.is_expression-in-Pointer.ensures

pub returns-in_default : goal.returns-in_default
returns-in_default t c = no_expression c.args.of.now (record {
  not_named = c.in_default.not-Named;
  not_parenthesized = c.in_default.not-Parenthesized;
  not_pointer = c.in_default.not-Pointer;
})
