use Rattle.ui_pdecl.proofs.TypeTexts.{parenthesized_continues, pointer_continues, array_continues, no_continuation}
use Rattle.ui_pdecl.proofs.lengths.+continues.Goals as goal

pub returns-in-Parenthesized : goal.returns-in-Parenthesized
returns-in-Parenthesized t c = parenthesized_continues c.args.of.now c.in-Parenthesized.of c.in-Parenthesized.spot c.in-Parenthesized.is

pub returns-in-Pointer : goal.returns-in-Pointer
returns-in-Pointer t c = pointer_continues c.args.of.now c.in-Pointer.of c.get.result.now c.in-Pointer.spot c.is_expression.result c.get.ensures c.in-Pointer.is c.is_expression.ensures

pub returns-in-Array : goal.returns-in-Array
returns-in-Array t c = array_continues c.args.of.now c.in-Array.of c.get-in-Array.result.now c.in-Array.spot c.continues.result c.get-in-Array.ensures c.in-Array.len c.in-Array.is c.continues.ensures

pub returns-in_default : goal.returns-in_default
returns-in_default t c = no_continuation c.args.of.now (record {
  not_parenthesized = c.in_default.not-Parenthesized;
  not_pointer = c.in_default.not-Pointer;
  not_array = c.in_default.not-Array;
})
