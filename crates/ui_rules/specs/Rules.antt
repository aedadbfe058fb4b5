-- What each form of expression is checked to be: its parts from left to right, and then the rule of the form; a form that isn't
-- taken is refused at its first token. Go specification, "Expressions".
use Rattle.std.specs.Prelude.{Result, Ok, Err}
use Rattle.ui_tree.specs.Tree.{Tree, literal, name, paren, convert, composite, elided, keyed, instance, selector, assert, index, sliced, call, type_arg, unary, binary}
use Rattle.ui_tree.specs.Spots.{type_spot}
use Rattle.ui_scopes.specs.Operands.{OperandTree}
use Rattle.ui_scopes.specs.Scopes.{World, ScopeTree}
use Rattle.ui_scopes.specs.Steps.{Checks, ◌>>=◌, refuse}
use Rattle.ui_rules.specs.Kinds.{not_taken}
use Rattle.ui_rules.specs.Names.{name_operand}
use Rattle.ui_rules.specs.Forms.{literal_operand, unary_operand, binary_operand, selected, in_parens}

-- what an expression is checked to be, or its first fault
unfoldable pub operand_of : World → ScopeTree → Tree → Checks OperandTree
operand_of w s (literal at kind v) = Ok (literal_operand kind v)
operand_of w s (name p) = name_operand w s p
operand_of w s (paren at a) = operand_of w s a >>= in_parens s.file at
operand_of w s (selector at a p) = operand_of w s a >>= selected w s.file at p.text
operand_of w s (unary at op a) = operand_of w s a >>= unary_operand w s.file at op
operand_of w s (binary at op a b) = operand_of w s a >>= λ x. operand_of w s b >>= λ y. binary_operand w s.file at op x y
operand_of w s (convert at t a) = refuse s.file at not_taken
operand_of w s (composite at t es) = refuse s.file at not_taken
operand_of w s (elided at es) = refuse s.file at not_taken
operand_of w s (keyed at k a) = refuse s.file at not_taken
operand_of w s (instance at a ts) = refuse s.file at not_taken
operand_of w s (assert at a t) = refuse s.file at not_taken
operand_of w s (index at a b) = refuse s.file at not_taken
operand_of w s (sliced at a l h m) = refuse s.file at not_taken
operand_of w s (call at a es spread) = refuse s.file at not_taken
operand_of w s (type_arg t) = refuse s.file (type_spot t) not_taken
