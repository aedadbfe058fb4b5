-- Where the first tokens of trees stand. This project's own.
use Rattle.ui_base.specs.declared.value.Spot.{Spot}
use Rattle.ui_tree.specs.Tree.{TypeTree, named, parenthesized, pointer, slice, array, counted, mapping, func, listed, struct, interface, method, union, tilde, Tree, literal, name, paren, convert, composite, elided, keyed, instance, selector, assert, index, sliced, call, type_arg, unary, binary}

abbrev pub type_spot : TypeTree → Spot
type_spot (named n m as_given) = n.spot
type_spot (parenthesized s t) = s
type_spot (pointer s t) = s
type_spot (slice s t) = s
type_spot (array s n t) = s
type_spot (counted s t) = s
type_spot (mapping s k t) = s
type_spot (func s gs r) = s
type_spot (listed s gs) = s
type_spot (struct s gs) = s
type_spot (interface s ts) = s
type_spot (method n gs r) = n.spot
type_spot (union s ts) = s
type_spot (tilde s t) = s

abbrev pub tree_spot : Tree → Spot
tree_spot (literal s k v) = s
tree_spot (name n) = n.spot
tree_spot (paren s e) = s
tree_spot (convert s t e) = s
tree_spot (composite s t es) = s
tree_spot (elided s es) = s
tree_spot (keyed s k e) = s
tree_spot (instance s e ts) = s
tree_spot (selector s e n) = s
tree_spot (assert s e t) = s
tree_spot (index s e at) = s
tree_spot (sliced s e l h m) = s
tree_spot (call s e es spread) = s
tree_spot (type_arg t) = type_spot t
tree_spot (unary s op e) = s
tree_spot (binary s op l r) = s
