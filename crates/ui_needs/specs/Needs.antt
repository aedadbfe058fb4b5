-- What types and expressions depend on. Go specification, "Type declarations", "Constant
-- declarations", "Alias declarations". A declaration has two nodes: what its name is declared as,
-- and the underlying type of that. So `type T struct { next *T }` has no cycle: its underlying
-- type needs what `T` is declared as, which needs nothing. A name that the package doesn't declare
-- has no node. What isn't taken yet isn't looked into: type arguments, elements of interfaces, and
-- all expressions but literals, names, parentheses, selectors and operators.
use Rattle.std.specs.Prelude.{ℕ, List, [], ◌∷◌, ◌++◌, Option, Some, None}
use Rattle.ui_tree.specs.declared.part.Placed.{Placed}
use Rattle.ui_tree.specs.Tree as tree
use Rattle.ui_tree.specs.Tree.{TypeTree, Groups, MaybeType, Tree, Trees}
use Rattle.ui_needs.specs.declared.numbers.Nodes.{Nodes}

-- the nodes of the declaration of each name
abbrev pub Numbers : Type 0
Numbers = List ℕ → Option Nodes

abbrev pub meaning_node : Option Nodes → List ℕ
meaning_node None = []
meaning_node (Some p) = p.meaning ∷ []

abbrev pub under_node : Option Nodes → List ℕ
under_node None = []
under_node (Some p) = p.under ∷ []

-- the underlying type of a type that is a name
abbrev pub head_needs : Numbers → TypeTree → List ℕ
head_needs at (tree.named p None given) = under_node (at p.text)
head_needs at (tree.named p (Some m) given) = []
head_needs at (tree.parenthesized s t) = head_needs at t
head_needs at (tree.pointer s t) = []
head_needs at (tree.slice s t) = []
head_needs at (tree.array s e t) = []
head_needs at (tree.counted s t) = []
head_needs at (tree.mapping s k t) = []
head_needs at (tree.func s ps r) = []
head_needs at (tree.listed s gs) = []
head_needs at (tree.struct s fs) = []
head_needs at (tree.interface s es) = []
head_needs at (tree.method p gs r) = []
head_needs at (tree.union s ts) = []
head_needs at (tree.tilde s t) = []

-- of each name in an expression, what it is declared as and the underlying type of that
abbrev pub value_needs : Numbers → Tree → List ℕ
value_needs at (tree.literal s k v) = []
value_needs at (tree.name p) = meaning_node (at p.text) ++ under_node (at p.text)
value_needs at (tree.paren s e) = value_needs at e
value_needs at (tree.selector s e m) = value_needs at e
value_needs at (tree.unary s op e) = value_needs at e
value_needs at (tree.binary s op l r) = value_needs at l ++ value_needs at r
value_needs at (tree.convert s t e) = []
value_needs at (tree.composite s t es) = []
value_needs at (tree.elided s es) = []
value_needs at (tree.keyed s k v) = []
value_needs at (tree.instance s e ts) = []
value_needs at (tree.assert s e t) = []
value_needs at (tree.index s e i) = []
value_needs at (tree.sliced s e l h m) = []
value_needs at (tree.call s e es b) = []
value_needs at (tree.type_arg t) = []

abbrev pub values_needs : Numbers → Trees → List ℕ
values_needs at tree.trees_end = []
values_needs at (tree.tree_and e es) = value_needs at e ++ values_needs at es

abbrev mutual
  -- of each name in a type, at any depth, what it is declared as
  pub type_needs : Numbers → TypeTree → List ℕ
  type_needs at (tree.named p None given) = meaning_node (at p.text)
  type_needs at (tree.named p (Some m) given) = []
  type_needs at (tree.parenthesized s t) = type_needs at t
  type_needs at (tree.pointer s t) = type_needs at t
  type_needs at (tree.slice s t) = type_needs at t
  type_needs at (tree.array s e t) = value_needs at e ++ type_needs at t
  type_needs at (tree.counted s t) = type_needs at t
  type_needs at (tree.mapping s k t) = type_needs at k ++ type_needs at t
  type_needs at (tree.func s ps r) = group_needs at ps ++ result_needs at r
  type_needs at (tree.listed s gs) = group_needs at gs
  type_needs at (tree.struct s fs) = group_needs at fs
  type_needs at (tree.interface s es) = []
  type_needs at (tree.method p gs r) = []
  type_needs at (tree.union s ts) = []
  type_needs at (tree.tilde s t) = []

  pub group_needs : Numbers → Groups → List ℕ
  group_needs at tree.groups_end = []
  group_needs at (tree.group_and ns t gs) = type_needs at t ++ group_needs at gs

  pub result_needs : Numbers → MaybeType → List ℕ
  result_needs at tree.no_type = []
  result_needs at (tree.given_type t) = type_needs at t

abbrev pub maybe_head : Numbers → MaybeType → List ℕ
maybe_head at tree.no_type = []
maybe_head at (tree.given_type t) = head_needs at t

-- a written type and its underlying type
abbrev pub whole_needs : Numbers → MaybeType → List ℕ
whole_needs at t = result_needs at t ++ maybe_head at t
