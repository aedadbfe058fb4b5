-- The plain trees that the code's trees stand for, with each spot or with none.
use Rattle.std.specs.Prelude.{List, [], ◌∷◌, map, Option, Some, None}
use Rattle.std.specs.Option.{option_map}
use Rattle.ui_base.specs.declared.value.Spot.{Spot}
use Rattle.ui_tree.specs.declared.part.Placed.{Placed}
use Rattle.ui_tree.specs.declared.part.Group.{Group}
use Rattle.ui_tree.specs.declared.part.Sig.{Sig}
use Rattle.ui_tree.specs.declared.expr.TypeExpr.{TypeExpr, fold-TypeExpr}
use Rattle.ui_tree.specs.declared.expr.ExprTree.{ExprTree, fold-ExprTree}
use Rattle.ui_tree.specs.declared.expr.ExprTree.TheOpen.{TypeExpr-F, ExprTree-F}
use Rattle.ui_tree.specs.Tree.{TypeTree, named, parenthesized, pointer, slice, array, counted, mapping, func, struct, interface, method, union, tilde, Args, no_args, args, Types, types_end, type_and, Groups, groups_end, group_and, MaybeType, no_type, given_type, listed, Tree, literal, name, paren, convert, composite, elided, keyed, instance, selector, assert, index, sliced, call, type_arg, unary, binary, Trees, trees_end, tree_and, MaybeTree, absent, given}

-- what becomes of a spot
abbrev pub Spotting : Type 0
Spotting = Spot → Spot

abbrev pub kept : Spotting
kept s = s

abbrev pub forgotten : Spotting
forgotten s = record { line = 0; col = 0 }

-- ---- lists, optional parts and the parts of forms

abbrev pub trees : List Tree → Trees
trees [] = trees_end
trees (e ∷ es) = tree_and e (trees es)

abbrev pub types : List TypeTree → Types
types [] = types_end
types (t ∷ ts) = type_and t (types ts)

abbrev pub maybe : Option Tree → MaybeTree
maybe None = absent
maybe (Some e) = given e

abbrev pub maybe_type : Option TypeTree → MaybeType
maybe_type None = no_type
maybe_type (Some t) = given_type t

abbrev pub type_args : Option (List TypeTree) → Args
type_args None = no_args
type_args (Some ts) = args (types ts)

abbrev pub placed : Spotting → Placed → Placed
placed f p = record { spot = f p.spot; text = p.text }

abbrev pub placed_maybe : Spotting → Option Placed → Option Placed
placed_maybe f None = None
placed_maybe f (Some p) = Some (placed f p)

abbrev pub names : Spotting → List Placed → List Placed
names f = map (placed f)

abbrev pub groups : Spotting → List (Group TypeTree) → Groups
groups f [] = groups_end
groups f (g ∷ gs) = group_and (names f g.names) g.of (groups f gs)

-- ---- the parts of forms with other parts of their own

abbrev pub group_with : {A B : Type 0} → (A → B) → Group A → Group B
group_with f g = record { names = g.names; of = f g.of }

-- ---- one layer of a tree, whose parts are trees already

abbrev pub type_layer : Spotting → TypeExpr-F Tree TypeTree → TypeTree
type_layer f (TypeExpr-F.Named n member given_args) = named (placed f n) (placed_maybe f member) (type_args given_args)
type_layer f (TypeExpr-F.Parenthesized s t) = parenthesized (f s) t
type_layer f (TypeExpr-F.Pointer s t) = pointer (f s) t
type_layer f (TypeExpr-F.Slice s t) = slice (f s) t
type_layer f (TypeExpr-F.Array s len t) = array (f s) len t
type_layer f (TypeExpr-F.Counted s t) = counted (f s) t
type_layer f (TypeExpr-F.Map s key t) = mapping (f s) key t
type_layer f (TypeExpr-F.Func s sig) = func (f s) (groups f sig.params) (maybe_type sig.results)
type_layer f (TypeExpr-F.Listed s gs) = listed (f s) (groups f gs)
type_layer f (TypeExpr-F.Struct s fields) = struct (f s) (groups f fields)
type_layer f (TypeExpr-F.Interface s es) = interface (f s) (types es)
type_layer f (TypeExpr-F.Method n sig) = method (placed f n) (groups f sig.params) (maybe_type sig.results)
type_layer f (TypeExpr-F.Union s ts) = union (f s) (types ts)
type_layer f (TypeExpr-F.Tilde s t) = tilde (f s) t

abbrev pub layer : Spotting → ExprTree-F Tree TypeTree → Tree
layer f (ExprTree-F.Literal s kind value) = literal (f s) kind value
layer f (ExprTree-F.Name n) = name (placed f n)
layer f (ExprTree-F.Paren s e) = paren (f s) e
layer f (ExprTree-F.Convert s t e) = convert (f s) t e
layer f (ExprTree-F.Composite s t es) = composite (f s) t (trees es)
layer f (ExprTree-F.Elided s es) = elided (f s) (trees es)
layer f (ExprTree-F.Keyed s k e) = keyed (f s) k e
layer f (ExprTree-F.Instance s e ts) = instance (f s) e (types ts)
layer f (ExprTree-F.Selector s e n) = selector (f s) e (placed f n)
layer f (ExprTree-F.Assert s e t) = assert (f s) e t
layer f (ExprTree-F.Index s e at) = index (f s) e at
layer f (ExprTree-F.Sliced s e low high most) = sliced (f s) e (maybe low) (maybe high) (maybe most)
layer f (ExprTree-F.Call s e es spread) = call (f s) e (trees es) spread
layer f (ExprTree-F.Type t) = type_arg t
layer f (ExprTree-F.Unary s op e) = unary (f s) op e
layer f (ExprTree-F.Binary s op l r) = binary (f s) op l r

-- ---- whole trees

unfoldable pub seen : Spotting → ExprTree → Tree
seen f = fold-ExprTree Tree TypeTree (layer f) (type_layer f)

unfoldable pub type_seen : Spotting → TypeExpr → TypeTree
type_seen f = fold-TypeExpr Tree TypeTree (layer f) (type_layer f)

-- the tree with its spots, and without
abbrev pub view : ExprTree → Tree
view = seen kept

abbrev pub type_view : TypeExpr → TypeTree
type_view = type_seen kept

abbrev pub shape : ExprTree → Tree
shape = seen forgotten

abbrev pub type_shape : TypeExpr → TypeTree
type_shape = type_seen forgotten
