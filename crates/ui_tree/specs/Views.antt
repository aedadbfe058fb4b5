-- What a tree is seen as, at each variant.
use Rattle.std.proofs.Common.{◌≡◌, Bool, List, map, Option, Some, None, ap, sym, ◌∙◌}
use Rattle.std.specs.Option.{option_map}
use Rattle.ui_base.specs.declared.value.Spot.{Spot}
use Rattle.ui_base.specs.declared.value.Value.{Value}
use Rattle.ui_base.specs.declared.kind.BinOp.{BinOp}
use Rattle.ui_tree.specs.declared.part.Placed.{Placed}
use Rattle.ui_tree.specs.declared.part.LiteralKind.{LiteralKind}
use Rattle.ui_tree.specs.declared.part.PrefixOp.{PrefixOp}
use Rattle.ui_tree.specs.declared.part.Group.{Group}
use Rattle.ui_tree.specs.declared.expr.TypeExpr.{TypeExpr, fold-TypeExpr, fold-roll-TypeExpr}
use Rattle.ui_tree.specs.declared.expr.TypeExpr.TheVariants as tv
use Rattle.ui_tree.specs.declared.expr.ExprTree.{ExprTree, fold-ExprTree, fold-roll-ExprTree}
use Rattle.ui_tree.specs.declared.expr.ExprTree.TheVariants as ev
use Rattle.ui_tree.specs.declared.expr.ExprTree.TheOpen.{TypeExpr-F, ExprTree-F}
use Rattle.ui_tree.specs.Tree.{TypeTree, named, parenthesized, pointer, slice, array, counted, mapping, func, listed, struct, interface, method, union, tilde, Tree, literal, name, paren, convert, composite, elided, keyed, instance, selector, assert, index, sliced, call, type_arg, unary, binary}
use Rattle.ui_tree.specs.View.{Spotting, seen, type_seen, layer, type_layer, placed, placed_maybe, type_args, types, trees, maybe, maybe_type, groups, group_with}

pub seen_Named : (f : Spotting) (n : Placed) (m : Option Placed) (vs : Option (List TypeExpr)) → type_seen f (tv.Named n m vs) ≡ named (placed f n) (placed_maybe f m) (type_args (option_map (map (type_seen f)) vs))
unfolding type_seen seen
seen_Named f n m None = ap (fold-TypeExpr Tree TypeTree (layer f) (type_layer f)) (sym (tv.rolls-Named n m None)) ∙ fold-roll-TypeExpr Tree TypeTree (layer f) (type_layer f) (TypeExpr-F.Named n m None)
seen_Named f n m (Some ts) = ap (fold-TypeExpr Tree TypeTree (layer f) (type_layer f)) (sym (tv.rolls-Named n m (Some ts))) ∙ fold-roll-TypeExpr Tree TypeTree (layer f) (type_layer f) (TypeExpr-F.Named n m (Some ts))

pub seen_Func : (f : Spotting) (s : Spot) (gs : List (Group TypeExpr)) (r : Option TypeExpr) → type_seen f (tv.Func s (record { params = gs; results = r })) ≡ func (f s) (groups f (map (group_with (type_seen f)) gs)) (maybe_type (option_map (type_seen f) r))
unfolding type_seen seen
seen_Func f s gs None = ap (fold-TypeExpr Tree TypeTree (layer f) (type_layer f)) (sym (tv.rolls-Func s (record { params = gs; results = None }))) ∙ fold-roll-TypeExpr Tree TypeTree (layer f) (type_layer f) (TypeExpr-F.Func s (record { params = gs; results = None }))
seen_Func f s gs (Some t) = ap (fold-TypeExpr Tree TypeTree (layer f) (type_layer f)) (sym (tv.rolls-Func s (record { params = gs; results = (Some t) }))) ∙ fold-roll-TypeExpr Tree TypeTree (layer f) (type_layer f) (TypeExpr-F.Func s (record { params = gs; results = (Some t) }))

pub seen_Listed : (f : Spotting) (s : Spot) (gs : List (Group TypeExpr)) → type_seen f (tv.Listed s gs) ≡ listed (f s) (groups f (map (group_with (type_seen f)) gs))
unfolding type_seen seen
seen_Listed f s gs = ap (fold-TypeExpr Tree TypeTree (layer f) (type_layer f)) (sym (tv.rolls-Listed s gs)) ∙ fold-roll-TypeExpr Tree TypeTree (layer f) (type_layer f) (TypeExpr-F.Listed s gs)

pub seen_Method : (f : Spotting) (n : Placed) (gs : List (Group TypeExpr)) (r : Option TypeExpr) → type_seen f (tv.Method n (record { params = gs; results = r })) ≡ method (placed f n) (groups f (map (group_with (type_seen f)) gs)) (maybe_type (option_map (type_seen f) r))
unfolding type_seen seen
seen_Method f n gs None = ap (fold-TypeExpr Tree TypeTree (layer f) (type_layer f)) (sym (tv.rolls-Method n (record { params = gs; results = None }))) ∙ fold-roll-TypeExpr Tree TypeTree (layer f) (type_layer f) (TypeExpr-F.Method n (record { params = gs; results = None }))
seen_Method f n gs (Some t) = ap (fold-TypeExpr Tree TypeTree (layer f) (type_layer f)) (sym (tv.rolls-Method n (record { params = gs; results = (Some t) }))) ∙ fold-roll-TypeExpr Tree TypeTree (layer f) (type_layer f) (TypeExpr-F.Method n (record { params = gs; results = (Some t) }))

pub seen_Parenthesized : (f : Spotting) (s : Spot) (t : TypeExpr) → type_seen f (tv.Parenthesized s t) ≡ parenthesized (f s) (type_seen f t)
unfolding type_seen seen
seen_Parenthesized f s t = ap (fold-TypeExpr Tree TypeTree (layer f) (type_layer f)) (sym (tv.rolls-Parenthesized s t)) ∙ fold-roll-TypeExpr Tree TypeTree (layer f) (type_layer f) (TypeExpr-F.Parenthesized s t)

pub seen_Pointer : (f : Spotting) (s : Spot) (t : TypeExpr) → type_seen f (tv.Pointer s t) ≡ pointer (f s) (type_seen f t)
unfolding type_seen seen
seen_Pointer f s t = ap (fold-TypeExpr Tree TypeTree (layer f) (type_layer f)) (sym (tv.rolls-Pointer s t)) ∙ fold-roll-TypeExpr Tree TypeTree (layer f) (type_layer f) (TypeExpr-F.Pointer s t)

pub seen_Slice : (f : Spotting) (s : Spot) (t : TypeExpr) → type_seen f (tv.Slice s t) ≡ slice (f s) (type_seen f t)
unfolding type_seen seen
seen_Slice f s t = ap (fold-TypeExpr Tree TypeTree (layer f) (type_layer f)) (sym (tv.rolls-Slice s t)) ∙ fold-roll-TypeExpr Tree TypeTree (layer f) (type_layer f) (TypeExpr-F.Slice s t)

pub seen_Array : (f : Spotting) (s : Spot) (n : ExprTree) (t : TypeExpr) → type_seen f (tv.Array s n t) ≡ array (f s) (seen f n) (type_seen f t)
unfolding type_seen seen
seen_Array f s n t = ap (fold-TypeExpr Tree TypeTree (layer f) (type_layer f)) (sym (tv.rolls-Array s n t)) ∙ fold-roll-TypeExpr Tree TypeTree (layer f) (type_layer f) (TypeExpr-F.Array s n t)

pub seen_Counted : (f : Spotting) (s : Spot) (t : TypeExpr) → type_seen f (tv.Counted s t) ≡ counted (f s) (type_seen f t)
unfolding type_seen seen
seen_Counted f s t = ap (fold-TypeExpr Tree TypeTree (layer f) (type_layer f)) (sym (tv.rolls-Counted s t)) ∙ fold-roll-TypeExpr Tree TypeTree (layer f) (type_layer f) (TypeExpr-F.Counted s t)

pub seen_Map : (f : Spotting) (s : Spot) (k t : TypeExpr) → type_seen f (tv.Map s k t) ≡ mapping (f s) (type_seen f k) (type_seen f t)
unfolding type_seen seen
seen_Map f s k t = ap (fold-TypeExpr Tree TypeTree (layer f) (type_layer f)) (sym (tv.rolls-Map s k t)) ∙ fold-roll-TypeExpr Tree TypeTree (layer f) (type_layer f) (TypeExpr-F.Map s k t)

pub seen_Struct : (f : Spotting) (s : Spot) (gs : List (Group TypeExpr)) → type_seen f (tv.Struct s gs) ≡ struct (f s) (groups f (map (group_with (type_seen f)) gs))
unfolding type_seen seen
seen_Struct f s gs = ap (fold-TypeExpr Tree TypeTree (layer f) (type_layer f)) (sym (tv.rolls-Struct s gs)) ∙ fold-roll-TypeExpr Tree TypeTree (layer f) (type_layer f) (TypeExpr-F.Struct s gs)

pub seen_Interface : (f : Spotting) (s : Spot) (es : List TypeExpr) → type_seen f (tv.Interface s es) ≡ interface (f s) (types (map (type_seen f) es))
unfolding type_seen seen
seen_Interface f s es = ap (fold-TypeExpr Tree TypeTree (layer f) (type_layer f)) (sym (tv.rolls-Interface s es)) ∙ fold-roll-TypeExpr Tree TypeTree (layer f) (type_layer f) (TypeExpr-F.Interface s es)

pub seen_Union : (f : Spotting) (s : Spot) (es : List TypeExpr) → type_seen f (tv.Union s es) ≡ union (f s) (types (map (type_seen f) es))
unfolding type_seen seen
seen_Union f s es = ap (fold-TypeExpr Tree TypeTree (layer f) (type_layer f)) (sym (tv.rolls-Union s es)) ∙ fold-roll-TypeExpr Tree TypeTree (layer f) (type_layer f) (TypeExpr-F.Union s es)

pub seen_Tilde : (f : Spotting) (s : Spot) (t : TypeExpr) → type_seen f (tv.Tilde s t) ≡ tilde (f s) (type_seen f t)
unfolding type_seen seen
seen_Tilde f s t = ap (fold-TypeExpr Tree TypeTree (layer f) (type_layer f)) (sym (tv.rolls-Tilde s t)) ∙ fold-roll-TypeExpr Tree TypeTree (layer f) (type_layer f) (TypeExpr-F.Tilde s t)

pub seen_Literal : (f : Spotting) (s : Spot) (k : LiteralKind) (v : Value) → seen f (ev.Literal s k v) ≡ literal (f s) k v
unfolding type_seen seen
seen_Literal f s k v = ap (fold-ExprTree Tree TypeTree (layer f) (type_layer f)) (sym (ev.rolls-Literal s k v)) ∙ fold-roll-ExprTree Tree TypeTree (layer f) (type_layer f) (ExprTree-F.Literal s k v)

pub seen_Name : (f : Spotting) (n : Placed) → seen f (ev.Name n) ≡ name (placed f n)
unfolding type_seen seen
seen_Name f n = ap (fold-ExprTree Tree TypeTree (layer f) (type_layer f)) (sym (ev.rolls-Name n)) ∙ fold-roll-ExprTree Tree TypeTree (layer f) (type_layer f) (ExprTree-F.Name n)

pub seen_Paren : (f : Spotting) (s : Spot) (a : ExprTree) → seen f (ev.Paren s a) ≡ paren (f s) (seen f a)
unfolding type_seen seen
seen_Paren f s a = ap (fold-ExprTree Tree TypeTree (layer f) (type_layer f)) (sym (ev.rolls-Paren s a)) ∙ fold-roll-ExprTree Tree TypeTree (layer f) (type_layer f) (ExprTree-F.Paren s a)

pub seen_Convert : (f : Spotting) (s : Spot) (t : TypeExpr) (a : ExprTree) → seen f (ev.Convert s t a) ≡ convert (f s) (type_seen f t) (seen f a)
unfolding type_seen seen
seen_Convert f s t a = ap (fold-ExprTree Tree TypeTree (layer f) (type_layer f)) (sym (ev.rolls-Convert s t a)) ∙ fold-roll-ExprTree Tree TypeTree (layer f) (type_layer f) (ExprTree-F.Convert s t a)

pub seen_Composite : (f : Spotting) (s : Spot) (t : TypeExpr) (es : List ExprTree) → seen f (ev.Composite s t es) ≡ composite (f s) (type_seen f t) (trees (map (seen f) es))
unfolding type_seen seen
seen_Composite f s t es = ap (fold-ExprTree Tree TypeTree (layer f) (type_layer f)) (sym (ev.rolls-Composite s t es)) ∙ fold-roll-ExprTree Tree TypeTree (layer f) (type_layer f) (ExprTree-F.Composite s t es)

pub seen_Elided : (f : Spotting) (s : Spot) (es : List ExprTree) → seen f (ev.Elided s es) ≡ elided (f s) (trees (map (seen f) es))
unfolding type_seen seen
seen_Elided f s es = ap (fold-ExprTree Tree TypeTree (layer f) (type_layer f)) (sym (ev.rolls-Elided s es)) ∙ fold-roll-ExprTree Tree TypeTree (layer f) (type_layer f) (ExprTree-F.Elided s es)

pub seen_Keyed : (f : Spotting) (s : Spot) (a b : ExprTree) → seen f (ev.Keyed s a b) ≡ keyed (f s) (seen f a) (seen f b)
unfolding type_seen seen
seen_Keyed f s a b = ap (fold-ExprTree Tree TypeTree (layer f) (type_layer f)) (sym (ev.rolls-Keyed s a b)) ∙ fold-roll-ExprTree Tree TypeTree (layer f) (type_layer f) (ExprTree-F.Keyed s a b)

pub seen_Instance : (f : Spotting) (s : Spot) (a : ExprTree) (ts : List TypeExpr) → seen f (ev.Instance s a ts) ≡ instance (f s) (seen f a) (types (map (type_seen f) ts))
unfolding type_seen seen
seen_Instance f s a ts = ap (fold-ExprTree Tree TypeTree (layer f) (type_layer f)) (sym (ev.rolls-Instance s a ts)) ∙ fold-roll-ExprTree Tree TypeTree (layer f) (type_layer f) (ExprTree-F.Instance s a ts)

pub seen_Selector : (f : Spotting) (s : Spot) (a : ExprTree) (n : Placed) → seen f (ev.Selector s a n) ≡ selector (f s) (seen f a) (placed f n)
unfolding type_seen seen
seen_Selector f s a n = ap (fold-ExprTree Tree TypeTree (layer f) (type_layer f)) (sym (ev.rolls-Selector s a n)) ∙ fold-roll-ExprTree Tree TypeTree (layer f) (type_layer f) (ExprTree-F.Selector s a n)

pub seen_Assert : (f : Spotting) (s : Spot) (a : ExprTree) (t : TypeExpr) → seen f (ev.Assert s a t) ≡ assert (f s) (seen f a) (type_seen f t)
unfolding type_seen seen
seen_Assert f s a t = ap (fold-ExprTree Tree TypeTree (layer f) (type_layer f)) (sym (ev.rolls-Assert s a t)) ∙ fold-roll-ExprTree Tree TypeTree (layer f) (type_layer f) (ExprTree-F.Assert s a t)

pub seen_Index : (f : Spotting) (s : Spot) (a b : ExprTree) → seen f (ev.Index s a b) ≡ index (f s) (seen f a) (seen f b)
unfolding type_seen seen
seen_Index f s a b = ap (fold-ExprTree Tree TypeTree (layer f) (type_layer f)) (sym (ev.rolls-Index s a b)) ∙ fold-roll-ExprTree Tree TypeTree (layer f) (type_layer f) (ExprTree-F.Index s a b)

pub seen_Call : (f : Spotting) (s : Spot) (a : ExprTree) (es : List ExprTree) (spread : Bool) → seen f (ev.Call s a es spread) ≡ call (f s) (seen f a) (trees (map (seen f) es)) spread
unfolding type_seen seen
seen_Call f s a es spread = ap (fold-ExprTree Tree TypeTree (layer f) (type_layer f)) (sym (ev.rolls-Call s a es spread)) ∙ fold-roll-ExprTree Tree TypeTree (layer f) (type_layer f) (ExprTree-F.Call s a es spread)

pub seen_Type : (f : Spotting) (t : TypeExpr) → seen f (ev.Type t) ≡ type_arg (type_seen f t)
unfolding type_seen seen
seen_Type f t = ap (fold-ExprTree Tree TypeTree (layer f) (type_layer f)) (sym (ev.rolls-Type t)) ∙ fold-roll-ExprTree Tree TypeTree (layer f) (type_layer f) (ExprTree-F.Type t)

pub seen_Unary : (f : Spotting) (s : Spot) (op : PrefixOp) (a : ExprTree) → seen f (ev.Unary s op a) ≡ unary (f s) op (seen f a)
unfolding type_seen seen
seen_Unary f s op a = ap (fold-ExprTree Tree TypeTree (layer f) (type_layer f)) (sym (ev.rolls-Unary s op a)) ∙ fold-roll-ExprTree Tree TypeTree (layer f) (type_layer f) (ExprTree-F.Unary s op a)

pub seen_Binary : (f : Spotting) (s : Spot) (op : BinOp) (l r : ExprTree) → seen f (ev.Binary s op l r) ≡ binary (f s) op (seen f l) (seen f r)
unfolding type_seen seen
seen_Binary f s op l r = ap (fold-ExprTree Tree TypeTree (layer f) (type_layer f)) (sym (ev.rolls-Binary s op l r)) ∙ fold-roll-ExprTree Tree TypeTree (layer f) (type_layer f) (ExprTree-F.Binary s op l r)

pub seen_Sliced : (f : Spotting) (s : Spot) (a : ExprTree) (l h m : Option ExprTree) → seen f (ev.Sliced s a l h m) ≡ sliced (f s) (seen f a) (maybe (option_map (seen f) l)) (maybe (option_map (seen f) h)) (maybe (option_map (seen f) m))
unfolding type_seen seen
seen_Sliced f s a None None None = ap (fold-ExprTree Tree TypeTree (layer f) (type_layer f)) (sym (ev.rolls-Sliced s a None None None)) ∙ fold-roll-ExprTree Tree TypeTree (layer f) (type_layer f) (ExprTree-F.Sliced s a None None None)
seen_Sliced f s a None None (Some z) = ap (fold-ExprTree Tree TypeTree (layer f) (type_layer f)) (sym (ev.rolls-Sliced s a None None (Some z))) ∙ fold-roll-ExprTree Tree TypeTree (layer f) (type_layer f) (ExprTree-F.Sliced s a None None (Some z))
seen_Sliced f s a None (Some y) None = ap (fold-ExprTree Tree TypeTree (layer f) (type_layer f)) (sym (ev.rolls-Sliced s a None (Some y) None)) ∙ fold-roll-ExprTree Tree TypeTree (layer f) (type_layer f) (ExprTree-F.Sliced s a None (Some y) None)
seen_Sliced f s a None (Some y) (Some z) = ap (fold-ExprTree Tree TypeTree (layer f) (type_layer f)) (sym (ev.rolls-Sliced s a None (Some y) (Some z))) ∙ fold-roll-ExprTree Tree TypeTree (layer f) (type_layer f) (ExprTree-F.Sliced s a None (Some y) (Some z))
seen_Sliced f s a (Some x) None None = ap (fold-ExprTree Tree TypeTree (layer f) (type_layer f)) (sym (ev.rolls-Sliced s a (Some x) None None)) ∙ fold-roll-ExprTree Tree TypeTree (layer f) (type_layer f) (ExprTree-F.Sliced s a (Some x) None None)
seen_Sliced f s a (Some x) None (Some z) = ap (fold-ExprTree Tree TypeTree (layer f) (type_layer f)) (sym (ev.rolls-Sliced s a (Some x) None (Some z))) ∙ fold-roll-ExprTree Tree TypeTree (layer f) (type_layer f) (ExprTree-F.Sliced s a (Some x) None (Some z))
seen_Sliced f s a (Some x) (Some y) None = ap (fold-ExprTree Tree TypeTree (layer f) (type_layer f)) (sym (ev.rolls-Sliced s a (Some x) (Some y) None)) ∙ fold-roll-ExprTree Tree TypeTree (layer f) (type_layer f) (ExprTree-F.Sliced s a (Some x) (Some y) None)
seen_Sliced f s a (Some x) (Some y) (Some z) = ap (fold-ExprTree Tree TypeTree (layer f) (type_layer f)) (sym (ev.rolls-Sliced s a (Some x) (Some y) (Some z))) ∙ fold-roll-ExprTree Tree TypeTree (layer f) (type_layer f) (ExprTree-F.Sliced s a (Some x) (Some y) (Some z))

pub ruleset type_variants = (seen_Named, seen_Parenthesized, seen_Pointer, seen_Slice, seen_Array, seen_Counted, seen_Map, seen_Func, seen_Listed, seen_Struct, seen_Interface, seen_Method, seen_Union, seen_Tilde)

pub ruleset variants = (seen_Literal, seen_Name, seen_Paren, seen_Convert, seen_Composite, seen_Elided, seen_Keyed, seen_Instance, seen_Selector, seen_Assert, seen_Index, seen_Sliced, seen_Call, seen_Type, seen_Unary, seen_Binary)
