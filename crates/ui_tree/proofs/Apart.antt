-- A tree that is no variant V isn't seen as one.
use Rattle.std.proofs.Common.{◌≡◌, Bool, true, false, List, Option, ap, sym, ◌∙◌, subst}
use Rattle.std.proofs.lemmas.Bool.{false≢true}
use Rattle.ui_base.specs.declared.value.Spot.{Spot}
use Rattle.ui_base.specs.declared.value.Value.{Value}
use Rattle.ui_base.specs.declared.kind.BinOp.{BinOp}
use Rattle.ui_tree.specs.declared.part.Placed.{Placed}
use Rattle.ui_tree.specs.declared.part.LiteralKind.{LiteralKind}
use Rattle.ui_tree.specs.declared.part.PrefixOp.{PrefixOp}
use Rattle.ui_tree.specs.declared.part.Group.{Group}
use Rattle.ui_tree.specs.declared.part.Sig.{Sig}
use Rattle.ui_tree.specs.declared.expr.TypeExpr.{TypeExpr, fold-roll-TypeExpr, roll-TypeExpr, out-TypeExpr, roll-out-TypeExpr}
use Rattle.ui_tree.specs.declared.expr.TypeExpr.TheVariants as tv
use Rattle.ui_tree.specs.declared.expr.ExprTree.{ExprTree, fold-roll-ExprTree, roll-ExprTree, out-ExprTree, roll-out-ExprTree}
use Rattle.ui_tree.specs.declared.expr.ExprTree.TheVariants as ev
use Rattle.ui_tree.specs.declared.expr.ExprTree.TheOpen.{TypeExpr-F, ExprTree-F}
use Rattle.ui_tree.specs.Tree.{TypeTree, named, parenthesized, pointer, slice, array, counted, mapping, func, listed, struct, interface, method, union, tilde, Args, Types, Groups, MaybeType, Tree, literal, name, paren, convert, composite, elided, keyed, instance, selector, assert, index, sliced, call, type_arg, unary, binary, Trees, MaybeTree}
use Rattle.ui_tree.specs.View.{Spotting, seen, type_seen, layer, type_layer}

abbrev is_Named : TypeTree → Bool
is_Named (named n m vs) = true
is_Named _ = false

abbrev is_Parenthesized : TypeTree → Bool
is_Parenthesized (parenthesized s t) = true
is_Parenthesized _ = false

abbrev is_Pointer : TypeTree → Bool
is_Pointer (pointer s t) = true
is_Pointer _ = false

abbrev is_Slice : TypeTree → Bool
is_Slice (slice s t) = true
is_Slice _ = false

abbrev is_Array : TypeTree → Bool
is_Array (array s n t) = true
is_Array _ = false

abbrev is_Counted : TypeTree → Bool
is_Counted (counted s t) = true
is_Counted _ = false

abbrev is_Map : TypeTree → Bool
is_Map (mapping s k t) = true
is_Map _ = false

abbrev is_Func : TypeTree → Bool
is_Func (func s gs r) = true
is_Func _ = false

abbrev is_Listed : TypeTree → Bool
is_Listed (listed s gs) = true
is_Listed _ = false

abbrev is_Struct : TypeTree → Bool
is_Struct (struct s gs) = true
is_Struct _ = false

abbrev is_Interface : TypeTree → Bool
is_Interface (interface s ts) = true
is_Interface _ = false

abbrev is_Method : TypeTree → Bool
is_Method (method n gs r) = true
is_Method _ = false

abbrev is_Union : TypeTree → Bool
is_Union (union s ts) = true
is_Union _ = false

abbrev is_Tilde : TypeTree → Bool
is_Tilde (tilde s t) = true
is_Tilde _ = false

abbrev is_Literal : Tree → Bool
is_Literal (literal s k v) = true
is_Literal _ = false

abbrev is_Name : Tree → Bool
is_Name (name n) = true
is_Name _ = false

abbrev is_Paren : Tree → Bool
is_Paren (paren s a) = true
is_Paren _ = false

abbrev is_Convert : Tree → Bool
is_Convert (convert s t a) = true
is_Convert _ = false

abbrev is_Composite : Tree → Bool
is_Composite (composite s t es) = true
is_Composite _ = false

abbrev is_Elided : Tree → Bool
is_Elided (elided s es) = true
is_Elided _ = false

abbrev is_Keyed : Tree → Bool
is_Keyed (keyed s a b) = true
is_Keyed _ = false

abbrev is_Instance : Tree → Bool
is_Instance (instance s a ts) = true
is_Instance _ = false

abbrev is_Selector : Tree → Bool
is_Selector (selector s a n) = true
is_Selector _ = false

abbrev is_Assert : Tree → Bool
is_Assert (assert s a t) = true
is_Assert _ = false

abbrev is_Index : Tree → Bool
is_Index (index s a b) = true
is_Index _ = false

abbrev is_Sliced : Tree → Bool
is_Sliced (sliced s a l h m) = true
is_Sliced _ = false

abbrev is_Call : Tree → Bool
is_Call (call s a es spread) = true
is_Call _ = false

abbrev is_Type : Tree → Bool
is_Type (type_arg t) = true
is_Type _ = false

abbrev is_Unary : Tree → Bool
is_Unary (unary s op a) = true
is_Unary _ = false

abbrev is_Binary : Tree → Bool
is_Binary (binary s op l r) = true
is_Binary _ = false

apart_Named_at : (f : Spotting) (d : TypeExpr-F ExprTree TypeExpr) → ((n : Placed) (m : Option Placed) (vs : Option (List TypeExpr)) → roll-TypeExpr d ≡ tv.Named n m vs → ⊥) → (n' : Placed) (m' : Option Placed) (vs' : Args) → type_seen f (roll-TypeExpr d) ≡ named n' m' vs' → ⊥
unfolding type_seen seen
apart_Named_at f (TypeExpr-F.Named n m vs) apart n' m' vs' same = apart n m vs (tv.rolls-Named n m vs)
apart_Named_at f d apart n' m' vs' same = false≢true (ap is_Named (sym (fold-roll-TypeExpr Tree TypeTree (layer f) (type_layer f) d) ∙ same))

pub apart_Named : (f : Spotting) (e : TypeExpr) → ((n : Placed) (m : Option Placed) (vs : Option (List TypeExpr)) → e ≡ tv.Named n m vs → ⊥) → (n' : Placed) (m' : Option Placed) (vs' : Args) → type_seen f e ≡ named n' m' vs' → ⊥
apart_Named f e = let P : TypeExpr → Type 0 = λ e. ((n : Placed) (m : Option Placed) (vs : Option (List TypeExpr)) → e ≡ tv.Named n m vs → ⊥) → (n' : Placed) (m' : Option Placed) (vs' : Args) → type_seen f e ≡ named n' m' vs' → ⊥ in subst P (roll-out-TypeExpr e) (apart_Named_at f (out-TypeExpr e))

apart_Parenthesized_at : (f : Spotting) (d : TypeExpr-F ExprTree TypeExpr) → ((s : Spot) (t : TypeExpr) → roll-TypeExpr d ≡ tv.Parenthesized s t → ⊥) → (s' : Spot) (t' : TypeTree) → type_seen f (roll-TypeExpr d) ≡ parenthesized s' t' → ⊥
unfolding type_seen seen
apart_Parenthesized_at f (TypeExpr-F.Parenthesized s t) apart s' t' same = apart s t (tv.rolls-Parenthesized s t)
apart_Parenthesized_at f d apart s' t' same = false≢true (ap is_Parenthesized (sym (fold-roll-TypeExpr Tree TypeTree (layer f) (type_layer f) d) ∙ same))

pub apart_Parenthesized : (f : Spotting) (e : TypeExpr) → ((s : Spot) (t : TypeExpr) → e ≡ tv.Parenthesized s t → ⊥) → (s' : Spot) (t' : TypeTree) → type_seen f e ≡ parenthesized s' t' → ⊥
apart_Parenthesized f e = let P : TypeExpr → Type 0 = λ e. ((s : Spot) (t : TypeExpr) → e ≡ tv.Parenthesized s t → ⊥) → (s' : Spot) (t' : TypeTree) → type_seen f e ≡ parenthesized s' t' → ⊥ in subst P (roll-out-TypeExpr e) (apart_Parenthesized_at f (out-TypeExpr e))

apart_Pointer_at : (f : Spotting) (d : TypeExpr-F ExprTree TypeExpr) → ((s : Spot) (t : TypeExpr) → roll-TypeExpr d ≡ tv.Pointer s t → ⊥) → (s' : Spot) (t' : TypeTree) → type_seen f (roll-TypeExpr d) ≡ pointer s' t' → ⊥
unfolding type_seen seen
apart_Pointer_at f (TypeExpr-F.Pointer s t) apart s' t' same = apart s t (tv.rolls-Pointer s t)
apart_Pointer_at f d apart s' t' same = false≢true (ap is_Pointer (sym (fold-roll-TypeExpr Tree TypeTree (layer f) (type_layer f) d) ∙ same))

pub apart_Pointer : (f : Spotting) (e : TypeExpr) → ((s : Spot) (t : TypeExpr) → e ≡ tv.Pointer s t → ⊥) → (s' : Spot) (t' : TypeTree) → type_seen f e ≡ pointer s' t' → ⊥
apart_Pointer f e = let P : TypeExpr → Type 0 = λ e. ((s : Spot) (t : TypeExpr) → e ≡ tv.Pointer s t → ⊥) → (s' : Spot) (t' : TypeTree) → type_seen f e ≡ pointer s' t' → ⊥ in subst P (roll-out-TypeExpr e) (apart_Pointer_at f (out-TypeExpr e))

apart_Slice_at : (f : Spotting) (d : TypeExpr-F ExprTree TypeExpr) → ((s : Spot) (t : TypeExpr) → roll-TypeExpr d ≡ tv.Slice s t → ⊥) → (s' : Spot) (t' : TypeTree) → type_seen f (roll-TypeExpr d) ≡ slice s' t' → ⊥
unfolding type_seen seen
apart_Slice_at f (TypeExpr-F.Slice s t) apart s' t' same = apart s t (tv.rolls-Slice s t)
apart_Slice_at f d apart s' t' same = false≢true (ap is_Slice (sym (fold-roll-TypeExpr Tree TypeTree (layer f) (type_layer f) d) ∙ same))

pub apart_Slice : (f : Spotting) (e : TypeExpr) → ((s : Spot) (t : TypeExpr) → e ≡ tv.Slice s t → ⊥) → (s' : Spot) (t' : TypeTree) → type_seen f e ≡ slice s' t' → ⊥
apart_Slice f e = let P : TypeExpr → Type 0 = λ e. ((s : Spot) (t : TypeExpr) → e ≡ tv.Slice s t → ⊥) → (s' : Spot) (t' : TypeTree) → type_seen f e ≡ slice s' t' → ⊥ in subst P (roll-out-TypeExpr e) (apart_Slice_at f (out-TypeExpr e))

apart_Array_at : (f : Spotting) (d : TypeExpr-F ExprTree TypeExpr) → ((s : Spot) (n : ExprTree) (t : TypeExpr) → roll-TypeExpr d ≡ tv.Array s n t → ⊥) → (s' : Spot) (n' : Tree) (t' : TypeTree) → type_seen f (roll-TypeExpr d) ≡ array s' n' t' → ⊥
unfolding type_seen seen
apart_Array_at f (TypeExpr-F.Array s n t) apart s' n' t' same = apart s n t (tv.rolls-Array s n t)
apart_Array_at f d apart s' n' t' same = false≢true (ap is_Array (sym (fold-roll-TypeExpr Tree TypeTree (layer f) (type_layer f) d) ∙ same))

pub apart_Array : (f : Spotting) (e : TypeExpr) → ((s : Spot) (n : ExprTree) (t : TypeExpr) → e ≡ tv.Array s n t → ⊥) → (s' : Spot) (n' : Tree) (t' : TypeTree) → type_seen f e ≡ array s' n' t' → ⊥
apart_Array f e = let P : TypeExpr → Type 0 = λ e. ((s : Spot) (n : ExprTree) (t : TypeExpr) → e ≡ tv.Array s n t → ⊥) → (s' : Spot) (n' : Tree) (t' : TypeTree) → type_seen f e ≡ array s' n' t' → ⊥ in subst P (roll-out-TypeExpr e) (apart_Array_at f (out-TypeExpr e))

apart_Counted_at : (f : Spotting) (d : TypeExpr-F ExprTree TypeExpr) → ((s : Spot) (t : TypeExpr) → roll-TypeExpr d ≡ tv.Counted s t → ⊥) → (s' : Spot) (t' : TypeTree) → type_seen f (roll-TypeExpr d) ≡ counted s' t' → ⊥
unfolding type_seen seen
apart_Counted_at f (TypeExpr-F.Counted s t) apart s' t' same = apart s t (tv.rolls-Counted s t)
apart_Counted_at f d apart s' t' same = false≢true (ap is_Counted (sym (fold-roll-TypeExpr Tree TypeTree (layer f) (type_layer f) d) ∙ same))

pub apart_Counted : (f : Spotting) (e : TypeExpr) → ((s : Spot) (t : TypeExpr) → e ≡ tv.Counted s t → ⊥) → (s' : Spot) (t' : TypeTree) → type_seen f e ≡ counted s' t' → ⊥
apart_Counted f e = let P : TypeExpr → Type 0 = λ e. ((s : Spot) (t : TypeExpr) → e ≡ tv.Counted s t → ⊥) → (s' : Spot) (t' : TypeTree) → type_seen f e ≡ counted s' t' → ⊥ in subst P (roll-out-TypeExpr e) (apart_Counted_at f (out-TypeExpr e))

apart_Map_at : (f : Spotting) (d : TypeExpr-F ExprTree TypeExpr) → ((s : Spot) (k t : TypeExpr) → roll-TypeExpr d ≡ tv.Map s k t → ⊥) → (s' : Spot) (k' t' : TypeTree) → type_seen f (roll-TypeExpr d) ≡ mapping s' k' t' → ⊥
unfolding type_seen seen
apart_Map_at f (TypeExpr-F.Map s k t) apart s' k' t' same = apart s k t (tv.rolls-Map s k t)
apart_Map_at f d apart s' k' t' same = false≢true (ap is_Map (sym (fold-roll-TypeExpr Tree TypeTree (layer f) (type_layer f) d) ∙ same))

pub apart_Map : (f : Spotting) (e : TypeExpr) → ((s : Spot) (k t : TypeExpr) → e ≡ tv.Map s k t → ⊥) → (s' : Spot) (k' t' : TypeTree) → type_seen f e ≡ mapping s' k' t' → ⊥
apart_Map f e = let P : TypeExpr → Type 0 = λ e. ((s : Spot) (k t : TypeExpr) → e ≡ tv.Map s k t → ⊥) → (s' : Spot) (k' t' : TypeTree) → type_seen f e ≡ mapping s' k' t' → ⊥ in subst P (roll-out-TypeExpr e) (apart_Map_at f (out-TypeExpr e))

apart_Func_at : (f : Spotting) (d : TypeExpr-F ExprTree TypeExpr) → ((s : Spot) (sig : Sig TypeExpr) → roll-TypeExpr d ≡ tv.Func s sig → ⊥) → (s' : Spot) (gs' : Groups) (r' : MaybeType) → type_seen f (roll-TypeExpr d) ≡ func s' gs' r' → ⊥
unfolding type_seen seen
apart_Func_at f (TypeExpr-F.Func s sig) apart s' gs' r' same = apart s sig (tv.rolls-Func s sig)
apart_Func_at f d apart s' gs' r' same = false≢true (ap is_Func (sym (fold-roll-TypeExpr Tree TypeTree (layer f) (type_layer f) d) ∙ same))

pub apart_Func : (f : Spotting) (e : TypeExpr) → ((s : Spot) (sig : Sig TypeExpr) → e ≡ tv.Func s sig → ⊥) → (s' : Spot) (gs' : Groups) (r' : MaybeType) → type_seen f e ≡ func s' gs' r' → ⊥
apart_Func f e = let P : TypeExpr → Type 0 = λ e. ((s : Spot) (sig : Sig TypeExpr) → e ≡ tv.Func s sig → ⊥) → (s' : Spot) (gs' : Groups) (r' : MaybeType) → type_seen f e ≡ func s' gs' r' → ⊥ in subst P (roll-out-TypeExpr e) (apart_Func_at f (out-TypeExpr e))

apart_Listed_at : (f : Spotting) (d : TypeExpr-F ExprTree TypeExpr) → ((s : Spot) (gs : List (Group TypeExpr)) → roll-TypeExpr d ≡ tv.Listed s gs → ⊥) → (s' : Spot) (gs' : Groups) → type_seen f (roll-TypeExpr d) ≡ listed s' gs' → ⊥
unfolding type_seen seen
apart_Listed_at f (TypeExpr-F.Listed s gs) apart s' gs' same = apart s gs (tv.rolls-Listed s gs)
apart_Listed_at f d apart s' gs' same = false≢true (ap is_Listed (sym (fold-roll-TypeExpr Tree TypeTree (layer f) (type_layer f) d) ∙ same))

pub apart_Listed : (f : Spotting) (e : TypeExpr) → ((s : Spot) (gs : List (Group TypeExpr)) → e ≡ tv.Listed s gs → ⊥) → (s' : Spot) (gs' : Groups) → type_seen f e ≡ listed s' gs' → ⊥
apart_Listed f e = let P : TypeExpr → Type 0 = λ e. ((s : Spot) (gs : List (Group TypeExpr)) → e ≡ tv.Listed s gs → ⊥) → (s' : Spot) (gs' : Groups) → type_seen f e ≡ listed s' gs' → ⊥ in subst P (roll-out-TypeExpr e) (apart_Listed_at f (out-TypeExpr e))

apart_Struct_at : (f : Spotting) (d : TypeExpr-F ExprTree TypeExpr) → ((s : Spot) (gs : List (Group TypeExpr)) → roll-TypeExpr d ≡ tv.Struct s gs → ⊥) → (s' : Spot) (gs' : Groups) → type_seen f (roll-TypeExpr d) ≡ struct s' gs' → ⊥
unfolding type_seen seen
apart_Struct_at f (TypeExpr-F.Struct s gs) apart s' gs' same = apart s gs (tv.rolls-Struct s gs)
apart_Struct_at f d apart s' gs' same = false≢true (ap is_Struct (sym (fold-roll-TypeExpr Tree TypeTree (layer f) (type_layer f) d) ∙ same))

pub apart_Struct : (f : Spotting) (e : TypeExpr) → ((s : Spot) (gs : List (Group TypeExpr)) → e ≡ tv.Struct s gs → ⊥) → (s' : Spot) (gs' : Groups) → type_seen f e ≡ struct s' gs' → ⊥
apart_Struct f e = let P : TypeExpr → Type 0 = λ e. ((s : Spot) (gs : List (Group TypeExpr)) → e ≡ tv.Struct s gs → ⊥) → (s' : Spot) (gs' : Groups) → type_seen f e ≡ struct s' gs' → ⊥ in subst P (roll-out-TypeExpr e) (apart_Struct_at f (out-TypeExpr e))

apart_Interface_at : (f : Spotting) (d : TypeExpr-F ExprTree TypeExpr) → ((s : Spot) (es : List TypeExpr) → roll-TypeExpr d ≡ tv.Interface s es → ⊥) → (s' : Spot) (ts' : Types) → type_seen f (roll-TypeExpr d) ≡ interface s' ts' → ⊥
unfolding type_seen seen
apart_Interface_at f (TypeExpr-F.Interface s es) apart s' ts' same = apart s es (tv.rolls-Interface s es)
apart_Interface_at f d apart s' ts' same = false≢true (ap is_Interface (sym (fold-roll-TypeExpr Tree TypeTree (layer f) (type_layer f) d) ∙ same))

pub apart_Interface : (f : Spotting) (e : TypeExpr) → ((s : Spot) (es : List TypeExpr) → e ≡ tv.Interface s es → ⊥) → (s' : Spot) (ts' : Types) → type_seen f e ≡ interface s' ts' → ⊥
apart_Interface f e = let P : TypeExpr → Type 0 = λ e. ((s : Spot) (es : List TypeExpr) → e ≡ tv.Interface s es → ⊥) → (s' : Spot) (ts' : Types) → type_seen f e ≡ interface s' ts' → ⊥ in subst P (roll-out-TypeExpr e) (apart_Interface_at f (out-TypeExpr e))

apart_Method_at : (f : Spotting) (d : TypeExpr-F ExprTree TypeExpr) → ((n : Placed) (sig : Sig TypeExpr) → roll-TypeExpr d ≡ tv.Method n sig → ⊥) → (n' : Placed) (gs' : Groups) (r' : MaybeType) → type_seen f (roll-TypeExpr d) ≡ method n' gs' r' → ⊥
unfolding type_seen seen
apart_Method_at f (TypeExpr-F.Method n sig) apart n' gs' r' same = apart n sig (tv.rolls-Method n sig)
apart_Method_at f d apart n' gs' r' same = false≢true (ap is_Method (sym (fold-roll-TypeExpr Tree TypeTree (layer f) (type_layer f) d) ∙ same))

pub apart_Method : (f : Spotting) (e : TypeExpr) → ((n : Placed) (sig : Sig TypeExpr) → e ≡ tv.Method n sig → ⊥) → (n' : Placed) (gs' : Groups) (r' : MaybeType) → type_seen f e ≡ method n' gs' r' → ⊥
apart_Method f e = let P : TypeExpr → Type 0 = λ e. ((n : Placed) (sig : Sig TypeExpr) → e ≡ tv.Method n sig → ⊥) → (n' : Placed) (gs' : Groups) (r' : MaybeType) → type_seen f e ≡ method n' gs' r' → ⊥ in subst P (roll-out-TypeExpr e) (apart_Method_at f (out-TypeExpr e))

apart_Union_at : (f : Spotting) (d : TypeExpr-F ExprTree TypeExpr) → ((s : Spot) (es : List TypeExpr) → roll-TypeExpr d ≡ tv.Union s es → ⊥) → (s' : Spot) (ts' : Types) → type_seen f (roll-TypeExpr d) ≡ union s' ts' → ⊥
unfolding type_seen seen
apart_Union_at f (TypeExpr-F.Union s es) apart s' ts' same = apart s es (tv.rolls-Union s es)
apart_Union_at f d apart s' ts' same = false≢true (ap is_Union (sym (fold-roll-TypeExpr Tree TypeTree (layer f) (type_layer f) d) ∙ same))

pub apart_Union : (f : Spotting) (e : TypeExpr) → ((s : Spot) (es : List TypeExpr) → e ≡ tv.Union s es → ⊥) → (s' : Spot) (ts' : Types) → type_seen f e ≡ union s' ts' → ⊥
apart_Union f e = let P : TypeExpr → Type 0 = λ e. ((s : Spot) (es : List TypeExpr) → e ≡ tv.Union s es → ⊥) → (s' : Spot) (ts' : Types) → type_seen f e ≡ union s' ts' → ⊥ in subst P (roll-out-TypeExpr e) (apart_Union_at f (out-TypeExpr e))

apart_Tilde_at : (f : Spotting) (d : TypeExpr-F ExprTree TypeExpr) → ((s : Spot) (t : TypeExpr) → roll-TypeExpr d ≡ tv.Tilde s t → ⊥) → (s' : Spot) (t' : TypeTree) → type_seen f (roll-TypeExpr d) ≡ tilde s' t' → ⊥
unfolding type_seen seen
apart_Tilde_at f (TypeExpr-F.Tilde s t) apart s' t' same = apart s t (tv.rolls-Tilde s t)
apart_Tilde_at f d apart s' t' same = false≢true (ap is_Tilde (sym (fold-roll-TypeExpr Tree TypeTree (layer f) (type_layer f) d) ∙ same))

pub apart_Tilde : (f : Spotting) (e : TypeExpr) → ((s : Spot) (t : TypeExpr) → e ≡ tv.Tilde s t → ⊥) → (s' : Spot) (t' : TypeTree) → type_seen f e ≡ tilde s' t' → ⊥
apart_Tilde f e = let P : TypeExpr → Type 0 = λ e. ((s : Spot) (t : TypeExpr) → e ≡ tv.Tilde s t → ⊥) → (s' : Spot) (t' : TypeTree) → type_seen f e ≡ tilde s' t' → ⊥ in subst P (roll-out-TypeExpr e) (apart_Tilde_at f (out-TypeExpr e))

apart_Literal_at : (f : Spotting) (d : ExprTree-F ExprTree TypeExpr) → ((s : Spot) (k : LiteralKind) (v : Value) → roll-ExprTree d ≡ ev.Literal s k v → ⊥) → (s' : Spot) (k' : LiteralKind) (v' : Value) → seen f (roll-ExprTree d) ≡ literal s' k' v' → ⊥
unfolding type_seen seen
apart_Literal_at f (ExprTree-F.Literal s k v) apart s' k' v' same = apart s k v (ev.rolls-Literal s k v)
apart_Literal_at f d apart s' k' v' same = false≢true (ap is_Literal (sym (fold-roll-ExprTree Tree TypeTree (layer f) (type_layer f) d) ∙ same))

pub apart_Literal : (f : Spotting) (e : ExprTree) → ((s : Spot) (k : LiteralKind) (v : Value) → e ≡ ev.Literal s k v → ⊥) → (s' : Spot) (k' : LiteralKind) (v' : Value) → seen f e ≡ literal s' k' v' → ⊥
apart_Literal f e = let P : ExprTree → Type 0 = λ e. ((s : Spot) (k : LiteralKind) (v : Value) → e ≡ ev.Literal s k v → ⊥) → (s' : Spot) (k' : LiteralKind) (v' : Value) → seen f e ≡ literal s' k' v' → ⊥ in subst P (roll-out-ExprTree e) (apart_Literal_at f (out-ExprTree e))

apart_Name_at : (f : Spotting) (d : ExprTree-F ExprTree TypeExpr) → ((n : Placed) → roll-ExprTree d ≡ ev.Name n → ⊥) → (n' : Placed) → seen f (roll-ExprTree d) ≡ name n' → ⊥
unfolding type_seen seen
apart_Name_at f (ExprTree-F.Name n) apart n' same = apart n (ev.rolls-Name n)
apart_Name_at f d apart n' same = false≢true (ap is_Name (sym (fold-roll-ExprTree Tree TypeTree (layer f) (type_layer f) d) ∙ same))

pub apart_Name : (f : Spotting) (e : ExprTree) → ((n : Placed) → e ≡ ev.Name n → ⊥) → (n' : Placed) → seen f e ≡ name n' → ⊥
apart_Name f e = let P : ExprTree → Type 0 = λ e. ((n : Placed) → e ≡ ev.Name n → ⊥) → (n' : Placed) → seen f e ≡ name n' → ⊥ in subst P (roll-out-ExprTree e) (apart_Name_at f (out-ExprTree e))

apart_Paren_at : (f : Spotting) (d : ExprTree-F ExprTree TypeExpr) → ((s : Spot) (a : ExprTree) → roll-ExprTree d ≡ ev.Paren s a → ⊥) → (s' : Spot) (a' : Tree) → seen f (roll-ExprTree d) ≡ paren s' a' → ⊥
unfolding type_seen seen
apart_Paren_at f (ExprTree-F.Paren s a) apart s' a' same = apart s a (ev.rolls-Paren s a)
apart_Paren_at f d apart s' a' same = false≢true (ap is_Paren (sym (fold-roll-ExprTree Tree TypeTree (layer f) (type_layer f) d) ∙ same))

pub apart_Paren : (f : Spotting) (e : ExprTree) → ((s : Spot) (a : ExprTree) → e ≡ ev.Paren s a → ⊥) → (s' : Spot) (a' : Tree) → seen f e ≡ paren s' a' → ⊥
apart_Paren f e = let P : ExprTree → Type 0 = λ e. ((s : Spot) (a : ExprTree) → e ≡ ev.Paren s a → ⊥) → (s' : Spot) (a' : Tree) → seen f e ≡ paren s' a' → ⊥ in subst P (roll-out-ExprTree e) (apart_Paren_at f (out-ExprTree e))

apart_Convert_at : (f : Spotting) (d : ExprTree-F ExprTree TypeExpr) → ((s : Spot) (t : TypeExpr) (a : ExprTree) → roll-ExprTree d ≡ ev.Convert s t a → ⊥) → (s' : Spot) (t' : TypeTree) (a' : Tree) → seen f (roll-ExprTree d) ≡ convert s' t' a' → ⊥
unfolding type_seen seen
apart_Convert_at f (ExprTree-F.Convert s t a) apart s' t' a' same = apart s t a (ev.rolls-Convert s t a)
apart_Convert_at f d apart s' t' a' same = false≢true (ap is_Convert (sym (fold-roll-ExprTree Tree TypeTree (layer f) (type_layer f) d) ∙ same))

pub apart_Convert : (f : Spotting) (e : ExprTree) → ((s : Spot) (t : TypeExpr) (a : ExprTree) → e ≡ ev.Convert s t a → ⊥) → (s' : Spot) (t' : TypeTree) (a' : Tree) → seen f e ≡ convert s' t' a' → ⊥
apart_Convert f e = let P : ExprTree → Type 0 = λ e. ((s : Spot) (t : TypeExpr) (a : ExprTree) → e ≡ ev.Convert s t a → ⊥) → (s' : Spot) (t' : TypeTree) (a' : Tree) → seen f e ≡ convert s' t' a' → ⊥ in subst P (roll-out-ExprTree e) (apart_Convert_at f (out-ExprTree e))

apart_Composite_at : (f : Spotting) (d : ExprTree-F ExprTree TypeExpr) → ((s : Spot) (t : TypeExpr) (es : List ExprTree) → roll-ExprTree d ≡ ev.Composite s t es → ⊥) → (s' : Spot) (t' : TypeTree) (es' : Trees) → seen f (roll-ExprTree d) ≡ composite s' t' es' → ⊥
unfolding type_seen seen
apart_Composite_at f (ExprTree-F.Composite s t es) apart s' t' es' same = apart s t es (ev.rolls-Composite s t es)
apart_Composite_at f d apart s' t' es' same = false≢true (ap is_Composite (sym (fold-roll-ExprTree Tree TypeTree (layer f) (type_layer f) d) ∙ same))

pub apart_Composite : (f : Spotting) (e : ExprTree) → ((s : Spot) (t : TypeExpr) (es : List ExprTree) → e ≡ ev.Composite s t es → ⊥) → (s' : Spot) (t' : TypeTree) (es' : Trees) → seen f e ≡ composite s' t' es' → ⊥
apart_Composite f e = let P : ExprTree → Type 0 = λ e. ((s : Spot) (t : TypeExpr) (es : List ExprTree) → e ≡ ev.Composite s t es → ⊥) → (s' : Spot) (t' : TypeTree) (es' : Trees) → seen f e ≡ composite s' t' es' → ⊥ in subst P (roll-out-ExprTree e) (apart_Composite_at f (out-ExprTree e))

apart_Elided_at : (f : Spotting) (d : ExprTree-F ExprTree TypeExpr) → ((s : Spot) (es : List ExprTree) → roll-ExprTree d ≡ ev.Elided s es → ⊥) → (s' : Spot) (es' : Trees) → seen f (roll-ExprTree d) ≡ elided s' es' → ⊥
unfolding type_seen seen
apart_Elided_at f (ExprTree-F.Elided s es) apart s' es' same = apart s es (ev.rolls-Elided s es)
apart_Elided_at f d apart s' es' same = false≢true (ap is_Elided (sym (fold-roll-ExprTree Tree TypeTree (layer f) (type_layer f) d) ∙ same))

pub apart_Elided : (f : Spotting) (e : ExprTree) → ((s : Spot) (es : List ExprTree) → e ≡ ev.Elided s es → ⊥) → (s' : Spot) (es' : Trees) → seen f e ≡ elided s' es' → ⊥
apart_Elided f e = let P : ExprTree → Type 0 = λ e. ((s : Spot) (es : List ExprTree) → e ≡ ev.Elided s es → ⊥) → (s' : Spot) (es' : Trees) → seen f e ≡ elided s' es' → ⊥ in subst P (roll-out-ExprTree e) (apart_Elided_at f (out-ExprTree e))

apart_Keyed_at : (f : Spotting) (d : ExprTree-F ExprTree TypeExpr) → ((s : Spot) (a b : ExprTree) → roll-ExprTree d ≡ ev.Keyed s a b → ⊥) → (s' : Spot) (a' b' : Tree) → seen f (roll-ExprTree d) ≡ keyed s' a' b' → ⊥
unfolding type_seen seen
apart_Keyed_at f (ExprTree-F.Keyed s a b) apart s' a' b' same = apart s a b (ev.rolls-Keyed s a b)
apart_Keyed_at f d apart s' a' b' same = false≢true (ap is_Keyed (sym (fold-roll-ExprTree Tree TypeTree (layer f) (type_layer f) d) ∙ same))

pub apart_Keyed : (f : Spotting) (e : ExprTree) → ((s : Spot) (a b : ExprTree) → e ≡ ev.Keyed s a b → ⊥) → (s' : Spot) (a' b' : Tree) → seen f e ≡ keyed s' a' b' → ⊥
apart_Keyed f e = let P : ExprTree → Type 0 = λ e. ((s : Spot) (a b : ExprTree) → e ≡ ev.Keyed s a b → ⊥) → (s' : Spot) (a' b' : Tree) → seen f e ≡ keyed s' a' b' → ⊥ in subst P (roll-out-ExprTree e) (apart_Keyed_at f (out-ExprTree e))

apart_Instance_at : (f : Spotting) (d : ExprTree-F ExprTree TypeExpr) → ((s : Spot) (a : ExprTree) (ts : List TypeExpr) → roll-ExprTree d ≡ ev.Instance s a ts → ⊥) → (s' : Spot) (a' : Tree) (ts' : Types) → seen f (roll-ExprTree d) ≡ instance s' a' ts' → ⊥
unfolding type_seen seen
apart_Instance_at f (ExprTree-F.Instance s a ts) apart s' a' ts' same = apart s a ts (ev.rolls-Instance s a ts)
apart_Instance_at f d apart s' a' ts' same = false≢true (ap is_Instance (sym (fold-roll-ExprTree Tree TypeTree (layer f) (type_layer f) d) ∙ same))

pub apart_Instance : (f : Spotting) (e : ExprTree) → ((s : Spot) (a : ExprTree) (ts : List TypeExpr) → e ≡ ev.Instance s a ts → ⊥) → (s' : Spot) (a' : Tree) (ts' : Types) → seen f e ≡ instance s' a' ts' → ⊥
apart_Instance f e = let P : ExprTree → Type 0 = λ e. ((s : Spot) (a : ExprTree) (ts : List TypeExpr) → e ≡ ev.Instance s a ts → ⊥) → (s' : Spot) (a' : Tree) (ts' : Types) → seen f e ≡ instance s' a' ts' → ⊥ in subst P (roll-out-ExprTree e) (apart_Instance_at f (out-ExprTree e))

apart_Selector_at : (f : Spotting) (d : ExprTree-F ExprTree TypeExpr) → ((s : Spot) (a : ExprTree) (n : Placed) → roll-ExprTree d ≡ ev.Selector s a n → ⊥) → (s' : Spot) (a' : Tree) (n' : Placed) → seen f (roll-ExprTree d) ≡ selector s' a' n' → ⊥
unfolding type_seen seen
apart_Selector_at f (ExprTree-F.Selector s a n) apart s' a' n' same = apart s a n (ev.rolls-Selector s a n)
apart_Selector_at f d apart s' a' n' same = false≢true (ap is_Selector (sym (fold-roll-ExprTree Tree TypeTree (layer f) (type_layer f) d) ∙ same))

pub apart_Selector : (f : Spotting) (e : ExprTree) → ((s : Spot) (a : ExprTree) (n : Placed) → e ≡ ev.Selector s a n → ⊥) → (s' : Spot) (a' : Tree) (n' : Placed) → seen f e ≡ selector s' a' n' → ⊥
apart_Selector f e = let P : ExprTree → Type 0 = λ e. ((s : Spot) (a : ExprTree) (n : Placed) → e ≡ ev.Selector s a n → ⊥) → (s' : Spot) (a' : Tree) (n' : Placed) → seen f e ≡ selector s' a' n' → ⊥ in subst P (roll-out-ExprTree e) (apart_Selector_at f (out-ExprTree e))

apart_Assert_at : (f : Spotting) (d : ExprTree-F ExprTree TypeExpr) → ((s : Spot) (a : ExprTree) (t : TypeExpr) → roll-ExprTree d ≡ ev.Assert s a t → ⊥) → (s' : Spot) (a' : Tree) (t' : TypeTree) → seen f (roll-ExprTree d) ≡ assert s' a' t' → ⊥
unfolding type_seen seen
apart_Assert_at f (ExprTree-F.Assert s a t) apart s' a' t' same = apart s a t (ev.rolls-Assert s a t)
apart_Assert_at f d apart s' a' t' same = false≢true (ap is_Assert (sym (fold-roll-ExprTree Tree TypeTree (layer f) (type_layer f) d) ∙ same))

pub apart_Assert : (f : Spotting) (e : ExprTree) → ((s : Spot) (a : ExprTree) (t : TypeExpr) → e ≡ ev.Assert s a t → ⊥) → (s' : Spot) (a' : Tree) (t' : TypeTree) → seen f e ≡ assert s' a' t' → ⊥
apart_Assert f e = let P : ExprTree → Type 0 = λ e. ((s : Spot) (a : ExprTree) (t : TypeExpr) → e ≡ ev.Assert s a t → ⊥) → (s' : Spot) (a' : Tree) (t' : TypeTree) → seen f e ≡ assert s' a' t' → ⊥ in subst P (roll-out-ExprTree e) (apart_Assert_at f (out-ExprTree e))

apart_Index_at : (f : Spotting) (d : ExprTree-F ExprTree TypeExpr) → ((s : Spot) (a b : ExprTree) → roll-ExprTree d ≡ ev.Index s a b → ⊥) → (s' : Spot) (a' b' : Tree) → seen f (roll-ExprTree d) ≡ index s' a' b' → ⊥
unfolding type_seen seen
apart_Index_at f (ExprTree-F.Index s a b) apart s' a' b' same = apart s a b (ev.rolls-Index s a b)
apart_Index_at f d apart s' a' b' same = false≢true (ap is_Index (sym (fold-roll-ExprTree Tree TypeTree (layer f) (type_layer f) d) ∙ same))

pub apart_Index : (f : Spotting) (e : ExprTree) → ((s : Spot) (a b : ExprTree) → e ≡ ev.Index s a b → ⊥) → (s' : Spot) (a' b' : Tree) → seen f e ≡ index s' a' b' → ⊥
apart_Index f e = let P : ExprTree → Type 0 = λ e. ((s : Spot) (a b : ExprTree) → e ≡ ev.Index s a b → ⊥) → (s' : Spot) (a' b' : Tree) → seen f e ≡ index s' a' b' → ⊥ in subst P (roll-out-ExprTree e) (apart_Index_at f (out-ExprTree e))

apart_Sliced_at : (f : Spotting) (d : ExprTree-F ExprTree TypeExpr) → ((s : Spot) (a : ExprTree) (l h m : Option ExprTree) → roll-ExprTree d ≡ ev.Sliced s a l h m → ⊥) → (s' : Spot) (a' : Tree) (l' h' m' : MaybeTree) → seen f (roll-ExprTree d) ≡ sliced s' a' l' h' m' → ⊥
unfolding type_seen seen
apart_Sliced_at f (ExprTree-F.Sliced s a l h m) apart s' a' l' h' m' same = apart s a l h m (ev.rolls-Sliced s a l h m)
apart_Sliced_at f d apart s' a' l' h' m' same = false≢true (ap is_Sliced (sym (fold-roll-ExprTree Tree TypeTree (layer f) (type_layer f) d) ∙ same))

pub apart_Sliced : (f : Spotting) (e : ExprTree) → ((s : Spot) (a : ExprTree) (l h m : Option ExprTree) → e ≡ ev.Sliced s a l h m → ⊥) → (s' : Spot) (a' : Tree) (l' h' m' : MaybeTree) → seen f e ≡ sliced s' a' l' h' m' → ⊥
apart_Sliced f e = let P : ExprTree → Type 0 = λ e. ((s : Spot) (a : ExprTree) (l h m : Option ExprTree) → e ≡ ev.Sliced s a l h m → ⊥) → (s' : Spot) (a' : Tree) (l' h' m' : MaybeTree) → seen f e ≡ sliced s' a' l' h' m' → ⊥ in subst P (roll-out-ExprTree e) (apart_Sliced_at f (out-ExprTree e))

apart_Call_at : (f : Spotting) (d : ExprTree-F ExprTree TypeExpr) → ((s : Spot) (a : ExprTree) (es : List ExprTree) (spread : Bool) → roll-ExprTree d ≡ ev.Call s a es spread → ⊥) → (s' : Spot) (a' : Tree) (es' : Trees) (spread' : Bool) → seen f (roll-ExprTree d) ≡ call s' a' es' spread' → ⊥
unfolding type_seen seen
apart_Call_at f (ExprTree-F.Call s a es spread) apart s' a' es' spread' same = apart s a es spread (ev.rolls-Call s a es spread)
apart_Call_at f d apart s' a' es' spread' same = false≢true (ap is_Call (sym (fold-roll-ExprTree Tree TypeTree (layer f) (type_layer f) d) ∙ same))

pub apart_Call : (f : Spotting) (e : ExprTree) → ((s : Spot) (a : ExprTree) (es : List ExprTree) (spread : Bool) → e ≡ ev.Call s a es spread → ⊥) → (s' : Spot) (a' : Tree) (es' : Trees) (spread' : Bool) → seen f e ≡ call s' a' es' spread' → ⊥
apart_Call f e = let P : ExprTree → Type 0 = λ e. ((s : Spot) (a : ExprTree) (es : List ExprTree) (spread : Bool) → e ≡ ev.Call s a es spread → ⊥) → (s' : Spot) (a' : Tree) (es' : Trees) (spread' : Bool) → seen f e ≡ call s' a' es' spread' → ⊥ in subst P (roll-out-ExprTree e) (apart_Call_at f (out-ExprTree e))

apart_Type_at : (f : Spotting) (d : ExprTree-F ExprTree TypeExpr) → ((t : TypeExpr) → roll-ExprTree d ≡ ev.Type t → ⊥) → (t' : TypeTree) → seen f (roll-ExprTree d) ≡ type_arg t' → ⊥
unfolding type_seen seen
apart_Type_at f (ExprTree-F.Type t) apart t' same = apart t (ev.rolls-Type t)
apart_Type_at f d apart t' same = false≢true (ap is_Type (sym (fold-roll-ExprTree Tree TypeTree (layer f) (type_layer f) d) ∙ same))

pub apart_Type : (f : Spotting) (e : ExprTree) → ((t : TypeExpr) → e ≡ ev.Type t → ⊥) → (t' : TypeTree) → seen f e ≡ type_arg t' → ⊥
apart_Type f e = let P : ExprTree → Type 0 = λ e. ((t : TypeExpr) → e ≡ ev.Type t → ⊥) → (t' : TypeTree) → seen f e ≡ type_arg t' → ⊥ in subst P (roll-out-ExprTree e) (apart_Type_at f (out-ExprTree e))

apart_Unary_at : (f : Spotting) (d : ExprTree-F ExprTree TypeExpr) → ((s : Spot) (op : PrefixOp) (a : ExprTree) → roll-ExprTree d ≡ ev.Unary s op a → ⊥) → (s' : Spot) (op' : PrefixOp) (a' : Tree) → seen f (roll-ExprTree d) ≡ unary s' op' a' → ⊥
unfolding type_seen seen
apart_Unary_at f (ExprTree-F.Unary s op a) apart s' op' a' same = apart s op a (ev.rolls-Unary s op a)
apart_Unary_at f d apart s' op' a' same = false≢true (ap is_Unary (sym (fold-roll-ExprTree Tree TypeTree (layer f) (type_layer f) d) ∙ same))

pub apart_Unary : (f : Spotting) (e : ExprTree) → ((s : Spot) (op : PrefixOp) (a : ExprTree) → e ≡ ev.Unary s op a → ⊥) → (s' : Spot) (op' : PrefixOp) (a' : Tree) → seen f e ≡ unary s' op' a' → ⊥
apart_Unary f e = let P : ExprTree → Type 0 = λ e. ((s : Spot) (op : PrefixOp) (a : ExprTree) → e ≡ ev.Unary s op a → ⊥) → (s' : Spot) (op' : PrefixOp) (a' : Tree) → seen f e ≡ unary s' op' a' → ⊥ in subst P (roll-out-ExprTree e) (apart_Unary_at f (out-ExprTree e))

apart_Binary_at : (f : Spotting) (d : ExprTree-F ExprTree TypeExpr) → ((s : Spot) (op : BinOp) (l r : ExprTree) → roll-ExprTree d ≡ ev.Binary s op l r → ⊥) → (s' : Spot) (op' : BinOp) (l' r' : Tree) → seen f (roll-ExprTree d) ≡ binary s' op' l' r' → ⊥
unfolding type_seen seen
apart_Binary_at f (ExprTree-F.Binary s op l r) apart s' op' l' r' same = apart s op l r (ev.rolls-Binary s op l r)
apart_Binary_at f d apart s' op' l' r' same = false≢true (ap is_Binary (sym (fold-roll-ExprTree Tree TypeTree (layer f) (type_layer f) d) ∙ same))

pub apart_Binary : (f : Spotting) (e : ExprTree) → ((s : Spot) (op : BinOp) (l r : ExprTree) → e ≡ ev.Binary s op l r → ⊥) → (s' : Spot) (op' : BinOp) (l' r' : Tree) → seen f e ≡ binary s' op' l' r' → ⊥
apart_Binary f e = let P : ExprTree → Type 0 = λ e. ((s : Spot) (op : BinOp) (l r : ExprTree) → e ≡ ev.Binary s op l r → ⊥) → (s' : Spot) (op' : BinOp) (l' r' : Tree) → seen f e ≡ binary s' op' l' r' → ⊥ in subst P (roll-out-ExprTree e) (apart_Binary_at f (out-ExprTree e))
