-- What trees are as types, by what the code matches.
use Rattle.std.proofs.Common.{◌≡◌, ◌⊎◌, inl, inr, Bool, true, false, List, Some, None, ap, sym, subst, ◌∙◌}
use Rattle.ui_base.specs.declared.value.Spot.{Spot}
use Rattle.ui_tree.specs.declared.part.Placed.{Placed}
use Rattle.ui_tree.specs.declared.part.PrefixOp.{PrefixOp}
use Rattle.ui_tree.specs.declared.expr.TypeExpr.{TypeExpr, fold-roll-TypeExpr, roll-TypeExpr, out-TypeExpr, roll-out-TypeExpr}
use Rattle.ui_tree.specs.declared.expr.TypeExpr.TheVariants as tv
use Rattle.ui_tree.specs.declared.expr.ExprTree.{ExprTree, fold-roll-ExprTree, roll-ExprTree, out-ExprTree, roll-out-ExprTree}
use Rattle.ui_tree.specs.declared.expr.ExprTree.TheVariants as ev
use Rattle.ui_tree.specs.declared.expr.ExprTree.TheOpen.{TypeExpr-F, ExprTree-F}
use Rattle.ui_tree.specs.declared.part.Group.{Group}
use Rattle.ui_tree.specs.Views.{seen_Type, seen_Name, seen_Selector, seen_Counted, seen_Slice, seen_Array, seen_Map, seen_Struct}
use Rattle.ui_tree.specs.Tree.{TypeTree, Tree}
use Rattle.ui_tree.specs.View.{seen, type_seen, layer, type_layer, kept, view, type_view}
use Rattle.ui_syntax.specs.Cover.{only_type, as_type, name_of, member_of, has_literals, is_counted}

pub every : (P : ExprTree → Type 0) → ((d : ExprTree-F ExprTree TypeExpr) → P (roll-ExprTree d)) → (e : ExprTree) → P e
every P h e = subst P (roll-out-ExprTree e) (h (out-ExprTree e))

pub every_type : (P : TypeExpr → Type 0) → ((d : TypeExpr-F ExprTree TypeExpr) → P (roll-TypeExpr d)) → (t : TypeExpr) → P t
every_type P h t = subst P (roll-out-TypeExpr t) (h (out-TypeExpr t))

-- ---- no variant of these

abbrev pub NotType : ExprTree → Type 0
NotType e = (t : TypeExpr) → e ≡ ev.Type t → ⊥

abbrev pub NotName : ExprTree → Type 0
NotName e = (n : Placed) → e ≡ ev.Name n → ⊥

abbrev pub NotSelector : ExprTree → Type 0
NotSelector e = (s : Spot) (a : ExprTree) (n : Placed) → e ≡ ev.Selector s a n → ⊥

abbrev pub NotIndex : ExprTree → Type 0
NotIndex e = (s : Spot) (a b : ExprTree) → e ≡ ev.Index s a b → ⊥

abbrev pub NotInstance : ExprTree → Type 0
NotInstance e = (s : Spot) (a : ExprTree) (ts : List TypeExpr) → e ≡ ev.Instance s a ts → ⊥

abbrev pub NotParen : ExprTree → Type 0
NotParen e = (s : Spot) (a : ExprTree) → e ≡ ev.Paren s a → ⊥

abbrev pub NotUnary : ExprTree → Type 0
NotUnary e = (s : Spot) (o : PrefixOp) (a : ExprTree) → e ≡ ev.Unary s o a → ⊥

no_type_at : (d : ExprTree-F ExprTree TypeExpr) → NotType (roll-ExprTree d) → only_type (view (roll-ExprTree d)) ≡ None
unfolding seen type_seen
no_type_at (ExprTree-F.Type t) apart = absurd (apart t (ev.rolls-Type t))
no_type_at d apart = ap only_type (fold-roll-ExprTree Tree TypeTree (layer kept) (type_layer kept) d)

pub no_type_alone : (e : ExprTree) → NotType e → only_type (view e) ≡ None
no_type_alone e = every (λ (e : ExprTree). NotType e → only_type (view e) ≡ None) no_type_at e

no_name_at : (d : ExprTree-F ExprTree TypeExpr) → NotName (roll-ExprTree d) → NotSelector (roll-ExprTree d) → name_of (view (roll-ExprTree d)) ≡ None
unfolding seen type_seen
no_name_at (ExprTree-F.Name n) apart apart2 = absurd (apart n (ev.rolls-Name n))
no_name_at (ExprTree-F.Selector s a n) apart apart2 = absurd (apart2 s a n (ev.rolls-Selector s a n))
no_name_at d apart apart2 = ap name_of (fold-roll-ExprTree Tree TypeTree (layer kept) (type_layer kept) d)

pub no_name : (e : ExprTree) → NotName e → NotSelector e → name_of (view e) ≡ None
no_name e = every (λ (e : ExprTree). NotName e → NotSelector e → name_of (view e) ≡ None) no_name_at e

no_member_at : (m : Placed) (d : ExprTree-F ExprTree TypeExpr) → NotName (roll-ExprTree d) → member_of (view (roll-ExprTree d)) m ≡ None
unfolding seen type_seen
no_member_at m (ExprTree-F.Name n) apart = absurd (apart n (ev.rolls-Name n))
no_member_at m d apart = ap (λ (t : Tree). member_of t m) (fold-roll-ExprTree Tree TypeTree (layer kept) (type_layer kept) d)

pub no_member : (e : ExprTree) (m : Placed) → NotName e → member_of (view e) m ≡ None
no_member e m = every (λ (e : ExprTree). NotName e → member_of (view e) m ≡ None) (no_member_at m) e

-- no type, where the tree is of none of these variants
pub record NoType (e : ExprTree) : Type 0 where
  pub not_name : NotName e
  pub not_selector : NotSelector e
  pub not_index : NotIndex e
  pub not_instance : NotInstance e
  pub not_paren : NotParen e
  pub not_unary : NotUnary e
  pub not_type : NotType e

no_cover_at : (d : ExprTree-F ExprTree TypeExpr) → NoType (roll-ExprTree d) → as_type (view (roll-ExprTree d)) ≡ None
unfolding seen type_seen
no_cover_at (ExprTree-F.Name n) apart = absurd (apart.not_name n (ev.rolls-Name n))
no_cover_at (ExprTree-F.Selector s a n) apart = absurd (apart.not_selector s a n (ev.rolls-Selector s a n))
no_cover_at (ExprTree-F.Index s a b) apart = absurd (apart.not_index s a b (ev.rolls-Index s a b))
no_cover_at (ExprTree-F.Instance s a ts) apart = absurd (apart.not_instance s a ts (ev.rolls-Instance s a ts))
no_cover_at (ExprTree-F.Paren s a) apart = absurd (apart.not_paren s a (ev.rolls-Paren s a))
no_cover_at (ExprTree-F.Unary s o a) apart = absurd (apart.not_unary s o a (ev.rolls-Unary s o a))
no_cover_at (ExprTree-F.Type t) apart = absurd (apart.not_type t (ev.rolls-Type t))
no_cover_at d apart = ap as_type (fold-roll-ExprTree Tree TypeTree (layer kept) (type_layer kept) d)

pub no_cover : (e : ExprTree) → NoType e → as_type (view e) ≡ None
no_cover e = every (λ (e : ExprTree). NoType e → as_type (view e) ≡ None) no_cover_at e

-- ---- what these variants are

pub type_alone : (e : ExprTree) (t : TypeExpr) → e ≡ ev.Type t → only_type (view e) ≡ Some (type_view t)
type_alone e t is = ap (λ (e : ExprTree). only_type (view e)) is ∙ ap only_type (seen_Type kept t)

pub name_is : (e : ExprTree) (n : Placed) → e ≡ ev.Name n → name_of (view e) ≡ Some (n, None)
name_is e n is = ap (λ (e : ExprTree). name_of (view e)) is ∙ ap name_of (seen_Name kept n)

pub selector_is : (e : ExprTree) (s : Spot) (a : ExprTree) (m : Placed) → e ≡ ev.Selector s a m → name_of (view e) ≡ member_of (view a) m
selector_is e s a m is = ap (λ (e : ExprTree). name_of (view e)) is ∙ ap name_of (seen_Selector kept s a m)

pub member_is : (e : ExprTree) (n m : Placed) → e ≡ ev.Name n → member_of (view e) m ≡ Some (n, Some m)
member_is e n m is = ap (λ (e : ExprTree). member_of (view e) m) is ∙ ap (λ (t : Tree). member_of t m) (seen_Name kept n)

-- ---- types

abbrev pub NotCounted : TypeExpr → Type 0
NotCounted e = (s : Spot) (t : TypeExpr) → e ≡ tv.Counted s t → ⊥

no_counted_at : (d : TypeExpr-F ExprTree TypeExpr) → NotCounted (roll-TypeExpr d) → is_counted (type_view (roll-TypeExpr d)) ≡ false
unfolding seen type_seen
no_counted_at (TypeExpr-F.Counted s t) apart = absurd (apart s t (tv.rolls-Counted s t))
no_counted_at d apart = ap is_counted (fold-roll-TypeExpr Tree TypeTree (layer kept) (type_layer kept) d)

pub no_counted : (t : TypeExpr) → NotCounted t → is_counted (type_view t) ≡ false
no_counted t = every_type (λ (t : TypeExpr). NotCounted t → is_counted (type_view t) ≡ false) no_counted_at t

pub counted_is : (e : TypeExpr) (s : Spot) (t : TypeExpr) → e ≡ tv.Counted s t → is_counted (type_view e) ≡ true
counted_is e s t is = ap (λ (e : TypeExpr). is_counted (type_view e)) is ∙ ap is_counted (seen_Counted kept s t)

-- no type of literals, where the tree is of none of these variants
pub record NoLiterals (e : TypeExpr) : Type 0 where
  pub not_slice : (s : Spot) (t : TypeExpr) → e ≡ tv.Slice s t → ⊥
  pub not_array : (s : Spot) (n : ExprTree) (t : TypeExpr) → e ≡ tv.Array s n t → ⊥
  pub not_counted : NotCounted e
  pub not_map : (s : Spot) (k t : TypeExpr) → e ≡ tv.Map s k t → ⊥
  pub not_struct : (s : Spot) (gs : List (Group TypeExpr)) → e ≡ tv.Struct s gs → ⊥

no_literals_at : (d : TypeExpr-F ExprTree TypeExpr) → NoLiterals (roll-TypeExpr d) → has_literals (type_view (roll-TypeExpr d)) ≡ false
unfolding seen type_seen
no_literals_at (TypeExpr-F.Slice s t) apart = absurd (apart.not_slice s t (tv.rolls-Slice s t))
no_literals_at (TypeExpr-F.Array s n t) apart = absurd (apart.not_array s n t (tv.rolls-Array s n t))
no_literals_at (TypeExpr-F.Counted s t) apart = absurd (apart.not_counted s t (tv.rolls-Counted s t))
no_literals_at (TypeExpr-F.Map s k t) apart = absurd (apart.not_map s k t (tv.rolls-Map s k t))
no_literals_at (TypeExpr-F.Struct s gs) apart = absurd (apart.not_struct s gs (tv.rolls-Struct s gs))
no_literals_at d apart = ap has_literals (fold-roll-TypeExpr Tree TypeTree (layer kept) (type_layer kept) d)

pub no_literals : (t : TypeExpr) → NoLiterals t → has_literals (type_view t) ≡ false
no_literals t = every_type (λ (t : TypeExpr). NoLiterals t → has_literals (type_view t) ≡ false) no_literals_at t

pub literals_are : (e t : TypeExpr) (b : Bool) → e ≡ t → has_literals (type_view t) ≡ b → b ≡ has_literals (type_view e)
literals_are e t b is at = sym (ap (λ (e : TypeExpr). has_literals (type_view e)) is ∙ at)

abbrev pub AreLiterals : TypeExpr → Type 0
AreLiterals e =
    ((s : Spot) × (t : TypeExpr) × e ≡ tv.Slice s t) ⊎ (((s : Spot) × (n : ExprTree) × (t : TypeExpr) × e ≡ tv.Array s n t) ⊎ (((s : Spot) × (t : TypeExpr) × e ≡ tv.Counted s t) ⊎
    (((s : Spot) × (k : TypeExpr) × (t : TypeExpr) × e ≡ tv.Map s k t) ⊎ ((s : Spot) × (gs : List (Group TypeExpr)) × e ≡ tv.Struct s gs))))

pub are_literals : (e : TypeExpr) → AreLiterals e → true ≡ has_literals (type_view e)
are_literals e (inl (s, t, is)) = literals_are e (tv.Slice s t) true is (ap has_literals (seen_Slice kept s t))
are_literals e (inr (inl (s, n, t, is))) = literals_are e (tv.Array s n t) true is (ap has_literals (seen_Array kept s n t))
are_literals e (inr (inr (inl (s, t, is)))) = literals_are e (tv.Counted s t) true is (ap has_literals (seen_Counted kept s t))
are_literals e (inr (inr (inr (inl (s, k, t, is))))) = literals_are e (tv.Map s k t) true is (ap has_literals (seen_Map kept s k t))
are_literals e (inr (inr (inr (inr (s, gs, is))))) = literals_are e (tv.Struct s gs) true is (ap has_literals (seen_Struct kept s gs))
