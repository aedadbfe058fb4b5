-- Whether trees are types' names, by what the code matches.
use Rattle.std.proofs.Common.{◌≡◌, ◌⊎◌, inl, inr, true, false, List, map, Option, Some, None, refl, ap, sym, ◌∙◌}
use Rattle.ui_base.specs.declared.value.Spot.{Spot}
use Rattle.ui_tree.specs.declared.part.Placed.{Placed}
use Rattle.ui_tree.specs.declared.part.PrefixOp.{PrefixOp}
use Rattle.ui_tree.specs.declared.part.PrefixOp.TheVariants.{Plus, Minus, Not, Flip, Deref, Address}
use Rattle.ui_tree.specs.declared.expr.TypeExpr.{TypeExpr, fold-roll-TypeExpr, roll-TypeExpr}
use Rattle.ui_tree.specs.declared.expr.TypeExpr.TheVariants as tv
use Rattle.ui_tree.specs.declared.expr.ExprTree.{ExprTree, fold-roll-ExprTree, roll-ExprTree}
use Rattle.ui_tree.specs.declared.expr.ExprTree.TheVariants as ev
use Rattle.ui_tree.specs.declared.expr.ExprTree.TheOpen.{TypeExpr-F, ExprTree-F}
use Rattle.ui_tree.specs.Views.{seen_Named}
use Rattle.ui_tree.specs.Tree.{TypeTree, Tree, Types}
use Rattle.ui_tree.specs.View.{seen, type_seen, layer, type_layer, kept, view, type_view, types}
use Rattle.ui_syntax.specs.Cover.{TypeName, as_type, if_named, name_of, with_args, without_args, one_type, enclosed, pointed}
use Rattle.ui_syntax.specs.Exprs.{is_some}
use Rattle.ui_ptype.proofs.Covers.{every, every_type, NotName, NotSelector, NotIndex, NotInstance, NotType}
use Rattle.ui_ptype.proofs.CoverTypes.{name_cover, index_cover, instance_cover, type_cover}

if_without : (n : Option TypeName) → is_some (without_args n) ≡ is_some (if_named (without_args n))
if_without None = refl
if_without (Some n) = refl

if_with : (n : Option TypeName) (us : Option Types) → is_some (with_args n us) ≡ is_some (if_named (with_args n us))
if_with None us = refl
if_with (Some n) None = refl
if_with (Some n) (Some us) = refl

abbrev pub MayBeNamed : ExprTree → Type 0
MayBeNamed e =
    ((n : Placed) × e ≡ ev.Name n) ⊎ (((s : Spot) × (a : ExprTree) × (m : Placed) × e ≡ ev.Selector s a m) ⊎
    (((s : Spot) × (a : ExprTree) × (b : ExprTree) × e ≡ ev.Index s a b) ⊎ ((s : Spot) × (a : ExprTree) × (us : List TypeExpr) × e ≡ ev.Instance s a us)))

by_cover : (e : ExprTree) (t : Option TypeTree) → as_type (view e) ≡ t → is_some t ≡ is_some (if_named t) → is_some (as_type (view e)) ≡ is_some (if_named (as_type (view e)))
by_cover e t is at = ap is_some is ∙ at ∙ sym (ap (λ (t : Option TypeTree). is_some (if_named t)) is)

pub maybe_named : (e : ExprTree) → MayBeNamed e → is_some (as_type (view e)) ≡ is_some (if_named (as_type (view e)))
maybe_named e (inl (n, is)) = by_cover e _ (name_cover e (inl (n, is))) (if_without (name_of (view e)))
maybe_named e (inr (inl (s, a, m, is))) = by_cover e _ (name_cover e (inr (s, a, m, is))) (if_without (name_of (view e)))
maybe_named e (inr (inr (inl (s, a, b, is)))) = by_cover e _ (index_cover e s a b is) (if_with (name_of (view a)) (one_type (as_type (view b))))
maybe_named e (inr (inr (inr (s, a, us, is)))) = by_cover e _ (instance_cover e s a us is) (if_with (name_of (view a)) (Some (types (map type_view us))))

pub alone_named : (e : ExprTree) (t t' : TypeExpr) (n : Placed) (m : Option Placed) (vs : Option (List TypeExpr)) → e ≡ ev.Type t → t' ≡ t → t' ≡ tv.Named n m vs → true ≡ is_some (if_named (as_type (view e)))
alone_named e t t' n m vs is t_is at =
    sym (ap (λ (x : Option TypeTree). is_some (if_named x)) (type_cover e t is) ∙ ap (λ (u : TypeExpr). is_some (if_named (Some (type_view u)))) (sym t_is ∙ at) ∙ ap (λ (u : TypeTree). is_some (if_named (Some u))) (seen_Named kept n m vs))

abbrev pub NotNamed : TypeExpr → Type 0
NotNamed t = (n : Placed) (m : Option Placed) (vs : Option (List TypeExpr)) → t ≡ tv.Named n m vs → ⊥

no_named_at : (d : TypeExpr-F ExprTree TypeExpr) → NotNamed (roll-TypeExpr d) → if_named (Some (type_view (roll-TypeExpr d))) ≡ None
unfolding seen type_seen
no_named_at (TypeExpr-F.Named n m vs) apart = absurd (apart n m vs (tv.rolls-Named n m vs))
no_named_at d apart = ap (λ (t : TypeTree). if_named (Some t)) (fold-roll-TypeExpr Tree TypeTree (layer kept) (type_layer kept) d)

no_named : (t : TypeExpr) → NotNamed t → if_named (Some (type_view t)) ≡ None
no_named t = every_type (λ (t : TypeExpr). NotNamed t → if_named (Some (type_view t)) ≡ None) no_named_at t

pub alone_unnamed : (e : ExprTree) (t t' : TypeExpr) → e ≡ ev.Type t → t' ≡ t → NotNamed t' → false ≡ is_some (if_named (as_type (view e)))
alone_unnamed e t t' is t_is apart =
    sym (ap (λ (x : Option TypeTree). is_some (if_named x)) (type_cover e t is) ∙ ap (λ (u : TypeExpr). is_some (if_named (Some (type_view u)))) (sym t_is) ∙ ap is_some (no_named t' apart))

if_enclosed : (s : Spot) (t : Option TypeTree) → if_named (enclosed s t) ≡ None
if_enclosed s None = refl
if_enclosed s (Some t) = refl

if_pointed : (o : PrefixOp) (s : Spot) (t : Option TypeTree) → if_named (pointed o s t) ≡ None
if_pointed Deref s None = refl
if_pointed Deref s (Some t) = refl
if_pointed Plus s t = refl
if_pointed Minus s t = refl
if_pointed Not s t = refl
if_pointed Flip s t = refl
if_pointed Address s t = refl

-- no type's name, where the tree is of none of these variants
pub record NoTypeName (e : ExprTree) : Type 0 where
  pub not_name : NotName e
  pub not_selector : NotSelector e
  pub not_index : NotIndex e
  pub not_instance : NotInstance e
  pub not_type : NotType e

unnamed_at : (d : ExprTree-F ExprTree TypeExpr) → NoTypeName (roll-ExprTree d) → if_named (as_type (view (roll-ExprTree d))) ≡ None
unfolding seen type_seen
unnamed_at (ExprTree-F.Name n) apart = absurd (apart.not_name n (ev.rolls-Name n))
unnamed_at (ExprTree-F.Selector s a n) apart = absurd (apart.not_selector s a n (ev.rolls-Selector s a n))
unnamed_at (ExprTree-F.Index s a b) apart = absurd (apart.not_index s a b (ev.rolls-Index s a b))
unnamed_at (ExprTree-F.Instance s a ts) apart = absurd (apart.not_instance s a ts (ev.rolls-Instance s a ts))
unnamed_at (ExprTree-F.Type t) apart = absurd (apart.not_type t (ev.rolls-Type t))
unnamed_at (ExprTree-F.Paren s a) apart = ap (λ (t : Tree). if_named (as_type t)) (fold-roll-ExprTree Tree TypeTree (layer kept) (type_layer kept) (ExprTree-F.Paren s a)) ∙ if_enclosed s (as_type (view a))
unnamed_at (ExprTree-F.Unary s o a) apart = ap (λ (t : Tree). if_named (as_type t)) (fold-roll-ExprTree Tree TypeTree (layer kept) (type_layer kept) (ExprTree-F.Unary s o a)) ∙ if_pointed o s (as_type (view a))
unnamed_at d apart = ap (λ (t : Tree). if_named (as_type t)) (fold-roll-ExprTree Tree TypeTree (layer kept) (type_layer kept) d)

pub no_type_name : (e : ExprTree) → NoTypeName e → if_named (as_type (view e)) ≡ None
no_type_name e = every (λ (e : ExprTree). NoTypeName e → if_named (as_type (view e)) ≡ None) unnamed_at e
