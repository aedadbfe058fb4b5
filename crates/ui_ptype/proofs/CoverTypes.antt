-- The types that trees are, variant by variant.
use Rattle.std.proofs.Common.{◌≡◌, ◌⊎◌, inl, inr, Bool, true, false, List, [], ◌∷◌, map, Option, Some, None, refl, ap, sym, ◌∙◌}
use Rattle.std.specs.Option.{option_map}
use Rattle.ui_base.specs.declared.value.Spot.{Spot}
use Rattle.ui_tree.specs.declared.part.Placed.{Placed}
use Rattle.ui_tree.specs.declared.part.PrefixOp.{PrefixOp}
use Rattle.ui_tree.specs.declared.part.PrefixOp.TheVariants.{Plus, Minus, Not, Flip, Deref, Address}
use Rattle.ui_tree.specs.declared.expr.TypeExpr.{TypeExpr}
use Rattle.ui_tree.specs.declared.expr.ExprTree.{ExprTree}
use Rattle.ui_tree.specs.declared.expr.ExprTree.TheVariants as ev
use Rattle.ui_tree.specs.Views.{seen_Type, seen_Name, seen_Selector, seen_Index, seen_Instance, seen_Paren, seen_Unary}
use Rattle.ui_tree.specs.Tree.{TypeTree, named, parenthesized, pointer, Tree, Types}
use Rattle.ui_tree.specs.View.{kept, view, type_view, types, type_args}
use Rattle.ui_syntax.specs.Cover.{TypeName, as_type, name_of, with_args, without_args, one_type, enclosed, pointed}
use Rattle.ui_ptype.specs.Pointers.{is_deref}
use Rattle.ui_syntax.specs.Exprs.{is_some}
use Rattle.ui_ptype.specs.Seen.{named_by}

same_cover : (e e' : ExprTree) (t : Tree) → e ≡ e' → view e' ≡ t → as_type (view e) ≡ as_type t
same_cover e e' t is at = ap (λ (e : ExprTree). as_type (view e)) is ∙ ap as_type at

same_name : (e e' : ExprTree) (t : Tree) → e ≡ e' → view e' ≡ t → name_of (view e) ≡ name_of t
same_name e e' t is at = ap (λ (e : ExprTree). name_of (view e)) is ∙ ap name_of at

abbrev pub IsName : ExprTree → Type 0
IsName e = ((n : Placed) × e ≡ ev.Name n) ⊎ ((s : Spot) × (a : ExprTree) × (m : Placed) × e ≡ ev.Selector s a m)

pub name_cover : (e : ExprTree) → IsName e → as_type (view e) ≡ without_args (name_of (view e))
name_cover e (inl (n, is)) = same_cover e (ev.Name n) _ is (seen_Name kept n) ∙ ap without_args (sym (same_name e (ev.Name n) _ is (seen_Name kept n)))
name_cover e (inr (s, a, m, is)) = same_cover e (ev.Selector s a m) _ is (seen_Selector kept s a m) ∙ ap without_args (sym (same_name e (ev.Selector s a m) _ is (seen_Selector kept s a m)))

pub index_cover : (e : ExprTree) (s : Spot) (f i : ExprTree) → e ≡ ev.Index s f i → as_type (view e) ≡ with_args (name_of (view f)) (one_type (as_type (view i)))
index_cover e s f i is = same_cover e (ev.Index s f i) _ is (seen_Index kept s f i)

pub instance_cover : (e : ExprTree) (s : Spot) (f : ExprTree) (us : List TypeExpr) → e ≡ ev.Instance s f us → as_type (view e) ≡ with_args (name_of (view f)) (Some (types (map type_view us)))
instance_cover e s f us is = same_cover e (ev.Instance s f us) _ is (seen_Instance kept s f us)

pub paren_cover : (e : ExprTree) (s : Spot) (a : ExprTree) → e ≡ ev.Paren s a → as_type (view e) ≡ enclosed s (as_type (view a))
paren_cover e s a is = same_cover e (ev.Paren s a) _ is (seen_Paren kept s a)

pub unary_cover : (e : ExprTree) (s : Spot) (o : PrefixOp) (a : ExprTree) → e ≡ ev.Unary s o a → as_type (view e) ≡ pointed o s (as_type (view a))
unary_cover e s o a is = same_cover e (ev.Unary s o a) _ is (seen_Unary kept s o a)

pub type_cover : (e : ExprTree) (t : TypeExpr) → e ≡ ev.Type t → as_type (view e) ≡ Some (type_view t)
type_cover e t is = same_cover e (ev.Type t) _ is (seen_Type kept t)

-- ---- whether they are types

some_without : (n : Option TypeName) → is_some n ≡ is_some (without_args n)
some_without None = refl
some_without (Some n) = refl

some_with : (n : Option TypeName) (us : Types) → is_some n ≡ is_some (with_args n (Some us))
some_with None us = refl
some_with (Some n) us = refl

some_one : (n : Option TypeName) (t : Option TypeTree) → is_some n ≡ true → is_some t ≡ is_some (with_args n (one_type t))
some_one None t e = absurd cc
some_one (Some n) None e = refl
some_one (Some n) (Some t) e = refl

none_one : (n : Option TypeName) (t : Option TypeTree) → is_some n ≡ false → is_some (with_args n (one_type t)) ≡ false
none_one None t e = refl
none_one (Some n) t e = absurd cc

some_enclosed : (s : Spot) (t : Option TypeTree) → is_some t ≡ is_some (enclosed s t)
some_enclosed s None = refl
some_enclosed s (Some t) = refl

some_pointed : (s : Spot) (t : Option TypeTree) → is_some t ≡ is_some (pointed Deref s t)
some_pointed s None = refl
some_pointed s (Some t) = refl

pub deref_is : (o : PrefixOp) → is_deref o ≡ true → o ≡ Deref
deref_is Deref e = refl
deref_is Plus e = absurd cc
deref_is Minus e = absurd cc
deref_is Not e = absurd cc
deref_is Flip e = absurd cc
deref_is Address e = absurd cc

none_pointed : (o : PrefixOp) (s : Spot) (t : Option TypeTree) → is_deref o ≡ false → pointed o s t ≡ None
none_pointed Deref s t e = absurd cc
none_pointed Plus s t e = refl
none_pointed Minus s t e = refl
none_pointed Not s t e = refl
none_pointed Flip s t e = refl
none_pointed Address s t e = refl

pub is_name_type : (e : ExprTree) (b : Bool) → IsName e → b ≡ is_some (name_of (view e)) → b ≡ is_some (as_type (view e))
is_name_type e b is at = at ∙ some_without (name_of (view e)) ∙ sym (ap is_some (name_cover e is))

pub is_index_type : (e : ExprTree) (s : Spot) (f i f' i' : ExprTree) (b : Bool) → e ≡ ev.Index s f i → f' ≡ f → i' ≡ i → true ≡ is_some (name_of (view f')) → b ≡ is_some (as_type (view i')) → b ≡ is_some (as_type (view e))
is_index_type e s f i f' i' b is f_is i_is at at_i = at_i ∙ ap (λ (i : ExprTree). is_some (as_type (view i))) i_is
    ∙ some_one (name_of (view f)) (as_type (view i)) (sym (at ∙ ap (λ (f : ExprTree). is_some (name_of (view f))) f_is)) ∙ sym (ap is_some (index_cover e s f i is))

pub no_index_type : (e : ExprTree) (s : Spot) (f i f' : ExprTree) (b : Bool) → e ≡ ev.Index s f i → f' ≡ f → b ≡ is_some (name_of (view f')) → b ≡ false → b ≡ is_some (as_type (view e))
no_index_type e s f i f' b is f_is at no_name = no_name
    ∙ sym (none_one (name_of (view f)) (as_type (view i)) (sym (at ∙ ap (λ (f : ExprTree). is_some (name_of (view f))) f_is) ∙ no_name)) ∙ sym (ap is_some (index_cover e s f i is))

pub is_instance_type : (e : ExprTree) (s : Spot) (f f' : ExprTree) (us : List TypeExpr) (b : Bool) → e ≡ ev.Instance s f us → f' ≡ f → b ≡ is_some (name_of (view f')) → b ≡ is_some (as_type (view e))
is_instance_type e s f f' us b is f_is at = at ∙ ap (λ (f : ExprTree). is_some (name_of (view f))) f_is ∙ some_with (name_of (view f)) (types (map type_view us)) ∙ sym (ap is_some (instance_cover e s f us is))

pub is_paren_type : (e : ExprTree) (s : Spot) (a a' : ExprTree) (b : Bool) → e ≡ ev.Paren s a → a' ≡ a → b ≡ is_some (as_type (view a')) → b ≡ is_some (as_type (view e))
is_paren_type e s a a' b is a_is at = at ∙ ap (λ (a : ExprTree). is_some (as_type (view a))) a_is ∙ some_enclosed s (as_type (view a)) ∙ sym (ap is_some (paren_cover e s a is))

pub is_pointer_type : (e : ExprTree) (s : Spot) (o : PrefixOp) (a a' : ExprTree) (b : Bool) → e ≡ ev.Unary s o a → o ≡ Deref → a' ≡ a → b ≡ is_some (as_type (view a')) → b ≡ is_some (as_type (view e))
is_pointer_type e s o a a' b is deref a_is at = at ∙ ap (λ (a : ExprTree). is_some (as_type (view a))) a_is ∙ some_pointed s (as_type (view a))
    ∙ ap (λ (o : PrefixOp). is_some (pointed o s (as_type (view a)))) (sym deref) ∙ sym (ap is_some (unary_cover e s o a is))

pub no_pointer : (e : ExprTree) (s : Spot) (o : PrefixOp) (a : ExprTree) → e ≡ ev.Unary s o a → is_deref o ≡ false → as_type (view e) ≡ None
no_pointer e s o a is other = unary_cover e s o a is ∙ none_pointed o s (as_type (view a)) other

-- ---- which types they are

pub named_at : (e : ExprTree) (n : TypeName) (us : Option (List TypeTree)) (t : TypeTree) → name_of (view e) ≡ Some n → t ≡ named n.0 n.1 (type_args us) → Some t ≡ named_by (name_of (view e)) us
named_at e n us t is at = ap Some at ∙ sym (ap (λ (o : Option TypeName). named_by o us) is)

pub unnamed : (e : ExprTree) (us : Option (List TypeTree)) → name_of (view e) ≡ None → None ≡ named_by (name_of (view e)) us
unnamed e us is = sym (ap (λ (o : Option TypeName). named_by o us) is)

by_without : (n : Option TypeName) → named_by n None ≡ without_args n
by_without None = refl
by_without (Some n) = refl

by_with : (n : Option TypeName) (us : List TypeTree) → named_by n (Some us) ≡ with_args n (Some (types us))
by_with None us = refl
by_with (Some n) us = refl

with_none : (n : Option TypeName) → with_args n None ≡ None
with_none None = refl
with_none (Some n) = refl

pub name_type : (e : ExprTree) (r : Option TypeTree) → IsName e → r ≡ named_by (name_of (view e)) None → r ≡ as_type (view e)
name_type e r is at = at ∙ by_without (name_of (view e)) ∙ sym (name_cover e is)

pub index_type : (e : ExprTree) (s : Spot) (f i f' i' : ExprTree) (t : TypeExpr) (o : Option TypeExpr) (us : List TypeExpr) (r : Option TypeTree) → e ≡ ev.Index s f i → f' ≡ f → i' ≡ i → option_map type_view o ≡ as_type (view i') → o ≡ Some t → us ≡ t ∷ []
    → r ≡ named_by (name_of (view f')) (Some (map type_view us)) → r ≡ as_type (view e)
index_type e s f i f' i' t o us r is f_is i_is at some all made =
    let arg : as_type (view i) ≡ Some (type_view t) = ap (λ (i : ExprTree). as_type (view i)) (sym i_is) ∙ sym at ∙ ap (λ (o : Option TypeExpr). option_map type_view o) some in
    made ∙ ap (λ (f : ExprTree). named_by (name_of (view f)) (Some (map type_view us))) f_is ∙ ap (λ (us : List TypeExpr). named_by (name_of (view f)) (Some (map type_view us))) all
    ∙ by_with (name_of (view f)) (type_view t ∷ []) ∙ ap (λ (a : Option TypeTree). with_args (name_of (view f)) (one_type a)) (sym arg) ∙ sym (index_cover e s f i is)

pub no_index : (e : ExprTree) (s : Spot) (f i i' : ExprTree) (o : Option TypeExpr) → e ≡ ev.Index s f i → i' ≡ i → option_map type_view o ≡ as_type (view i') → o ≡ None → None ≡ as_type (view e)
no_index e s f i i' o is i_is at none_at =
    let arg : as_type (view i) ≡ None = ap (λ (i : ExprTree). as_type (view i)) (sym i_is) ∙ sym at ∙ ap (λ (o : Option TypeExpr). option_map type_view o) none_at in
    sym (index_cover e s f i is ∙ ap (λ (a : Option TypeTree). with_args (name_of (view f)) (one_type a)) arg ∙ with_none (name_of (view f)))

pub instance_type : (e : ExprTree) (s : Spot) (f f' : ExprTree) (us us' : List TypeExpr) (r : Option TypeTree) → e ≡ ev.Instance s f us → f' ≡ f → us' ≡ us → r ≡ named_by (name_of (view f')) (Some (map type_view us')) → r ≡ as_type (view e)
instance_type e s f f' us us' r is f_is us_is at = at ∙ ap (λ (f : ExprTree). named_by (name_of (view f)) (Some (map type_view us'))) f_is ∙ ap (λ (us : List TypeExpr). named_by (name_of (view f)) (Some (map type_view us))) us_is
    ∙ by_with (name_of (view f)) (map type_view us) ∙ sym (instance_cover e s f us is)

-- what the tree within is a type of
within : (a a' : ExprTree) (o o' : Option TypeExpr) → a' ≡ a → option_map type_view o ≡ as_type (view a') → o ≡ o' → as_type (view a) ≡ option_map type_view o'
within a a' o o' a_is at is = ap (λ (a : ExprTree). as_type (view a)) (sym a_is) ∙ sym at ∙ ap (λ (o : Option TypeExpr). option_map type_view o) is

pub paren_type : (e : ExprTree) (s : Spot) (a a' : ExprTree) (o : Option TypeExpr) (t t' : TypeExpr) (r : TypeTree) → e ≡ ev.Paren s a → a' ≡ a → option_map type_view o ≡ as_type (view a') → o ≡ Some t → t' ≡ t → r ≡ parenthesized s (type_view t') → Some r ≡ as_type (view e)
paren_type e s a a' o t t' r is a_is at some t_is made =
    ap Some (made ∙ ap (λ (t : TypeExpr). parenthesized s (type_view t)) t_is) ∙ sym (ap (enclosed s) (within a a' o (Some t) a_is at some)) ∙ sym (paren_cover e s a is)

pub no_paren : (e : ExprTree) (s : Spot) (a a' : ExprTree) (o : Option TypeExpr) → e ≡ ev.Paren s a → a' ≡ a → option_map type_view o ≡ as_type (view a') → o ≡ None → None ≡ as_type (view e)
no_paren e s a a' o is a_is at none_at = sym (paren_cover e s a is ∙ ap (enclosed s) (within a a' o None a_is at none_at))

pub pointer_type : (e : ExprTree) (s : Spot) (p : PrefixOp) (a a' : ExprTree) (o : Option TypeExpr) (t t' : TypeExpr) (r : TypeTree) → e ≡ ev.Unary s p a → p ≡ Deref → a' ≡ a → option_map type_view o ≡ as_type (view a') → o ≡ Some t → t' ≡ t → r ≡ pointer s (type_view t') → Some r ≡ as_type (view e)
pointer_type e s p a a' o t t' r is deref a_is at some t_is made =
    ap Some (made ∙ ap (λ (t : TypeExpr). pointer s (type_view t)) t_is) ∙ sym (ap (pointed Deref s) (within a a' o (Some t) a_is at some)) ∙ ap (λ (p : PrefixOp). pointed p s (as_type (view a))) (sym deref) ∙ sym (unary_cover e s p a is)

pub no_pointed : (e : ExprTree) (s : Spot) (p : PrefixOp) (a a' : ExprTree) (o : Option TypeExpr) → e ≡ ev.Unary s p a → p ≡ Deref → a' ≡ a → option_map type_view o ≡ as_type (view a') → o ≡ None → None ≡ as_type (view e)
no_pointed e s p a a' o is deref a_is at none_at = sym (unary_cover e s p a is ∙ ap (λ (p : PrefixOp). pointed p s (as_type (view a))) deref ∙ ap (pointed Deref s) (within a a' o None a_is at none_at))
