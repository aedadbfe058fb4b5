-- Types whose text is an expression's too, by what the code matches.
use Rattle.std.proofs.Common.{◌≡◌, ℕ, ◌+◌, ◌<◌, ◌≤◌, Bool, true, false, ◌&&◌, List, [], ◌∷◌, map, length, get_or, drop, Option, refl, ap, sym, subst, ◌∙◌, arith}
use Rattle.std.proofs.lemmas.List.{at_drop_more}
use Rattle.ui_base.specs.declared.value.Spot.{Spot}
use Rattle.ui_tree.specs.declared.part.Placed.{Placed}
use Rattle.ui_tree.specs.declared.part.Group.{Group}
use Rattle.ui_tree.specs.declared.expr.TypeExpr.{TypeExpr, fold-roll-TypeExpr, roll-TypeExpr, out-TypeExpr, roll-out-TypeExpr}
use Rattle.ui_tree.specs.declared.expr.TypeExpr.TheVariants as tv
use Rattle.ui_tree.specs.declared.expr.ExprTree.{ExprTree}
use Rattle.ui_tree.specs.declared.expr.ExprTree.TheOpen.{TypeExpr-F}
use Rattle.ui_tree.specs.Views.{seen_Named, seen_Parenthesized, seen_Pointer, seen_Array, seen_Union}
use Rattle.ui_tree.specs.Tree.{TypeTree, union, Tree}
use Rattle.ui_tree.specs.View.{seen, type_seen, layer, type_layer, kept, type_view, types, names}
use Rattle.ui_tree.specs.StmtView.{groups_view}
use Rattle.ui_grammar.specs.Both.{one_name, is_expression, continues, all_expressions, bound_continues, is_length}
use Rattle.ui_pdecl.specs.Parts.{continue_of}

every_type : (P : TypeExpr → Type 0) → ((d : TypeExpr-F ExprTree TypeExpr) → P (roll-TypeExpr d)) → (t : TypeExpr) → P t
every_type P h t = subst P (roll-out-TypeExpr t) (h (out-TypeExpr t))

-- ---- variants

abbrev pub NotNamed : TypeExpr → Type 0
NotNamed e = (n : Placed) (m : Option Placed) (vs : Option (List TypeExpr)) → e ≡ tv.Named n m vs → ⊥

abbrev pub NotParenthesized : TypeExpr → Type 0
NotParenthesized e = (s : Spot) (t : TypeExpr) → e ≡ tv.Parenthesized s t → ⊥

abbrev pub NotPointer : TypeExpr → Type 0
NotPointer e = (s : Spot) (t : TypeExpr) → e ≡ tv.Pointer s t → ⊥

abbrev pub NotArray : TypeExpr → Type 0
NotArray e = (s : Spot) (n : ExprTree) (t : TypeExpr) → e ≡ tv.Array s n t → ⊥

abbrev pub NotUnion : TypeExpr → Type 0
NotUnion e = (s : Spot) (ts : List TypeExpr) → e ≡ tv.Union s ts → ⊥

module _ (f : TypeTree → Bool) (e t : TypeExpr) (is : e ≡ t) where
  at : (u : TypeTree) → type_view t ≡ u → f (type_view e) ≡ f u
  at u seen = ap (λ (e : TypeExpr). f (type_view e)) is ∙ ap f seen

-- ---- expressions

pub named_expression : (e : TypeExpr) (n : Placed) (m : Option Placed) (vs : Option (List TypeExpr)) → e ≡ tv.Named n m vs → true ≡ is_expression (type_view e)
named_expression e n m vs is = sym (at is_expression e (tv.Named n m vs) is _ (seen_Named kept n m vs))

-- the part, as it was got
module _ (e t x : TypeExpr) (s : Spot) (b : Bool) (same : x ≡ t) where
  pub parenthesized_expression : e ≡ tv.Parenthesized s t → b ≡ is_expression (type_view x) → b ≡ is_expression (type_view e)
  parenthesized_expression is h = h ∙ ap (λ (v : TypeExpr). is_expression (type_view v)) same ∙ sym (at is_expression e (tv.Parenthesized s t) is _ (seen_Parenthesized kept s t))

  pub pointer_expression : e ≡ tv.Pointer s t → b ≡ is_expression (type_view x) → b ≡ is_expression (type_view e)
  pointer_expression is h = h ∙ ap (λ (v : TypeExpr). is_expression (type_view v)) same ∙ sym (at is_expression e (tv.Pointer s t) is _ (seen_Pointer kept s t))

  pub pointer_continues : e ≡ tv.Pointer s t → b ≡ is_expression (type_view x) → b ≡ continues (type_view e)
  pointer_continues is h = h ∙ ap (λ (v : TypeExpr). is_expression (type_view v)) same ∙ sym (at continues e (tv.Pointer s t) is _ (seen_Pointer kept s t))

  pub array_continues : (n : ExprTree) → e ≡ tv.Array s n t → b ≡ continues (type_view x) → b ≡ continues (type_view e)
  array_continues n is h = h ∙ ap (λ (v : TypeExpr). continues (type_view v)) same ∙ sym (at continues e (tv.Array s n t) is _ (seen_Array kept s n t))

pub record NoExpression (e : TypeExpr) : Type 0 where
  pub not_named : NotNamed e
  pub not_parenthesized : NotParenthesized e
  pub not_pointer : NotPointer e

no_expression_at : (d : TypeExpr-F ExprTree TypeExpr) → NoExpression (roll-TypeExpr d) → is_expression (type_view (roll-TypeExpr d)) ≡ false
unfolding seen type_seen
no_expression_at (TypeExpr-F.Named n m vs) apart = absurd (apart.not_named n m vs (tv.rolls-Named n m vs))
no_expression_at (TypeExpr-F.Parenthesized s t) apart = absurd (apart.not_parenthesized s t (tv.rolls-Parenthesized s t))
no_expression_at (TypeExpr-F.Pointer s t) apart = absurd (apart.not_pointer s t (tv.rolls-Pointer s t))
no_expression_at d apart = ap is_expression (fold-roll-TypeExpr Tree TypeTree (layer kept) (type_layer kept) d)

pub no_expression : (e : TypeExpr) → NoExpression e → false ≡ is_expression (type_view e)
no_expression e apart = sym (every_type (λ (t : TypeExpr). NoExpression t → is_expression (type_view t) ≡ false) no_expression_at e apart)

-- ---- what goes on behind a name

pub parenthesized_continues : (e t : TypeExpr) (s : Spot) → e ≡ tv.Parenthesized s t → true ≡ continues (type_view e)
parenthesized_continues e t s is = sym (at continues e (tv.Parenthesized s t) is _ (seen_Parenthesized kept s t))

pub record NoContinuation (e : TypeExpr) : Type 0 where
  pub not_parenthesized : NotParenthesized e
  pub not_pointer : NotPointer e
  pub not_array : NotArray e

no_continuation_at : (d : TypeExpr-F ExprTree TypeExpr) → NoContinuation (roll-TypeExpr d) → continues (type_view (roll-TypeExpr d)) ≡ false
unfolding seen type_seen
no_continuation_at (TypeExpr-F.Parenthesized s t) apart = absurd (apart.not_parenthesized s t (tv.rolls-Parenthesized s t))
no_continuation_at (TypeExpr-F.Pointer s t) apart = absurd (apart.not_pointer s t (tv.rolls-Pointer s t))
no_continuation_at (TypeExpr-F.Array s n t) apart = absurd (apart.not_array s n t (tv.rolls-Array s n t))
no_continuation_at d apart = ap continues (fold-roll-TypeExpr Tree TypeTree (layer kept) (type_layer kept) d)

pub no_continuation : (e : TypeExpr) → NoContinuation e → false ≡ continues (type_view e)
no_continuation e apart = sym (every_type (λ (t : TypeExpr). NoContinuation t → continues (type_view t) ≡ false) no_continuation_at e apart)

-- ---- unions

terms_are : (s : Spot) (us : List TypeTree) → bound_continues (union s (types us)) ≡ continue_of us
terms_are s [] = refl
terms_are s (u ∷ us) = refl

pub union_continues : (e : TypeExpr) (s : Spot) (ts xs : List TypeExpr) (b : Bool) → e ≡ tv.Union s ts → xs ≡ ts → b ≡ continue_of (map type_view xs) → b ≡ bound_continues (type_view e)
union_continues e s ts xs b is same h = h ∙ ap (λ (v : List TypeExpr). continue_of (map type_view v)) same ∙ sym (at bound_continues e (tv.Union s ts) is _ (seen_Union kept s ts) ∙ terms_are s (map type_view ts))

no_union_at : (d : TypeExpr-F ExprTree TypeExpr) → NotUnion (roll-TypeExpr d) → bound_continues (type_view (roll-TypeExpr d)) ≡ false
unfolding seen type_seen
no_union_at (TypeExpr-F.Union s ts) apart = absurd (apart s ts (tv.rolls-Union s ts))
no_union_at d apart = ap bound_continues (fold-roll-TypeExpr Tree TypeTree (layer kept) (type_layer kept) d)

pub no_union : (e : TypeExpr) → NotUnion e → false ≡ bound_continues (type_view e)
no_union e apart = sym (every_type (λ (t : TypeExpr). NotUnion t → bound_continues (type_view t) ≡ false) no_union_at e apart)

-- ---- lists

abbrev pub all_from : List TypeExpr → Bool
all_from ts = all_expressions (types (map type_view ts))

pub next_term : (ts : List TypeExpr) (i : ℕ) (t : TypeExpr) → i < length ts → all_from (drop i ts) ≡ (is_expression (type_view (get_or ts i t)) && all_from (drop (i + 1) ts))
next_term ts i t lt = at_drop_more all_from ts i t lt

-- ---- several groups

no_and : (b : Bool) → false ≡ (b && false)
no_and true = refl
no_and false = refl

pub several_groups : (gs : List (Group TypeExpr)) → 2 ≤ length gs → false ≡ is_length (groups_view gs)
several_groups [] le = absurd (omega arith)
several_groups (g ∷ []) le = absurd (omega arith)
several_groups (g ∷ h ∷ gs) le = no_and (one_name (names kept g.names))
