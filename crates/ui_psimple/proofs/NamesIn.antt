-- Expressions that are names.
use Rattle.std.proofs.Common.{◌≡◌, List, [], ◌∷◌, ◌++◌, map, Option, Some, None, refl, ap, sym, subst, ◌∙◌, append_assoc}
use Rattle.ui_tree.specs.declared.part.Placed.{Placed}
use Rattle.ui_tree.specs.declared.expr.ExprTree.{ExprTree, fold-roll-ExprTree, roll-ExprTree, out-ExprTree, roll-out-ExprTree}
use Rattle.ui_tree.specs.declared.expr.ExprTree.TheVariants as ev
use Rattle.ui_tree.specs.declared.expr.TypeExpr.{TypeExpr}
use Rattle.ui_tree.specs.declared.expr.ExprTree.TheOpen.{ExprTree-F}
use Rattle.ui_tree.specs.Views.{seen_Name}
use Rattle.ui_tree.specs.Tree.{TypeTree, Tree}
use Rattle.ui_tree.specs.View.{seen, type_seen, layer, type_layer, kept, view}
use Rattle.ui_stmts.specs.Simple.{name_in, name_and, names_in}

every : (P : ExprTree → Type 0) → ((d : ExprTree-F ExprTree TypeExpr) → P (roll-ExprTree d)) → (e : ExprTree) → P e
every P h e = subst P (roll-out-ExprTree e) (h (out-ExprTree e))

abbrev pub NotName : ExprTree → Type 0
NotName e = (n : Placed) → e ≡ ev.Name n → ⊥

no_name_at : (d : ExprTree-F ExprTree TypeExpr) → NotName (roll-ExprTree d) → name_in (view (roll-ExprTree d)) ≡ None
unfolding seen type_seen
no_name_at (ExprTree-F.Name n) apart = absurd (apart n (ev.rolls-Name n))
no_name_at d apart = ap name_in (fold-roll-ExprTree Tree TypeTree (layer kept) (type_layer kept) d)

pub no_name : (e : ExprTree) → NotName e → name_in (view e) ≡ None
no_name e = every (λ (e : ExprTree). NotName e → name_in (view e) ≡ None) no_name_at e

pub name_is : (e : ExprTree) (n : Placed) → e ≡ ev.Name n → name_in (view e) ≡ Some n
name_is e n is = ap (λ (e : ExprTree). name_in (view e)) is ∙ ap name_in (seen_Name kept n)

-- ---- names before the others

abbrev pub names_and : List Placed → Option (List Placed) → Option (List Placed)
names_and ns None = None
names_and ns (Some ms) = Some (ns ++ ms)

shifted : (ns : List Placed) (n : Placed) (o : Option (List Placed)) → names_and (ns ++ (n ∷ [])) o ≡ names_and ns (name_and (Some n) o)
shifted ns n None = refl
shifted ns n (Some ms) = ap Some (append_assoc ns (n ∷ []) ms)

-- a name more
pub one_more : (ns : List Placed) (n : Placed) (e : ExprTree) (es : List ExprTree) → name_in (view e) ≡ Some n → names_and (ns ++ (n ∷ [])) (names_in (map view es)) ≡ names_and ns (names_in (map view (e ∷ es)))
one_more ns n e es is = shifted ns n (names_in (map view es)) ∙ ap (λ (x : Option Placed). names_and ns (name_and x (names_in (map view es)))) (sym is)

-- none, where one is no name
pub no_more : (ns : List Placed) (e : ExprTree) (es : List ExprTree) → name_in (view e) ≡ None → names_and ns (names_in (map view (e ∷ es))) ≡ None
no_more ns e es is = ap (λ (x : Option Placed). names_and ns (name_and x (names_in (map view es)))) is
