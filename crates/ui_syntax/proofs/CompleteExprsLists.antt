-- Lists within an expression: type arguments, arguments and the elements of a literal.
use Rattle.std.proofs.Common.{◌≡◌, ℕ, max, Bool, List, [], ◌∷◌, ◌++◌, Option, refl, sym, ap, append_assoc, arith}
use Rattle.std.proofs.lemmas.List.{append-nil}
use Rattle.ui_base.specs.declared.value.Spot.{Spot}
use Rattle.ui_tree.specs.Tree.{Tree, Trees, trees_end, tree_and}
use Rattle.ui_tree.specs.View.{trees}
use Rattle.ui_grammar.specs.Fits.{depth, trees_depth}
use Rattle.ui_syntax.specs.Types.{Listed, add}
use Rattle.ui_syntax.specs.Exprs.{of_tree, Arguments, add_argument}

-- ---- lists of trees as lists

abbrev pub tree_list : Trees → List Tree
tree_list trees_end = []
tree_list (tree_and e es) = e ∷ tree_list es

pub trees_of_list : (es : Trees) → trees (tree_list es) ≡ es
trees_of_list trees_end = refl
trees_of_list (tree_and e es) = ap (tree_and e) (trees_of_list es)

-- what was read before, and then these
abbrev pub with_trees : Listed Tree → Trees → Listed Tree
with_trees l es = record { items = l.items ++ tree_list es; depth = max l.depth (trees_depth es) }

abbrev pub with_arguments : Arguments → Trees → Bool → Arguments
with_arguments l es spread = record { items = l.items ++ tree_list es; depth = max l.depth (trees_depth es); spread = spread }

pub listed_is : {T : Type 0} (xs ys : List T) (j k : ℕ) → xs ≡ ys → j ≡ k → ◌≡◌ {A = Listed T} (record { items = xs; depth = j }) (record { items = ys; depth = k })
listed_is xs ys j k e d = rw (e, d) refl

arguments_are : (xs ys : List Tree) (j k : ℕ) (a b : Bool) → xs ≡ ys → j ≡ k → a ≡ b → ◌≡◌ {A = Arguments} (record { items = xs; depth = j; spread = a }) (record { items = ys; depth = k; spread = b })
arguments_are xs ys j k a b e d s = rw (e, d, s) refl

pub trees_none : (l : Listed Tree) → l ≡ with_trees l trees_end
trees_none l = listed_is l.items (l.items ++ []) l.depth (max l.depth 0) (sym (append-nil l.items)) (omega arith)

pub trees_more : (l : Listed Tree) (e : Tree) (es : Trees) → with_trees (add l e (depth e)) es ≡ with_trees l (tree_and e es)
trees_more l e es = listed_is _ _ _ _ (append_assoc l.items (e ∷ []) (tree_list es)) (omega arith)

pub arguments_none : (l : Arguments) (spread : Bool) → l.spread ≡ spread → l ≡ with_arguments l trees_end spread
arguments_none l spread e = arguments_are l.items (l.items ++ []) l.depth (max l.depth 0) l.spread spread (sym (append-nil l.items)) (omega arith) e

pub arguments_more : (l : Arguments) (e : Tree) (x : Spot) (dots : Option Spot) (es : Trees) (spread : Bool) → with_arguments (add_argument l (of_tree e x (depth e)) dots) es spread ≡ with_arguments l (tree_and e es) spread
arguments_more l e x dots es spread = arguments_are _ _ _ _ spread spread (append_assoc l.items (e ∷ []) (tree_list es)) (omega arith) refl
