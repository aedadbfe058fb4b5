-- Two lists, compared element by element.
use Rattle.std.proofs.Common.{refl, ◌≡◌, ℕ, ◌+◌, ◌<◌, ◌≤◌, List, [], ◌∷◌, ◌++◌, map, take, length, get_or, ap, sym, ◌∙◌, subst, arith}
use Rattle.std.proofs.lemmas.List.{map_more, length-map, get_or-map, take_all}
use Rattle.ui_tree.specs.declared.part.Placed.{Placed}
use Rattle.ui_tree.specs.declared.part.Group.{Group}
use Rattle.ui_tree.specs.declared.expr.TypeExpr.{TypeExpr}
use Rattle.ui_tree.specs.Tree.{TypeTree, Types, types_end, type_and, Groups, groups_end, group_and, Tree, Trees, trees_end, tree_and}
use Rattle.ui_tree.specs.View.{trees, types, names, groups, group_with, forgotten, type_shape}

-- the images agree as far as i, and at i
pub images_step : {A B : Type 0} (f : A → B) (xs ys : List A) (i : ℕ) (x y : A) → i < length xs → length xs ≡ length ys → x ≡ get_or xs i x → y ≡ get_or ys i y → f x ≡ f y → map f (take i xs) ≡ map f (take i ys) → map f (take (i + 1) xs) ≡ map f (take (i + 1) ys)
images_step f xs ys i x y within same_len x_at y_at e before =
    map_more f xs i x within ∙ ap (λ l. l ++ f (get_or xs i x) ∷ []) before ∙ ap (λ z. map f (take i ys) ++ z ∷ []) (ap f (sym x_at) ∙ e ∙ ap f y_at) ∙ sym (map_more f ys i y (subst (λ n. i < n) same_len within))

pub images_length : {A B : Type 0} (f : A → B) (xs ys : List A) → map f xs ≡ map f ys → length xs ≡ length ys
images_length f xs ys e = sym (length-map xs f) ∙ ap length e ∙ length-map ys f

pub images_at : {A B : Type 0} (f : A → B) (xs ys : List A) (i : ℕ) (x y : A) → i < length xs → length xs ≡ length ys → x ≡ get_or xs i x → y ≡ get_or ys i y → map f xs ≡ map f ys → f x ≡ f y
images_at f xs ys i x y within same_len x_at y_at e =
    ap f x_at ∙ sym (get_or-map f xs i x (f y) within) ∙ ap (λ l. get_or l i (f y)) e ∙ get_or-map f ys i y (f y) (subst (λ n. i < n) same_len within) ∙ ap f (sym y_at)

-- the images of all agree where those of the first i do, and no more are there
pub images_all : {A B : Type 0} (f : A → B) (xs ys : List A) (i : ℕ) → length xs ≤ i → length xs ≡ length ys → map f (take i xs) ≡ map f (take i ys) → map f xs ≡ map f ys
images_all f xs ys i end same_len e =
    ap (map f) (sym (take_all i xs end)) ∙ e ∙ ap (map f) (take_all i ys (subst (λ n. n ≤ i) same_len end))

-- ---- lists of trees are equal where the trees are

list_of_trees : Trees → List Tree
list_of_trees trees_end = []
list_of_trees (tree_and e es) = e ∷ list_of_trees es

trees_back : (es : List Tree) → list_of_trees (trees es) ≡ es
unfolding list_of_trees
trees_back [] = refl
trees_back (e ∷ es) = ap (λ l. e ∷ l) (trees_back es)

pub trees_same : (xs ys : List Tree) → trees xs ≡ trees ys → xs ≡ ys
trees_same xs ys e = sym (trees_back xs) ∙ ap list_of_trees e ∙ trees_back ys

list_of_types : Types → List TypeTree
list_of_types types_end = []
list_of_types (type_and t ts) = t ∷ list_of_types ts

types_back : (ts : List TypeTree) → list_of_types (types ts) ≡ ts
unfolding list_of_types
types_back [] = refl
types_back (t ∷ ts) = ap (λ l. t ∷ l) (types_back ts)

pub types_same : (xs ys : List TypeTree) → types xs ≡ types ys → xs ≡ ys
types_same xs ys e = sym (types_back xs) ∙ ap list_of_types e ∙ types_back ys

-- a group as it is seen: its names and its type
abbrev pub group_shape : Group TypeExpr → List Placed × TypeTree
group_shape g = (names forgotten g.names, type_shape g.of)

abbrev pub grouped : List (List Placed × TypeTree) → Groups
grouped [] = groups_end
grouped (p ∷ ps) = group_and p.0 p.1 (grouped ps)

list_of_groups : Groups → List (List Placed × TypeTree)
list_of_groups groups_end = []
list_of_groups (group_and ns t gs) = (ns, t) ∷ list_of_groups gs

groups_back : (gs : List (Group TypeExpr)) → list_of_groups (groups forgotten (map (group_with type_shape) gs)) ≡ map group_shape gs
unfolding list_of_groups
groups_back [] = refl
groups_back (g ∷ gs) = ap (λ l. group_shape g ∷ l) (groups_back gs)

pub groups_same : (xs ys : List (Group TypeExpr)) → groups forgotten (map (group_with type_shape) xs) ≡ groups forgotten (map (group_with type_shape) ys) → map group_shape xs ≡ map group_shape ys
groups_same xs ys e = sym (groups_back xs) ∙ ap list_of_groups e ∙ groups_back ys

groups_seen : (gs : List (Group TypeExpr)) → groups forgotten (map (group_with type_shape) gs) ≡ grouped (map group_shape gs)
groups_seen [] = refl
groups_seen (g ∷ gs) = ap (group_and (names forgotten g.names) (type_shape g.of)) (groups_seen gs)

pub groups_same_back : (xs ys : List (Group TypeExpr)) → map group_shape xs ≡ map group_shape ys → groups forgotten (map (group_with type_shape) xs) ≡ groups forgotten (map (group_with type_shape) ys)
groups_same_back xs ys e = groups_seen xs ∙ ap grouped e ∙ sym (groups_seen ys)

abbrev pub names_in : List Placed × TypeTree → List Placed
names_in p = p.0

abbrev pub type_in : List Placed × TypeTree → TypeTree
type_in p = p.1
