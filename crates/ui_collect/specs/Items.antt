-- What the declarations of a package say of their names, in the order of the sources. Go
-- specification, "Constant declarations", "Iota", "Variable declarations", "Type declarations",
-- "Function declarations". Methods, and the parameters of types and functions, aren't taken yet
-- and aren't shown.
use Rattle.std.specs.Prelude.{ℕ, suc, ◌+◌, Bool, true, false, nat_eq, List, [], ◌∷◌, ◌++◌, map}
use Rattle.std.specs.Prelude.{length}
use Rattle.std.specs.Prelude.{if◌then◌else◌}
use Rattle.std.specs.List.{flat_map}
use Rattle.ui_base.specs.declared.value.Spot.{Spot}
use Rattle.ui_tree.specs.declared.part.Placed.{Placed}
use Rattle.ui_tree.specs.declared.part.Specs.{Specs}
use Rattle.ui_tree.specs.declared.part.Specs.TheVariants.{One, Grouped}
use Rattle.ui_tree.specs.Tree as tree
use Rattle.ui_tree.specs.Tree.{TypeTree, Groups, MaybeType, Tree, Trees}
use Rattle.ui_tree.specs.Stmt as stmt
use Rattle.ui_tree.specs.Stmt.{MaybeTrees, ValueGroup, TypeGroup, Decl, File}

pub data What : Type 0 where
  -- another name of a type
  aliased : TypeTree → What
  -- a new type, declared as this
  made_as : TypeTree → What
  -- a variable, with its type where one is written
  varied : MaybeType → What
  -- a constant: `iota`, its type where one is written, and its expression
  valued : ℕ → MaybeType → Tree → What
  -- a constant of a specification whose names and expressions differ in number: `iota`, where the
  -- specification begins, its type, and all its expressions
  miscounted : ℕ → Spot → MaybeType → Trees → What
  -- a function: its parameters and results
  called : Groups → MaybeType → What

-- a declared name, and the number of its file
pub record Item : Type 0 where
  pub file : ℕ
  pub name : Placed
  pub what : What

abbrev pub item : ℕ → What → Placed → Item
item k w n = record { file = k; name = n; what = w }

-- ---- constants

abbrev pub exprs : MaybeTrees → Trees
exprs stmt.no_trees = tree.trees_end
exprs (stmt.given_trees es) = es

abbrev pub count : Trees → ℕ
count tree.trees_end = 0
count (tree.tree_and e es) = suc (count es)

-- "Constant declarations": a specification without expressions repeats the last ones, and their
-- type
abbrev pub repeated : ValueGroup → ValueGroup → MaybeTrees → ValueGroup
repeated last v stmt.no_trees = last
repeated last v (stmt.given_trees es) = v

abbrev pub first_spot : List Placed → Spot
first_spot [] = record { line = 0; col = 0 }
first_spot (n ∷ ns) = n.spot

-- each name has the expression at its place
abbrev pub valued_items : ℕ → ℕ → MaybeType → List Placed → Trees → List Item
valued_items k iota t [] es = []
valued_items k iota t (n ∷ ns) tree.trees_end = []
valued_items k iota t (n ∷ ns) (tree.tree_and e es) = item k (valued iota t e) n ∷ valued_items k
    iota t ns es

abbrev pub const_items_with : ℕ → ℕ → MaybeType → List Placed → Trees → List Item
const_items_with k iota t ns es =
    if nat_eq (length ns) (count es) then valued_items k iota t ns es
    else map (item k (miscounted iota (first_spot ns) t es)) ns

-- constants with the type and the expressions of a specification
abbrev pub const_items : ℕ → ℕ → List Placed → ValueGroup → List Item
const_items k iota ns v = const_items_with k iota v.of ns (exprs v.values)

-- "Iota": the specifications of a group are counted from 0
abbrev pub group_items : ℕ → ℕ → ValueGroup → List ValueGroup → List Item
group_items k iota last [] = []
group_items k iota last (v ∷ vs) = const_items k iota v.names (repeated last v v.values) ++
    group_items k (iota + 1) (repeated last v v.values) vs

abbrev pub no_value : ValueGroup
no_value = record { names = []; of = tree.no_type; values = stmt.no_trees }

abbrev pub consts_items : ℕ → Specs ValueGroup → List Item
consts_items k (One v) = const_items k 0 v.names v
consts_items k (Grouped vs) = group_items k 0 no_value vs

-- ---- other declarations

abbrev pub specs_items : {A : Type 0} → (A → List Item) → Specs A → List Item
specs_items items (One s) = items s
specs_items items (Grouped ss) = flat_map items ss

abbrev pub var_items : ℕ → ValueGroup → List Item
var_items k v = map (item k (varied v.of)) v.names

-- "Type declarations"
abbrev pub type_what : Bool → TypeTree → What
type_what true t = aliased t
type_what false t = made_as t

abbrev pub type_items : ℕ → TypeGroup → List Item
type_items k t = item k (type_what t.alias t.of) t.name ∷ []

abbrev pub decl_items : ℕ → Decl → List Item
decl_items k (stmt.common_decl (stmt.constants s vs)) = consts_items k vs
decl_items k (stmt.common_decl (stmt.variables s vs)) = specs_items (var_items k) vs
decl_items k (stmt.type_decl s ts) = specs_items (type_items k) ts
decl_items k (stmt.method_decl s x n ps r body) = []
decl_items k (stmt.func_decl s n ts ps r body) = item k (called ps r) n ∷ []

-- the files are counted from k
abbrev pub items_from : ℕ → List File → List Item
items_from k [] = []
items_from k (f ∷ fs) = flat_map (decl_items k) f.decls ++ items_from (k + 1) fs

unfoldable pub items_of : List File → List Item
items_of files = items_from 0 files
