-- Names that stand where an import's name may stand: before the dot of a type's name, and in
-- expressions. Go specification, "Qualified identifiers". What isn't taken yet isn't looked into:
-- type arguments, elements of interfaces, bodies, and all expressions but literals, names,
-- parentheses, selectors and operators.
use Rattle.std.specs.Prelude.{List, [], ◌∷◌, ◌++◌, Option, Some, None}
use Rattle.std.specs.List.{flat_map, fold}
use Rattle.ui_tree.specs.declared.part.Placed.{Placed}
use Rattle.ui_tree.specs.declared.part.Specs.{Specs}
use Rattle.ui_tree.specs.declared.part.Specs.TheVariants.{One, Grouped}
use Rattle.ui_tree.specs.Tree as tree
use Rattle.ui_tree.specs.Tree.{TypeTree, Groups, MaybeType, Tree, Trees}
use Rattle.ui_tree.specs.Stmt as stmt
use Rattle.ui_tree.specs.Stmt.{MaybeTrees, ValueGroup, TypeGroup, Decl, File}
use Rattle.ui_collect.specs.Names.{Names, with_name}

abbrev pub in_value : Tree → Names
in_value (tree.literal s k v) = []
in_value (tree.name p) = p.text ∷ []
in_value (tree.paren s e) = in_value e
in_value (tree.selector s e m) = in_value e
in_value (tree.unary s op e) = in_value e
in_value (tree.binary s op l r) = in_value l ++ in_value r
in_value (tree.convert s t e) = []
in_value (tree.composite s t es) = []
in_value (tree.elided s es) = []
in_value (tree.keyed s k v) = []
in_value (tree.instance s e ts) = []
in_value (tree.assert s e t) = []
in_value (tree.index s e i) = []
in_value (tree.sliced s e l h m) = []
in_value (tree.call s e es b) = []
in_value (tree.type_arg t) = []

abbrev pub in_values : Trees → Names
in_values tree.trees_end = []
in_values (tree.tree_and e es) = in_value e ++ in_values es

abbrev mutual
  pub in_type : TypeTree → Names
  in_type (tree.named p None given) = []
  in_type (tree.named p (Some m) given) = p.text ∷ []
  in_type (tree.parenthesized s t) = in_type t
  in_type (tree.pointer s t) = in_type t
  in_type (tree.slice s t) = in_type t
  in_type (tree.array s e t) = in_value e ++ in_type t
  in_type (tree.counted s t) = in_type t
  in_type (tree.mapping s k t) = in_type k ++ in_type t
  in_type (tree.func s ps r) = in_groups ps ++ in_maybe r
  in_type (tree.listed s gs) = in_groups gs
  in_type (tree.struct s fs) = in_groups fs
  in_type (tree.interface s es) = []
  in_type (tree.method p gs r) = []
  in_type (tree.union s ts) = []
  in_type (tree.tilde s t) = []

  pub in_groups : Groups → Names
  in_groups tree.groups_end = []
  in_groups (tree.group_and ns t gs) = in_type t ++ in_groups gs

  pub in_maybe : MaybeType → Names
  in_maybe tree.no_type = []
  in_maybe (tree.given_type t) = in_type t

-- ---- declarations

abbrev pub in_maybe_values : MaybeTrees → Names
in_maybe_values stmt.no_trees = []
in_maybe_values (stmt.given_trees es) = in_values es

-- constants or variables
abbrev pub in_value_group : ValueGroup → Names
in_value_group v = in_maybe v.of ++ in_maybe_values v.values

abbrev pub in_type_group : TypeGroup → Names
in_type_group t = in_type t.of

-- one specification, or several in parentheses
abbrev pub in_specs : {A : Type 0} → (A → Names) → Specs A → Names
in_specs names (One s) = names s
in_specs names (Grouped ss) = flat_map names ss

abbrev pub in_decl : Decl → Names
in_decl (stmt.common_decl (stmt.constants s vs)) = in_specs in_value_group vs
in_decl (stmt.common_decl (stmt.variables s vs)) = in_specs in_value_group vs
in_decl (stmt.type_decl s ts) = in_specs in_type_group ts
in_decl (stmt.method_decl s x n ps r body) = []
in_decl (stmt.func_decl s n ts ps r body) = in_groups ps ++ in_maybe r

unfoldable pub in_file : File → Names
in_file f = flat_map in_decl f.decls

abbrev pub each_once : Names → Names
each_once names = fold with_name [] names
