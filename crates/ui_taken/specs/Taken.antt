-- The first form of files that isn't taken, by its first token: the files in their order, each
-- from left to right. A form that isn't taken isn't looked into. This project's own; the forms are
-- those of the Go specification, "Expressions", "Types", "Declarations and scope".
use Rattle.std.specs.Prelude.{ℕ, ◌+◌, List, [], ◌∷◌, Option, Some, None, option_map}
use Rattle.ui_base.specs.declared.value.Spot.{Spot}
use Rattle.ui_tree.specs.declared.part.Placed.{Placed}
use Rattle.ui_tree.specs.declared.part.Specs.{Specs}
use Rattle.ui_tree.specs.declared.part.Specs.TheVariants.{One, Grouped}
use Rattle.ui_tree.specs.Tree as tree
use Rattle.ui_tree.specs.Tree.{TypeTree, Types, Groups, MaybeType, Tree, Trees}
use Rattle.ui_tree.specs.Stmt as stmt
use Rattle.ui_tree.specs.Stmt.{MaybeTrees, ValueGroup, Common, TypeGroup, MaybeGroups, Braces, Decl}
use Rattle.ui_tree.specs.Stmt.{File}
use Rattle.ui_tree.specs.Spots.{tree_spot, type_spot}
use Rattle.ui_taken.specs.declared.taken.Taken.{Taken}
use Rattle.ui_taken.specs.declared.taken.Taken.TheVariants.{Constants, Declarations}
use Rattle.ui_taken.specs.declared.taken.Untaken.{Untaken}
use Rattle.ui_taken.specs.Firsts.{first_of, first_in}

-- ---- expressions

-- `x.f` is taken where x is a name
abbrev pub selected_form : Spot → Tree → Option Spot
selected_form s (tree.name p) = None
selected_form s _ = Some s

-- literals, names, parentheses, selectors of names, and operators
abbrev pub expr_form : Tree → Option Spot
expr_form (tree.literal s k v) = None
expr_form (tree.name p) = None
expr_form (tree.paren s e) = expr_form e
expr_form (tree.selector s e m) = selected_form s e
expr_form (tree.unary s op e) = expr_form e
expr_form (tree.binary s op l r) = first_of (expr_form l) (expr_form r)
expr_form (tree.convert s t e) = Some s
expr_form (tree.composite s t es) = Some s
expr_form (tree.elided s es) = Some s
expr_form (tree.keyed s k v) = Some s
expr_form (tree.instance s e ts) = Some s
expr_form (tree.assert s e t) = Some s
expr_form (tree.index s e i) = Some s
expr_form (tree.sliced s e l h m) = Some s
expr_form (tree.call s e es b) = Some s
expr_form (tree.type_arg t) = Some (type_spot t)

abbrev pub exprs_form : Trees → Option Spot
exprs_form tree.trees_end = None
exprs_form (tree.tree_and e es) = first_of (expr_form e) (exprs_form es)

abbrev pub values_form : MaybeTrees → Option Spot
values_form stmt.no_trees = None
values_form (stmt.given_trees es) = exprs_form es

-- ---- types

-- a name without type arguments, of this package or of another
abbrev pub name_form : TypeTree → Option Spot
name_form (tree.named p m tree.no_args) = None
name_form (tree.parenthesized s t) = name_form t
name_form t = Some (type_spot t)

-- the first element, since an interface is taken without any
abbrev pub element_form : Types → Option Spot
element_form tree.types_end = None
element_form (tree.type_and t ts) = Some (type_spot t)

abbrev mutual
  -- all but types with arguments, and interfaces with elements
  pub type_form : TypeTree → Option Spot
  type_form (tree.named p m tree.no_args) = None
  type_form (tree.named p m (tree.args ts)) = Some p.spot
  type_form (tree.parenthesized s t) = type_form t
  type_form (tree.pointer s t) = type_form t
  type_form (tree.slice s t) = type_form t
  type_form (tree.array s e t) = first_of (expr_form e) (type_form t)
  type_form (tree.counted s t) = Some s
  type_form (tree.mapping s k t) = first_of (type_form k) (type_form t)
  type_form (tree.func s ps r) = first_of (groups_form ps) (result_form r)
  type_form (tree.listed s gs) = groups_form gs
  type_form (tree.struct s fs) = groups_form fs
  type_form (tree.interface s es) = element_form es
  type_form (tree.method p gs r) = Some p.spot
  type_form (tree.union s ts) = Some s
  type_form (tree.tilde s t) = Some s

  pub groups_form : Groups → Option Spot
  groups_form tree.groups_end = None
  groups_form (tree.group_and ns t gs) = first_of (type_form t) (groups_form gs)

  pub result_form : MaybeType → Option Spot
  result_form tree.no_type = None
  result_form (tree.given_type t) = type_form t

-- ---- specifications; one alone begins at the word of its declaration, one of several at its
-- first name

abbrev pub names_spot : Spot → List Placed → Spot
names_spot s [] = s
names_spot s (n ∷ ns) = n.spot

-- the type of a constant
abbrev pub const_type : Taken → MaybeType → Option Spot
const_type taken tree.no_type = None
const_type Constants (tree.given_type t) = name_form t
const_type Declarations (tree.given_type t) = type_form t

abbrev pub const_form : Taken → ValueGroup → Option Spot
const_form taken v = first_of (const_type taken v.of) (values_form v.values)

-- the first value, since a variable is taken without any
abbrev pub no_values : MaybeTrees → Option Spot
no_values stmt.no_trees = None
no_values (stmt.given_trees tree.trees_end) = None
no_values (stmt.given_trees (tree.tree_and e es)) = Some (tree_spot e)

-- a variable has a written type and no value
abbrev pub var_with : Spot → MaybeType → MaybeTrees → Option Spot
var_with s tree.no_type vs = Some s
var_with s (tree.given_type t) vs = first_of (type_form t) (no_values vs)

abbrev pub var_form : Spot → ValueGroup → Option Spot
var_form s v = var_with s v.of v.values

-- an alias or a defined type without parameters
abbrev pub type_spec_with : Spot → Groups → TypeTree → Option Spot
type_spec_with s tree.groups_end t = type_form t
type_spec_with s (tree.group_and ns b gs) t = Some s

abbrev pub type_spec_form : Spot → TypeGroup → Option Spot
type_spec_form s t = type_spec_with s t.params t.of

abbrev pub consts_form : Taken → Specs ValueGroup → Option Spot
consts_form taken (One v) = const_form taken v
consts_form taken (Grouped vs) = first_in (const_form taken) vs

abbrev pub vars_form : Spot → Specs ValueGroup → Option Spot
vars_form s (One v) = var_form s v
vars_form s (Grouped vs) = first_in (λ v. var_form (names_spot s v.names) v) vs

abbrev pub type_specs_form : Spot → Specs TypeGroup → Option Spot
type_specs_form s (One t) = type_spec_form s t
type_specs_form s (Grouped ts) = first_in (λ t. type_spec_form t.name.spot t) ts

-- ---- declarations

-- a body is taken where it has no statement and need not return
abbrev pub body_form : MaybeType → Braces → Option Spot
body_form tree.no_type (stmt.braces s stmt.stmts_end c) = None
body_form tree.no_type (stmt.braces s (stmt.stmt_and x xs) c) = Some s
body_form (tree.given_type t) (stmt.braces s xs c) = Some s

-- a function without type parameters
abbrev pub func_form : Spot → MaybeGroups → Groups → MaybeType → Braces → Option Spot
func_form s (stmt.given_groups ts) ps r b = Some s
func_form s stmt.no_groups ps r b = first_of (groups_form ps) (first_of (result_form r) (body_form
    r b))

-- constants in groups and alone, with repetition; and, where all declarations are taken, these
abbrev pub decl_form : Taken → Decl → Option Spot
decl_form taken (stmt.common_decl (stmt.constants s vs)) = consts_form taken vs
decl_form Constants (stmt.common_decl (stmt.variables s vs)) = Some s
decl_form Constants (stmt.type_decl s ts) = Some s
decl_form Constants (stmt.func_decl s n ts ps r b) = Some s
decl_form Declarations (stmt.common_decl (stmt.variables s vs)) = vars_form s vs
decl_form Declarations (stmt.type_decl s ts) = type_specs_form s ts
decl_form Declarations (stmt.func_decl s n ts ps r b) = func_form s ts ps r b
decl_form taken (stmt.method_decl s x n ps r b) = Some s

-- ---- files; each import is taken, with any name

abbrev pub file_form : Taken → File → Option Spot
file_form taken f = first_in (decl_form taken) f.decls

abbrev pub untaken_at : ℕ → Spot → Untaken
untaken_at k s = record { file = k; spot = s }

-- the files are counted from k
abbrev pub untaken_from : Taken → ℕ → List File → Option Untaken
untaken_from taken k [] = None
untaken_from taken k (f ∷ fs) = first_of (option_map (untaken_at k) (file_form taken f))
    (untaken_from taken (k + 1) fs)

unfoldable pub first_untaken : Taken → List File → Option Untaken
first_untaken taken files = untaken_from taken 0 files
