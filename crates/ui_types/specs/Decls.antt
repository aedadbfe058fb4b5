-- What an environment declares: two finite maps, from paths to package names and from names to declarations with trees in place of ids.
-- This project's own.
use Rattle.std.specs.Prelude.{◌≡◌, ℕ, Bool, false, ◌&&◌, ◌==◌, if◌then◌else◌, List, [], ◌∷◌, length, map, codes, bytes_eq, Option, Some, None, IfSome, option_map, All}
use Rattle.ui_base.specs.declared.name.Name.{Name}
use Rattle.ui_base.specs.declared.value.Pos.{Pos}
use Rattle.ui_base.specs.declared.value.Value.{Value}
use Rattle.ui_base.specs.declared.kind.Basic.TheVariants.{String}
use Rattle.ui_types.specs.declared.decl.TParam.{TParam}
use Rattle.ui_types.specs.declared.decl.MethodFace.{MethodFace}
use Rattle.ui_types.specs.declared.decl.Face.{Face}
use Rattle.ui_types.specs.declared.decl.Face.TheVariants.{Alias, Const, Var, Func, Defined}
use Rattle.ui_types.specs.declared.decl.Decl.{Decl}
use Rattle.ui_types.specs.Ty.{Ty, basic, named, pointer, slice, array, map_of, func, struct, iface, union, param, no_types, types, list_of, subst}
use Rattle.ui_types.specs.Table.{Table, IsId, tree}

-- a type parameter with its constraint
pub record TParamTree : Type 0 where
  pub name : List ℕ
  pub bound : Ty

-- a method of a defined type
pub record MethodTree : Type 0 where
  pub name : Name
  pub pos : Pos
  pub pointer : Bool
  pub sig : Ty

-- What a name is declared as. Go specification, "Declarations and scope".
pub data FaceTree : Type 0 where
  alias : Ty → FaceTree
  constant : Ty → Value → FaceTree
  variable : Ty → FaceTree
  function : List TParamTree → Ty → FaceTree
  -- the type parameters, the underlying type and the methods of a defined type
  defined : List TParamTree → Ty → List MethodTree → FaceTree

pub record DeclTree : Type 0 where
  pub pos : Pos
  pub face : FaceTree

abbrev pub Packages : Type 0
Packages = List (List ℕ × List ℕ)

abbrev pub DeclTrees : Type 0
DeclTrees = List (Name × DeclTree)

-- the package name of the path, the first that there is
abbrev pub find_package : Packages → List ℕ → Option (List ℕ)
find_package [] path = None
find_package (p ∷ ps) path = if bytes_eq p.0 path then Some p.1 else find_package ps path

abbrev pub name_eq : Name → Name → Bool
name_eq a b = bytes_eq a.path b.path && bytes_eq a.name b.name

-- the declaration of the name, the first that there is
abbrev pub find_decl : DeclTrees → Name → Option DeclTree
find_decl [] n = None
find_decl (d ∷ ds) n = if name_eq d.0 n then Some d.1 else find_decl ds n

-- ---- declarations with ids
abbrev pub IsFace : Table → Face → Type 0
IsFace table (Alias t) = IsId table t
IsFace table (Const t v) = IsId table t
IsFace table (Var t) = IsId table t
IsFace table (Func ps sig) = All (λ p. IsId table p.bound) ps × IsId table sig
IsFace table (Defined ps t ms) = All (λ p. IsId table p.bound) ps × IsId table t × All (λ m. IsId table m.sig) ms

-- the ids of a declaration are of the table
abbrev pub IsDecl : Table → Decl → Type 0
IsDecl table d = IsFace table d.face

abbrev pub shown_params : Table → List TParam → List TParamTree
shown_params table ps = map (λ p. record { name = p.name; bound = tree table p.bound }) ps

abbrev pub shown_methods : Table → List MethodFace → List MethodTree
shown_methods table ms = map (λ m. record { name = m.name; pos = m.pos; pointer = m.pointer; sig = tree table m.sig }) ms

abbrev pub shown_face : Table → Face → FaceTree
shown_face table (Alias t) = alias (tree table t)
shown_face table (Const t v) = constant (tree table t) v
shown_face table (Var t) = variable (tree table t)
shown_face table (Func ps sig) = function (shown_params table ps) (tree table sig)
shown_face table (Defined ps t ms) = defined (shown_params table ps) (tree table t) (shown_methods table ms)

-- a declaration with the trees of its ids
abbrev pub shown_decl : Table → Decl → DeclTree
shown_decl table d = record { pos = d.pos; face = shown_face table d.face }

-- an answer is what the map says, read in the table
pub record IsAnswer (table : Table) (u : Option DeclTree) (o : Option Decl) : Type 0 where
  pub valid : IfSome o (IsDecl table)
  pub value : option_map (shown_decl table) o ≡ u

-- ---- underlying types
-- the predeclared type `error`. Go specification, "Errors".
abbrev pub error_name : Name
error_name = record { path = codes "builtin"; name = codes "error" }

-- an interface with the one method `Error() string`
abbrev pub error_type : Ty
error_type = iface ((record { path = []; name = codes "Error" }) ∷ []) (types (func no_types (types (basic String) no_types)) no_types) false no_types

abbrev pub empty_struct : Ty
empty_struct = struct [] no_types

-- The underlying type of a defined type with these arguments. Files made by hand may name what is none, or give it another
-- number of arguments: that counts as the empty struct.
abbrev pub under_face : FaceTree → List Ty → Ty
under_face (alias t) args = empty_struct
under_face (constant t v) args = empty_struct
under_face (variable t) args = empty_struct
under_face (function ps t) args = empty_struct
under_face (defined ps t ms) args = if length ps == length args then subst args t else empty_struct

abbrev pub under_decl : Option DeclTree → List Ty → Ty
under_decl None args = empty_struct
under_decl (Some d) args = under_face d.face args

abbrev pub under_name : DeclTrees → Name → List Ty → Ty
under_name ds n args = if name_eq n error_name then error_type else under_decl (find_decl ds n) args

-- The underlying type: of a declared type that of its declaration, and of every other the type itself, of a type
-- parameter too. Go specification, "Underlying types".
abbrev pub under : DeclTrees → Ty → Ty
under ds (basic b) = basic b
under ds (named n args) = under_name ds n (list_of args)
under ds (pointer t) = pointer t
under ds (slice t) = slice t
under ds (array len t) = array len t
under ds (map_of k t) = map_of k t
under ds (func ps rs) = func ps rs
under ds (struct ns ts) = struct ns ts
under ds (iface ns ts c us) = iface ns ts c us
under ds (union ms ts) = union ms ts
under ds (param k) = param k

-- ---- declarations in memory
abbrev pub shown_decls : Table → List (Name × Decl) → DeclTrees
shown_decls table ds = map (λ d. (d.0, shown_decl table d.1)) ds

abbrev pub AreDecls : Table → List (Name × Decl) → Type 0
AreDecls table ds = All (λ d. IsDecl table d.1) ds
