-- What names stand for as types. Go specification, "Types", "Predeclared identifiers", "Qualified
-- identifiers".
use Rattle.std.specs.Prelude.{ℕ, Bool, true, false, List, [], ◌∷◌, Option, Some, None, Ok, codes}
use Rattle.std.specs.Prelude.{bytes_eq, if◌then◌else◌}
use Rattle.std.specs.Map.{lookup}
use Rattle.ui_base.specs.Names.{is_exported}
use Rattle.ui_base.specs.declared.name.Name.{Name}
use Rattle.ui_base.specs.declared.value.Spot.{Spot}
use Rattle.ui_base.specs.declared.kind.Basic.TheVariants as kind
use Rattle.ui_base.specs.declared.fault.FaultKind.TheVariants as fault
use Rattle.ui_types.specs.Ty.{Ty, basic, named, iface, no_types}
use Rattle.ui_types.specs.Decls.{FaceTree, DeclTree, alias, constant, variable, function, defined}
use Rattle.ui_types.specs.Decls.{TParamTree, find_decl, error_name}
use Rattle.ui_tree.specs.declared.part.Placed.{Placed}
use Rattle.ui_scopes.specs.Scopes as scopes
use Rattle.ui_scopes.specs.Scopes.{World, MeaningTree, ScopeTree}
use Rattle.ui_scopes.specs.Steps.{Checks, refuse}
use Rattle.ui_rules.specs.Kinds.{not_taken}
use Rattle.ui_rules.specs.Names.{refuse_name, is_outside}

-- ---- declared names

-- a defined type by its name, where it has no parameters
abbrev pub defined_type : List ℕ → Spot → Name → List TParamTree → Checks Ty
defined_type file at n [] = Ok (named n no_types)
defined_type file at n (p ∷ ps) = refuse file at fault.NeedsArgs

abbrev pub face_type : List ℕ → Spot → Name → FaceTree → Checks Ty
face_type file at n (alias t) = Ok t
face_type file at n (constant t v) = refuse file at fault.NotType
face_type file at n (variable t) = refuse file at fault.NotType
face_type file at n (function ps t) = refuse file at fault.NotType
face_type file at n (defined ps t ms) = defined_type file at n ps

-- "Declarations and scope": each name must be declared
abbrev pub found_type : List ℕ → Spot → Name → Option DeclTree → Checks Ty
found_type file at n None = refuse_name file at fault.Undefined n.name
found_type file at n (Some d) = face_type file at n d.face

abbrev pub object_type : World → List ℕ → Spot → Name → Checks Ty
object_type w file at n = found_type file at n (find_decl w.decls n)

-- ---- predeclared names

-- "Boolean types", "Numeric types", "String types"
abbrev pub basic_types : List (List ℕ × Ty)
basic_types =
    (codes "bool", basic kind.Bool) ∷ (codes "string", basic kind.String)
    ∷ (codes "int", basic kind.Int) ∷ (codes "int8", basic kind.Int8)
    ∷ (codes "int16", basic kind.Int16) ∷ (codes "int32", basic kind.Int32)
    ∷ (codes "int64", basic kind.Int64) ∷ (codes "uint", basic kind.Uint)
    ∷ (codes "uint8", basic kind.Uint8) ∷ (codes "uint16", basic kind.Uint16)
    ∷ (codes "uint32", basic kind.Uint32) ∷ (codes "uint64", basic kind.Uint64)
    ∷ (codes "byte", basic kind.Uint8) ∷ (codes "rune", basic kind.Int32) ∷ []

-- "Interface types", "Errors": `any`, `comparable` and `error`
abbrev pub interface_types : List (List ℕ × Ty)
interface_types =
    (codes "any", iface [] no_types false no_types)
    ∷ (codes "comparable", iface [] no_types true no_types)
    ∷ (codes "error", named error_name no_types) ∷ []

abbrev pub predeclared_else : List ℕ → Spot → List ℕ → Option Ty → Checks Ty
predeclared_else file at n (Some t) = Ok t
predeclared_else file at n None =
    if is_outside n then refuse_name file at fault.OutsideName n else refuse file at fault.NotType

abbrev pub predeclared_found : List ℕ → Spot → List ℕ → Option Ty → Checks Ty
predeclared_found file at n (Some t) = Ok t
predeclared_found file at n None = predeclared_else file at n (lookup (bytes_eq n) interface_types)

unfoldable pub predeclared_type : List ℕ → Spot → List ℕ → Checks Ty
predeclared_type file at n = predeclared_found file at n (lookup (bytes_eq n) basic_types)

-- ---- names

abbrev pub meaning_type : World → List ℕ → Placed → Option MeaningTree → Checks Ty
meaning_type w file p None = refuse_name file p.spot fault.Undefined p.text
meaning_type w file p (Some (scopes.object n)) = object_type w file p.spot n
meaning_type w file p (Some (scopes.package_at path)) = refuse file p.spot fault.NotType
meaning_type w file p (Some (scopes.predeclared n)) = predeclared_type file p.spot n
meaning_type w file p (Some (scopes.param k)) = refuse file p.spot not_taken
meaning_type w file p (Some (scopes.local k t)) = refuse file p.spot fault.NotType
meaning_type w file p (Some (scopes.constant t v)) = refuse file p.spot fault.NotType

-- "Blank identifier": `_` is no name that can be used
abbrev pub name_type : World → ScopeTree → Placed → Checks Ty
name_type w s p =
    if bytes_eq p.text (codes "_") then refuse_name s.file p.spot fault.Undefined p.text
    else meaning_type w s.file p (s.meaning p.text)

-- "Qualified identifiers": the name must be exported and declared in the package
abbrev pub package_type : World → List ℕ → Spot → List ℕ → List ℕ → Checks Ty
package_type w file at path name =
    if is_exported name then object_type w file at (record { path = path; name = name })
    else refuse_name file at fault.NotExported name

abbrev pub qualified_meaning : World → List ℕ → Placed → List ℕ → Option MeaningTree → Checks Ty
qualified_meaning w file p name None = refuse_name file p.spot fault.Undefined p.text
qualified_meaning w file p name (Some (scopes.object n)) = refuse file p.spot fault.NotType
qualified_meaning w file p name (Some (scopes.package_at path)) = package_type w file p.spot path
    name
qualified_meaning w file p name (Some (scopes.predeclared n)) = refuse file p.spot fault.NotType
qualified_meaning w file p name (Some (scopes.param k)) = refuse file p.spot fault.NotType
qualified_meaning w file p name (Some (scopes.local k t)) = refuse file p.spot fault.NotType
qualified_meaning w file p name (Some (scopes.constant t v)) = refuse file p.spot fault.NotType

abbrev pub qualified_type : World → ScopeTree → Placed → List ℕ → Checks Ty
qualified_type w s p name =
    if bytes_eq p.text (codes "_") then refuse_name s.file p.spot fault.Undefined p.text
    else qualified_meaning w s.file p name (s.meaning p.text)

-- `T`, or `Q.T`
abbrev pub named_type : World → ScopeTree → Placed → Option Placed → Checks Ty
named_type w s p None = name_type w s p
named_type w s p (Some m) = qualified_type w s p m.text
