-- What names stand for. Go specification, "Declarations and scope", "Qualified identifiers", "Predeclared identifiers".
use Rattle.std.specs.Prelude.{◌≡◌, ℕ, Bool, true, false, List, [], ◌∷◌, Option, Some, None, Result, Ok, Err, if◌then◌else◌, codes, bytes_eq}
use Rattle.std.specs.List.{list_any}
use Rattle.ui_base.specs.Names.{is_exported}
use Rattle.ui_base.specs.declared.name.Name.{Name}
use Rattle.ui_base.specs.declared.value.Spot.{Spot}
use Rattle.ui_base.specs.declared.value.Value.{Value}
use Rattle.ui_base.specs.declared.value.Value.TheVariants.{Truth}
use Rattle.ui_base.specs.declared.kind.Basic.TheVariants.{UntypedBool}
use Rattle.ui_base.specs.declared.fault.FaultKind.{FaultKind}
use Rattle.ui_base.specs.declared.fault.FaultKind.TheVariants as fault
use Rattle.ui_types.specs.Ty.{Ty, basic, named, pointer, slice, array, map_of, func, struct, iface, union, param}
use Rattle.ui_types.specs.Decls.{FaceTree, DeclTree, alias, constant, variable, function, defined, find_decl}
use Rattle.ui_const.specs.Kinds.{holds}
use Rattle.ui_tree.specs.declared.part.Placed.{Placed}
use Rattle.ui_scopes.specs.Operands.{OperandTree, package_at}
use Rattle.ui_scopes.specs.Scopes as scopes
use Rattle.ui_scopes.specs.Scopes.{World, MeaningTree, ScopeTree}
use Rattle.ui_scopes.specs.Steps.{Checks, ◌>>=◌, refuse, fault_at, under_at}
use Rattle.ui_rules.specs.Kinds.{not_taken}
use Rattle.ui_rules.specs.Constants.{constant_operand}

-- a fault that shows a name
abbrev pub refuse_name : {A : Type 0} → List ℕ → Spot → FaultKind → List ℕ → Checks A
refuse_name file at kind name = Err (fault_at file at kind name)

-- ---- declared names

-- A constant by its type's underlying type. One that its type can't hold, which only files made by hand have, counts as a
-- variable.
abbrev pub constant_object : List ℕ → Spot → Ty → Value → Ty → Checks OperandTree
constant_object file at t v (basic b) = if holds b v then Ok (constant_operand t v) else refuse file at not_taken
constant_object file at t v (named n ts) = refuse file at not_taken
constant_object file at t v (pointer u) = refuse file at not_taken
constant_object file at t v (slice u) = refuse file at not_taken
constant_object file at t v (array len u) = refuse file at not_taken
constant_object file at t v (map_of k u) = refuse file at not_taken
constant_object file at t v (func ps rs) = refuse file at not_taken
constant_object file at t v (struct ns ts) = refuse file at not_taken
constant_object file at t v (iface ns ts c us) = refuse file at not_taken
constant_object file at t v (union ms ts) = refuse file at not_taken
constant_object file at t v (param k) = refuse file at not_taken

-- what the declaration of a name makes of it
abbrev pub object_face : World → List ℕ → Spot → FaceTree → Checks OperandTree
object_face w file at (constant t v) = under_at w file at t >>= constant_object file at t v
object_face w file at (variable t) = refuse file at not_taken
object_face w file at (alias t) = refuse file at not_taken
object_face w file at (function ps t) = refuse file at not_taken
object_face w file at (defined ps t ms) = refuse file at not_taken

-- "Declarations and scope": each name must be declared
abbrev pub object_found : World → List ℕ → Spot → Name → Option DeclTree → Checks OperandTree
object_found w file at n None = refuse_name file at fault.Undefined n.name
object_found w file at n (Some d) = object_face w file at d.face

abbrev pub object_operand : World → List ℕ → Spot → Name → Checks OperandTree
object_operand w file at n = object_found w file at n (find_decl w.decls n)

-- ---- predeclared names

-- the predeclared names that this language leaves out
abbrev pub outside_names : List (List ℕ)
outside_names =
    codes "float32" ∷ codes "float64" ∷ codes "complex64" ∷ codes "complex128" ∷ codes "uintptr"
    ∷ codes "clear" ∷ codes "close" ∷ codes "complex" ∷ codes "imag" ∷ codes "print" ∷ codes "println" ∷ codes "real" ∷ codes "recover" ∷ []

-- the predeclared types, the zero value and the predeclared functions, which aren't taken yet
abbrev pub later_names : List (List ℕ)
later_names =
    codes "any" ∷ codes "bool" ∷ codes "byte" ∷ codes "comparable" ∷ codes "error"
    ∷ codes "int" ∷ codes "int8" ∷ codes "int16" ∷ codes "int32" ∷ codes "int64" ∷ codes "rune" ∷ codes "string"
    ∷ codes "uint" ∷ codes "uint8" ∷ codes "uint16" ∷ codes "uint32" ∷ codes "uint64" ∷ codes "nil"
    ∷ codes "append" ∷ codes "cap" ∷ codes "copy" ∷ codes "delete" ∷ codes "len" ∷ codes "make" ∷ codes "max" ∷ codes "min"
    ∷ codes "new" ∷ codes "panic" ∷ []

abbrev pub is_word : List (List ℕ) → List ℕ → Bool
is_word words n = list_any (λ word. bytes_eq word n) words

unfoldable pub is_outside : List ℕ → Bool
is_outside n = is_word outside_names n

unfoldable pub is_later : List ℕ → Bool
is_later n = is_word later_names n

-- "Predeclared identifiers": `iota` has a meaning in a constant specification alone, where the scope says it
abbrev pub predeclared_operand : List ℕ → Spot → List ℕ → Checks OperandTree
predeclared_operand file at n =
    if bytes_eq n (codes "true") then Ok (constant_operand (basic UntypedBool) (Truth true))
    else (if bytes_eq n (codes "false") then Ok (constant_operand (basic UntypedBool) (Truth false))
    else (if is_outside n then refuse_name file at fault.OutsideName n
    else (if is_later n then refuse file at not_taken
    else refuse_name file at fault.Undefined n)))

-- ---- names

abbrev pub meaning_operand : World → List ℕ → Placed → Option MeaningTree → Checks OperandTree
meaning_operand w file p None = refuse_name file p.spot fault.Undefined p.text
meaning_operand w file p (Some (scopes.object n)) = object_operand w file p.spot n
meaning_operand w file p (Some (scopes.package_at path)) = Ok (package_at path)
meaning_operand w file p (Some (scopes.predeclared n)) = predeclared_operand file p.spot n
meaning_operand w file p (Some (scopes.param k)) = refuse file p.spot not_taken
meaning_operand w file p (Some (scopes.local k t)) = refuse file p.spot not_taken
meaning_operand w file p (Some (scopes.constant t v)) = Ok (constant_operand t v)

-- "Blank identifier": `_` is no name that can be used
abbrev pub name_operand : World → ScopeTree → Placed → Checks OperandTree
name_operand w s p =
    if bytes_eq p.text (codes "_") then refuse_name s.file p.spot fault.Undefined p.text
    else meaning_operand w s.file p (s.meaning p.text)

-- ---- names of packages

-- "Qualified identifiers": the name must be exported and declared in the package
abbrev pub package_member : World → List ℕ → Spot → List ℕ → List ℕ → Checks OperandTree
package_member w file at path name =
    if is_exported name then object_operand w file at (record { path = path; name = name }) else refuse_name file at fault.NotExported name
