-- The verdict on a package of sums. Go specification, "Constants", "Constant expressions", "Qualified identifiers" and
-- "Import declarations"; the order of the faults and the limit on values are this project's own.
use Rattle.std.specs.Prelude.{◌≡◌, ℕ, ◌+◌, ◌^◌, Bool, false, not, nat_lt, if◌then◌else◌, List, [], ◌∷◌, Option, Some, None, option_map, Result, Ok, Err, ok_or, bytes_eq, Contains}
use Rattle.std.specs.List.{list_any, find}
use Rattle.std.specs.Option.{option_and_then}
use Rattle.std.specs.FinMap.{get, insert, empty}
use Rattle.ui_base.specs.declared.value.Spot.{Spot}
use Rattle.ui_base.specs.declared.fault.FaultKind.{FaultKind}
use Rattle.ui_base.specs.declared.fault.FaultKind.TheVariants.{ConstTooBig, Undefined, UnusedImport}
use Rattle.ui_base.specs.declared.fault.Fault.{Fault}
use Rattle.ui_base.specs.declared.fault.CheckFault.{CheckFault}
use Rattle.ui_base.specs.declared.fault.CheckFault.TheVariants.{NoMemory, Fault as Refused}
use Rattle.ui_exports.specs.Export.{Declaration, Declarations, Export}
use Rattle.ui_exports.specs.Linked.{Linked}
use Rattle.ui_forms.specs.Words.{last_segment}
use Rattle.ui_base.specs.Steps.{and_then}
use Rattle.ui_forms.specs.Form.{Form, imported}
use Rattle.ui_forms.specs.declared.part.Term.{Term}
use Rattle.ui_forms.specs.declared.part.Term.TheVariants.{Digits, Own, Of}
use Rattle.ui_forms.specs.declared.part.ImportPath.{ImportPath}
use Rattle.ui_forms.specs.declared.part.ConstantSum.{ConstantSum}
use Rattle.ui_forms.specs.declared.part.Part.{Part}

-- ---- environments

-- the value of a constant by its package's path and its name
abbrev pub Environment : Type 0
Environment = List ℕ → List ℕ → Option ℕ

abbrev pub constant_in : Declarations → List ℕ → Option ℕ
constant_in decls name = option_map (λ d. d.value) (get decls name)

-- the first package of that path
abbrev pub package_of : List Linked → List ℕ → Option Linked
package_of imports path = find (λ l. bytes_eq l.export.path path) imports

abbrev pub environment_of : List Linked → Environment
environment_of imports path name = option_and_then (λ l. constant_in l.export.decls name) (package_of imports path)

-- the value of a constant by an import's last segment and the constant's name
abbrev pub Selection : Type 0
Selection = List ℕ → List ℕ → Option ℕ

-- the first import that has this last segment
abbrev pub import_by : List ImportPath → List ℕ → Option ImportPath
import_by imports segment = find (λ i. bytes_eq (last_segment i.path) segment) imports

-- the value of a name of the import that has the segment
abbrev pub value_from : Environment → List ImportPath → Selection
value_from e imports segment name = option_and_then (λ i. e i.path name) (import_by imports segment)

-- ---- terms and sums

abbrev pub fault_at : List ℕ → FaultKind → Spot → List ℕ → Fault
fault_at file kind spot name = record { kind = kind; pos = record { file = file; line = spot.line; col = spot.col }; name = name }

-- the value of a term, by the constants before it
abbrev pub value_of : Selection → Declarations → Term → Option ℕ
value_of select before (Digits spot value) = Some value
value_of select before (Own spot name) = constant_in before name
value_of select before (Of spot segment name) = select segment name

-- the place of a term's first token
abbrev pub spot_of : Term → Spot
spot_of (Digits spot value) = spot
spot_of (Own spot name) = spot
spot_of (Of spot segment name) = spot

-- the constant that a term names
abbrev pub name_of : Term → List ℕ
name_of (Digits spot value) = []
name_of (Own spot name) = name
name_of (Of spot segment name) = name

-- a term's value, or the fault at its first token
abbrev pub term_value : Selection → List ℕ → Declarations → Term → Result ℕ Fault
term_value select file before t = ok_or (value_of select before t) (fault_at file Undefined (spot_of t) (name_of t))

-- a partial sum and one value more, which is at most 2^127 - 1
abbrev pub added : Fault → ℕ → ℕ → Result ℕ Fault
added too_big sum value = if nat_lt (sum + value) (2 ^ 127) then Ok (sum + value) else Err too_big

-- a partial sum and the terms behind it, from the left
abbrev pub sum_of : (Term → Result ℕ Fault) → Fault → ℕ → List Term → Result ℕ Fault
sum_of value too_big sum [] = Ok sum
sum_of value too_big sum (t ∷ ts) = and_then (λ next. sum_of value too_big next ts) (and_then (added too_big sum) (value t))

-- the place of a sum's first token
abbrev pub first_spot : List Term → Spot
first_spot [] = record { line = 0; col = 0 }
first_spot (t ∷ ts) = spot_of t

-- a constant's value, or the fault of its first term, or of its first partial sum, that has one
abbrev pub constant_value : Selection → List ℕ → Declarations → ConstantSum → Result ℕ Fault
constant_value select file before c = sum_of (term_value select file before) (fault_at file ConstTooBig (first_spot c.terms) []) 0 c.terms

-- ---- the package

abbrev pub declared : List ℕ → ConstantSum → ℕ → Declaration
declared file c value = record { file = file; line = c.spot.line; column = c.spot.col; value = value }

-- the constants before, and more of them
abbrev pub declared_from : Selection → List ℕ → Declarations → List ConstantSum → Result Declarations Fault
declared_from select file before [] = Ok before
declared_from select file before (c ∷ cs) = and_then (λ value. declared_from select file (insert before c.name (declared file c value)) cs) (constant_value select file before c)

-- the constants before, and those of more sources
abbrev pub parts_from : Environment → Declarations → List Part → Result Declarations Fault
parts_from e before [] = Ok before
parts_from e before (p ∷ ps) = and_then (λ decls. parts_from e decls ps) (declared_from (value_from e p.imports) p.file before p.constants)

abbrev pub has_segment : List ℕ → Term → Bool
has_segment segment (Digits spot value) = false
has_segment segment (Own spot name) = false
has_segment segment (Of spot other name) = bytes_eq other segment

-- a term is of the segment
abbrev pub has_term : List ConstantSum → List ℕ → Bool
has_term constants segment = list_any (λ c. list_any (has_segment segment) c.terms) constants

-- the first import of a source that no term of it is of
abbrev pub unused : Part → Option ImportPath
unused p = find (λ i. not (has_term p.constants (last_segment i.path))) p.imports

abbrev pub used_or : List ℕ → Option ImportPath → Result (Unit {0}) Fault
used_or file None = Ok tt
used_or file (Some i) = Err (fault_at file UnusedImport i.spot i.path)

-- each import of each source is used
abbrev pub all_used : List Part → Result (Unit {0}) Fault
all_used [] = Ok tt
all_used (p ∷ ps) = and_then (λ _. all_used ps) (used_or p.file (unused p))

abbrev pub exported : Form → Declarations → Export
exported f decls = record { path = f.path; name = f.name; decls = decls }

-- what the package exports, or its first fault
unfoldable pub verdict : Environment → Form → Result Export Fault
verdict e f = and_then (λ decls. and_then (λ _. Ok (exported f decls)) (all_used f.parts)) (parts_from e empty f.parts)

-- how a check ends without an answer
abbrev pub IsRefusal : {A : Type 0} → Result A Fault → CheckFault → Type 0
IsRefusal v (Refused fault) = v ≡ Err fault
IsRefusal v NoMemory = Unit {0}

-- the environments agree on the imports of the form
abbrev pub Agree : Environment → Environment → Form → Type 0
Agree e e' f = (path name : List ℕ) → Contains (imported f) path → e path name ≡ e' path name

-- the verdict asks for no other package than the imports
abbrev pub IsLocal : Type 0
IsLocal = (e e' : Environment) (f : Form) → Agree e e' f → verdict e f ≡ verdict e' f
