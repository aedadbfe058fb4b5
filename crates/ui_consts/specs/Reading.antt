-- A linked file read, element by element. This project's own; the law `reads_back` says it in the words of Record.
use Rattle.std.specs.Prelude.{ℕ, zero, suc, List, [], ◌∷◌, map, length, Bool, true, false, ◌&&◌, nat_eq, bytes_eq, if◌then◌else◌, Option, Some, None, option_map, slice_get, Result, Ok, Err}
use Rattle.std.specs.Option.{option_and_then}
use Rattle.std.specs.FinMap.{from_entries}
use Rattle.ui_frame.specs.Container.{Parts, section}
use Rattle.ui_frame.specs.declared.section.Section.{Section}
use Rattle.ui_frame.specs.declared.section.Section.TheVariants.{Str, Meta, PosBase, Pkg, Name, Types, Obj}
use Rattle.ui_strpos.specs.Reading.{Fault}
use Rattle.ui_strpos.specs.Format.{Format, element_in}
use Rattle.ui_strpos.specs.Elements as one
use Rattle.ui_strpos.specs.declared.posbase.PosBaseEl.{PosBaseEl}
use Rattle.ui_strpos.specs.declared.pkg.PkgEl.{PkgEl}
use Rattle.ui_strpos.specs.declared.name.NameEl.{NameEl}
use Rattle.ui_strpos.specs.declared.name.NameKind.{NameKind}
use Rattle.ui_strpos.specs.declared.name.NameKind.TheVariants.{Alias, Const, Defined, Func, Var, Stub}
use Rattle.ui_eobj.specs.Objects as object
use Rattle.ui_eobj.specs.Roots as root
use Rattle.ui_eobj.specs.declared.object.ConstEl.{ConstEl}
use Rattle.ui_eobj.specs.declared.root.PrivateRootEl.{PrivateRootEl}
use Rattle.ui_exports.specs.Export.{Declaration, Export}
use Rattle.ui_exports.specs.Linked.{Below, Linked}
use Rattle.ui_consts.specs.Elements.{type_bytes}
use Rattle.ui_consts.specs.Record.{text_of, value_of, below_by, over}

abbrev pub read_of : {A : Type 0} → Result A Fault → Option A
read_of (Ok a) = Some a
read_of (Err e) = None

-- an element by its place, where it is one
unfoldable pub element : {A : Type 0} → Format A → Parts → Section → ℕ → Option A
element f parts s k = option_and_then (λ bytes. read_of (element_in f (over parts) bytes)) (slice_get (section s parts) k)

-- a String by its place
abbrev pub text_in : Parts → ℕ → List ℕ
text_in parts k = text_of (section Str parts) k

-- a package's path and name
abbrev pub package_in : Parts → Option (List ℕ × List ℕ)
package_in parts = option_map (λ (p : PkgEl). (text_in parts p.path, text_in parts p.name)) (element one.pkg parts Pkg 0)

abbrev pub is_const : NameKind → Bool
is_const Alias = false
is_const Const = true
is_const Defined = false
is_const Func = false
is_const Var = false
is_const Stub = false

-- the name of a constant of the first Pkg
abbrev pub const_name : Parts → NameEl → Option (List ℕ)
const_name parts n = if nat_eq n.pkg 0 && is_const n.kind then Some (text_in parts n.name) else None

abbrev pub name_in : Parts → ℕ → Option (List ℕ)
name_in parts k = option_and_then (const_name parts) (element one.name parts Name k)

-- whether the Type is that of an untyped whole number
abbrev pub is_whole_type : Parts → ℕ → Bool
is_whole_type parts k = bytes_eq (text_of (section Types parts) k) type_bytes

-- the file's name of a PosBase
abbrev pub file_in : Parts → ℕ → Option (List ℕ)
file_in parts k = option_map (λ (b : PosBaseEl). text_in parts b.file) (element one.posbase parts PosBase k)

-- what a constant declares
abbrev pub declared : Parts → ConstEl → Option Declaration
declared parts o =
    if is_whole_type parts o.ty
    then option_and_then (λ file. option_map (λ n. record { file = file; line = o.pos.line; column = o.pos.column; value = n }) (value_of (section Str parts) o.value)) (file_in parts o.pos.base)
    else None

abbrev pub object_in : Parts → ℕ → Option Declaration
object_in parts k = option_and_then (declared parts) (element object.constant parts Obj k)

-- a constant by its place among the Names and Objs
unfoldable pub entry_in : Parts → ℕ → Option (List ℕ × Declaration)
entry_in parts k = option_and_then (λ name. option_map (λ d. (name, d)) (object_in parts k)) (name_in parts k)

-- so many constants from a place on
unfoldable pub entries_from : Parts → ℕ → ℕ → Option (List (List ℕ × Declaration))
entries_from parts k zero = Some []
entries_from parts k (suc n) = option_and_then (λ e. option_map (λ es. e ∷ es) (entries_from parts (suc k) n)) (entry_in parts k)

-- all constants, where there are as many Names as Objs
abbrev pub entries_in : Parts → Option (List (List ℕ × Declaration))
entries_in parts = if nat_eq (length (section Name parts)) (length (section Obj parts)) then entries_from parts 0 (length (section Name parts)) else None

-- what a package exports
unfoldable pub export_in : Parts → Option Export
export_in parts = option_and_then (λ p. option_map (λ es. record { path = p.0; name = p.1; decls = from_entries es }) (entries_in parts)) (package_in parts)

-- the packages below
unfoldable pub below_in : Parts → Option (List Below)
below_in parts = option_map (λ (r : PrivateRootEl). map (below_by (section Str parts)) r.below) (element root.private_root parts Meta 1)

-- what parts stand for, if they stand for anything
unfoldable pub record_in : Parts → Option Linked
record_in parts = option_and_then (λ e. option_map (λ bs. record { export = e; below = bs }) (below_in parts)) (export_in parts)
