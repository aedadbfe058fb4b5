-- What a linked file stands for, and what a package is to stand for by the files of its imports.
use Rattle.std.specs.Prelude.{Bool, List, [], ◌∷◌, ◌++◌, map, length, nat_lt, Option, Some, None, Result, Ok, Err, bytes_eq, if◌then◌else◌}
use Rattle.std.specs.FinMap.{get}
use Rattle.ui_store.specs.Files.{Files}
use Rattle.ui_frame.specs.Container.{fingerprint}
use Rattle.ui_frame.specs.Opening.{first_failing, parts_in}
use Rattle.ui_frame.specs.declared.frame.FrameFault.{FrameFault}
use Rattle.ui_exports.specs.Export.{Export}
use Rattle.ui_exports.specs.Linked.{Linked, Below}
use Rattle.ui_consts.specs.Reading.{record_in}
use Rattle.ui_forms.specs.Form.{Form as SourceForm, imported}
use Rattle.ui_forms.specs.Verdict.{environment_of, verdict}
use Rattle.ui_below.specs.Claims.{claims}
use Rattle.ui_below.specs.Join.{Apart, joined}
use Rattle.ui_below.specs.Join as apart
use Rattle.ui_build.specs.Plan.{Text, Refusal, TooLong, BadFrame, BadElement, TooMany, Cycle, Stale, Entry, Plan, or_fault, done, settled, ◌>>=◌}
use Rattle.ui_build.specs.Package.{linked_file, file_limit, read_file, read_form}
use Rattle.ui_build.specs.Build.{package_limit}

-- the fingerprint of a package's linked file
abbrev pub print_in : Option Text → Text
print_in None = []
print_in (Some bytes) = fingerprint (parts_in bytes)

abbrev pub print_of : Files → Text → Text
print_of files path = print_in (get files (linked_file path))

-- what a package stands for, with the fingerprints of the linked files of the packages below
abbrev pub with_print : Files → Text × Bool → Below
with_print files b = record { path = b.0; print = print_of files b.0; direct = b.1 }

abbrev pub linked_as : Files → Entry → Linked
linked_as files entry = record { export = entry.export; below = map (with_print files) entry.below }

-- what a package stands for, without the fingerprints
abbrev pub mark_of : Below → Text × Bool
mark_of b = (b.path, b.direct)

abbrev pub entry_of : Linked → Entry
entry_of linked = record { export = linked.export; below = map mark_of linked.below }

-- a linked file that was read: what it stands for, and its fingerprint
abbrev pub Loaded : Type 0
Loaded = Linked × Text

-- What a linked file stands for: its container is opened, and its record taken, which is that of the package.
abbrev pub or_element : Text → Text → Text → Option Linked → Result Loaded Refusal
or_element name path print (Some linked) = if bytes_eq linked.export.path path then Ok (linked, print) else Err (BadElement name)
or_element name path print None = Err (BadElement name)

abbrev pub opened : Text → Text → Text → Option FrameFault → Result Loaded Refusal
opened name path bytes (Some fault) = Err (BadFrame name fault)
opened name path bytes None = or_element name path (fingerprint (parts_in bytes)) (record_in (parts_in bytes))

unfoldable pub recorded : Text → Text → Option Text → Result Loaded Refusal
recorded name path None = Err (TooLong name)
recorded name path (Some bytes) = opened name path bytes (first_failing bytes)

abbrev pub load : Files → Text → Plan Loaded
load files path = read_file files (linked_file path) file_limit >>= λ bytes. settled (recorded (linked_file path) path bytes)

-- the linked files of packages that were read, and their fingerprints
abbrev pub Imports : Type 0
Imports = List Linked × List Text

abbrev pub with_loaded : Imports → Loaded → Imports
with_loaded imports one = (imports.0 ++ one.0 ∷ [], imports.1 ++ one.1 ∷ [])

-- the linked files of these packages, each behind those read so far
unfoldable pub load_all : Files → Imports → List Text → Plan Imports
load_all files imports [] = done imports
load_all files imports (path ∷ rest) = load files path >>= λ one. load_all files (with_loaded imports one) rest

abbrev pub apart_as : Text → Apart → Refusal
apart_as path (apart.Stale at first second) = Stale at first second
apart_as path apart.Cycle = Cycle path

-- a list of more packages below than a build may find isn't written
abbrev pub or_apart : Text → Result (List Below) Apart → Result (List Below) Refusal
or_apart path (Ok below) = if nat_lt package_limit (length below) then Err TooMany else Ok below
or_apart path (Err why) = Err (apart_as path why)

abbrev pub with_export : List Below → Result Export Refusal → Result Linked Refusal
with_export below (Ok export) = Ok (record { export = export; below = below })
with_export below (Err refusal) = Err refusal

-- the packages below, and then the verdict
abbrev pub judged_with : SourceForm → List Linked → Result (List Below) Refusal → Result Linked Refusal
judged_with form imports (Ok below) = with_export below (or_fault (verdict (environment_of imports) form))
judged_with form imports (Err refusal) = Err refusal

-- what a package of this form stands for, by the linked files of its imports
unfoldable pub judgement : Text → SourceForm → Imports → Result Linked Refusal
judgement path form imports = judged_with form imports.0 (or_apart path (joined path (claims imports.0 imports.1)))

-- What a package is to stand for, by its sources and the linked files of its imports.
abbrev pub prepared : Files → Text → Plan Linked
prepared files path = read_form files path >>= λ form. load_all files ([], []) (imported form) >>= λ imports. settled (judgement path form imports)
