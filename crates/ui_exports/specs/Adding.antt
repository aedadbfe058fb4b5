-- Declarations that are added one after another. This project's own.
use Rattle.std.specs.Prelude.{ℕ, List, [], ◌∷◌, Option, Some, None, is_some, if◌then◌else◌}
use Rattle.std.specs.FinMap.{get, insert}
use Rattle.ui_exports.specs.Export.{Declaration, Declarations, Export}

-- declarations with more of them, unless one has a name that is there
abbrev pub add_each : Declarations → List (List ℕ × Declaration) → Option Declarations
add_each m [] = Some m
add_each m (e ∷ es) = if is_some (get m e.0) then None else add_each (insert m e.0 e.1) es

abbrev pub add_all : Declarations → Option (List (List ℕ × Declaration)) → Option Declarations
add_all m None = None
add_all m (Some es) = add_each m es

-- a package with other declarations
abbrev pub with_decls : Export → Declarations → Export
with_decls e decls = record { path = e.path; name = e.name; decls = decls }
