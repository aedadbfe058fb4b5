-- What was read and joined, as it lies in memory.
use Rattle.std.specs.Prelude.{Bool, ◌&&◌, nat_eq, length}
use Rattle.ui_base.specs.Paths.{is_path}
use Rattle.ui_build.specs.Plan.{Text}
use Rattle.ui_build.specs.Loading as plans
use Rattle.ui_build.specs.declared.loading.Loaded.{Loaded}
use Rattle.ui_build.specs.declared.loading.Imports.{Imports}

abbrev pub loaded_of : Loaded → plans.Loaded
loaded_of l = (l.linked, l.print)

abbrev pub imports_of : Imports → plans.Imports
imports_of i = (i.files.items, i.prints.items)

-- a claim of a valid path and a fingerprint of eight bytes
abbrev pub is_sound : Text → Text → Bool
is_sound path print = is_path path && nat_eq (length print) 8
