-- The constants of a package, by the entries of the map that holds them. This project's own.
use Rattle.std.specs.Prelude.{ℕ, List, Vec}
use Rattle.std.specs.declared.alloc.Global.{Global}
use Rattle.ui_base.specs.Entries as entries
use Rattle.ui_base.specs.Entries.{bytes_of, map_of}
use Rattle.ui_exports.specs.Export.{Declaration, Declarations}
use Rattle.ui_exports.specs.declared.package.Constant.{Constant}

abbrev pub declaration : Constant → Declaration
declaration c = record { file = c.pos.file; line = c.pos.line; column = c.pos.col; value = c.value }

abbrev pub entry_of : Vec ℕ Global × Constant → List ℕ × Declaration
entry_of e = entries.entry_of bytes_of declaration e

unfoldable pub declarations_of : List (Vec ℕ Global × Constant) → Declarations
declarations_of es = map_of bytes_of declaration es
