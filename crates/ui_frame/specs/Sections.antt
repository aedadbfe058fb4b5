-- The numbers of the sections in a file. This project's own, after the sections of internal/pkgbits.
use Rattle.std.specs.Prelude.{ℕ}
use Rattle.ui_frame.specs.declared.section.Section.{Section}
use Rattle.ui_frame.specs.declared.section.Section.TheVariants.{Str, Meta, PosBase, Pkg, Name, Types, Obj, ObjExt, ObjDict, Body}

abbrev pub number_of : Section → ℕ
number_of Str = 0
number_of Meta = 1
number_of PosBase = 2
number_of Pkg = 3
number_of Name = 4
number_of Types = 5
number_of Obj = 6
number_of ObjExt = 7
number_of ObjDict = 8
number_of Body = 9
