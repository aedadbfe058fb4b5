-- Reading a file in three stages: the roots, what declarations are read by, and the declarations.
use Rattle.std.specs.Prelude.{List, Result, Ok}
use Rattle.ui_frame.specs.Reading.{◌>>=◌}
use Rattle.ui_frame.specs.Container.{Parts, section}
use Rattle.ui_frame.specs.declared.section.Section.TheVariants.{Str, PosBase, Pkg, Name, Types, Obj, ObjExt, ObjDict}
use Rattle.ui_strpos.specs.Elements as one
use Rattle.ui_strpos.specs.declared.name.NameEl.{NameEl}
use Rattle.ui_eobj.specs.Roots as root
use Rattle.ui_etype.specs.Types.{type_el}
use Rattle.ui_edecl.specs.Objects.{object}
use Rattle.ui_edecl.specs.Extensions.{extension}
use Rattle.ui_edecl.specs.Dictionaries.{dictionary}
use Rattle.ui_file.specs.Files.{counts_in, root_in, section_in, any_shape, object_shape, extension_shape, bodies_in}
use Rattle.ui_file.specs.declared.file.File.{File}
use Rattle.ui_file.specs.declared.bad.BadFile.{BadFile}
use Rattle.ui_sections.specs.declared.read.Roots.{Roots}
use Rattle.ui_sections.specs.declared.read.Front.{Front}
use Rattle.ui_sections.specs.declared.read.Declared.{Declared}

unfoldable pub roots_in : Parts → Result Roots BadFile
roots_in parts = do
  counted ← counts_in parts
  public ← root_in root.public_root 0 parts
  private ← root_in root.private_root 1 parts
  Ok (record { texts = section Str parts; public = public; private = private })

unfoldable pub front_in : Parts → Result Front BadFile
front_in parts = do
  bases ← section_in one.posbase PosBase any_shape parts
  packages ← section_in one.pkg Pkg any_shape parts
  names ← section_in one.name Name any_shape parts
  types ← section_in type_el Types any_shape parts
  Ok (record { bases = bases; packages = packages; names = names; types = types })

unfoldable pub declared_in : List NameEl → Parts → Result Declared BadFile
declared_in names parts = do
  objects ← section_in object Obj (object_shape names (section ObjDict parts)) parts
  extensions ← section_in extension ObjExt
      (extension_shape names (section ObjDict parts) objects) parts
  dictionaries ← section_in dictionary ObjDict any_shape parts
  bodies ← bodies_in parts
  Ok (record { objects = objects; extensions = extensions; dictionaries = dictionaries })

abbrev pub file_of : Roots → Front → Declared → File
file_of r f d = record {
  texts = r.texts;
  public = r.public;
  private = r.private;
  bases = f.bases;
  packages = f.packages;
  names = f.names;
  types = f.types;
  objects = d.objects;
  extensions = d.extensions;
  dictionaries = d.dictionaries;
}
