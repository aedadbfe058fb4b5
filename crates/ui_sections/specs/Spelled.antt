-- The parts of a container are the spelling of a file, section by section, and each element is in
-- its grammar.
use Rattle.std.specs.Prelude.{◌≡◌, ℕ, nat_eq, Bool, ◌&&◌, List, [], length, get_or}
use Rattle.ui_frame.specs.Container.{Parts, section}
use Rattle.ui_frame.specs.declared.section.Section.{Section}
use Rattle.ui_frame.specs.declared.section.Section.TheVariants.{Str, Meta, PosBase, Pkg, Name}
use Rattle.ui_frame.specs.declared.section.Section.TheVariants.{Types, Obj, ObjExt, ObjDict, Body}
use Rattle.ui_strpos.specs.Contexts.{context}
use Rattle.ui_strpos.specs.Elements as one
use Rattle.ui_strpos.specs.Format.{Format, InGrammar}
use Rattle.ui_strpos.specs.Items.{spelling}
use Rattle.ui_strpos.specs.declared.name.NameEl.{NameEl}
use Rattle.ui_strpos.specs.declared.shape.Shape.{Shape}
use Rattle.ui_eobj.specs.Roots as root
use Rattle.ui_etype.specs.Types.{type_el}
use Rattle.ui_edecl.specs.Objects.{object}
use Rattle.ui_edecl.specs.Extensions.{extension}
use Rattle.ui_edecl.specs.Dictionaries.{dictionary}
use Rattle.ui_file.specs.Files.{AllFrom, IsFile, spelled_all, any_shape, object_shape, extension_shape, plain}
use Rattle.ui_file.specs.declared.file.File.{File}
use Rattle.ui_sections.specs.declared.read.Roots.{Roots}
use Rattle.ui_sections.specs.declared.read.Front.{Front}
use Rattle.ui_sections.specs.declared.read.Declared.{Declared}

-- an element of a section
abbrev pub IsElement : {A : Type 0} → Format A → Section → Shape → Parts → ℕ → A → Type 0
IsElement f s shape parts k a =
    InGrammar f (context k shape parts) a
    × (get_or (section s parts) k [] ≡ spelling (f.items a))

-- all elements of a section
pub record IsSection {A : Type 0} (f : Format A) (s : Section) (shape : ℕ → Shape) (parts : Parts)
    (xs : List A) : Type 0 where
  pub grammar : AllFrom (λ k a. InGrammar f (context k (shape k) parts) a) 0 xs
  pub bytes : section s parts ≡ spelled_all f xs

-- whether the four sections of declarations have one length
abbrev pub same_counts : Parts → Bool
same_counts parts =
    nat_eq (length (section Obj parts)) (length (section Name parts))
    && (nat_eq (length (section ObjExt parts)) (length (section Name parts)) && nat_eq
    (length (section ObjDict parts)) (length (section Name parts)))

-- two roots, and the four sections of declarations have one length
pub record IsCounted (parts : Parts) : Type 0 where
  pub roots : length (section Meta parts) ≡ 2
  pub objects : length (section Obj parts) ≡ length (section Name parts)
  pub extensions : length (section ObjExt parts) ≡ length (section Name parts)
  pub dictionaries : length (section ObjDict parts) ≡ length (section Name parts)

pub record AreRoots (parts : Parts) (r : Roots) : Type 0 where
  pub counted : IsCounted parts
  pub texts : section Str parts ≡ r.texts
  pub public : IsElement root.public_root Meta plain parts 0 r.public
  pub private : IsElement root.private_root Meta plain parts 1 r.private

pub record IsFront (parts : Parts) (f : Front) : Type 0 where
  pub bases : IsSection one.posbase PosBase any_shape parts f.bases
  pub packages : IsSection one.pkg Pkg any_shape parts f.packages
  pub names : IsSection one.name Name any_shape parts f.names
  pub types : IsSection type_el Types any_shape parts f.types

pub record AreDeclared (parts : Parts) (names : List NameEl) (d : Declared) : Type 0 where
  pub objects : IsSection object Obj (object_shape names (section ObjDict parts)) parts d.objects
  pub extensions :
      IsSection extension ObjExt (extension_shape names (section ObjDict parts) d.objects) parts
      d.extensions
  pub dictionaries : IsSection dictionary ObjDict any_shape parts d.dictionaries
  pub bodies : length (section Body parts) ≡ 0

-- all of a file
pub record IsSpelled (parts : Parts) (x : File) : Type 0 where
  pub file : IsFile parts x
  pub roots : length (section Meta parts) ≡ 2
  pub texts : section Str parts ≡ x.texts
  pub public : get_or (section Meta parts) 0 [] ≡ spelling (root.public_root.items x.public)
  pub private : get_or (section Meta parts) 1 [] ≡ spelling (root.private_root.items x.private)
  pub bases : section PosBase parts ≡ spelled_all one.posbase x.bases
  pub packages : section Pkg parts ≡ spelled_all one.pkg x.packages
  pub names : section Name parts ≡ spelled_all one.name x.names
  pub types : section Types parts ≡ spelled_all type_el x.types
  pub objects : section Obj parts ≡ spelled_all object x.objects
  pub extensions : section ObjExt parts ≡ spelled_all extension x.extensions
  pub dictionaries : section ObjDict parts ≡ spelled_all dictionary x.dictionaries
  pub bodies : length (section Body parts) ≡ 0
