-- What writing adds to the parts of a file. This project's own.
use Rattle.std.specs.Prelude.{◌≡◌, ℕ, suc, [], ◌∷◌, map, ◌+◌, ◌*◌, ◌-◌, ◌^◌, ◌≤◌, List, ◌++◌, length, slice_set}
use Rattle.ui_frame.specs.Container.{Parts, section, elements, contents, no_elements}
use Rattle.ui_frame.specs.Sections.{number_of}
use Rattle.ui_frame.specs.declared.section.Section.{Section}
use Rattle.ui_frame.specs.declared.section.Section.TheVariants.{Str, PosBase, Pkg, Name, Types, Obj, ObjExt, ObjDict}
use Rattle.ui_strpos.specs.Elements as one
use Rattle.ui_eobj.specs.Objects as object
use Rattle.ui_consts.specs.Elements.{Elements, spelled_as, base_of, package_of, name_of, object_of, types_of, extension_bytes, dictionary_bytes}

abbrev pub with_elements : Section → List (List ℕ) → Parts → Parts
with_elements s es parts = slice_set parts (number_of s) (section s parts ++ es)

-- so many elements more, of so many bytes, pass no limit of a container
pub record HasPlace (count weight : ℕ) (parts : Parts) : Type 0 where
  pub ten : length parts ≡ 10
  pub few : length (elements parts) + count ≤ 2 ^ 18
  pub light : length (contents parts) + weight ≤ 2 ^ 30 - 2 ^ 28

-- nor do the elements of so many sections more, each of at most 2^14 elements and 2^26 bytes
pub record HasRoom (sections : ℕ) (parts : Parts) : Type 0 where
  pub ten : length parts ≡ 10
  pub few : length (elements parts) + 2 ^ 14 * sections ≤ 2 ^ 18
  pub light : length (contents parts) + 2 ^ 26 * sections ≤ 2 ^ 30 - 2 ^ 28

-- a section has these elements more, of at most so many bytes
pub record Adds (s : Section) (es : List (List ℕ)) (weight : ℕ) (old new : Parts) : Type 0 where
  pub parts : new ≡ with_elements s es old
  pub ten : length new ≡ 10
  pub count : length (elements new) ≡ length (elements old) + length es
  pub size : length (contents new) ≤ length (contents old) + weight

-- a section has all of its elements, which leaves room for one section less
pub record AddsAll (s : Section) (es : List (List ℕ)) (old new : Parts) : Type 0 where
  pub parts : new ≡ with_elements s es old
  pub room : (n : ℕ) → HasRoom (suc n) old → HasRoom n new

-- the elements before those of constants
abbrev pub front : Elements → Parts
front x =
    with_elements Name (map (λ e. spelled_as one.name (name_of e)) x.entries)
    (with_elements Pkg (spelled_as one.pkg (package_of x) ∷ [])
    (with_elements PosBase (map (λ file. spelled_as one.posbase (base_of file)) x.bases)
    (with_elements Str x.strings no_elements)))

-- and those before the roots
abbrev pub middle : Elements → Parts
middle x =
    with_elements ObjDict (map (λ e. dictionary_bytes) x.entries)
    (with_elements ObjExt (map (λ e. extension_bytes) x.entries)
    (with_elements Obj (map (λ e. spelled_as object.constant (object_of e)) x.entries)
    (with_elements Types (types_of x.entries) (front x))))

pub record IsFront (x : Elements) (parts : Parts) : Type 0 where
  pub is : parts ≡ front x
  pub room : HasRoom 6 parts

pub record IsMiddle (x : Elements) (parts : Parts) : Type 0 where
  pub is : parts ≡ middle x
  pub room : HasRoom 2 parts
