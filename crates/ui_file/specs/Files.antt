-- A whole file as typed elements, section by section. This project's own, after `internal/pkgbits` and
-- `cmd/compile/internal/noder` of the Go tree.
use Rattle.std.specs.Prelude.{◌≡◌, ℕ, zero, suc, ◌-◌, ◌^◌, min, List, [], ◌∷◌, map, length, drop, get_or, nat_eq, ◌&&◌, if◌then◌else◌, Result, Ok, Err}
use Rattle.ui_frame.specs.Reading.{◌>>=◌, uint_at}
use Rattle.ui_frame.specs.declared.number.NumFault.{NumFault}
use Rattle.ui_frame.specs.Container.{Parts, section}
use Rattle.ui_frame.specs.Sections.{number_of}
use Rattle.ui_frame.specs.declared.section.Section.{Section}
use Rattle.ui_frame.specs.declared.section.Section.TheVariants.{Str, Meta, PosBase, Pkg, Name, Types, Obj, ObjExt, ObjDict, Body}
use Rattle.ui_strpos.specs.Items.{spelling}
use Rattle.ui_strpos.specs.Contexts.{context}
use Rattle.ui_strpos.specs.Reading.{Context, Fault}
use Rattle.ui_strpos.specs.Format.{Format, InGrammar, element_in}
use Rattle.ui_strpos.specs.Elements as one
use Rattle.ui_strpos.specs.declared.fault.Cause.{Cause}
use Rattle.ui_strpos.specs.declared.fault.Cause.TheVariants.{BadCode, WrongCount}
use Rattle.ui_strpos.specs.declared.shape.Shape.{Shape}
use Rattle.ui_strpos.specs.declared.name.NameEl.{NameEl}
use Rattle.ui_strpos.specs.declared.name.NameKind.TheVariants.{Stub}
use Rattle.ui_eobj.specs.Roots as root
use Rattle.ui_etype.specs.Types.{type_el}
use Rattle.ui_edecl.specs.Objects.{object}
use Rattle.ui_edecl.specs.Extensions.{extension}
use Rattle.ui_edecl.specs.Dictionaries.{dictionary}
use Rattle.ui_edecl.specs.declared.object.ObjEl.{ObjEl}
use Rattle.ui_edecl.specs.declared.object.ObjEl.TheVariants as object_
use Rattle.ui_file.specs.declared.file.File.{File}
use Rattle.ui_file.specs.declared.bad.BadFile.{BadFile}

-- ---- the elements' bytes

abbrev pub spelled_all : {A : Type 0} → Format A → List A → List (List ℕ)
spelled_all f xs = map (λ a. spelling (f.items a)) xs

-- the sections, in the order of their numbers
unfoldable pub spelled : File → Parts
spelled x =
    x.texts
    ∷ (spelling (root.public_root.items x.public) ∷ spelling (root.private_root.items x.private) ∷ [])
    ∷ spelled_all one.posbase x.bases
    ∷ spelled_all one.pkg x.packages
    ∷ spelled_all one.name x.names
    ∷ spelled_all type_el x.types
    ∷ spelled_all object x.objects
    ∷ spelled_all extension x.extensions
    ∷ spelled_all dictionary x.dictionaries
    ∷ []
    ∷ []

-- ---- the shapes by which elements are read

abbrev pub plain : Shape
plain = record { code = 0; params = 0; methods = 0 }

abbrev pub no_name : NameEl
no_name = record { pkg = 0; name = 0; kind = Stub }

-- what stands after an entry of a table, of two numbers
unfoldable pub after_entry : List ℕ → Result (List ℕ) NumFault
after_entry bytes = do
  section ← uint_at bytes
  index ← uint_at (drop section.1 bytes)
  Ok (drop index.1 (drop section.1 bytes))

-- what stands after so many
unfoldable pub after_entries : ℕ → List ℕ → Result (List ℕ) NumFault
after_entries zero bytes = Ok bytes
after_entries (suc n) bytes = after_entry bytes >>= after_entries n

-- the number of parameters in an ObjDict: the second number after the table
unfoldable pub params_in : List ℕ → Result ℕ NumFault
params_in bytes = do
  count ← uint_at bytes
  data_ ← after_entries count.0 (drop count.1 bytes)
  first ← uint_at data_
  params ← uint_at (drop first.1 data_)
  Ok params.0

-- It counts as 0 where the element ends, or has a long number, before or in it; and at most as 2^32 - 1.
abbrev pub params_or_none : Result ℕ NumFault → ℕ
params_or_none (Ok n) = min n (2 ^ 32 - 1)
params_or_none (Err e) = 0

unfoldable pub params_of : List ℕ → ℕ
params_of bytes = params_or_none (params_in bytes)

-- an Obj is read by the code in its Name and by the number of parameters in its ObjDict
abbrev pub object_shape : List NameEl → List (List ℕ) → ℕ → Shape
object_shape names dictionaries k = record { code = one.code_of (get_or names k no_name).kind; params = params_of (get_or dictionaries k []); methods = 0 }

abbrev pub methods_in : ObjEl → ℕ
methods_in (object_.Defined p ps t ms) = length ms
methods_in o = 0

-- and an ObjExt by the number of methods of its Obj too
abbrev pub extension_shape : List NameEl → List (List ℕ) → List ObjEl → ℕ → Shape
extension_shape names dictionaries objects k = record {
  code = one.code_of (get_or names k no_name).kind;
  params = params_of (get_or dictionaries k []);
  methods = min (methods_in (get_or objects k object_.Stub)) (2 ^ 32 - 1);
}

-- ---- the elements' grammars

-- each of so many elements, from a number on
abbrev pub AllFrom : {A : Type 0} → (ℕ → A → Type 0) → ℕ → List A → Type 0
AllFrom P k [] = Unit {0}
AllFrom P k (x ∷ xs) = P k x × AllFrom P (suc k) xs

-- As many elements as there have to be, and each is in its grammar over the numbers of elements and the Strings of the
-- whole.
pub record IsFile (parts : Parts) (x : File) : Type 0 where
  pub as_many : (length x.objects ≡ length x.names) × (length x.extensions ≡ length x.names) × (length x.dictionaries ≡ length x.names)
  pub public : InGrammar root.public_root (context 0 plain parts) x.public
  pub private : InGrammar root.private_root (context 1 plain parts) x.private
  pub bases : AllFrom (λ k a. InGrammar one.posbase (context k plain parts) a) 0 x.bases
  pub packages : AllFrom (λ k a. InGrammar one.pkg (context k plain parts) a) 0 x.packages
  pub names : AllFrom (λ k a. InGrammar one.name (context k plain parts) a) 0 x.names
  pub types : AllFrom (λ k a. InGrammar type_el (context k plain parts) a) 0 x.types
  pub objects : AllFrom (λ k a. InGrammar object (context k (object_shape x.names (section ObjDict parts) k) parts) a) 0 x.objects
  pub extensions : AllFrom (λ k a. InGrammar extension (context k (extension_shape x.names (section ObjDict parts) x.objects k) parts) a) 0 x.extensions
  pub dictionaries : AllFrom (λ k a. InGrammar dictionary (context k plain parts) a) 0 x.dictionaries

-- the parts are the elements of a file
abbrev pub SpellsFile : Parts → File → Type 0
SpellsFile parts x = (parts ≡ spelled x) × IsFile parts x

-- ---- reading a file from the left: by section, number and offset

abbrev pub bad : ℕ → ℕ → ℕ → Cause → BadFile
bad section element offset cause = record { section = section; element = element; offset = offset; cause = cause }

abbrev pub and_others : {A : Type 0} → ℕ → ℕ → Result A Fault → Result (List A) BadFile → Result (List A) BadFile
and_others section k (Ok x) (Ok xs) = Ok (x ∷ xs)
and_others section k (Ok x) (Err e) = Err e
and_others section k (Err e) others = Err (bad section k e.offset e.cause)

-- The elements of a section from a number on, or the first that fails, with its fault.
abbrev pub elements_from : {A : Type 0} → Format A → ℕ → (ℕ → Context) → ℕ → List (List ℕ) → Result (List A) BadFile
elements_from f section c k [] = Ok []
elements_from f section c k (b ∷ bs) = and_others section k (element_in f (c k) b) (elements_from f section c (suc k) bs)

-- all elements of a section, each by its shape
abbrev pub section_in : {A : Type 0} → Format A → Section → (ℕ → Shape) → Parts → Result (List A) BadFile
section_in f s shape parts = elements_from f (number_of s) (λ k. context k (shape k) parts) 0 (section s parts)

abbrev pub any_shape : ℕ → Shape
any_shape k = plain

-- Two roots; and the four sections of declarations have one length.
abbrev pub counts_in : Parts → Result (Unit {0}) BadFile
counts_in parts =
    if nat_eq (length (section Meta parts)) 2
    then (if nat_eq (length (section Obj parts)) (length (section Name parts))
    && (nat_eq (length (section ObjExt parts)) (length (section Name parts)) && nat_eq (length (section ObjDict parts)) (length (section Name parts)))
    then Ok tt
    else Err (bad 6 0 0 WrongCount))
    else Err (bad 1 0 0 WrongCount)

abbrev pub one_placed : {A : Type 0} → ℕ → ℕ → Result A Fault → Result A BadFile
one_placed section k (Ok x) = Ok x
one_placed section k (Err e) = Err (bad section k e.offset e.cause)

-- a root, by its number
abbrev pub root_in : {A : Type 0} → Format A → ℕ → Parts → Result A BadFile
root_in f k parts = one_placed 1 k (element_in f (context k plain parts) (get_or (section Meta parts) k []))

-- No Body is in the grammar so far: the first that there is is refused.
abbrev pub bodies_in : Parts → Result (Unit {0}) BadFile
bodies_in parts = if nat_eq (length (section Body parts)) 0 then Ok tt else Err (bad 9 0 0 BadCode)

-- The file, or the first element that fails.
unfoldable pub file_in : Parts → Result File BadFile
file_in parts = do
  counted ← counts_in parts
  public ← root_in root.public_root 0 parts
  private ← root_in root.private_root 1 parts
  bases ← section_in one.posbase PosBase any_shape parts
  packages ← section_in one.pkg Pkg any_shape parts
  names ← section_in one.name Name any_shape parts
  types ← section_in type_el Types any_shape parts
  objects ← section_in object Obj (object_shape names (section ObjDict parts)) parts
  extensions ← section_in extension ObjExt (extension_shape names (section ObjDict parts) objects) parts
  dictionaries ← section_in dictionary ObjDict any_shape parts
  bodies ← bodies_in parts
  Ok (record {
    texts = section Str parts;
    public = public;
    private = private;
    bases = bases;
    packages = packages;
    names = names;
    types = types;
    objects = objects;
    extensions = extensions;
    dictionaries = dictionaries;
  })
