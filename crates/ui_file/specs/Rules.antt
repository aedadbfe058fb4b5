-- The tests of a whole file that no element can make alone, in their order, and what each asks of an element. This
-- project's own. So far no dictionary has entries and no file has a body: the rules on these are left out.
use Rattle.std.specs.Prelude.{◌≡◌, ◌⊎◌, ℕ, zero, suc, ◌+◌, ◌<◌, max, List, [], ◌∷◌, ◌++◌, map, length, get_or, bytes_eq, codes, nat_le, Bool, true, false, not, ◌&&◌, ◌||◌, if◌then◌else◌}
use Rattle.std.specs.List.{list_all}
use Rattle.ui_frame.specs.Sections.{number_of}
use Rattle.ui_frame.specs.declared.section.Section.{Section}
use Rattle.ui_frame.specs.declared.section.Section.TheVariants.{Str, Meta, PosBase, Pkg, Name, Types, Obj, ObjExt, ObjDict, Body}
use Rattle.ui_base.specs.declared.name.Name as name_
use Rattle.ui_strpos.specs.declared.target.Target.{Target}
use Rattle.ui_strpos.specs.declared.name.NameKind.{NameKind}
use Rattle.ui_strpos.specs.declared.name.NameKind.TheVariants.{Stub}
use Rattle.ui_strpos.specs.Items.{Item, target}
use Rattle.ui_strpos.specs.FirstUses.{targets}
use Rattle.ui_strpos.specs.Elements as one
use Rattle.ui_eobj.specs.Roots as root
use Rattle.ui_eobj.specs.Roots.{is_before}
use Rattle.ui_etype.specs.Types.{type_el}
use Rattle.ui_etype.specs.declared.uses.TypeUse.{TypeUse}
use Rattle.ui_etype.specs.declared.uses.TypeUse.TheVariants as used
use Rattle.ui_etype.specs.declared.method.MethodEl.{MethodEl}
use Rattle.ui_etype.specs.declared.types.TypeEl.{TypeEl}
use Rattle.ui_etype.specs.declared.types.TypeEl.TheVariants as type_
use Rattle.ui_edecl.specs.Objects.{object}
use Rattle.ui_edecl.specs.Extensions.{extension}
use Rattle.ui_edecl.specs.Dictionaries.{dictionary}
use Rattle.ui_edecl.specs.declared.method.DeclaredMethodEl.{DeclaredMethodEl}
use Rattle.ui_edecl.specs.declared.object.ObjEl.{ObjEl}
use Rattle.ui_edecl.specs.declared.object.ObjEl.TheVariants as object_
use Rattle.ui_file.specs.Files.{no_name}
use Rattle.ui_file.specs.Words.{Words, words, selected, nameless, listed_of, own_path}
use Rattle.ui_file.specs.declared.file.File.{File}
use Rattle.ui_file.specs.declared.extent.Extent.{Extent}
use Rattle.ui_file.specs.declared.kind.FileKind.{FileKind}
use Rattle.ui_file.specs.declared.kind.FileKind.TheVariants as kinds

-- in the order in which they are tested
pub data Rule : Type 0 where
  twice : Rule
  derived_order : Rule
  bad_index : Rule
  wrong_count : Rule
  named_under : Rule
  type_limit : Rule
  stub_left : Rule
  stray : Rule
  wrong_path : Rule

-- ---- uses

abbrev pub uses_at : {A : Type 0} → (A → List Item) → List A → ℕ → List Target
uses_at items [] k = []
uses_at items (x ∷ xs) zero = targets (items x)
uses_at items (x ∷ xs) (suc k) = uses_at items xs k

abbrev pub root_uses : File → ℕ → List Target
root_uses x zero = targets (root.public_root.items x.public)
root_uses x (suc k) = targets (root.private_root.items x.private)

-- what an element uses
abbrev pub uses_of : File → Section → ℕ → List Target
uses_of x Str k = []
uses_of x Meta k = root_uses x k
uses_of x PosBase k = uses_at one.posbase.items x.bases k
uses_of x Pkg k = uses_at one.pkg.items x.packages k
uses_of x Name k = uses_at one.name.items x.names k
uses_of x Types k = uses_at type_el.items x.types k
uses_of x Obj k = uses_at object.items x.objects k
uses_of x ObjExt k = uses_at extension.items x.extensions k
uses_of x ObjDict k = uses_at dictionary.items x.dictionaries k
uses_of x Body k = []

abbrev pub In : {X : Type 0} → List X → X → Type 0
In [] x = ⊥
In (y ∷ ys) x = (y ≡ x) ⊎ In ys x

-- Reached from the roots, through uses, and with an Obj the elements of the same number beside it.
pub data IsReached (x : File) : Section → ℕ → Type 0 where
  root_ : (k : ℕ) → k < 2 → IsReached x Meta k
  onward : {s : Section} {k : ℕ} (u : Section) (i : ℕ) → IsReached x s k → In (uses_of x s k) (target (number_of u) i) → IsReached x u i
  its_name : {k : ℕ} → IsReached x Obj k → IsReached x Name k
  its_extension : {k : ℕ} → IsReached x Obj k → IsReached x ObjExt k
  its_dictionary : {k : ℕ} → IsReached x Obj k → IsReached x ObjDict k

-- ---- no element is like one before it

abbrev pub IsNew : {X : Type 0} → List X → X → ℕ → Type 0
IsNew xs d k = (j : ℕ) → j < k → get_or xs j d ≡ get_or xs k d → ⊥

abbrev pub no_type : TypeEl
no_type = type_.Basic 0

abbrev pub KeepsTwice : File → Section → ℕ → Type 0
KeepsTwice x Str k = IsNew x.texts [] k
KeepsTwice x PosBase k = IsNew (words x).files [] k
KeepsTwice x Pkg k = IsNew (words x).paths [] k
KeepsTwice x Name k = IsNew (words x).names nameless k
KeepsTwice x Types k = IsNew x.types no_type k
KeepsTwice x s k = Unit {0}

-- ---- derived types: there are none

abbrev pub is_derived : TypeUse → Bool
is_derived (used.Type k) = false
is_derived (used.Derived d) = true

abbrev pub is_closed : TypeUse → Bool
is_closed u = not (is_derived u)

-- a Type without a derived use that is no type parameter
abbrev pub stands_alone : TypeEl → Bool
stands_alone (type_.Basic k) = true
stands_alone (type_.Named o us) = list_all is_closed us
stands_alone (type_.Pointer u) = is_closed u
stands_alone (type_.Slice u) = is_closed u
stands_alone (type_.Array n u) = is_closed u
stands_alone (type_.Map k u) = is_closed k && is_closed u
stands_alone (type_.Signature ps rs) = list_all is_closed ps && list_all is_closed rs
stands_alone (type_.Struct fs) = list_all (λ f. is_closed f.ty) fs
stands_alone (type_.Interface ms c us) = list_all (λ m. is_closed m.sig) ms && list_all is_closed us
stands_alone (type_.Union ts) = list_all (λ t. is_closed t.ty) ts
stands_alone (type_.TypeParam k) = false

abbrev pub KeepsDerived : File → Section → ℕ → Type 0
KeepsDerived x Types k = stands_alone (get_or x.types k no_type) ≡ true
KeepsDerived x s k = Unit {0}

-- an Obj uses no derived type, since its dictionary has none
abbrev pub uses_no_entry : ObjEl → Bool
uses_no_entry (object_.Alias p u) = is_closed u
uses_no_entry (object_.Const p u v) = is_closed u
uses_no_entry (object_.Defined p ps u ms) = is_closed u && list_all (λ m. is_closed m.sig) ms
uses_no_entry (object_.Func p ps u) = is_closed u
uses_no_entry (object_.Var p u) = is_closed u
uses_no_entry object_.Stub = true

abbrev pub KeepsIndex : File → Section → ℕ → Type 0
KeepsIndex x Obj k = uses_no_entry (get_or x.objects k object_.Stub) ≡ true
KeepsIndex x s k = Unit {0}

-- ---- numbers of arguments, and orders that rest on names and packages

-- by path and then by name
abbrev pub name_before : name_.Name → name_.Name → Bool
name_before a b = is_before a.path b.path || (bytes_eq a.path b.path && is_before a.name b.name)

-- each but the first stands so to the one before it
abbrev pub all_after : {X : Type 0} → (X → X → Bool) → X → List X → Bool
all_after p x [] = true
all_after p x (y ∷ ys) = p x y && all_after p y ys

abbrev pub all_pairs : {X : Type 0} → (X → X → Bool) → List X → Bool
all_pairs p [] = true
all_pairs p (x ∷ xs) = all_after p x xs

abbrev pub is_stub : NameKind → Bool
is_stub Stub = true
is_stub k = false

abbrev pub is_stub_at : File → ℕ → Bool
is_stub_at x o = is_stub (get_or x.names o no_name).kind

abbrev pub is_empty : {X : Type 0} → List X → Bool
is_empty [] = true
is_empty (x ∷ xs) = false

-- Methods of an interface ascend by path and then by name: of two neighbours that aren't exported it isn't known from the
-- element alone.
abbrev pub methods_in_order : Words → MethodEl → MethodEl → Bool
methods_in_order w a b = name_before (selected w a.sel) (selected w b.sel)

-- Methods of a defined type ascend by name and then by path.
abbrev pub sel_before : name_.Name → name_.Name → Bool
sel_before a b = is_before a.name b.name || (bytes_eq a.name b.name && is_before a.path b.path)

abbrev pub declared_in_order : Words → DeclaredMethodEl → DeclaredMethodEl → Bool
declared_in_order w a b = sel_before (selected w a.sel) (selected w b.sel)

-- a declared type has as many arguments as its declaration has parameters, which is none so far; a stub any number
abbrev pub type_counts : File → TypeEl → Bool
type_counts x (type_.Named o us) = is_stub_at x o || is_empty us
type_counts x (type_.Interface ms c us) = all_pairs (methods_in_order (words x)) ms
type_counts x t = true

abbrev pub object_counts : File → ObjEl → Bool
object_counts x (object_.Defined p ps u ms) = all_pairs (declared_in_order (words x)) ms
object_counts x o = true

abbrev pub KeepsCount : File → Section → ℕ → Type 0
KeepsCount x Meta k = all_pairs name_before (listed_of x) ≡ true
KeepsCount x Types k = type_counts x (get_or x.types k no_type) ≡ true
KeepsCount x Obj k = object_counts x (get_or x.objects k object_.Stub) ≡ true
KeepsCount x s k = Unit {0}

-- ---- underlying types, signatures and unions are such

abbrev pub used_type : List TypeEl → TypeUse → TypeEl
used_type ts (used.Type k) = get_or ts k no_type
used_type ts (used.Derived d) = no_type

abbrev pub is_under : TypeEl → Bool
is_under (type_.Named o us) = false
is_under (type_.TypeParam k) = false
is_under t = true

abbrev pub is_signature : TypeEl → Bool
is_signature (type_.Signature ps rs) = true
is_signature t = false

abbrev pub is_union : TypeEl → Bool
is_union (type_.Union ts) = true
is_union t = false

abbrev pub type_fits : List TypeEl → TypeEl → Bool
type_fits ts (type_.Interface ms c us) = list_all (λ m. is_signature (used_type ts m.sig)) ms && list_all (λ u. is_union (used_type ts u)) us
type_fits ts t = true

abbrev pub object_fits : List TypeEl → ObjEl → Bool
object_fits ts (object_.Defined p ps u ms) = is_under (used_type ts u) && list_all (λ m. is_signature (used_type ts m.sig)) ms
object_fits ts (object_.Func p ps u) = is_signature (used_type ts u)
object_fits ts o = true

abbrev pub KeepsUnder : File → Section → ℕ → Type 0
KeepsUnder x Types k = type_fits x.types (get_or x.types k no_type) ≡ true
KeepsUnder x Obj k = object_fits x.types (get_or x.objects k object_.Stub) ≡ true
KeepsUnder x s k = Unit {0}

-- ---- the limits of types

abbrev pub no_nodes : Extent
no_nodes = record { size = 0; depth = 0 }

-- the types that a Type is made of
abbrev pub parts_of : TypeEl → List TypeUse
parts_of (type_.Basic k) = []
parts_of (type_.Named o us) = us
parts_of (type_.Pointer u) = u ∷ []
parts_of (type_.Slice u) = u ∷ []
parts_of (type_.Array n u) = u ∷ []
parts_of (type_.Map k u) = k ∷ u ∷ []
parts_of (type_.Signature ps rs) = ps ++ rs
parts_of (type_.Struct fs) = map (λ f. f.ty) fs
parts_of (type_.Interface ms c us) = map (λ m. m.sig) ms ++ us
parts_of (type_.Union ts) = map (λ t. t.ty) ts
parts_of (type_.TypeParam k) = []

abbrev pub used_extent : List Extent → TypeUse → Extent
used_extent done (used.Type k) = get_or done k no_nodes
used_extent done (used.Derived d) = no_nodes

-- side by side
abbrev pub beside : Extent → Extent → Extent
beside a b = record { size = a.size + b.size; depth = max a.depth b.depth }

abbrev pub all_beside : List Extent → List TypeUse → Extent
all_beside done [] = no_nodes
all_beside done (u ∷ us) = beside (used_extent done u) (all_beside done us)

-- below one node
abbrev pub above : Extent → Extent
above e = record { size = 1 + e.size; depth = 1 + e.depth }

abbrev pub extent_of : List Extent → TypeEl → Extent
extent_of done e = above (all_beside done (parts_of e))

-- the extents of Types, each by those of smaller number
unfoldable pub extents_from : List Extent → List TypeEl → List Extent
extents_from done [] = done
extents_from done (e ∷ es) = extents_from (done ++ extent_of done e ∷ []) es

abbrev pub is_within : Extent → Bool
is_within e = nat_le e.size 65536 && nat_le e.depth 256

abbrev pub KeepsLimit : File → Section → ℕ → Type 0
KeepsLimit x Types k = is_within (get_or (extents_from [] x.types) k no_nodes) ≡ true
KeepsLimit x s k = Unit {0}

-- ---- stubs

-- In a linked file only names of builtin are stubs; in a unit file just the names of other packages.
abbrev pub kind_fits : FileKind → Bool → Bool → Bool → Bool
kind_fits kinds.Linked own builtin stub = not stub || builtin
kind_fits kinds.Unit own builtin stub = if stub then not own else own

-- in either kind the one name of builtin is the stub `error`
abbrev pub builtin_fits : List ℕ → Bool → Bool → Bool
builtin_fits name builtin stub = not builtin || (stub && bytes_eq name (codes "error"))

abbrev pub is_builtin : name_.Name → Bool
is_builtin n = bytes_eq n.path (codes "builtin")

abbrev pub stub_fits : FileKind → List ℕ → name_.Name → Bool → Bool
stub_fits kind own n stub = kind_fits kind (bytes_eq n.path own) (is_builtin n) stub && builtin_fits n.name (is_builtin n) stub

abbrev pub KeepsStub : FileKind → File → Section → ℕ → Type 0
KeepsStub kind x Name k = stub_fits kind (own_path x) (get_or (words x).names k nameless) (is_stub_at x k) ≡ true
KeepsStub kind x s k = Unit {0}

-- ---- the path

-- what is told at Meta 0
abbrev pub KeepsPath : List ℕ → File → Section → ℕ → Type 0
KeepsPath path x Meta zero = own_path x ≡ path
KeepsPath path x s k = Unit {0}

-- ---- all rules

abbrev pub Keeps : FileKind → List ℕ → File → Rule → Section → ℕ → Type 0
Keeps kind path x twice s k = KeepsTwice x s k
Keeps kind path x derived_order s k = KeepsDerived x s k
Keeps kind path x bad_index s k = KeepsIndex x s k
Keeps kind path x wrong_count s k = KeepsCount x s k
Keeps kind path x named_under s k = KeepsUnder x s k
Keeps kind path x type_limit s k = KeepsLimit x s k
Keeps kind path x stub_left s k = KeepsStub kind x s k
Keeps kind path x stray s k = IsReached x s k
Keeps kind path x wrong_path s k = KeepsPath path x s k

abbrev pub count_in : File → Section → ℕ
count_in x Str = length x.texts
count_in x Meta = 2
count_in x PosBase = length x.bases
count_in x Pkg = length x.packages
count_in x Name = length x.names
count_in x Types = length x.types
count_in x Obj = length x.objects
count_in x ObjExt = length x.extensions
count_in x ObjDict = length x.dictionaries
count_in x Body = 0
