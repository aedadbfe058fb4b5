-- The weight of declarations: how much a file of them holds at most. This project's own measure.
use Rattle.std.specs.Prelude.{ℕ, ◌+◌, ◌-◌, ◌^◌, min, List, length}
use Rattle.std.specs.List.{sum_by}
use Rattle.ui_base.specs.declared.name.Name.{Name}
use Rattle.ui_base.specs.declared.value.Value.{Value}
use Rattle.ui_base.specs.declared.value.Value.TheVariants.{Whole, Str, Truth}
use Rattle.ui_types.specs.Ty.{Ty, Tys, basic, named, pointer, slice, array, map_of, func, struct, iface, union, param, no_types, types, size}
use Rattle.ui_types.specs.Decls.{TParamTree, MethodTree, FaceTree, DeclTree, DeclTrees, alias, constant, variable, function, defined}

-- the bytes of a name: those of its package's path, and its own
abbrev pub name_bytes : Name → ℕ
name_bytes n = length n.path + length n.name

abbrev pub names_bytes : List Name → ℕ
names_bytes ns = sum_by name_bytes ns

-- the bytes of the names in a type tree, each at each place where it stands
abbrev mutual
  pub texts : Ty → ℕ
  texts (basic b) = 0
  texts (named n args) = name_bytes n + texts_all args
  texts (pointer t) = texts t
  texts (slice t) = texts t
  texts (array len t) = texts t
  texts (map_of k t) = texts k + texts t
  texts (func ps rs) = texts_all ps + texts_all rs
  texts (struct ns ts) = names_bytes ns + texts_all ts
  texts (iface ns ts c us) = names_bytes ns + (texts_all ts + texts_all us)
  texts (union ms ts) = texts_all ts
  texts (param k) = 0

  pub texts_all : Tys → ℕ
  texts_all no_types = 0
  texts_all (types t ts) = texts t + texts_all ts

-- the nodes of a type tree, and the bytes of its names
abbrev pub type_weight : Ty → ℕ
type_weight t = size t + texts t

-- a constant's value has the bytes of its text
abbrev pub value_weight : Value → ℕ
value_weight (Whole n) = 0
value_weight (Str s) = length s
value_weight (Truth b) = 0

abbrev pub param_weight : TParamTree → ℕ
param_weight p = length p.name + type_weight p.bound

abbrev pub params_weight : List TParamTree → ℕ
params_weight ps = sum_by param_weight ps

abbrev pub method_weight : MethodTree → ℕ
method_weight m = name_bytes m.name + (length m.pos.file + type_weight m.sig)

abbrev pub methods_weight : List MethodTree → ℕ
methods_weight ms = sum_by method_weight ms

abbrev pub face_weight : FaceTree → ℕ
face_weight (alias t) = type_weight t
face_weight (constant t v) = type_weight t + value_weight v
face_weight (variable t) = type_weight t
face_weight (function ps t) = params_weight ps + type_weight t
face_weight (defined ps t ms) = params_weight ps + (type_weight t + methods_weight ms)

-- the name of the declaration, the file of its position, and what it is declared as
abbrev pub decl_weight : Name × DeclTree → ℕ
decl_weight d = name_bytes d.0 + (length d.1.pos.file + face_weight d.1.face)

abbrev pub weight : DeclTrees → ℕ
weight ds = sum_by decl_weight ds

-- what is counted, up to the largest number of its type
abbrev pub counted : ℕ → ℕ
counted n = min n (2 ^ 64 - 1)
