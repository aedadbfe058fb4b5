-- What a file stands for: package names, and declarations with types as plain trees. This project's own.
use Rattle.std.specs.Prelude.{ℕ, zero, suc, List, [], ◌∷◌, ◌++◌, map, get_or, nat_eq, if◌then◌else◌, Bool, not, bytes_eq, codes, Option, Some, None, pos, negsuc, ℤ}
use Rattle.std.specs.List.{filter}
use Rattle.ui_base.specs.declared.name.Name.{Name}
use Rattle.ui_base.specs.declared.value.Pos.{Pos}
use Rattle.ui_base.specs.declared.value.Value.{Value}
use Rattle.ui_base.specs.declared.value.Value.TheVariants.{Whole, Str, Truth}
use Rattle.ui_base.specs.declared.kind.Basic.{Basic}
use Rattle.ui_base.specs.declared.kind.Basic.TheVariants as kind
use Rattle.ui_strpos.specs.declared.pkg.PkgEl.{PkgEl}
use Rattle.ui_eobj.specs.declared.object.PosEl.{PosEl}
use Rattle.ui_eobj.specs.declared.root.BelowEl.{BelowEl}
use Rattle.ui_eobj.specs.Values.{magnitude}
use Rattle.ui_etype.specs.declared.uses.TypeUse.{TypeUse}
use Rattle.ui_etype.specs.declared.uses.TypeUse.TheVariants as used
use Rattle.ui_etype.specs.declared.types.TypeEl.{TypeEl}
use Rattle.ui_etype.specs.declared.types.TypeEl.TheVariants as type_
use Rattle.ui_edecl.specs.declared.value.ValueEl.{ValueEl}
use Rattle.ui_edecl.specs.declared.value.ValueEl.TheVariants as value
use Rattle.ui_edecl.specs.declared.method.DeclaredMethodEl.{DeclaredMethodEl}
use Rattle.ui_edecl.specs.declared.object.ObjEl.{ObjEl}
use Rattle.ui_edecl.specs.declared.object.ObjEl.TheVariants as object
use Rattle.ui_types.specs.Ty.{Ty, Tys, basic, named, pointer, slice, array, map_of, func, struct, iface, union, param, tys}
use Rattle.ui_types.specs.Decls.{DeclTree, DeclTrees, MethodTree, Packages, alias, constant, variable, function, defined}
use Rattle.ui_exports.specs.Linked.{Below}
use Rattle.ui_file.specs.Words.{Words, words, text_at, nameless, selected, listed_of}
use Rattle.ui_file.specs.declared.file.File.{File}

-- the kinds by their codes
abbrev pub basic_of : ℕ → Basic
basic_of k =
    if nat_eq k 1 then kind.Bool else if nat_eq k 2 then kind.Int else if nat_eq k 3 then
    kind.Int8 else if nat_eq k 4 then kind.Int16
    else if nat_eq k 5 then kind.Int32 else if nat_eq k 6 then kind.Int64 else if nat_eq k 7 then
    kind.Uint else if nat_eq k 8 then kind.Uint8
    else if nat_eq k 9 then kind.Uint16 else if nat_eq k 10 then kind.Uint32 else if nat_eq k 11
    then kind.Uint64 else if nat_eq k 17 then kind.String
    else if nat_eq k 19 then kind.UntypedBool else if nat_eq k 20 then kind.UntypedInt else if
    nat_eq k 21 then kind.UntypedRune
    else if nat_eq k 24 then kind.UntypedString else kind.UntypedNil

abbrev pub no_package : PkgEl
no_package = record { path = 0; name = 0 }

-- ---- types, each by those of smaller number

-- derived has the derived types of the object around
abbrev pub use_tree : List Ty → List Ty → TypeUse → Ty
use_tree derived done (used.Type k) = get_or done k (param 0)
use_tree derived done (used.Derived d) = get_or derived d (param 0)

abbrev pub uses_tree : List Ty → List Ty → List TypeUse → Tys
uses_tree derived done us = tys (map (use_tree derived done) us)

abbrev pub type_tree : Words → List Ty → List Ty → TypeEl → Ty
type_tree w derived done (type_.Basic k) = basic (basic_of k)
type_tree w derived done (type_.Named o us) = named (get_or w.names o nameless)
    (uses_tree derived done us)
type_tree w derived done (type_.Pointer u) = pointer (use_tree derived done u)
type_tree w derived done (type_.Slice u) = slice (use_tree derived done u)
type_tree w derived done (type_.Array n u) = array n (use_tree derived done u)
type_tree w derived done (type_.Map k u) = map_of (use_tree derived done k)
    (use_tree derived done u)
type_tree w derived done (type_.Signature ps rs) = func (uses_tree derived done ps)
    (uses_tree derived done rs)
type_tree w derived done (type_.Struct fs) = struct (map (λ f. selected w f.sel) fs)
    (tys (map (λ f. use_tree derived done f.ty) fs))
type_tree w derived done (type_.Interface ms c us) = iface (map (λ m. selected w m.sel) ms)
    (tys (map (λ m. use_tree derived done m.sig) ms)) c (uses_tree derived done us)
type_tree w derived done (type_.Union ts) = union (map (λ t. t.tilde) ts)
    (tys (map (λ t. use_tree derived done t.ty) ts))
type_tree w derived done (type_.TypeParam k) = param k

-- the trees of Types, where those before them are done
unfoldable pub trees_from : Words → List Ty → List TypeEl → List Ty
trees_from w done [] = done
trees_from w done (e ∷ es) = trees_from w (done ++ type_tree w [] done e ∷ []) es

abbrev pub trees : File → List Ty
trees x = trees_from (words x) [] x.types

-- ---- declarations

abbrev pub place_of : Words → PosEl → Pos
place_of w p = record { file = text_at w.files p.base; line = p.line; col = p.column }

abbrev pub negated : ℕ → ℤ
negated zero = pos 0
negated (suc n) = negsuc n

abbrev pub whole_of : Bool → ℕ → ℤ
whole_of negative n = if negative then negated n else pos n

abbrev pub value_tree : Words → ValueEl → Value
value_tree w (value.Bool b) = Truth b
value_tree w (value.Text k) = Str (text_at w.texts k)
value_tree w (value.Int64 z) = Whole z
value_tree w (value.Big k negative) = Whole (whole_of negative (magnitude (text_at w.texts k)))

abbrev pub method_tree : Words → List Ty → DeclaredMethodEl → MethodTree
method_tree w ts m = record {
  name = selected w m.sel;
  pos = place_of w m.pos;
  pointer =
      m.pointer;
  sig = use_tree [] ts m.sig;
}

-- What an Obj declares, over the trees of all Types; nothing for a stub. No declaration has type parameters so far.
abbrev pub declared : Words → List Ty → ObjEl → Option DeclTree
declared w ts (object.Alias p u) = Some
    (record { pos = place_of w p; face = alias (use_tree [] ts u) })
declared w ts (object.Const p u v) = Some
    (record { pos = place_of w p; face = constant (use_tree [] ts u) (value_tree w v) })
declared w ts (object.Defined p ps u ms) = Some
    (record {
      pos = place_of w p;
      face = defined [] (use_tree [] ts u)
          (map (method_tree w ts) ms);
    })
declared w ts (object.Func p ps u) = Some
    (record { pos = place_of w p; face = function [] (use_tree [] ts u) })
declared w ts (object.Var p u) = Some
    (record { pos = place_of w p; face = variable (use_tree [] ts u) })
declared w ts object.Stub = None

abbrev pub with_decl : Name → Option DeclTree → DeclTrees → DeclTrees
with_decl n None ds = ds
with_decl n (Some d) ds = (n, d) ∷ ds

-- names and their declarations, side by side
abbrev pub paired : Words → List Ty → List Name → List ObjEl → DeclTrees
paired w ts [] os = []
paired w ts (n ∷ ns) [] = []
paired w ts (n ∷ ns) (o ∷ os) = with_decl n (declared w ts o) (paired w ts ns os)

abbrev pub decls_of : File → DeclTrees
decls_of x = paired (words x) (trees x) (words x).names x.objects

-- ---- the record

abbrev pub below_of : List (List ℕ) → BelowEl → Below
below_of texts b = record {
  path = text_at texts b.path;
  print = text_at texts b.print;
  direct =
      b.direct;
}

-- Declarations and package names count as maps (find_decl, find_package): in a file no name and no path stands twice.
pub record Record : Type 0 where
  pub path : List ℕ
  pub name : List ℕ
  pub packages : Packages
  pub decls : DeclTrees
  -- the public root
  pub listed : List Name
  -- the private root
  pub below : List Below

-- the names of packages by their paths, without builtin
abbrev pub packages_of : File → Packages
packages_of x = filter (λ p. not (bytes_eq p.0 (codes "builtin")))
    (map (λ p. (text_at x.texts p.path, text_at x.texts p.name)) x.packages)

abbrev pub below_list : File → List Below
below_list x = map (below_of x.texts) x.private.below

unfoldable pub record_of : File → Record
record_of x = record {
  path = text_at (words x).paths x.public.pkg;
  name = text_at x.texts (get_or x.packages x.public.pkg no_package).name;
  packages = packages_of x;
  decls = decls_of x;
  listed = listed_of x;
  below = below_list x;
}
