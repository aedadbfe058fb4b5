-- A test for identity of types. Go specification, "Type identity".
use Rattle.std.specs.Prelude.{ℕ, Bool, true, false, ◌&&◌, nat_eq, List, [], ◌∷◌}
use Rattle.ui_base.specs.declared.name.Name.{Name}
use Rattle.ui_base.specs.declared.kind.Basic.{Basic}
use Rattle.ui_base.specs.declared.kind.Basic.TheVariants.{Bool as BoolKind, Int, Int8, Int16, Int32, Int64, Uint, Uint8, Uint16, Uint32, Uint64, String, UntypedBool, UntypedInt, UntypedRune, UntypedString, UntypedNil}
use Rattle.ui_types.specs.Ty.{Ty, Tys, basic, named, pointer, slice, array, map_of, func, struct, iface, union, param, no_types, types}
use Rattle.ui_types.specs.Decls.{name_eq}

abbrev pub kind_number : Basic → ℕ
kind_number BoolKind = 0
kind_number Int = 1
kind_number Int8 = 2
kind_number Int16 = 3
kind_number Int32 = 4
kind_number Int64 = 5
kind_number Uint = 6
kind_number Uint8 = 7
kind_number Uint16 = 8
kind_number Uint32 = 9
kind_number Uint64 = 10
kind_number String = 11
kind_number UntypedBool = 12
kind_number UntypedInt = 13
kind_number UntypedRune = 14
kind_number UntypedString = 15
kind_number UntypedNil = 16

abbrev pub same_kind : Basic → Basic → Bool
same_kind a b = nat_eq (kind_number a) (kind_number b)

abbrev pub same_names : List Name → List Name → Bool
same_names [] [] = true
same_names (m ∷ ms) (n ∷ ns) = name_eq m n && same_names ms ns
same_names _ _ = false

abbrev pub same_mark : Bool → Bool → Bool
same_mark true true = true
same_mark false false = true
same_mark _ _ = false

abbrev pub same_marks : List Bool → List Bool → Bool
same_marks [] [] = true
same_marks (m ∷ ms) (n ∷ ns) = same_mark m n && same_marks ms ns
same_marks _ _ = false

unfoldable mutual
  pub same_type : Ty → Ty → Bool
  same_type (basic a) (basic b) = same_kind a b
  same_type (named m ts) (named n us) = name_eq m n && same_types ts us
  same_type (pointer t) (pointer u) = same_type t u
  same_type (slice t) (slice u) = same_type t u
  same_type (array m t) (array n u) = nat_eq m n && same_type t u
  same_type (map_of k t) (map_of l u) = same_type k l && same_type t u
  same_type (func ps rs) (func qs ss) = same_types ps qs && same_types rs ss
  same_type (struct ms ts) (struct ns us) = same_names ms ns && same_types ts us
  same_type (iface ms ts c vs) (iface ns us d ws) = same_names ms ns && (same_types ts us && (same_mark c d && same_types vs ws))
  same_type (union ms ts) (union ns us) = same_marks ms ns && same_types ts us
  same_type (param j) (param k) = nat_eq j k
  same_type _ _ = false

  pub same_types : Tys → Tys → Bool
  same_types no_types no_types = true
  same_types (types t ts) (types u us) = same_type t u && same_types ts us
  same_types _ _ = false
