-- Trees as values of a model: a code that tells any two trees apart.
use Rattle.std.specs.Prelude.{◌≡◌, ℕ, Bool, true, false, nat_eq, List, refl}
use Rattle.std.specs.Coded.{Coded, coded_ℕ, coded_bool, coded_list, coded×, code_by}
use Rattle.std.proofs.Common.{ap, sym, ◌∙◌, true≢false, eq-eqb}
use base.Stored.{Gv, gnil, gnum, gcons, num}
use Rattle.ui_base.specs.declared.name.Name.{Name}
use Rattle.ui_base.specs.declared.kind.Basic.{Basic}
use Rattle.ui_base.specs.declared.kind.Basic.TheVariants.{Bool as BoolKind, Int, Int8, Int16, Int32, Int64, Uint, Uint8, Uint16, Uint32, Uint64, String, UntypedBool, UntypedInt, UntypedRune, UntypedString, UntypedNil}
use Rattle.ui_types.specs.Ty.{Ty, Tys, basic, named, pointer, slice, array, map_of, func, struct, iface, union, param, no_types, types}

-- unequal numbers by their test
differ : (m n : ℕ) → nat_eq m n ≡ false → m ≡ n → ⊥
differ m n unequal e = true≢false (sym (eq-eqb m n e) ∙ unequal)

abbrev basic_number : Basic → ℕ
basic_number BoolKind = 0
basic_number Int = 1
basic_number Int8 = 2
basic_number Int16 = 3
basic_number Int32 = 4
basic_number Int64 = 5
basic_number Uint = 6
basic_number Uint8 = 7
basic_number Uint16 = 8
basic_number Uint32 = 9
basic_number Uint64 = 10
basic_number String = 11
basic_number UntypedBool = 12
basic_number UntypedInt = 13
basic_number UntypedRune = 14
basic_number UntypedString = 15
basic_number UntypedNil = 16

basic_inj : (a b : Basic) → basic_number a ≡ basic_number b → a ≡ b
basic_inj BoolKind BoolKind e = refl
basic_inj Int Int e = refl
basic_inj Int8 Int8 e = refl
basic_inj Int16 Int16 e = refl
basic_inj Int32 Int32 e = refl
basic_inj Int64 Int64 e = refl
basic_inj Uint Uint e = refl
basic_inj Uint8 Uint8 e = refl
basic_inj Uint16 Uint16 e = refl
basic_inj Uint32 Uint32 e = refl
basic_inj Uint64 Uint64 e = refl
basic_inj String String e = refl
basic_inj UntypedBool UntypedBool e = refl
basic_inj UntypedInt UntypedInt e = refl
basic_inj UntypedRune UntypedRune e = refl
basic_inj UntypedString UntypedString e = refl
basic_inj UntypedNil UntypedNil e = refl
basic_inj a b e = absurd (differ (basic_number a) (basic_number b) refl e)

abbrev name_code : Coded Name
name_code = code_by (List ℕ × List ℕ) (coded× (coded_list coded_ℕ) (coded_list coded_ℕ)) (λ n. (n.path, n.name)) (λ p. record { path = p.0; name = p.1 }) (λ _. refl)

abbrev names_code : Coded (List Name)
names_code = coded_list name_code

abbrev marks_code : Coded (List Bool)
marks_code = coded_list coded_bool

-- the parts of a code
abbrev left : Gv → Gv
left gnil = gnil
left (gnum n) = gnil
left (gcons a b) = a

abbrev right : Gv → Gv
right gnil = gnil
right (gnum n) = gnil
right (gcons a b) = b

abbrev mutual
  code : Ty → Gv
  code (basic b) = gcons (gnum 0) (gnum (basic_number b))
  code (named n ts) = gcons (gnum 1) (gcons (name_code.code n) (codes ts))
  code (pointer t) = gcons (gnum 2) (code t)
  code (slice t) = gcons (gnum 3) (code t)
  code (array len t) = gcons (gnum 4) (gcons (gnum len) (code t))
  code (map_of k t) = gcons (gnum 5) (gcons (code k) (code t))
  code (func ps rs) = gcons (gnum 6) (gcons (codes ps) (codes rs))
  code (struct ns ts) = gcons (gnum 7) (gcons (names_code.code ns) (codes ts))
  code (iface ns ts c us) = gcons (gnum 8) (gcons (gcons (names_code.code ns) (codes ts)) (gcons (coded_bool.code c) (codes us)))
  code (union ms ts) = gcons (gnum 9) (gcons (marks_code.code ms) (codes ts))
  code (param k) = gcons (gnum 10) (gnum k)

  codes : Tys → Gv
  codes no_types = gnum 0
  codes (types t ts) = gcons (code t) (codes ts)

-- the kind of node that a code is of
abbrev tag : Gv → ℕ
tag g = num (left g)

abbrev is_pair : Gv → Bool
is_pair gnil = false
is_pair (gnum n) = false
is_pair (gcons a b) = true

IsPair-no : {a b : Gv} {n : ℕ} → gcons a b ≡ gnum n → ⊥
IsPair-no e = true≢false (ap is_pair e)

mutual
  pub code_inj : (t u : Ty) → code t ≡ code u → t ≡ u
  code_inj (basic a) (basic b) e = ap basic (basic_inj a b (ap (λ g. num (right g)) e))
  code_inj (named m ts) (named n us) e =
      let p : m ≡ n = name_code.inj m n (ap (λ g. left (right g)) e) in
      let q : ts ≡ us = codes_inj ts us (ap (λ g. right (right g)) e) in
      λ i. named (p i) (q i)
  code_inj (pointer t) (pointer u) e = ap pointer (code_inj t u (ap right e))
  code_inj (slice t) (slice u) e = ap slice (code_inj t u (ap right e))
  code_inj (array m t) (array n u) e =
      let p : m ≡ n = ap (λ g. num (left (right g))) e in
      let q : t ≡ u = code_inj t u (ap (λ g. right (right g)) e) in
      λ i. array (p i) (q i)
  code_inj (map_of j t) (map_of k u) e =
      let p : j ≡ k = code_inj j k (ap (λ g. left (right g)) e) in
      let q : t ≡ u = code_inj t u (ap (λ g. right (right g)) e) in
      λ i. map_of (p i) (q i)
  code_inj (func ps rs) (func qs ss) e =
      let p : ps ≡ qs = codes_inj ps qs (ap (λ g. left (right g)) e) in
      let q : rs ≡ ss = codes_inj rs ss (ap (λ g. right (right g)) e) in
      λ i. func (p i) (q i)
  code_inj (struct ms ts) (struct ns us) e =
      let p : ms ≡ ns = names_code.inj ms ns (ap (λ g. left (right g)) e) in
      let q : ts ≡ us = codes_inj ts us (ap (λ g. right (right g)) e) in
      λ i. struct (p i) (q i)
  code_inj (iface ms ts c vs) (iface ns us d ws) e =
      let p : ms ≡ ns = names_code.inj ms ns (ap (λ g. left (left (right g))) e) in
      let q : ts ≡ us = codes_inj ts us (ap (λ g. right (left (right g))) e) in
      let r : c ≡ d = coded_bool.inj c d (ap (λ g. left (right (right g))) e) in
      let s : vs ≡ ws = codes_inj vs ws (ap (λ g. right (right (right g))) e) in
      λ i. iface (p i) (q i) (r i) (s i)
  code_inj (union ms ts) (union ns us) e =
      let p : ms ≡ ns = marks_code.inj ms ns (ap (λ g. left (right g)) e) in
      let q : ts ≡ us = codes_inj ts us (ap (λ g. right (right g)) e) in
      λ i. union (p i) (q i)
  code_inj (param j) (param k) e = ap param (ap (λ g. num (right g)) e)
  code_inj t u e = absurd (differ (tag (code t)) (tag (code u)) refl (ap tag e))

  pub codes_inj : (ts us : Tys) → codes ts ≡ codes us → ts ≡ us
  codes_inj no_types no_types e = refl
  codes_inj (types t ts) (types u us) e =
      let p : t ≡ u = code_inj t u (ap left e) in
      let q : ts ≡ us = codes_inj ts us (ap right e) in
      λ i. types (p i) (q i)
  codes_inj no_types (types u us) e = absurd (IsPair-no (sym e))
  codes_inj (types t ts) no_types e = absurd (IsPair-no e)

abbrev pub ty_code : Coded Ty
ty_code = record { code = code; inj = code_inj }
