-- The test for identity of types is identity of their trees.
use Rattle.std.specs.Prelude.{◌≡◌, ◌↔◌, ℕ, Bool, true, false, ◌&&◌, nat_eq, List, [], ◌∷◌, refl, IsTrue, bytes_eq}
use Rattle.std.proofs.Common.{ap, sym, subst, true≢false, eq-eqb, rules}
use Rattle.std.proofs.lemmas.Bool.{eqb-true}
use Rattle.std.proofs.lemmas.Slice.Eq.{bytes_eq-Decides}
use Rattle.ui_base.specs.declared.name.Name.{Name}
use Rattle.ui_base.specs.declared.kind.Basic.{Basic}
use Rattle.ui_base.specs.declared.kind.Basic.TheVariants.{Bool as BoolKind, Int, Int8, Int16, Int32, Int64, Uint, Uint8, Uint16, Uint32, Uint64, String, UntypedBool, UntypedInt, UntypedRune, UntypedString, UntypedNil}
use Rattle.ui_types.specs.Ty.{Ty, Tys, basic, named, pointer, slice, array, map_of, func, struct, iface, union, param, no_types, types}
use Rattle.ui_types.specs.Decls.{name_eq}
use Rattle.ui_types.specs.Same.{kind_number, same_kind, same_names, same_mark, same_marks, same_type, same_types}

split : (a b : Bool) → (a && b) ≡ true → (a ≡ true) × (b ≡ true)
split true true e = (refl, refl)
split true false e = cc
split false b e = cc

both : (a b : Bool) → a ≡ true → b ≡ true → (a && b) ≡ true
both a b p q = rw (p, q) refl

bytes_sound : (a b : List ℕ) → bytes_eq a b ≡ true → a ≡ b
bytes_sound a b e = grind (rules, bytes_eq-Decides)

bytes_refl : (a : List ℕ) → bytes_eq a a ≡ true
bytes_refl a = grind (rules, bytes_eq-Decides)

name_sound : (m n : Name) → name_eq m n ≡ true → m ≡ n
name_sound m n e =
    let h = split (bytes_eq m.path n.path) (bytes_eq m.name n.name) e in
    let p : m.path ≡ n.path = bytes_sound m.path n.path h.0 in
    let q : m.name ≡ n.name = bytes_sound m.name n.name h.1 in
    λ i. record { path = p i; name = q i }

name_refl : (n : Name) → name_eq n n ≡ true
name_refl n = both (bytes_eq n.path n.path) (bytes_eq n.name n.name) (bytes_refl n.path) (bytes_refl n.name)

kind_sound : (a b : Basic) → kind_number a ≡ kind_number b → a ≡ b
kind_sound BoolKind BoolKind e = refl
kind_sound Int Int e = refl
kind_sound Int8 Int8 e = refl
kind_sound Int16 Int16 e = refl
kind_sound Int32 Int32 e = refl
kind_sound Int64 Int64 e = refl
kind_sound Uint Uint e = refl
kind_sound Uint8 Uint8 e = refl
kind_sound Uint16 Uint16 e = refl
kind_sound Uint32 Uint32 e = refl
kind_sound Uint64 Uint64 e = refl
kind_sound String String e = refl
kind_sound UntypedBool UntypedBool e = refl
kind_sound UntypedInt UntypedInt e = refl
kind_sound UntypedRune UntypedRune e = refl
kind_sound UntypedString UntypedString e = refl
kind_sound UntypedNil UntypedNil e = refl
kind_sound a b e = cc

names_sound : (ms ns : List Name) → same_names ms ns ≡ true → ms ≡ ns
names_sound [] [] e = refl
names_sound (m ∷ ms) (n ∷ ns) e =
    let h = split (name_eq m n) (same_names ms ns) e in
    λ i. name_sound m n h.0 i ∷ names_sound ms ns h.1 i
names_sound [] (n ∷ ns) e = cc
names_sound (m ∷ ms) [] e = cc

names_refl : (ns : List Name) → same_names ns ns ≡ true
names_refl [] = refl
names_refl (n ∷ ns) = both (name_eq n n) (same_names ns ns) (name_refl n) (names_refl ns)

mark_sound : (a b : Bool) → same_mark a b ≡ true → a ≡ b
mark_sound true true e = refl
mark_sound false false e = refl
mark_sound true false e = cc
mark_sound false true e = cc

mark_refl : (a : Bool) → same_mark a a ≡ true
mark_refl true = refl
mark_refl false = refl

marks_sound : (ms ns : List Bool) → same_marks ms ns ≡ true → ms ≡ ns
marks_sound [] [] e = refl
marks_sound (m ∷ ms) (n ∷ ns) e =
    let h = split (same_mark m n) (same_marks ms ns) e in
    λ i. mark_sound m n h.0 i ∷ marks_sound ms ns h.1 i
marks_sound [] (n ∷ ns) e = cc
marks_sound (m ∷ ms) [] e = cc

marks_refl : (ns : List Bool) → same_marks ns ns ≡ true
marks_refl [] = refl
marks_refl (n ∷ ns) = both (same_mark n n) (same_marks ns ns) (mark_refl n) (marks_refl ns)

mutual
  unfolding same_type same_types

  pub type_sound : (t u : Ty) → same_type t u ≡ true → t ≡ u
  type_sound (basic a) (basic b) e = ap basic (kind_sound a b (eqb-true (kind_number a) (kind_number b) e))
  type_sound (named m ts) (named n us) e =
      let h = split (name_eq m n) (same_types ts us) e in
      λ i. named (name_sound m n h.0 i) (types_sound ts us h.1 i)
  type_sound (pointer t) (pointer u) e = ap pointer (type_sound t u e)
  type_sound (slice t) (slice u) e = ap slice (type_sound t u e)
  type_sound (array m t) (array n u) e =
      let h = split (nat_eq m n) (same_type t u) e in
      λ i. array (eqb-true m n h.0 i) (type_sound t u h.1 i)
  type_sound (map_of k t) (map_of l u) e =
      let h = split (same_type k l) (same_type t u) e in
      λ i. map_of (type_sound k l h.0 i) (type_sound t u h.1 i)
  type_sound (func ps rs) (func qs ss) e =
      let h = split (same_types ps qs) (same_types rs ss) e in
      λ i. func (types_sound ps qs h.0 i) (types_sound rs ss h.1 i)
  type_sound (struct ms ts) (struct ns us) e =
      let h = split (same_names ms ns) (same_types ts us) e in
      λ i. struct (names_sound ms ns h.0 i) (types_sound ts us h.1 i)
  type_sound (iface ms ts c vs) (iface ns us d ws) e =
      let h = split (same_names ms ns) (same_types ts us && (same_mark c d && same_types vs ws)) e in
      let k = split (same_types ts us) (same_mark c d && same_types vs ws) h.1 in
      let l = split (same_mark c d) (same_types vs ws) k.1 in
      λ i. iface (names_sound ms ns h.0 i) (types_sound ts us k.0 i) (mark_sound c d l.0 i) (types_sound vs ws l.1 i)
  type_sound (union ms ts) (union ns us) e =
      let h = split (same_marks ms ns) (same_types ts us) e in
      λ i. union (marks_sound ms ns h.0 i) (types_sound ts us h.1 i)
  type_sound (param j) (param k) e = ap param (eqb-true j k e)
  type_sound t u e = cc

  pub types_sound : (ts us : Tys) → same_types ts us ≡ true → ts ≡ us
  types_sound no_types no_types e = refl
  types_sound (types t ts) (types u us) e =
      let h = split (same_type t u) (same_types ts us) e in
      λ i. types (type_sound t u h.0 i) (types_sound ts us h.1 i)
  types_sound no_types (types u us) e = cc
  types_sound (types t ts) no_types e = cc

mutual
  unfolding same_type same_types

  pub type_refl : (t : Ty) → same_type t t ≡ true
  type_refl (basic a) = eq-eqb (kind_number a) (kind_number a) refl
  type_refl (named n ts) = both (name_eq n n) (same_types ts ts) (name_refl n) (types_refl ts)
  type_refl (pointer t) = type_refl t
  type_refl (slice t) = type_refl t
  type_refl (array n t) = both (nat_eq n n) (same_type t t) (eq-eqb n n refl) (type_refl t)
  type_refl (map_of k t) = both (same_type k k) (same_type t t) (type_refl k) (type_refl t)
  type_refl (func ps rs) = both (same_types ps ps) (same_types rs rs) (types_refl ps) (types_refl rs)
  type_refl (struct ns ts) = both (same_names ns ns) (same_types ts ts) (names_refl ns) (types_refl ts)
  type_refl (iface ns ts c us) =
      both (same_names ns ns) (same_types ts ts && (same_mark c c && same_types us us)) (names_refl ns) (both (same_types ts ts) (same_mark c c && same_types us us) (types_refl ts) (both (same_mark c c) (same_types us us) (mark_refl c) (types_refl us)))
  type_refl (union ms ts) = both (same_marks ms ms) (same_types ts ts) (marks_refl ms) (types_refl ts)
  type_refl (param k) = eq-eqb k k refl

  pub types_refl : (ts : Tys) → same_types ts ts ≡ true
  types_refl no_types = refl
  types_refl (types t ts) = both (same_type t t) (same_types ts ts) (type_refl t) (types_refl ts)

-- a test that tells whether two trees are equal is this test
pub same_type_is : (b : Bool) (t u : Ty) → (IsTrue b ↔ (t ≡ u)) → b ≡ same_type t u
same_type_is true t u h = sym (subst (λ (v : Ty). same_type t v ≡ true) (h.0 (search rules)) (type_refl t))
same_type_is false t u h = decided (same_type t u) (λ e. h.1 (type_sound t u e))
  where
    decided : (c : Bool) → (c ≡ true → IsTrue false) → false ≡ c
    decided true f = absurd (true≢false (sym (search (rules, f))))
    decided false f = refl
