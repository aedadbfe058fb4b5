-- The formats of types are lawful.
use Rattle.std.proofs.Common.{◌≡◌, ℕ, Bool, true, false, Option, Some, None, refl, sym, ap}
use Rattle.std.specs.Prelude.{List, nat_eq}
use Rattle.ui_strpos.specs.Reading.{Context}
use Rattle.ui_strpos.specs.Elements.{any, name_use, text_passes}
use Rattle.ui_strpos.specs.Format.{Format, uint_field, truth_field, use_field, seq, choose, counted, counted_by, Lawful}
use Rattle.ui_strpos.specs.Laws.{uint_lawful, truth_lawful, use_lawful, seq_lawful, via_lawful, variant_lawful, tagged_lawful, either_lawful, option_lawful, counted_lawful, counted_by_lawful, times_lawful, no_lawful, case_only, variant_code}
use Rattle.ui_base.specs.Names.{is_name}
use Rattle.ui_strpos.specs.declared.fault.Cause.{Cause}
use Rattle.ui_eobj.specs.Values.{clear_flag}
use Rattle.ui_etype.specs.declared.uses.TypeUse.{TypeUse}
use Rattle.ui_etype.specs.declared.uses.TypeUse.TheVariants as used
use Rattle.ui_etype.specs.declared.field.FieldEl.{FieldEl}
use Rattle.ui_etype.specs.declared.method.MethodEl.{MethodEl}
use Rattle.ui_etype.specs.declared.term.TermEl.{TermEl}
use Rattle.ui_etype.specs.declared.types.TypeEl.{TypeEl}
use Rattle.ui_etype.specs.declared.types.TypeEl.TheVariants as type_
use Rattle.ui_etype.specs.Types.{smaller, is_derived, as_type, as_derived, plain_use, derived_use, type_use_by, type_use, is_hidden, sel_by, sel, next_method, after_sel, field_el, method_el, term_el, as_basic, as_named, as_pointer, as_slice, as_array, as_map, as_signature, as_struct, as_interface, as_union, as_param, object_use, terms, some_terms, type_cases, type_el, code_of, basic_kind, array_len, known_code}

type_forth : (v : TypeUse) (a : ℕ) → as_type v ≡ Some a → used.Type a ≡ v
type_forth (used.Type k) a e = cc
type_forth (used.Derived d) a e = absurd cc

derived_forth : (v : TypeUse) (a : ℕ) → as_derived v ≡ Some a → used.Derived a ≡ v
derived_forth (used.Type k) a e = absurd cc
derived_forth (used.Derived d) a e = cc

use_only : (test : Context → ℕ → Option Cause) (b : Bool) (c : Context) (v : TypeUse) → (choose b derived_use (plain_use test)).fits c v → is_derived v ≡ b
use_only test true c (used.Type k) h = absurd h
use_only test true c (used.Derived d) h = refl
use_only test false c (used.Type k) h = refl
use_only test false c (used.Derived d) h = absurd h

pub type_use_by_lawful : (test : Context → ℕ → Option Cause) → Lawful (type_use_by test)
type_use_by_lawful test =
    tagged_lawful (truth_field any) is_derived (λ b. choose b derived_use (plain_use test)) (truth_lawful any)
    (λ b. either_lawful b derived_use (plain_use test) (variant_lawful _ _ _ (uint_lawful any) (λ a. refl) derived_forth) (variant_lawful _ _ _ (use_lawful 5 test) (λ a. refl) type_forth))
    (use_only test)

pub type_use_lawful : Lawful type_use
type_use_lawful = type_use_by_lawful smaller

pub sel_by_lawful : (name : Format ℕ) → Lawful name → Lawful (sel_by name)
sel_by_lawful name l = via_lawful _ _ _ (option_lawful name is_hidden (use_field 3 any) l (use_lawful 3 any)) (λ v. refl) (λ c a h. refl)

pub sel_lawful : Lawful sel
sel_lawful = sel_by_lawful name_use (use_lawful 0 (text_passes is_name))

pub field_el_lawful : Lawful field_el
field_el_lawful = via_lawful _ _ _ (seq_lawful sel (λ _. type_use) sel_lawful (λ _. type_use_lawful)) (λ v. refl) (λ c a h. refl)

pub method_el_lawful : (before : Option MethodEl) → Lawful (method_el before)
method_el_lawful before =
    via_lawful _ _ _ (seq_lawful (after_sel before) (λ _. type_use) (sel_by_lawful (use_field 0 (next_method before)) (use_lawful 0 (next_method before))) (λ _. type_use_lawful)) (λ v. refl) (λ c a h. refl)

pub term_el_lawful : Lawful term_el
term_el_lawful = via_lawful _ _ _ (seq_lawful (truth_field any) (λ _. type_use) (truth_lawful any) (λ _. type_use_lawful)) (λ v. refl) (λ c a h. refl)

types_lawful : Lawful (counted type_use)
types_lawful = counted_lawful type_use type_use_lawful

-- ---- the cases

basic_forth : (v : TypeEl) (a : ℕ) → as_basic v ≡ Some a → type_.Basic a ≡ v
basic_forth (type_.Basic k) a e = cc
basic_forth v a e = absurd cc

named_forth : (v : TypeEl) (a : ℕ × List TypeUse) → as_named v ≡ Some a → type_.Named a.0 a.1 ≡ v
named_forth (type_.Named o ts) a e = (let s : (o, ts) ≡ a = cc in ap (λ (x : ℕ × List TypeUse). type_.Named x.0 x.1) (sym s))
named_forth v a e = absurd cc

pointer_forth : (v : TypeEl) (a : TypeUse) → as_pointer v ≡ Some a → type_.Pointer a ≡ v
pointer_forth (type_.Pointer t) a e = cc
pointer_forth v a e = absurd cc

slice_forth : (v : TypeEl) (a : TypeUse) → as_slice v ≡ Some a → type_.Slice a ≡ v
slice_forth (type_.Slice t) a e = cc
slice_forth v a e = absurd cc

array_forth : (v : TypeEl) (a : ℕ × TypeUse) → as_array v ≡ Some a → type_.Array a.0 a.1 ≡ v
array_forth (type_.Array n t) a e = (let s : (n, t) ≡ a = cc in ap (λ (x : ℕ × TypeUse). type_.Array x.0 x.1) (sym s))
array_forth v a e = absurd cc

map_forth : (v : TypeEl) (a : TypeUse × TypeUse) → as_map v ≡ Some a → type_.Map a.0 a.1 ≡ v
map_forth (type_.Map k t) a e = (let s : (k, t) ≡ a = cc in ap (λ (x : TypeUse × TypeUse). type_.Map x.0 x.1) (sym s))
map_forth v a e = absurd cc

signature_forth : (v : TypeEl) (a : List TypeUse × List TypeUse) → as_signature v ≡ Some a → type_.Signature a.0 a.1 ≡ v
signature_forth (type_.Signature ps rs) a e = (let s : (ps, rs) ≡ a = cc in ap (λ (x : List TypeUse × List TypeUse). type_.Signature x.0 x.1) (sym s))
signature_forth v a e = absurd cc

struct_forth : (v : TypeEl) (a : List FieldEl) → as_struct v ≡ Some a → type_.Struct a ≡ v
struct_forth (type_.Struct fs) a e = cc
struct_forth v a e = absurd cc

interface_forth : (v : TypeEl) (a : List MethodEl × (Bool × List TypeUse)) → as_interface v ≡ Some a → type_.Interface a.0 a.1.0 a.1.1 ≡ v
interface_forth (type_.Interface ms c us) a e = (let s : (ms, (c, us)) ≡ a = cc in ap (λ (x : List MethodEl × (Bool × List TypeUse)). type_.Interface x.0 x.1.0 x.1.1) (sym s))
interface_forth v a e = absurd cc

union_forth : (v : TypeEl) (a : List TermEl) → as_union v ≡ Some a → type_.Union a ≡ v
union_forth (type_.Union ts) a e = cc
union_forth v a e = absurd cc

param_forth : (v : TypeEl) (a : ℕ) → as_param v ≡ Some a → type_.TypeParam a ≡ v
param_forth (type_.TypeParam k) a e = cc
param_forth v a e = absurd cc

flag_clear : (c : Context) (b : Bool) → clear_flag c b ≡ None → false ≡ b
flag_clear c true e = absurd cc
flag_clear c false e = refl

pub object_use_lawful : Lawful object_use
object_use_lawful = via_lawful _ _ _ (seq_lawful (truth_field clear_flag) _ (truth_lawful clear_flag) (λ _. seq_lawful (use_field 6 any) (λ _. counted type_use) (use_lawful 6 any) (λ _. types_lawful))) (λ v. refl) (λ c a h. ap (λ (b : Bool). (b, a.1)) (flag_clear c a.0 h.0))

terms_lawful : Lawful terms
terms_lawful = via_lawful _ _ _ (seq_lawful (uint_field some_terms) _ (uint_lawful some_terms) (λ n. times_lawful (λ _. n) term_el term_el_lawful)) (λ v. refl) (λ c a h. ap (λ (n : ℕ). (n, a.1)) h.1.0)

cases_lawful : (k : ℕ) → Lawful (type_cases k)
cases_lawful k =
    either_lawful (nat_eq k 0) _ _ (variant_lawful _ _ _ (uint_lawful basic_kind) (λ a. refl) basic_forth)
    (either_lawful (nat_eq k 1) _ _ (variant_lawful _ _ _ object_use_lawful (λ a. refl) named_forth)
    (either_lawful (nat_eq k 2) _ _ (variant_lawful _ _ _ type_use_lawful (λ a. refl) pointer_forth)
    (either_lawful (nat_eq k 3) _ _ (variant_lawful _ _ _ type_use_lawful (λ a. refl) slice_forth)
    (either_lawful (nat_eq k 4) _ _ (variant_lawful _ _ _ (seq_lawful (uint_field array_len) (λ _. type_use) (uint_lawful array_len) (λ _. type_use_lawful)) (λ a. refl) array_forth)
    (either_lawful (nat_eq k 6) _ _ (variant_lawful _ _ _ (seq_lawful type_use (λ _. type_use) type_use_lawful (λ _. type_use_lawful)) (λ a. refl) map_forth)
    (either_lawful (nat_eq k 7) _ _ (variant_lawful _ _ _ (seq_lawful (counted type_use) (λ _. counted type_use) types_lawful (λ _. types_lawful)) (λ a. refl) signature_forth)
    (either_lawful (nat_eq k 8) _ _ (variant_lawful _ _ _ (counted_lawful field_el field_el_lawful) (λ a. refl) struct_forth)
    (either_lawful (nat_eq k 9) _ _ (variant_lawful _ _ _ (seq_lawful (counted_by method_el) _ (counted_by_lawful method_el method_el_lawful) (λ _. seq_lawful (truth_field any) (λ _. counted type_use) (truth_lawful any) (λ _. types_lawful))) (λ a. refl) interface_forth)
    (either_lawful (nat_eq k 10) _ _ (variant_lawful _ _ _ terms_lawful (λ a. refl) union_forth)
    (either_lawful (nat_eq k 11) _ _ (variant_lawful _ _ _ (uint_lawful any) (λ a. refl) param_forth) no_lawful))))))))))

cases_only : (k : ℕ) (c : Context) (v : TypeEl) → (type_cases k).fits c v → code_of v ≡ k
cases_only k c v h =
    case_only code_of k 0 _ _ c v h (λ f. variant_code _ _ (uint_field basic_kind) code_of 0 c v f basic_forth (λ a. refl)) (λ h.
    case_only code_of k 1 _ _ c v h (λ f. variant_code _ _ object_use code_of 1 c v f named_forth (λ a. refl)) (λ h.
    case_only code_of k 2 _ _ c v h (λ f. variant_code _ _ type_use code_of 2 c v f pointer_forth (λ a. refl)) (λ h.
    case_only code_of k 3 _ _ c v h (λ f. variant_code _ _ type_use code_of 3 c v f slice_forth (λ a. refl)) (λ h.
    case_only code_of k 4 _ _ c v h (λ f. variant_code _ _ (seq (uint_field array_len) (λ _. type_use)) code_of 4 c v f array_forth (λ a. refl)) (λ h.
    case_only code_of k 6 _ _ c v h (λ f. variant_code _ _ (seq type_use (λ _. type_use)) code_of 6 c v f map_forth (λ a. refl)) (λ h.
    case_only code_of k 7 _ _ c v h (λ f. variant_code _ _ (seq (counted type_use) (λ _. counted type_use)) code_of 7 c v f signature_forth (λ a. refl)) (λ h.
    case_only code_of k 8 _ _ c v h (λ f. variant_code _ _ (counted field_el) code_of 8 c v f struct_forth (λ a. refl)) (λ h.
    case_only code_of k 9 _ _ c v h (λ f. variant_code _ _ (seq (counted_by method_el) (λ _. seq (truth_field any) (λ _. counted type_use))) code_of 9 c v f interface_forth (λ a. refl)) (λ h.
    case_only code_of k 10 _ _ c v h (λ f. variant_code _ _ terms code_of 10 c v f union_forth (λ a. refl)) (λ h.
    case_only code_of k 11 _ _ c v h (λ f. variant_code _ _ (uint_field any) code_of 11 c v f param_forth (λ a. refl)) (λ h. absurd h)))))))))))

pub type_el_lawful : Lawful type_el
type_el_lawful = tagged_lawful (uint_field known_code) code_of type_cases (uint_lawful known_code) cases_lawful cases_only
