-- The formats of declarations are lawful.
use Rattle.std.proofs.Common.{◌≡◌, ℕ, ℤ, Bool, true, false, Option, Some, None, inl, inr, refl, sym, ap}
use Rattle.std.specs.Prelude.{List, nat_eq, is_some}
use Rattle.std.proofs.lemmas.Bool.{eqb-true}
use Rattle.ui_frame.specs.Laws.{chosen}
use Rattle.ui_strpos.specs.declared.fault.Cause.TheVariants.{BadCode}
use Rattle.ui_strpos.specs.Reading.{Context}
use Rattle.ui_strpos.specs.Elements.{any, text_passes, code_below}
use Rattle.ui_strpos.specs.ElementLaws.{name_use_lawful}
use Rattle.ui_strpos.specs.Format.{Format, uint_field, int_field, truth_field, use_field, seq, nothing_more, counted_by, there, Lawful}
use Rattle.ui_strpos.specs.Laws.{uint_lawful, int_lawful, truth_lawful, use_lawful, seq_lawful, via_lawful, variant_lawful, tagged_lawful, shape_lawful, either_lawful, nothing_lawful, option_lawful, counted_by_lawful, times_lawful, no_lawful, case_only, variant_code}
use Rattle.ui_eobj.specs.declared.object.PosEl.{PosEl}
use Rattle.ui_eobj.specs.Objects.{pos}
use Rattle.ui_eobj.specs.ObjectLaws.{pos_lawful}
use Rattle.ui_eobj.specs.Values.{clear_flag, is_magnitude, sign}
use Rattle.ui_etype.specs.declared.uses.TypeUse.{TypeUse}
use Rattle.ui_etype.specs.Types.{outer_use, sel_by}
use Rattle.ui_etype.specs.TypeLaws.{type_use_by_lawful, sel_by_lawful}
use Rattle.ui_edecl.specs.Values as values
use Rattle.ui_edecl.specs.Values.{constant_value}
use Rattle.ui_edecl.specs.Objects as objects
use Rattle.ui_edecl.specs.Objects.{param_el, params, shape_params, method_el, next_method, placed, object, shape_code}
use Rattle.ui_edecl.specs.Extensions as extensions
use Rattle.ui_edecl.specs.Extensions.{is_set, kept, bodies, shape_methods, shape_kind, extension}
use Rattle.ui_edecl.specs.Dictionaries.{zero_number, zero_field, dictionary}
use Rattle.ui_edecl.specs.declared.value.ValueEl.{ValueEl}
use Rattle.ui_edecl.specs.declared.value.ValueEl.TheVariants as value
use Rattle.ui_edecl.specs.declared.param.ParamEl.{ParamEl}
use Rattle.ui_edecl.specs.declared.method.DeclaredMethodEl.{DeclaredMethodEl}
use Rattle.ui_edecl.specs.declared.object.ObjEl.{ObjEl}
use Rattle.ui_edecl.specs.declared.object.ObjEl.TheVariants as object_
use Rattle.ui_edecl.specs.declared.extension.KeptEl.{KeptEl}
use Rattle.ui_edecl.specs.declared.extension.ObjExtEl.{ObjExtEl}
use Rattle.ui_edecl.specs.declared.extension.ObjExtEl.TheVariants as extension_

-- ---- values

bool_forth : (v : ValueEl) (a : Bool) → values.as_bool v ≡ Some a → value.Bool a ≡ v
bool_forth (value.Bool b) a e = cc
bool_forth v a e = absurd cc

text_forth : (v : ValueEl) (a : ℕ) → values.as_text v ≡ Some a → value.Text a ≡ v
text_forth (value.Text k) a e = cc
text_forth v a e = absurd cc

int64_forth : (v : ValueEl) (a : ℤ) → values.as_int64 v ≡ Some a → value.Int64 a ≡ v
int64_forth (value.Int64 z) a e = cc
int64_forth v a e = absurd cc

big_forth : (v : ValueEl) (a : ℕ × Bool) → values.as_big v ≡ Some a → value.Big a.0 a.1 ≡ v
big_forth (value.Big m n) a e = (let s : (m, n) ≡ a = cc in ap (λ (x : ℕ × Bool). value.Big x.0 x.1) (sym s))
big_forth v a e = absurd cc

values_lawful : (n : ℕ) → Lawful (values.cases n)
values_lawful n =
    either_lawful (nat_eq n 0) _ _ (variant_lawful _ _ _ (truth_lawful any) (λ a. refl) bool_forth)
    (either_lawful (nat_eq n 1) _ _ (variant_lawful _ _ _ (use_lawful 0 any) (λ a. refl) text_forth)
    (either_lawful (nat_eq n 2) _ _ (variant_lawful _ _ _ (int_lawful any) (λ a. refl) int64_forth)
    (either_lawful (nat_eq n 3) _ _ (variant_lawful _ _ _ (seq_lawful (use_field 0 (text_passes is_magnitude)) (λ k. truth_field (sign k)) (use_lawful 0 (text_passes is_magnitude)) (λ k. truth_lawful (sign k))) (λ a. refl) big_forth) no_lawful)))

values_only : (n : ℕ) (c : Context) (v : ValueEl) → (values.cases n).fits c v → values.code_of v ≡ n
values_only n c v h =
    case_only values.code_of n 0 _ _ c v h (λ f. variant_code _ _ (truth_field any) values.code_of 0 c v f bool_forth (λ a. refl)) (λ h.
    case_only values.code_of n 1 _ _ c v h (λ f. variant_code _ _ (use_field 0 any) values.code_of 1 c v f text_forth (λ a. refl)) (λ h.
    case_only values.code_of n 2 _ _ c v h (λ f. variant_code _ _ (int_field any) values.code_of 2 c v f int64_forth (λ a. refl)) (λ h.
    case_only values.code_of n 3 _ _ c v h (λ f. variant_code _ _ (seq (use_field 0 (text_passes is_magnitude)) (λ k. truth_field (sign k))) values.code_of 3 c v f big_forth (λ a. refl)) (λ h. absurd h))))

flag_clear : (c : Context) (b : Bool) → clear_flag c b ≡ None → false ≡ b
flag_clear c true e = absurd cc
flag_clear c false e = refl

coded_lawful : Lawful values.coded
coded_lawful = tagged_lawful (uint_field (code_below 4)) values.code_of values.cases (uint_lawful (code_below 4)) values_lawful values_only

pub constant_value_lawful : Lawful constant_value
constant_value_lawful = via_lawful _ _ _ (seq_lawful (truth_field clear_flag) (λ _. values.coded) (truth_lawful clear_flag) (λ _. coded_lawful)) (λ v. refl) (λ c a h. ap (λ (b : Bool). (b, a.1)) (flag_clear c a.0 h.0))

-- ---- objects

outer_lawful : Lawful outer_use
outer_lawful = type_use_by_lawful any

pub param_el_lawful : Lawful param_el
param_el_lawful = via_lawful _ _ _ name_use_lawful (λ v. refl) (λ c a h. refl)

params_lawful : Lawful params
params_lawful = times_lawful shape_params param_el param_el_lawful

pub method_el_lawful : (before : Option DeclaredMethodEl) → Lawful (method_el before)
method_el_lawful before =
    via_lawful _ _ _
    (seq_lawful (sel_by (use_field 0 (next_method before))) _ (sel_by_lawful (use_field 0 (next_method before)) (use_lawful 0 (next_method before)))
    (λ _. seq_lawful pos _ pos_lawful (λ _. seq_lawful (truth_field any) (λ _. outer_use) (truth_lawful any) (λ _. outer_lawful))))
    (λ v. refl) (λ c a h. refl)

methods_lawful : Lawful (counted_by method_el)
methods_lawful = counted_by_lawful method_el method_el_lawful

alias_forth : (v : ObjEl) (a : PosEl × TypeUse) → objects.as_alias v ≡ Some a → object_.Alias a.0 a.1 ≡ v
alias_forth (object_.Alias p t) a e = (let s : (p, t) ≡ a = cc in ap (λ (x : PosEl × TypeUse). object_.Alias x.0 x.1) (sym s))
alias_forth v a e = absurd cc

const_forth : (v : ObjEl) (a : PosEl × (TypeUse × ValueEl)) → objects.as_const v ≡ Some a → object_.Const a.0 a.1.0 a.1.1 ≡ v
const_forth (object_.Const p t w) a e = (let s : (p, (t, w)) ≡ a = cc in ap (λ (x : PosEl × (TypeUse × ValueEl)). object_.Const x.0 x.1.0 x.1.1) (sym s))
const_forth v a e = absurd cc

defined_forth : (v : ObjEl) (a : PosEl × (List ParamEl × (TypeUse × List DeclaredMethodEl))) → objects.as_defined v ≡ Some a → object_.Defined a.0 a.1.0 a.1.1.0 a.1.1.1 ≡ v
defined_forth (object_.Defined p ps t ms) a e =
    (let s : (p, (ps, (t, ms))) ≡ a = cc in ap (λ (x : PosEl × (List ParamEl × (TypeUse × List DeclaredMethodEl))). object_.Defined x.0 x.1.0 x.1.1.0 x.1.1.1) (sym s))
defined_forth v a e = absurd cc

func_forth : (v : ObjEl) (a : PosEl × (List ParamEl × TypeUse)) → objects.as_func v ≡ Some a → object_.Func a.0 a.1.0 a.1.1 ≡ v
func_forth (object_.Func p ps t) a e = (let s : (p, (ps, t)) ≡ a = cc in ap (λ (x : PosEl × (List ParamEl × TypeUse)). object_.Func x.0 x.1.0 x.1.1) (sym s))
func_forth v a e = absurd cc

var_forth : (v : ObjEl) (a : PosEl × TypeUse) → objects.as_var v ≡ Some a → object_.Var a.0 a.1 ≡ v
var_forth (object_.Var p t) a e = (let s : (p, t) ≡ a = cc in ap (λ (x : PosEl × TypeUse). object_.Var x.0 x.1) (sym s))
var_forth v a e = absurd cc

stub_forth : (v : ObjEl) (a : Unit {0}) → objects.as_stub v ≡ Some a → object_.Stub ≡ v
stub_forth object_.Stub a e = refl
stub_forth v a e = absurd cc

placed_lawful : Lawful placed
placed_lawful = seq_lawful pos (λ _. outer_use) pos_lawful (λ _. outer_lawful)

objects_lawful : (k : ℕ) → Lawful (objects.cases k)
objects_lawful k =
    either_lawful (nat_eq k 0) _ _ (variant_lawful _ _ _ placed_lawful (λ a. refl) alias_forth)
    (either_lawful (nat_eq k 1) _ _ (variant_lawful _ _ _ (seq_lawful pos _ pos_lawful (λ _. seq_lawful outer_use (λ _. constant_value) outer_lawful (λ _. constant_value_lawful))) (λ a. refl) const_forth)
    (either_lawful (nat_eq k 2) _ _ (variant_lawful _ _ _ (seq_lawful pos _ pos_lawful (λ _. seq_lawful params _ params_lawful (λ _. seq_lawful outer_use (λ _. counted_by method_el) outer_lawful (λ _. methods_lawful)))) (λ a. refl) defined_forth)
    (either_lawful (nat_eq k 3) _ _ (variant_lawful _ _ _ (seq_lawful pos _ pos_lawful (λ _. seq_lawful params (λ _. outer_use) params_lawful (λ _. outer_lawful))) (λ a. refl) func_forth)
    (either_lawful (nat_eq k 4) _ _ (variant_lawful _ _ _ placed_lawful (λ a. refl) var_forth)
    (either_lawful (nat_eq k 5) _ _ (variant_lawful _ _ _ (nothing_lawful tt) (λ a. refl) stub_forth) no_lawful)))))

objects_only : (k : ℕ) (c : Context) (v : ObjEl) → (objects.cases k).fits c v → objects.code_of v ≡ k
objects_only k c v h =
    case_only objects.code_of k 0 _ _ c v h (λ f. variant_code _ _ placed objects.code_of 0 c v f alias_forth (λ a. refl)) (λ h.
    case_only objects.code_of k 1 _ _ c v h (λ f. variant_code _ _ (seq pos (λ _. seq outer_use (λ _. constant_value))) objects.code_of 1 c v f const_forth (λ a. refl)) (λ h.
    case_only objects.code_of k 2 _ _ c v h (λ f. variant_code _ _ (seq pos (λ _. seq params (λ _. seq outer_use (λ _. counted_by method_el)))) objects.code_of 2 c v f defined_forth (λ a. refl)) (λ h.
    case_only objects.code_of k 3 _ _ c v h (λ f. variant_code _ _ (seq pos (λ _. seq params (λ _. outer_use))) objects.code_of 3 c v f func_forth (λ a. refl)) (λ h.
    case_only objects.code_of k 4 _ _ c v h (λ f. variant_code _ _ placed objects.code_of 4 c v f var_forth (λ a. refl)) (λ h.
    case_only objects.code_of k 5 _ _ c v h (λ f. variant_code _ _ (nothing_more tt) objects.code_of 5 c v f stub_forth (λ a. refl)) (λ h. absurd h))))))

pub object_lawful : Lawful object
object_lawful = shape_lawful shape_code objects.code_of objects.cases objects_lawful objects_only

-- ---- extensions

option_again : (c : Context) (b : Bool) (o : Option ℕ) → there b (use_field 9 any) c o → is_some o ≡ b
option_again c true None h = absurd h
option_again c true (Some k) h = refl
option_again c false None h = refl
option_again c false (Some k) h = absurd h

pub kept_lawful : Lawful kept
kept_lawful = via_lawful _ _ _ (option_lawful (truth_field any) is_set (use_field 9 any) (truth_lawful any) (use_lawful 9 any)) (λ v. refl) (λ c a h. ap (λ (b : Bool). (b, a.1)) (option_again c a.0 a.1 h.1))

bodies_lawful : Lawful bodies
bodies_lawful = times_lawful shape_methods kept kept_lawful

ext_func_forth : (v : ObjExtEl) (a : KeptEl) → extensions.as_func v ≡ Some a → extension_.Func a ≡ v
ext_func_forth (extension_.Func b) a e = cc
ext_func_forth v a e = absurd cc

ext_defined_forth : (v : ObjExtEl) (a : List KeptEl) → extensions.as_defined v ≡ Some a → extension_.Defined a ≡ v
ext_defined_forth (extension_.Defined bs) a e = cc
ext_defined_forth v a e = absurd cc

other_forth : (v : ObjExtEl) (a : Unit {0}) → extensions.as_other v ≡ Some a → extension_.Other ≡ v
other_forth extension_.Other a e = refl
other_forth v a e = absurd cc

extensions_lawful : (k : ℕ) → Lawful (extensions.cases k)
extensions_lawful k =
    either_lawful (nat_eq k 3) _ _ (variant_lawful _ _ _ kept_lawful (λ a. refl) ext_func_forth)
    (either_lawful (nat_eq k 2) _ _ (variant_lawful _ _ _ bodies_lawful (λ a. refl) ext_defined_forth)
    (either_lawful (nat_eq k 0) _ _ (variant_lawful _ _ _ (nothing_lawful tt) (λ a. refl) other_forth) no_lawful))

extensions_only : (k : ℕ) (c : Context) (v : ObjExtEl) → (extensions.cases k).fits c v → extensions.kind_of v ≡ k
extensions_only k c v h =
    case_only extensions.kind_of k 3 _ _ c v h (λ f. variant_code _ _ kept extensions.kind_of 3 c v f ext_func_forth (λ a. refl)) (λ h.
    case_only extensions.kind_of k 2 _ _ c v h (λ f. variant_code _ _ bodies extensions.kind_of 2 c v f ext_defined_forth (λ a. refl)) (λ h.
    case_only extensions.kind_of k 0 _ _ c v h (λ f. variant_code _ _ (nothing_more tt) extensions.kind_of 0 c v f other_forth (λ a. refl)) (λ h. absurd h)))

pub extension_lawful : Lawful extension
extension_lawful = shape_lawful shape_kind extensions.kind_of extensions.cases extensions_lawful extensions_only

-- ---- dictionaries

number_zero : (c : Context) (n : ℕ) → zero_number c n ≡ None → 0 ≡ n
number_zero c n e = elim (chosen (nat_eq n 0) None (Some BadCode) None e) [ inl p ↦ sym (eqb-true n 0 p.0) | inr p ↦ absurd cc ]

zero_lawful : Lawful zero_field
zero_lawful = uint_lawful zero_number

pub dictionary_lawful : Lawful dictionary
dictionary_lawful =
    via_lawful _ _ _
    (seq_lawful zero_field _ zero_lawful (λ _. seq_lawful zero_field _ zero_lawful (λ _. seq_lawful zero_field _ zero_lawful (λ _. seq_lawful zero_field _ zero_lawful
    (λ _. seq_lawful zero_field _ zero_lawful (λ _. seq_lawful zero_field (λ _. zero_field) zero_lawful (λ _. zero_lawful)))))))
    (λ v. refl)
    (λ c a h. λ i. (
      number_zero c a.0 h.0 i,
      (
        number_zero c a.1.0 h.1.0 i,
        (
          number_zero c a.1.1.0 h.1.1.0 i,
          (
            number_zero c a.1.1.1.0 h.1.1.1.0 i,
            (number_zero c a.1.1.1.1.0 h.1.1.1.1.0 i, (number_zero c a.1.1.1.1.1.0 h.1.1.1.1.1.0 i, number_zero c a.1.1.1.1.1.1 h.1.1.1.1.1.1 i)),
          ),
        ),
      ),
    ))
