-- The formats of objects and roots are lawful.
use Rattle.std.proofs.Common.{◌≡◌, ℕ, zero, suc, ℤ, Bool, true, false, Option, Some, None, inl, inr, refl, sym, ap}
use Rattle.std.specs.Prelude.{nat_eq, List}
use Rattle.std.proofs.lemmas.Bool.{eqb-true}
use Rattle.ui_frame.specs.Laws.{chosen}
use Rattle.ui_strpos.specs.declared.fault.Cause.TheVariants.{BadCode}
use Rattle.ui_strpos.specs.Reading.{Context}
use Rattle.ui_strpos.specs.Elements.{any, text_passes, set_flag}
use Rattle.ui_strpos.specs.Format.{uint_field, int_field, truth_field, use_field, seq, counted, Lawful}
use Rattle.ui_strpos.specs.Laws.{uint_lawful, int_lawful, truth_lawful, use_lawful, seq_lawful, via_lawful, variant_lawful, tagged_lawful, either_lawful, counted_lawful, counted_by_lawful, no_lawful, case_only, variant_code}
use Rattle.ui_eobj.specs.Values.{clear_flag, code_of, as_int64, as_big, whole_code, sign, is_magnitude, int64, big, cases, coded, whole_value}
use Rattle.ui_eobj.specs.Objects.{place_number, pos, plain_type, constant}
use Rattle.ui_eobj.specs.Roots.{no_arguments, object_use, public_root, is_print, next_path, below_entry, private_root}
use Rattle.ui_eobj.specs.declared.value.ValueEl.{ValueEl}
use Rattle.ui_eobj.specs.declared.value.ValueEl.TheVariants as value
use Rattle.ui_eobj.specs.declared.root.BelowEl.{BelowEl}

flag_clear : (c : Context) (b : Bool) → clear_flag c b ≡ None → false ≡ b
flag_clear c true e = absurd cc
flag_clear c false e = refl

flag_set : (c : Context) (b : Bool) → set_flag c b ≡ None → true ≡ b
flag_set c true e = refl
flag_set c false e = absurd cc

-- ---- values

int64_forth : (v : ValueEl) (a : ℤ) → as_int64 v ≡ Some a → value.Int64 a ≡ v
int64_forth (value.Int64 z) a e = cc
int64_forth (value.Big m n) a e = absurd cc

big_forth : (v : ValueEl) (a : ℕ × Bool) → as_big v ≡ Some a → value.Big a.0 a.1 ≡ v
big_forth (value.Int64 z) a e = absurd cc
big_forth (value.Big m n) a e = (let s : (m, n) ≡ a = cc in ap (λ (x : ℕ × Bool). value.Big x.0 x.1) (sym s))

cases_lawful : (n : ℕ) → Lawful (cases n)
cases_lawful n =
    either_lawful (nat_eq n 2) _ _ (variant_lawful _ _ _ (int_lawful any) (λ a. refl) int64_forth)
    (either_lawful (nat_eq n 3) _ _ (variant_lawful _ _ _ (seq_lawful (use_field 0 (text_passes is_magnitude)) (λ k. truth_field (sign k)) (use_lawful 0 (text_passes is_magnitude)) (λ k. truth_lawful (sign k))) (λ a. refl) big_forth) no_lawful)

cases_only : (n : ℕ) (c : Context) (v : ValueEl) → (cases n).fits c v → code_of v ≡ n
cases_only n c v h =
    case_only code_of n 2 _ _ c v h (λ f. variant_code _ _ (int_field any) code_of 2 c v f int64_forth (λ a. refl)) (λ h.
    case_only code_of n 3 _ _ c v h (λ f. variant_code _ _ (seq (use_field 0 (text_passes is_magnitude)) (λ k. truth_field (sign k))) code_of 3 c v f big_forth (λ a. refl)) (λ h. absurd h))

pub coded_lawful : Lawful coded
coded_lawful = tagged_lawful (uint_field whole_code) code_of cases (uint_lawful whole_code) cases_lawful cases_only

pub whole_value_lawful : Lawful whole_value
whole_value_lawful = via_lawful _ _ _ (seq_lawful (truth_field clear_flag) (λ _. coded) (truth_lawful clear_flag) (λ _. coded_lawful)) (λ v. refl) (λ c a h. ap (λ (b : Bool). (b, a.1)) (flag_clear c a.0 h.0))

-- ---- the Obj of a constant

pub pos_lawful : Lawful pos
pos_lawful =
    via_lawful _ _ _
    (seq_lawful (truth_field set_flag) _ (truth_lawful set_flag) (λ _. seq_lawful (use_field 2 any) _ (use_lawful 2 any) (λ _. seq_lawful (uint_field place_number) (λ _. uint_field place_number) (uint_lawful place_number) (λ _. uint_lawful place_number))))
    (λ v. refl) (λ c a h. ap (λ (b : Bool). (b, a.1)) (flag_set c a.0 h.0))

pub plain_type_lawful : Lawful plain_type
plain_type_lawful = via_lawful _ _ _ (seq_lawful (truth_field clear_flag) (λ _. use_field 5 any) (truth_lawful clear_flag) (λ _. use_lawful 5 any)) (λ v. refl) (λ c a h. ap (λ (b : Bool). (b, a.1)) (flag_clear c a.0 h.0))

pub constant_lawful : Lawful constant
constant_lawful = via_lawful _ _ _ (seq_lawful pos _ pos_lawful (λ _. seq_lawful plain_type (λ _. whole_value) plain_type_lawful (λ _. whole_value_lawful))) (λ v. refl) (λ c a h. refl)

-- ---- the roots

no_argument : (c : Context) (n : ℕ) → no_arguments c n ≡ None → 0 ≡ n
no_argument c n e = elim (chosen (nat_eq n 0) None (Some BadCode) None e) [ inl p ↦ sym (eqb-true n 0 p.0) | inr p ↦ absurd cc ]

pub object_use_lawful : Lawful object_use
object_use_lawful =
    via_lawful _ _ _ (seq_lawful (truth_field clear_flag) _ (truth_lawful clear_flag) (λ _. seq_lawful (use_field 6 any) (λ _. uint_field no_arguments) (use_lawful 6 any) (λ _. uint_lawful no_arguments)))
    (λ v. refl) (λ c a h. λ i. (flag_clear c a.0 h.0 i, (a.1.0, no_argument c a.1.1 h.1.1 i)))

pub public_root_lawful : Lawful public_root
public_root_lawful =
    via_lawful _ _ _ (seq_lawful (use_field 3 any) _ (use_lawful 3 any) (λ _. seq_lawful (truth_field clear_flag) (λ _. counted object_use) (truth_lawful clear_flag) (λ _. counted_lawful object_use object_use_lawful)))
    (λ v. refl) (λ c a h. ap (λ (b : Bool). (a.0, (b, a.1.1))) (flag_clear c a.1.0 h.1.0))

pub below_entry_lawful : (before : Option BelowEl) → Lawful (below_entry before)
below_entry_lawful before =
    via_lawful _ _ _ (seq_lawful (use_field 0 (next_path before)) _ (use_lawful 0 (next_path before)) (λ _. seq_lawful (use_field 0 (text_passes is_print)) (λ _. truth_field any) (use_lawful 0 (text_passes is_print)) (λ _. truth_lawful any)))
    (λ v. refl) (λ c a h. refl)

pub private_root_lawful : Lawful private_root
private_root_lawful = via_lawful _ _ _ (counted_by_lawful below_entry below_entry_lawful) (λ v. refl) (λ c a h. refl)
