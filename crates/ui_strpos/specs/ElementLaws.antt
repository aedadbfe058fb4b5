-- The formats of the elements are lawful.
use Rattle.std.proofs.Common.{◌≡◌, ℕ, zero, suc, Bool, true, false, Some, None, inl, inr, refl, sym, ap, arith}
use Rattle.std.proofs.lemmas.Bool.{ltb-true}
use Rattle.std.specs.Prelude.{nat_lt}
use Rattle.ui_base.specs.Names.{is_name}
use Rattle.ui_frame.specs.Laws.{chosen}
use Rattle.ui_strpos.specs.declared.fault.Cause.TheVariants.{BadCode}
use Rattle.ui_strpos.specs.declared.name.NameKind.{NameKind}
use Rattle.ui_strpos.specs.declared.name.NameKind.TheVariants.{Alias, Const, Defined, Func, Var, Stub}
use Rattle.ui_strpos.specs.Reading.{Context, text_of}
use Rattle.ui_strpos.specs.Format.{uint_field, truth_field, use_field, Lawful}
use Rattle.ui_strpos.specs.Laws.{uint_lawful, truth_lawful, use_lawful, seq_lawful, via_lawful}
use Rattle.ui_strpos.specs.Elements.{any, text_passes, set_flag, code_below, is_some_text, is_package_path, is_package_name, name_use, package_name, code_of, kind_of, kind, posbase, pkg, name}

flag_set : (c : Context) (b : Bool) → set_flag c b ≡ None → b ≡ true
flag_set c true e = refl
flag_set c false e = absurd cc

pub posbase_lawful : Lawful posbase
posbase_lawful = via_lawful _ _ _ (seq_lawful (use_field 0 (text_passes is_some_text)) (λ _. truth_field set_flag) (use_lawful 0 (text_passes is_some_text)) (λ _. truth_lawful set_flag)) (λ v. refl) (λ c a h. ap (λ (b : Bool). (a.0, b)) (sym (flag_set c a.1 h.1)))

pub pkg_lawful : Lawful pkg
pkg_lawful = via_lawful _ _ _ (seq_lawful (use_field 0 (text_passes is_package_path)) package_name (use_lawful 0 (text_passes is_package_path)) (λ path. use_lawful 0 (λ c n. text_passes (is_package_name (text_of c path)) c n))) (λ v. refl) (λ c a h. refl)

pub name_use_lawful : Lawful name_use
name_use_lawful = use_lawful 0 (text_passes is_name)

kind_again : (k : NameKind) → kind_of (code_of k) ≡ k
kind_again Alias = refl
kind_again Const = refl
kind_again Defined = refl
kind_again Func = refl
kind_again Var = refl
kind_again Stub = refl

code_again : (c : Context) (n : ℕ) → code_below 6 c n ≡ None → code_of (kind_of n) ≡ n
code_again c zero e = refl
code_again c (suc zero) e = refl
code_again c (suc (suc zero)) e = refl
code_again c (suc (suc (suc zero))) e = refl
code_again c (suc (suc (suc (suc zero)))) e = refl
code_again c (suc (suc (suc (suc (suc zero))))) e = refl
code_again c (suc (suc (suc (suc (suc (suc n)))))) e =
    elim (chosen (nat_lt (suc (suc (suc (suc (suc (suc n)))))) 6) None (Some BadCode) None e) [
      | inl p ↦ (let lt = ltb-true (suc (suc (suc (suc (suc (suc n)))))) 6 p.0 in absurd (omega arith))
      | inr p ↦ absurd cc
    ]

pub kind_lawful : Lawful kind
kind_lawful = via_lawful kind_of code_of (uint_field (code_below 6)) (uint_lawful (code_below 6)) kind_again code_again

pub name_lawful : Lawful name
name_lawful = via_lawful _ _ _ (seq_lawful (use_field 3 any) _ (use_lawful 3 any) (λ _. seq_lawful name_use (λ _. kind) name_use_lawful (λ _. kind_lawful))) (λ v. refl) (λ c a h. refl)
