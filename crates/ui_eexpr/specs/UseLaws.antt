-- The formats of uses are lawful.
use Rattle.std.proofs.Common.{◌≡◌, ℕ, Bool, true, false, Some, None, refl, ap}
use Rattle.ui_strpos.specs.Reading.{Context}
use Rattle.ui_strpos.specs.Elements.{any}
use Rattle.ui_strpos.specs.Format.{truth_field, use_field, choose}
use Rattle.ui_strpos.specs.Format.{Lawful}
use Rattle.ui_strpos.specs.Laws.{uint_lawful, truth_lawful, use_lawful, seq_lawful, via_lawful}
use Rattle.ui_strpos.specs.Laws.{variant_lawful, tagged_lawful, either_lawful, counted_lawful}
use Rattle.ui_eobj.specs.Values.{clear_flag}
use Rattle.ui_eobj.specs.ObjectLaws.{object_use_lawful}
use Rattle.ui_eobj.specs.declared.root.ObjectUse.{ObjectUse}
use Rattle.ui_etype.specs.Types.{outer_use}
use Rattle.ui_etype.specs.TypeLaws.{type_use_by_lawful}
use Rattle.ui_eexpr.specs.declared.callee.CalleeEl.{CalleeEl}
use Rattle.ui_eexpr.specs.declared.callee.CalleeEl.TheVariants.{Plain, Instance}
use Rattle.ui_eexpr.specs.Uses.{outer, instance, is_instance, as_plain, as_instance, plain}
use Rattle.ui_eexpr.specs.Uses.{dictionary_entry, callee}

pub outer_use_lawful : Lawful outer_use
outer_use_lawful = type_use_by_lawful any

pub outer_lawful : Lawful outer
outer_lawful = via_lawful _ _ _ outer_use_lawful (λ v. refl) (λ c a h. refl)

flag_clear : (c : Context) (b : Bool) → clear_flag c b ≡ None → false ≡ b
flag_clear c true e = absurd cc
flag_clear c false e = refl

pub instance_lawful : Lawful instance
instance_lawful =
    via_lawful _ _ _ (seq_lawful (truth_field clear_flag) _ (truth_lawful clear_flag)
    (λ _. seq_lawful (use_field 6 any) _ (use_lawful 6 any)
    (λ _. counted_lawful outer outer_lawful)))
    (λ v. refl) (λ c a h. ap (λ (b : Bool). (b, a.1)) (flag_clear c a.0 h.0))

plain_forth : (v : CalleeEl) (a : ObjectUse) → as_plain v ≡ Some a → Plain a ≡ v
plain_forth (Plain o) a e = cc
plain_forth (Instance d) a e = absurd cc

instance_forth : (v : CalleeEl) (a : ℕ) → as_instance v ≡ Some a → Instance a ≡ v
instance_forth (Plain o) a e = absurd cc
instance_forth (Instance d) a e = cc

callee_only : (b : Bool) (c : Context) (v : CalleeEl)
    → (choose b dictionary_entry plain).fits c v → is_instance v ≡ b
callee_only true c (Plain o) h = absurd h
callee_only true c (Instance d) h = refl
callee_only false c (Plain o) h = refl
callee_only false c (Instance d) h = absurd h

pub callee_lawful : Lawful callee
callee_lawful =
    tagged_lawful (truth_field any) is_instance _ (truth_lawful any)
    (λ b. either_lawful b dictionary_entry plain
    (variant_lawful _ _ _ (uint_lawful any) (λ a. refl) instance_forth)
    (variant_lawful _ _ _ object_use_lawful (λ a. refl) plain_forth))
    callee_only
