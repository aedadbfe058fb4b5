use Rattle.std.proofs.Common.{◌≡◌, true, get_or, List, subst, length, refl}
use Rattle.ui_frame.specs.declared.section.Section.TheVariants.{Types, Obj}
use Rattle.ui_edecl.specs.declared.object.ObjEl.TheVariants as object_
use Rattle.ui_etype.specs.declared.types.TypeEl.{TypeEl}
use Rattle.ui_file.specs.Rules.{KeepsUnder, count_in, type_fits, object_fits, no_type}
use Rattle.ui_file_rules.specs.First.{FirstOf}
use Rattle.ui_file_rules.proofs.Free.{at_section, over_list, free_under}
use Rattle.ui_type_rules.proofs.under_rule.NamedUnderFileRule.first_in.Goals as goal

pub returns-in-Types : goal.returns-in-Types
returns-in-Types c =
    let x = c.args.self.now.file.now in
    at_section (λ s k. KeepsUnder x s k)
    (λ s. count_in x s) c.args.s Types c.first_not.result c.in-Types.is
    (over_list (λ ts k. type_fits ts (get_or ts k no_type)
    ≡ true) c.items-types.result.now x.types (length c.items-types.result.now)
    c.first_not.result c.items-types.ensures refl c.first_not.ensures)

pub returns-in-Obj : goal.returns-in-Obj
returns-in-Obj c =
    let x = c.args.self.now.file.now in
    at_section (λ s k. KeepsUnder x s k)
    (λ s. count_in x s) c.args.s Obj c.first_not-in-Obj.result c.in-Obj.is
    (over_list (λ os k. object_fits x.types (get_or os k object_.Stub)
    ≡ true) c.items-objects.result.now x.objects
    (length c.items-objects.result.now) c.first_not-in-Obj.result c.items-objects.ensures refl
    (subst (λ (ts : List TypeEl). FirstOf
    (λ k. object_fits ts (get_or c.items-objects.result.now k object_.Stub) ≡ true)
    (length c.items-objects.result.now) c.first_not-in-Obj.result) c.items-types.ensures
    c.first_not-in-Obj.ensures))

pub returns-in_default : goal.returns-in_default
returns-in_default c = λ k lt.
    free_under c.args.self.now.file.now c.args.s c.in_default.not-Types c.in_default.not-Obj k
