use Rattle.std.proofs.Common.{◌≡◌, true, get_or, length, refl}
use Rattle.ui_frame.specs.declared.section.Section.TheVariants.{Obj}
use Rattle.ui_edecl.specs.declared.object.ObjEl.TheVariants as object_
use Rattle.ui_file.specs.Rules.{KeepsIndex, count_in, uses_no_entry}
use Rattle.ui_file_rules.proofs.Free.{at_section, over_list, free_index}
use Rattle.ui_file_rules.proofs.derived_rule.BadIndexFileRule.first_in.Goals as goal

pub returns-in-Obj : goal.returns-in-Obj
returns-in-Obj c =
    let x = c.args.self.now.file.now in
    at_section (λ s k. KeepsIndex x s k)
    (λ s. count_in x s) c.args.s Obj c.first_not.result c.in-Obj.is
    (over_list (λ os k. uses_no_entry (get_or os k object_.Stub)
    ≡ true) c.items-objects.result.now x.objects
    (length c.items-objects.result.now) c.first_not.result c.items-objects.ensures refl c.first_not.ensures)

pub returns-in_default : goal.returns-in_default
returns-in_default c = λ k lt. free_index c.args.self.now.file.now c.args.s c.in_default.not-Obj k
