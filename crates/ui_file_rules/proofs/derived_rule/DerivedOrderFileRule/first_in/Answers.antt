use Rattle.std.proofs.Common.{◌≡◌, true, get_or, length, refl}
use Rattle.ui_frame.specs.declared.section.Section.TheVariants.{Types}
use Rattle.ui_file.specs.Rules.{KeepsDerived, count_in, stands_alone, no_type}
use Rattle.ui_file_rules.proofs.Free.{at_section, over_list, free_derived}
use Rattle.ui_file_rules.proofs.derived_rule.DerivedOrderFileRule.first_in.Goals as goal

pub returns-in-Types : goal.returns-in-Types
returns-in-Types c =
    let x = c.args.self.now.file.now in
    at_section (λ s k. KeepsDerived x s k)
    (λ s. count_in x s) c.args.s Types c.first_not.result c.in-Types.is
    (over_list (λ ts k. stands_alone (get_or ts k no_type)
    ≡ true) c.items-types.result.now x.types (length c.items-types.result.now)
    c.first_not.result c.items-types.ensures refl c.first_not.ensures)

pub returns-in_default : goal.returns-in_default
returns-in_default c = λ k lt. free_derived c.args.self.now.file.now c.args.s
    c.in_default.not-Types k
