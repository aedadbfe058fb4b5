use Rattle.std.proofs.Common.{sym, subst, Option}
use Rattle.ui_file.specs.Rules.{Keeps, derived_order}
use Rattle.ui_file.specs.declared.bad.BadFile.{BadFile}
use Rattle.ui_valid.specs.Tests.{Tested}
use Rattle.ui_valid.proofs.Sequence.{one_tested, given_all}
use Rattle.ui_valid.proofs.rules.derived_order.Goals as goal

pub told-requires : goal.told-requires
told-requires c =
    let case = c.args.case.now in
    given_all case.frame.now case.file.now
    (λ s k. Keeps case.kind case.path.now case.file.now derived_order s k)
    c.in_ok-place.place c.requires c.in_ok-place.ensures

pub returns : goal.returns
returns c =
    let case = c.args.case.now in
    subst (λ (o : Option BadFile). Tested case.kind case.path.now case.file.now 1 2 o)
    (sym c.told.ensures)
    (one_tested case.kind case.path.now case.file.now derived_order c.in_ok-place.place
    c.in_ok-place.ensures)
