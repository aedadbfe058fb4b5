use Rattle.std.proofs.Common.{refl, arith}
use Rattle.ui_frame.specs.Laws.{bytes_by_index}
use Rattle.ui_frame.proofs.Containers.{first_failing-none, IsContainer-passed, parts_in-container, Passes-container, Passes-from_none}
use Rattle.ui_frame.proofs.frame.Frame.open.Goals as goal

pub returns-in_err-test_container-clause-every : goal.returns-in_err-test_container-clause-every
returns-in_err-test_container-clause-every c parts is =
    let none = first_failing-none c.args.bytes.now (Passes-container c.args.bytes.now parts is) in
    let some = c.in_err-test_container.ensures.failed in
    absurd cc

pub invariant_of-result : goal.invariant_of-result
invariant_of-result c =
    let bytes = c.args.bytes.now in
    IsContainer-passed bytes (bytes_by_index bytes (λ i. omega (arith, c.type_inv.bytes i))) (Passes-from_none bytes c.in_ok-test_container.ensures.passed)

pub returns-clause-found : goal.returns-clause-found
returns-clause-found c =
    let bytes = c.args.bytes.now in
    IsContainer-passed bytes (bytes_by_index bytes (λ i. omega (arith, c.type_inv.bytes i))) (Passes-from_none bytes c.in_ok-test_container.ensures.passed)

pub returns-clause-every : goal.returns-clause-every
returns-clause-every c parts is = rw (parts_in-container c.args.bytes.now parts is) refl
