use Rattle.std.proofs.Common.{sym, subst, Result}
use Rattle.ui_frame.specs.Laws.{IsBytes}
use Rattle.ui_build.specs.Plan.{Refusal}
use Rattle.ui_build.specs.Loading.{Loaded}
use Rattle.ui_build.specs.Views.{loaded_of}
use Rattle.ui_build.specs.Stops.{Settles}
use Rattle.ui_build.proofs.Linking.{Containers, recorded-container}
use Rattle.ui_build.proofs.loading.record.Goals as goal

pub returns-in-Ok-clause-settled : goal.returns-in-Ok-clause-settled
returns-in-Ok-clause-settled c =
    let P : Result Loaded Refusal → Type 0 = λ w. Settles loaded_of w c.record_of.result in
    let laws : Containers = record { passes = c.one_container.ensures.passes; found = c.one_container.ensures.found; one = c.one_container.ensures.one } in
    let are : IsBytes c.in-Some.bytes.items = rw c.deref.ensures.value at c.are_bytes.ensures in
    rw c.in-Some.is (subst P (sym (recorded-container laws _ _ _ _ are (rw c.deref-2.ensures.value at c.in-Ok.ensures.found))) c.record_of.ensures.settled)
