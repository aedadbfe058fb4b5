use Rattle.std.proofs.Common.{ℕ, List, arith, subst}
use Rattle.ui_frame.specs.Container.{Parts, IsContainer}
use Rattle.ui_frame.proofs.Containers.{Passes-container}
use Rattle.ui_frame.proofs.Located.{section_located, IsRange}
use Rattle.ui_frame.proofs.frame.Frame.section_range.Goals as goal

pub range_at-requires : goal.range_at-requires
range_at-requires c =
    let long = (Passes-container _ _ c.self.invariant).headed.long in
    omega (arith, c.number.ensures.bound)

pub returns : goal.returns
returns c =
    let bytes : List ℕ = c.self.inside.bytes.now in
    let is : IsContainer bytes c.args.self.now = subst (λ (p : Parts). IsContainer bytes p) c.self.view_is c.self.invariant in
    let bound = c.number.ensures.bound in
    let range : IsRange bytes 10 8 c.number.result c.range_at.result.0 c.range_at.result.1 = record { start_is = c.range_at.ensures.start 10 bound; end_is = c.range_at.ensures.end 10 bound } in
    let found = section_located bytes c.args.self.now c.number.result _ _ is bound range in
    rw (← c.number.ensures.value) (record { count = found.count; within = found.within; place = found.place })
