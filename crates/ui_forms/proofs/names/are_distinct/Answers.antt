use Rattle.std.proofs.Common.{◌≡◌, refl, subst}
use Rattle.std.specs.Result.{IfOk}
use Rattle.ui_forms.proofs.NameLemmas.{distinct-new, distinct-repeated}
use Rattle.ui_forms.proofs.names.are_distinct.Goals as goal

pub returns-in-None : goal.returns-in-None
returns-in-None c = distinct-repeated c.args.parts.now (rw c.in-None.is at c.in_ok-names.ensures.new)

pub returns-in-Some : goal.returns-in-Some
returns-in-Some c =
    subst (λ b. IfOk c.all_apart.result (λ apart. apart ≡ b))
    (distinct-new c.args.parts.now c.in-Some.names _ (rw c.in-Some.is at c.in_ok-names.ensures.new) (rw c.in-Some.is at c.in_ok-names.ensures.set) refl)
    c.all_apart.ensures
