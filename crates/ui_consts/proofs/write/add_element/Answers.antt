use Rattle.std.proofs.Common.{ℕ, List, [], ◌∷◌, length, ap, ◌∙◌, arith}
use Rattle.ui_consts.proofs.SpellingSizes.{length-spelling}
use Rattle.ui_consts.proofs.WriteLemmas.{Adds-same}
use Rattle.ui_consts.proofs.write.add_element.Goals as goal

pub add-requires : goal.add-requires
add-requires g c =
    let same = c.deref.ensures.value ∙ c.in_ok-bytes.ensures in
    record { ten = c.requires.place.ten; few = c.requires.place.few; light = omega (arith, ap length same, length-spelling (g.E.Element.format.items c.args.element.now), c.requires.place.light) }

pub returns : goal.returns
returns g c =
    let same = c.deref.ensures.value ∙ c.in_ok-bytes.ensures in
    Adds-same c.args.s _ _ _ _ _ _ (ap (λ (b : List ℕ). b ∷ []) same) (omega (arith, ap length same, length-spelling (g.E.Element.format.items c.args.element.now))) c.in_ok-add.ensures
