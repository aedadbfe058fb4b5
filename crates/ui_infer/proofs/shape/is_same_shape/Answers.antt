use Rattle.std.proofs.Common.{◌≡◌, Bool, Decides, sym, subst}
use Rattle.ui_types.proofs.KeyLemmas.{Decides-node}
use Rattle.ui_infer.proofs.ShapeLemmas.{same_shape_is}
use Rattle.ui_infer.proofs.shape.is_same_shape.Goals as goal

pub returns : goal.returns
returns c =
    let a = c.in_ok-first.first in
    let b = c.in_ok-second.second in
    same_shape_is c.args.table.now c.args.t _ _ a b c.eq.result c.once.ensures
    (record { valid = c.in_ok-first.ensures.valid; value = c.in_ok-first.ensures.value })
    (record { valid = c.in_ok-second.ensures.valid; value = c.in_ok-second.ensures.value })
    (subst (λ (r : Bool). Decides r (a ≡ b)) (sym c.eq.ensures) (Decides-node a b))
