use Rattle.ui_stray.proofs.Marks.{stray_told}
use Rattle.ui_stray.proofs.find.first_stray.Goals as goal

pub returns : goal.returns
returns c = λ x h.
    stray_told c.args.frame.now x c.in_ok-marks.marks.items c.deref-3.result.now
    c.first_place.result h (c.in_ok-marks.ensures.reached x h) c.deref-3.ensures.value
    c.first_place.ensures
