use Rattle.ui_strpos.specs.Whole.{one_spelling}
use Rattle.ui_strpos.proofs.element.one_form.Goals as goal

pub returns : goal.returns
returns g c c' a b more ga gb e = one_spelling g.E.Element.format c' a b more g.met.E.Element.lawful ga gb e
