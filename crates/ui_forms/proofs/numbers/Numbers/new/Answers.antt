use Rattle.std.proofs.Common.{ap, ◌∙◌}
use Rattle.ui_forms.specs.Numbers.{numbers_of}
use Rattle.ui_forms.proofs.NumberLemmas.{numbers_of-nothing}
use Rattle.ui_forms.proofs.numbers.Numbers.new.Goals as goal

pub returns : goal.returns
returns c = ap numbers_of c.new.ensures.empty ∙ numbers_of-nothing
