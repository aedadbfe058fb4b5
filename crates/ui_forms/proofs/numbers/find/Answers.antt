use Rattle.std.proofs.Common.{sym, ◌∙◌}
use Rattle.ui_forms.proofs.NumberLemmas.{get_numbers_of}
use Rattle.ui_forms.proofs.numbers.find.Goals as goal

pub returns : goal.returns
returns c = c.copied.ensures ∙ c.get.ensures.value ∙ sym (get_numbers_of _ _)
