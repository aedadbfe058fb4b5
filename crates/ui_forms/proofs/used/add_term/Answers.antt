use Rattle.std.proofs.Common.{◌||◌, sym, ap, ◌∙◌}
use Rattle.ui_forms.specs.Numbers.{has}
use Rattle.ui_forms.specs.Verdict.{has_segment}
use Rattle.ui_forms.proofs.ValueLemmas.{segment_added}
use Rattle.ui_forms.proofs.used.add_term.Goals as goal

pub returns-in_ok-add-in-Of : goal.returns-in_ok-add-in-Of
returns-in_ok-add-in-Of c q = segment_added _ _ c.in-Of.segment c.bytes.result.now q c.bytes.ensures c.in_ok-add-in-Of.ensures.now ∙ ap (λ t. has_segment q t || has c.args.used.now q) (sym c.in-Of.is)
