use Rattle.std.proofs.Common.{Err, ap, sym, ◌∙◌}
use Rattle.ui_forms.specs.Numbers.{has}
use Rattle.ui_forms.proofs.SumLemmas.{no_term}
use Rattle.ui_forms.proofs.sums.term_of.Goals as goal

pub returns-in_default : goal.returns-in_default
returns-in_default c = no_term (has c.args.imports.now) (has c.args.own.now) c.args.of.now c.in_default.not-Literal c.in_default.not-Name c.in_default.not-Selector ∙ ap Err (sym c.tree_spot.ensures)
