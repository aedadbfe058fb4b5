use Rattle.std.proofs.Common.{◌≡◌, Bool, true, false, not, sym, ap, ◌∙◌}
use Rattle.std.specs.Prelude.{is_some}
use Rattle.ui_forms.specs.Numbers.{numbers_of}
use Rattle.ui_forms.proofs.NumberLemmas.{numbers_of-insert, is_there}
use Rattle.ui_forms.proofs.numbers.add.Goals as goal

turned : (was none there : Bool) → was ≡ not none → there ≡ was → none ≡ not there
turned was true there is same = ap not (sym (same ∙ is))
turned was false there is same = ap not (sym (same ∙ is))

pub returns-clause-added : goal.returns-clause-added
returns-clause-added c = turned _ _ _ c.is_none.ensures (is_there c.args.map.now.entries c.args.text ∙ sym (ap is_some c.in_ok-old.ensures.old))

pub returns-clause-now : goal.returns-clause-now
returns-clause-now c = ap numbers_of c.in_ok-old.ensures.entries ∙ numbers_of-insert c.args.map.now.entries c.args.text c.args.number
