use Rattle.std.proofs.Common.{◌≡◌, Bool, true, false, not, sym, ap, ◌∙◌}
use Rattle.std.specs.Prelude.{is_some}
use Rattle.ui_exports.specs.Constants.{declarations_of}
use Rattle.ui_exports.proofs.Entries.{declarations_of-insert, is_there}
use Rattle.ui_exports.proofs.package.add.Goals as goal

turned : (was none there : Bool) → was ≡ not none → there ≡ was → none ≡ not there
turned was true there is same = ap not (sym (same ∙ is))
turned was false there is same = ap not (sym (same ∙ is))

pub returns-clause-added : goal.returns-clause-added
returns-clause-added c = turned _ _ _ c.is_none.ensures (is_there c.args.constants.now.entries c.args.name ∙ sym (ap is_some c.in_ok-old.ensures.old))

pub returns-clause-now : goal.returns-clause-now
returns-clause-now c = ap declarations_of c.in_ok-old.ensures.entries ∙ declarations_of-insert c.args.constants.now.entries c.args.name c.args.constant
