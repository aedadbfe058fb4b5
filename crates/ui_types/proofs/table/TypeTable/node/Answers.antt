use Rattle.ui_types.proofs.TableLemmas.{entry_in}
use Rattle.ui_types.proofs.table.TypeTable.node.Goals as goal

pub returns-clause-valid : goal.returns-clause-valid
returns-clause-valid c = let here = entry_in _ _ c.args.t _ c.self.view_is c.self.invariant c.entry_of.ensures in here.valid

pub returns-clause-value : goal.returns-clause-value
returns-clause-value c = let here = entry_in _ _ c.args.t _ c.self.view_is c.self.invariant c.entry_of.ensures in here.value

pub returns-clause-limits : goal.returns-clause-limits
returns-clause-limits c = let here = entry_in _ _ c.args.t _ c.self.view_is c.self.invariant c.entry_of.ensures in here.limits
