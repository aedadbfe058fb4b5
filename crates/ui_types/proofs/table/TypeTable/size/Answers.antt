use Rattle.ui_types.proofs.TableLemmas.{entry_in}
use Rattle.ui_types.proofs.table.TypeTable.size.Goals as goal

pub returns : goal.returns
returns c = let here = entry_in _ _ c.args.t _ c.self.view_is c.self.invariant c.entry_of.ensures in here.size_is
