use Rattle.ui_types.proofs.KeyLemmas.{found_at, fresh_at}
use Rattle.ui_types.proofs.entries.find.Goals as goal

pub returns-clause-found : goal.returns-clause-found
returns-clause-found c = found_at _ _ _ c.get_index_of.ensures.index

pub returns-clause-fresh : goal.returns-clause-fresh
returns-clause-fresh c = fresh_at _ _ _ c.get_index_of.ensures.index
