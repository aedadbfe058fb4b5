use Rattle.ui_build.proofs.Deciding.{turns_enough}
use Rattle.ui_build.proofs.Discovered.{Orders}
use Rattle.ui_build.proofs.laws.turns_suffice.Goals as goal

pub returns : goal.returns
returns c =
    let laws : Orders = record { begins = c.discovery_keeps.ensures.begins; keeps = c.discovery_keeps.ensures.keeps; closes = c.discovery_keeps.ensures.closes; imports_first = c.order_is_whole.ensures.imports_first; all = c.order_is_whole.ensures.all; acyclic = c.order_is_whole.ensures.acyclic } in
    turns_enough laws c.discovery_keeps.ensures.reads
