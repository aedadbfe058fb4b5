use Rattle.std.proofs.Common.{arith, ap}
use Rattle.ui_order.specs.Found.{found_count}
use Rattle.ui_order.proofs.TableLemmas.{len-paths_of, len-graph_of}
use Rattle.ui_order.proofs.discovery.Discovery.count.Goals as goal

pub returns : goal.returns
returns c =
    let unread = len-paths_of c.self.inside.unread.keys c.len.ensures.ordered in
    let read = len-graph_of c.self.inside.read.entries c.len-2.ensures.ordered in
    omega (arith, ap found_count c.self.view_is)
