use Rattle.ui_order.specs.OrderLaws.{takes_imports_first, takes_all, takes_no_cycle, arranges_acyclic}
use Rattle.ui_order.proofs.laws.order_is_whole.Goals as goal

pub returns-clause-imports_first : goal.returns-clause-imports_first
returns-clause-imports_first c = takes_imports_first

pub returns-clause-all : goal.returns-clause-all
returns-clause-all c = takes_all

pub returns-clause-no_cycle : goal.returns-clause-no_cycle
returns-clause-no_cycle c = takes_no_cycle

pub returns-clause-acyclic : goal.returns-clause-acyclic
returns-clause-acyclic c = arranges_acyclic
