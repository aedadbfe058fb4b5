use Rattle.ui_order.specs.Found.{IsFound}
use Rattle.ui_build_tests.proofs.orders.discovered.Given as goal

abbrev pub invariant-loop : goal.invariant-loop
invariant-loop l = IsFound l.root l.discovery
