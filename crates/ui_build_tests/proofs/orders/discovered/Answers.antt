use Rattle.std.proofs.Common.{subst, sym}
use Rattle.std.specs.Prelude.{string_bytes}
use Rattle.ui_order.specs.Found.{IsFound}
use Rattle.ui_order.specs.Tables.{texts}
use Rattle.ui_order.specs.FoundLaws.{IsFound-begun, IsFound-with_imports, closes_at_end}
use Rattle.ui_build_tests.proofs.orders.discovered.Goals as goal

pub loop-init : goal.loop-init
loop-init c = subst (λ f. IsFound c.args.root.now f) (sym c.in_ok-discovery.ensures) (IsFound-begun c.args.root.now)

pub loop-preserved : goal.loop-preserved
loop-preserved c = subst (λ f. IsFound c.args.root.now f) (sym c.in_ok-add.ensures) (IsFound-with_imports c.args.root.now c.loop.discovery (string_bytes c.in_ok-path-in-Some.path) (texts c.in_ok-imports.imports) c.loop.invariant)

pub returns-in-None : goal.returns-in-None
returns-in-None c = (closes_at_end c.args.root.now c.loop.discovery c.loop.invariant (sym c.in-None.ensures)).1
