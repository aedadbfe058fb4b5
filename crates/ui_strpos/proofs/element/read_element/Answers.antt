use Rattle.std.proofs.Common.{arith}
use Rattle.ui_frame.specs.Laws.{bytes_by_index}
use Rattle.ui_strpos.specs.Contexts.{context}
use Rattle.ui_strpos.specs.Format.{element_in}
use Rattle.ui_strpos.specs.Whole.{found_by, only_by}
use Rattle.ui_strpos.specs.FaultLaws.{stands_by, given_by, element_left, element_unused}
use Rattle.ui_strpos.proofs.element.read_element.Goals as goal

pub returns-clause-found : goal.returns-clause-found
returns-clause-found g c = found_by g.E.Element.format (context c.args.own c.args.shape.now c.args.frame.now) c.args.bytes.now c.read_all.result g.met.E.Element.lawful (bytes_by_index c.args.bytes.now (λ i. omega (arith, c.type_inv.bytes i))) c.read_all.ensures

pub returns-clause-only : goal.returns-clause-only
returns-clause-only g c e in_it text = only_by g.E.Element.format (context c.args.own c.args.shape.now c.args.frame.now) c.args.bytes.now c.read_all.result e g.met.E.Element.lawful c.read_all.ensures in_it text

pub returns-clause-field : goal.returns-clause-field
returns-clause-field g c = stands_by g.E.Element.format (context c.args.own c.args.shape.now c.args.frame.now) c.args.bytes.now c.read_all.result g.met.E.Element.lawful (bytes_by_index c.args.bytes.now (λ i. omega (arith, c.type_inv.bytes i))) c.read_all.ensures

pub returns-clause-tail : goal.returns-clause-tail
returns-clause-tail g c e more in_it some text =
    let over = context c.args.own c.args.shape.now c.args.frame.now in
    given_by c.read_all.result (element_in g.E.Element.format over c.args.bytes.now) _ c.read_all.ensures (element_left g.E.Element.format over e more c.args.bytes.now g.met.E.Element.lawful (bytes_by_index c.args.bytes.now (λ i. omega (arith, c.type_inv.bytes i))) in_it some text)

pub returns-clause-unused : goal.returns-clause-unused
returns-clause-unused g c e unused more in_it some table text =
    let over = context c.args.own c.args.shape.now c.args.frame.now in
    given_by c.read_all.result (element_in g.E.Element.format over c.args.bytes.now) _ c.read_all.ensures (element_unused g.E.Element.format over e unused more c.args.bytes.now g.met.E.Element.lawful in_it some table text)
