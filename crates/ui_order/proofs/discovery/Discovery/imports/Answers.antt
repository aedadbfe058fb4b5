use Rattle.std.specs.Prelude.{Some, None, map, string_bytes}
use Rattle.std.proofs.Common.{◌∙◌, ap}
use Rattle.std.specs.FinMap.{get}
use Rattle.ui_order.specs.Found.{Found}
use Rattle.ui_order.proofs.TableLemmas.{get-graph_of}
use Rattle.ui_order.proofs.discovery.Discovery.imports.Goals as goal

pub returns-in-Some : goal.returns-in-Some
returns-in-Some c =
    ap (λ xs. Some (map string_bytes xs)) c.as_slice.ensures.value
    ∙ get-graph_of c.self.inside.read.entries c.args.path.now (Some c.in-Some.imports) c.in-Some.ensures.value
    ∙ ap (λ (f : Found). get f.read c.args.path.now) c.self.view_is

pub returns-in-None : goal.returns-in-None
returns-in-None c =
    get-graph_of c.self.inside.read.entries c.args.path.now None c.in-None.ensures.value
    ∙ ap (λ (f : Found). get f.read c.args.path.now) c.self.view_is
