use Rattle.std.specs.Prelude.{Some, None, slice_get}
use Rattle.std.proofs.Common.{◌∙◌, ap, sym}
use Rattle.ui_order.specs.Found.{Found, least_unread}
use Rattle.ui_order.proofs.TableLemmas.{least-paths_of}
use Rattle.ui_order.proofs.discovery.Discovery.next.Goals as goal

pub returns-in-Some : goal.returns-in-Some
returns-in-Some c =
    ap Some c.as_str.ensures.value
    ∙ least-paths_of c.self.inside.unread.keys (Some c.in-Some.path.now) c.iter.ensures.ordered
    (ap (λ xs. slice_get xs 0) (sym c.iter.ensures.rest ∙ c.in-Some.ensures.steps))
    ∙ ap (λ (f : Found). least_unread f) c.self.view_is

pub returns-in-None : goal.returns-in-None
returns-in-None c =
    least-paths_of c.self.inside.unread.keys None c.iter.ensures.ordered
    (ap (λ xs. slice_get xs 0) (sym c.iter.ensures.rest ∙ c.in-None.ensures.steps.0))
    ∙ ap (λ (f : Found). least_unread f) c.self.view_is
