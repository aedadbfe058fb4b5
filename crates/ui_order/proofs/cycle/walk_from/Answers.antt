use Rattle.std.proofs.Common.{ap}
use Rattle.ui_order.specs.Components.{is_seen}
use Rattle.ui_order.proofs.StepLemmas.{rest_empty, entered_is, entered_keeps, entered_here}
use Rattle.ui_order.proofs.cycle.walk_from.Goals as goal

pub loop-at-init : goal.loop-at-init
loop-at-init c =
    let links = c.args.links.now in
    let walk = c.args.walk.now in
    let walk' = c.enter.new.walk in
    record {
      walked = entered_is links walk walk' c.args.start c.requires.rest.walked c.in_ok-enter.ensures c.requires.number c.requires.start (λ i l. absurd (rest_empty links walk c.requires.rest i l));
      kept = entered_keeps links walk walk' c.args.start c.requires.rest.walked c.in_ok-enter.ensures c.requires.number c.requires.start (λ i l. absurd (rest_empty links walk c.requires.rest i l));
      seen = ap is_seen (entered_here links walk walk' c.args.start c.requires.rest.walked c.in_ok-enter.ensures c.requires.number c.requires.start (λ i l. absurd (rest_empty links walk c.requires.rest i l)));
    }
