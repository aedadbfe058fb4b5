use Rattle.std.proofs.Common.{ap, ◌∙◌}
use Rattle.std.specs.FinMap.{get, insert}
use Rattle.ui_below.specs.Holding.{holding, merged}
use Rattle.ui_below.proofs.HoldingLemmas.{holding-insert}
use Rattle.ui_below.proofs.claims.add_claim.Goals as goal

pub returns : goal.returns
returns c =
    ap holding c.in_ok-insert.ensures.entries
    ∙ holding-insert c.args.by_path.now.entries c.in_ok-from_slice.field-0 c.merge-held.result
    ∙ ap (insert (holding c.args.by_path.now.entries) c.in_ok-from_slice.field-0.items) (c.merge-held.ensures ∙ ap (λ o. merged o c.args.print c.args.direct) c.held_of.ensures)
    ∙ ap (λ k. insert (holding c.args.by_path.now.entries) k (merged (get (holding c.args.by_path.now.entries) c.args.path.now) c.args.print c.args.direct)) c.in_ok-from_slice.ensures.items
