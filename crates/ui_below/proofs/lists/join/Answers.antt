use Rattle.std.proofs.Common.{◌∙◌, sym, ap, Ok}
use Rattle.ui_below.specs.Holding.{holding}
use Rattle.ui_below.proofs.HoldingLemmas.{is_held}
use Rattle.ui_below.proofs.JoinLaws.{joined_stale, joined_none}
use Rattle.ui_below.proofs.lists.join.Goals as goal

pub returns-in-Some : goal.returns-in-Some
returns-in-Some c = joined_stale _ _ (holding c.in_ok-by_path.by_path.entries) c.in_ok-stale.field-0 c.in-Some.stale c.in_ok-by_path.ensures c.in-Some.is c.in_ok-stale.ensures

pub returns-then-contains_key : goal.returns-then-contains_key
returns-then-contains_key c =
    joined_none _ _ (holding c.in_ok-by_path.by_path.entries) c.in_ok-stale.field-0 _ c.in_ok-by_path.ensures c.in_default.is c.in_ok-stale.ensures
    (is_held c.in_ok-by_path.by_path.entries c.args.own.now ∙ sym c.contains_key.ensures ∙ c.if-contains_key.true)

pub returns : goal.returns
returns c =
    joined_none _ _ (holding c.in_ok-by_path.by_path.entries) c.in_ok-stale.field-0 _ c.in_ok-by_path.ensures c.in_default.is c.in_ok-stale.ensures
    (is_held c.in_ok-by_path.by_path.entries c.args.own.now ∙ sym c.contains_key.ensures ∙ c.if-contains_key.false)
    ∙ ap Ok (sym c.in_ok-list_of.ensures)
