use Rattle.std.proofs.Common.{Some, None, sym, ◌∙◌}
use Rattle.ui_ptype.proofs.Covers.{name_is, selector_is, member_is, no_name, no_member}
use Rattle.ui_ptype.proofs.CoverTypes.{named_at, unnamed}
use Rattle.ui_ptype.proofs.cover.named.Goals as goal

pub returns-in-Name : goal.returns-in-Name
returns-in-Name c = named_at c.args.tree (c.in-Name.name, None) _ _ (name_is c.args.tree c.in-Name.name c.in-Name.is) c.named.ensures

pub returns-in-Name-into_inner : goal.returns-in-Name-into_inner
returns-in-Name-into_inner c = named_at c.args.tree (c.in-Name-into_inner.name, Some c.in-Selector.member) _ _
    (selector_is c.args.tree _ _ _ c.in-Selector.is ∙ member_is c.in-Selector.of c.in-Name-into_inner.name c.in-Selector.member (sym c.into_inner.ensures ∙ c.in-Name-into_inner.is)) c.named-in-Name-into_inner.ensures

pub returns-in-Selector : goal.returns-in-Selector
returns-in-Selector c = unnamed c.args.tree _ (selector_is c.args.tree _ _ _ c.in-Selector.is ∙ no_member c.in-Selector.of c.in-Selector.member (λ n e. c.in_default-into_inner.not-Name n (c.into_inner.ensures ∙ e)))

pub returns : goal.returns
returns c = unnamed c.args.tree _ (no_name c.args.tree c.in_default.not-Name c.in_default.not-Selector)
