use Rattle.std.proofs.Common.{sym, ap, ◌∙◌}
use Rattle.ui_syntax.specs.Exprs.{is_some}
use Rattle.ui_ptype.proofs.Covers.{name_is, selector_is, member_is, no_name, no_member}
use Rattle.ui_ptype.proofs.cover.is_type_name.Goals as goal

pub returns-in-Name : goal.returns-in-Name
returns-in-Name c = sym (ap is_some (name_is c.args.tree.now _ c.in-Name.is))

pub returns-in-Name-matches : goal.returns-in-Name-matches
returns-in-Name-matches c = sym (ap is_some (selector_is c.args.tree.now _ _ _ c.in-Selector.is ∙ member_is c.in-Selector.of c.in-Name-matches.field-0 c.in-Selector.member (sym c.get.ensures ∙ c.in-Name-matches.is)))

pub returns-in_default-matches : goal.returns-in_default-matches
returns-in_default-matches c = sym (ap is_some (selector_is c.args.tree.now _ _ _ c.in-Selector.is ∙ no_member c.in-Selector.of c.in-Selector.member (λ n e. c.in_default-matches.not-Name n (c.get.ensures ∙ e))))

pub returns-in_default : goal.returns-in_default
returns-in_default c = sym (ap is_some (no_name c.args.tree.now c.in_default.not-Name c.in_default.not-Selector))
