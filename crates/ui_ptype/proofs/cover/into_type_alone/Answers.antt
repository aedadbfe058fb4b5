use Rattle.std.proofs.Common.{sym, ◌∙◌}
use Rattle.ui_ptype.proofs.Covers.{type_alone, no_type_alone}
use Rattle.ui_ptype.proofs.cover.into_type_alone.Goals as goal

pub returns-in-Type : goal.returns-in-Type
returns-in-Type c = sym (type_alone c.args.tree c.in-Type.of (sym c.into_inner.ensures ∙ c.in-Type.is))

pub returns : goal.returns
returns c = sym (no_type_alone c.args.tree (λ t e. c.in_default.not-Type t (c.into_inner.ensures ∙ e)))
