use Rattle.std.proofs.Common.{sym, ap}
use Rattle.ui_syntax.specs.Exprs.{is_some}
use Rattle.ui_ptype.proofs.Covers.{type_alone, no_type_alone}
use Rattle.ui_ptype.proofs.cover.is_type_alone.Goals as goal

pub returns-in-Type : goal.returns-in-Type
returns-in-Type c = sym (ap is_some (type_alone c.args.tree.now _ c.in-Type.is))

pub returns-in_default : goal.returns-in_default
returns-in_default c = sym (ap is_some (no_type_alone c.args.tree.now c.in_default.not-Type))
