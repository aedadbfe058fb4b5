use Rattle.std.proofs.Common.{sym, ap, ◌∙◌}
use Rattle.ui_syntax.specs.Exprs.{is_some}
use Rattle.ui_ptype.proofs.CoverNames.{maybe_named, alone_named, alone_unnamed, no_type_name}
use Rattle.ui_ptype.proofs.cover.is_named_type.Goals as goal

pub returns-in-Named : goal.returns-in-Named
returns-in-Named c = alone_named c.args.tree.now _ c.get.result.now _ _ _ c.in-Type.is c.get.ensures c.in-Named.is

pub returns-in_default-matches : goal.returns-in_default-matches
returns-in_default-matches c = alone_unnamed c.args.tree.now _ c.get.result.now c.in-Type.is c.get.ensures c.in_default-matches.not-Named

pub returns-in_default : goal.returns-in_default
returns-in_default c = sym (ap is_some (no_type_name c.args.tree.now (record {
  not_name = c.in_default.not-Name;
  not_selector = c.in_default.not-Selector;
  not_index = c.in_default.not-Index;
  not_instance = c.in_default.not-Instance;
  not_type = c.in_default.not-Type;
})))

pub returns-in-Name : goal.returns-in-Name
returns-in-Name c = c.is_type.ensures ∙ maybe_named c.args.tree.now c.in-Name.is
