use Rattle.std.proofs.Common.{sym, ap, ◌∙◌}
use Rattle.ui_syntax.specs.Exprs.{is_some}
use Rattle.ui_ptype.proofs.Covers.{no_cover}
use Rattle.ui_ptype.proofs.CoverTypes.{is_index_type, no_index_type, is_instance_type, is_paren_type, is_pointer_type, no_pointer, type_cover, is_name_type, deref_is}
use Rattle.ui_ptype.proofs.cover.+is_type.Goals as goal

pub returns-then-is_type_name : goal.returns-then-is_type_name
returns-then-is_type_name t c = is_index_type c.args.tree.now _ c.in-Index.of c.in-Index.at c.get.result.now c.get-then-is_type_name.result.now _ c.in-Index.is c.get.ensures c.get-then-is_type_name.ensures (sym c.if-is_type_name.true ∙ c.is_type_name.ensures) c.is_type.ensures

pub returns-else-is_type_name : goal.returns-else-is_type_name
returns-else-is_type_name t c = no_index_type c.args.tree.now _ c.in-Index.of c.in-Index.at c.get.result.now _ c.in-Index.is c.get.ensures c.is_type_name.ensures c.if-is_type_name.false

pub returns-in-Instance : goal.returns-in-Instance
returns-in-Instance t c = is_instance_type c.args.tree.now _ c.in-Instance.of c.get-in-Instance.result.now c.in-Instance.args _ c.in-Instance.is c.get-in-Instance.ensures c.is_type_name-in-Instance.ensures

pub returns-in-Paren : goal.returns-in-Paren
returns-in-Paren t c = is_paren_type c.args.tree.now _ c.in-Paren.of c.get-in-Paren.result.now _ c.in-Paren.is c.get-in-Paren.ensures c.is_type-in-Paren.ensures

pub returns-then-is_deref : goal.returns-then-is_deref
returns-then-is_deref t c = is_pointer_type c.args.tree.now _ c.in-Unary.op c.in-Unary.of c.get-then-is_deref.result.now _ c.in-Unary.is (deref_is c.in-Unary.op (sym c.is_deref.ensures ∙ c.if-is_deref.true)) c.get-then-is_deref.ensures c.is_type-then-is_deref.ensures

pub returns-else-is_deref : goal.returns-else-is_deref
returns-else-is_deref t c = c.if-is_deref.false ∙ sym (ap is_some (no_pointer c.args.tree.now _ c.in-Unary.op c.in-Unary.of c.in-Unary.is (sym c.is_deref.ensures ∙ c.if-is_deref.false)))

pub returns-in-Type : goal.returns-in-Type
returns-in-Type t c = sym (ap is_some (type_cover c.args.tree.now _ c.in-Type.is))

pub returns-in-Name : goal.returns-in-Name
returns-in-Name t c = is_name_type c.args.tree.now _ c.in-Name.is c.is_type_name-in-Name.ensures

pub returns-in_default : goal.returns-in_default
returns-in_default t c = sym (ap is_some (no_cover c.args.tree.now (record {
  not_name = c.in_default.not-Name;
  not_selector = c.in_default.not-Selector;
  not_index = c.in_default.not-Index;
  not_instance = c.in_default.not-Instance;
  not_paren = c.in_default.not-Paren;
  not_unary = c.in_default.not-Unary;
  not_type = c.in_default.not-Type;
})))
