use Rattle.std.proofs.Common.{◌≡◌, List, [], ◌∷◌, ◌++◌, Some, refl, sym, ap, ◌∙◌}
use Rattle.ui_tree.specs.declared.expr.TypeExpr.{TypeExpr}
use Rattle.ui_tree.specs.View.{type_view}
use Rattle.ui_ptype.proofs.Covers.{no_cover}
use Rattle.ui_ptype.proofs.CoverTypes.{name_type, index_type, no_index, instance_type, paren_type, no_paren, pointer_type, no_pointed, type_cover, no_pointer, deref_is}
use Rattle.ui_ptype.proofs.cover.+into_type.Goals as goal

pub returns-in_default-2 : goal.returns-in_default-2
returns-in_default-2 t c = no_index c.args.tree c.in-Index.spot c.in-Index.of c.in-Index.at c.into_inner.result c.in_ok-arg-in-Index.field-0 c.in-Index.is (cc) c.in_ok-arg-in-Index.ensures c.in_default-2.is

pub returns-in-Name : goal.returns-in-Name
returns-in-Name t c = name_type c.args.tree _ c.in-Name.is c.named.ensures

pub returns-in_ok-push-in-Index : goal.returns-in_ok-push-in-Index
returns-in_ok-push-in-Index t c =
    let all : c.push.new.self ≡ c.in-Some.arg ∷ [] = c.in_ok-push-in-Index.ensures.ok ∙ ap (λ (us : List TypeExpr). us ++ c.in-Some.arg ∷ []) c.new-args.ensures in
    index_type c.args.tree c.in-Index.spot c.in-Index.of c.in-Index.at c.into_inner-in-Index.result c.into_inner.result c.in-Some.arg c.in_ok-arg-in-Index.field-0 c.push.new.self _
    c.in-Index.is (cc) (cc) c.in_ok-arg-in-Index.ensures c.in-Some.is all c.named-in-Index.ensures

pub returns-in-Instance : goal.returns-in-Instance
returns-in-Instance t c = instance_type c.args.tree c.in-Instance.spot c.in-Instance.of c.into_inner-in-Instance.result c.in-Instance.args c.in-Instance.args _ c.in-Instance.is c.into_inner-in-Instance.ensures refl c.named-in-Instance.ensures

pub returns-in_ok-new-in-Some-2 : goal.returns-in_ok-new-in-Some-2
returns-in_ok-new-in-Some-2 t c = paren_type c.args.tree c.in-Paren.spot c.in-Paren.of c.into_inner-in-Paren.result c.in_ok-of-in-Paren.field-0 c.in-Some-2.of c.in_ok-new-in-Some-2.field-0 _
    c.in-Paren.is (cc) c.in_ok-of-in-Paren.ensures c.in-Some-2.is c.in_ok-new-in-Some-2.ensures c.parenthesized.ensures

pub returns-in-None : goal.returns-in-None
returns-in-None t c = no_paren c.args.tree c.in-Paren.spot c.in-Paren.of c.into_inner-in-Paren.result c.in_ok-of-in-Paren.field-0 c.in-Paren.is (cc) c.in_ok-of-in-Paren.ensures c.in-None.is

pub returns-in-Type : goal.returns-in-Type
returns-in-Type t c =
    let same : c.into_inner-in-Type.result ≡ c.in-Type.of = cc in
    ap (λ (u : TypeExpr). Some (type_view u)) same ∙ sym (type_cover c.args.tree c.in-Type.of c.in-Type.is)

pub returns-then-not-is_deref : goal.returns-then-not-is_deref
returns-then-not-is_deref t c = sym (no_pointer c.args.tree c.in-Unary.spot c.in-Unary.op c.in-Unary.of c.in-Unary.is (sym c.is_deref.ensures ∙ c.if-not-is_deref.true))

pub returns-in_ok-new-in-Some-3 : goal.returns-in_ok-new-in-Some-3
returns-in_ok-new-in-Some-3 t c = pointer_type c.args.tree c.in-Unary.spot c.in-Unary.op c.in-Unary.of c.into_inner-in-Unary.result c.in_ok-of-in-Unary.field-0 c.in-Some-3.of c.in_ok-new-in-Some-3.field-0 _
    c.in-Unary.is (deref_is c.in-Unary.op (sym c.is_deref.ensures ∙ c.if-not-is_deref.false)) (cc) c.in_ok-of-in-Unary.ensures c.in-Some-3.is c.in_ok-new-in-Some-3.ensures c.pointer.ensures

pub returns-in-None-2 : goal.returns-in-None-2
returns-in-None-2 t c = no_pointed c.args.tree c.in-Unary.spot c.in-Unary.op c.in-Unary.of c.into_inner-in-Unary.result c.in_ok-of-in-Unary.field-0
    c.in-Unary.is (deref_is c.in-Unary.op (sym c.is_deref.ensures ∙ c.if-not-is_deref.false)) (cc) c.in_ok-of-in-Unary.ensures c.in-None-2.is

pub returns-in_default : goal.returns-in_default
returns-in_default t c = sym (no_cover c.args.tree (record {
  not_name = c.in_default.not-Name;
  not_selector = c.in_default.not-Selector;
  not_index = c.in_default.not-Index;
  not_instance = c.in_default.not-Instance;
  not_paren = c.in_default.not-Paren;
  not_unary = c.in_default.not-Unary;
  not_type = c.in_default.not-Type;
}))
