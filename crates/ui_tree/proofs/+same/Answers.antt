use Rattle.std.proofs.Common.{◌≡◌, IsTrue, false, rules, arith, ap, sym, ◌∙◌}
use Rattle.std.proofs.lemmas.Grind.{common_steps}
use Rattle.ui_tree.specs.View.{forgotten, shape, type_shape}
use Rattle.ui_tree.specs.Views.{seen_Literal, seen_Name, seen_Paren, seen_Convert, seen_Composite, seen_Elided, seen_Keyed, seen_Instance, seen_Selector, seen_Assert, seen_Index, seen_Sliced, seen_Call, seen_Type, seen_Unary, seen_Binary, seen_Named, seen_Parenthesized, seen_Pointer, seen_Slice, seen_Array, seen_Counted, seen_Map, seen_Func, seen_Listed, seen_Struct, seen_Interface, seen_Method, seen_Union, seen_Tilde}
use Rattle.ui_tree.proofs.Apart.{apart_Literal, apart_Name, apart_Paren, apart_Convert, apart_Composite, apart_Elided, apart_Keyed, apart_Instance, apart_Selector, apart_Assert, apart_Index, apart_Sliced, apart_Call, apart_Type, apart_Unary, apart_Binary, apart_Named, apart_Parenthesized, apart_Pointer, apart_Slice, apart_Array, apart_Counted, apart_Map, apart_Func, apart_Listed, apart_Struct, apart_Interface, apart_Method, apart_Union, apart_Tilde}
use Rattle.ui_tree.proofs.Pairs.{group_shape, images_length, images_at, images_all, names_in, type_in, trees_same, types_same, groups_same, groups_same_back}
use Rattle.ui_tree.proofs.+same.Goals as goal

different : {P : Type 0} → (P → ⊥) → (IsTrue false → P) × (P → IsTrue false)
different refuted = (λ h. search rules, λ p. absurd (refuted p))

pub expr::ExprTree::same-returns-in_default : goal.expr::ExprTree::same-returns-in_default
expr::ExprTree::same-returns-in_default t c =
    different (λ same. apart_Literal forgotten c.args.other.now c.in_default.not-Literal _ _ _ (sym same ∙ ap shape c.in-Literal.is ∙ seen_Literal forgotten c.in-Literal.spot c.in-Literal.a c.in-Literal.c))

pub expr::ExprTree::same-returns-in_default-other : goal.expr::ExprTree::same-returns-in_default-other
expr::ExprTree::same-returns-in_default-other t c =
    different (λ same. apart_Name forgotten c.args.other.now c.in_default-other.not-Name _ (sym same ∙ ap shape c.in-Name.is ∙ seen_Name forgotten c.in-Name.a))

pub expr::ExprTree::same-returns-in_default-other-2 : goal.expr::ExprTree::same-returns-in_default-other-2
expr::ExprTree::same-returns-in_default-other-2 t c =
    different (λ same. apart_Paren forgotten c.args.other.now c.in_default-other-2.not-Paren _ _ (sym same ∙ ap shape c.in-Paren.is ∙ seen_Paren forgotten c.in-Paren.spot c.in-Paren.a))

pub expr::ExprTree::same-returns-in_default-other-3 : goal.expr::ExprTree::same-returns-in_default-other-3
expr::ExprTree::same-returns-in_default-other-3 t c =
    different (λ same. apart_Convert forgotten c.args.other.now c.in_default-other-3.not-Convert _ _ _ (sym same ∙ ap shape c.in-Convert.is ∙ seen_Convert forgotten c.in-Convert.spot c.in-Convert.a c.in-Convert.c))

pub expr::ExprTree::same-returns-in_default-other-4 : goal.expr::ExprTree::same-returns-in_default-other-4
expr::ExprTree::same-returns-in_default-other-4 t c =
    different (λ same. apart_Composite forgotten c.args.other.now c.in_default-other-4.not-Composite _ _ _ (sym same ∙ ap shape c.in-Composite.is ∙ seen_Composite forgotten c.in-Composite.spot c.in-Composite.a c.in-Composite.c))

pub expr::ExprTree::same-returns-in_default-other-5 : goal.expr::ExprTree::same-returns-in_default-other-5
expr::ExprTree::same-returns-in_default-other-5 t c =
    different (λ same. apart_Elided forgotten c.args.other.now c.in_default-other-5.not-Elided _ _ (sym same ∙ ap shape c.in-Elided.is ∙ seen_Elided forgotten c.in-Elided.spot c.in-Elided.a))

pub expr::ExprTree::same-returns-in_default-other-6 : goal.expr::ExprTree::same-returns-in_default-other-6
expr::ExprTree::same-returns-in_default-other-6 t c =
    different (λ same. apart_Keyed forgotten c.args.other.now c.in_default-other-6.not-Keyed _ _ _ (sym same ∙ ap shape c.in-Keyed.is ∙ seen_Keyed forgotten c.in-Keyed.spot c.in-Keyed.a c.in-Keyed.c))

pub expr::ExprTree::same-returns-in_default-other-7 : goal.expr::ExprTree::same-returns-in_default-other-7
expr::ExprTree::same-returns-in_default-other-7 t c =
    different (λ same. apart_Instance forgotten c.args.other.now c.in_default-other-7.not-Instance _ _ _ (sym same ∙ ap shape c.in-Instance.is ∙ seen_Instance forgotten c.in-Instance.spot c.in-Instance.a c.in-Instance.c))

pub expr::ExprTree::same-returns-in_default-other-8 : goal.expr::ExprTree::same-returns-in_default-other-8
expr::ExprTree::same-returns-in_default-other-8 t c =
    different (λ same. apart_Selector forgotten c.args.other.now c.in_default-other-8.not-Selector _ _ _ (sym same ∙ ap shape c.in-Selector.is ∙ seen_Selector forgotten c.in-Selector.spot c.in-Selector.a c.in-Selector.c))

pub expr::ExprTree::same-returns-in_default-other-9 : goal.expr::ExprTree::same-returns-in_default-other-9
expr::ExprTree::same-returns-in_default-other-9 t c =
    different (λ same. apart_Assert forgotten c.args.other.now c.in_default-other-9.not-Assert _ _ _ (sym same ∙ ap shape c.in-Assert.is ∙ seen_Assert forgotten c.in-Assert.spot c.in-Assert.a c.in-Assert.c))

pub expr::ExprTree::same-returns-in_default-other-10 : goal.expr::ExprTree::same-returns-in_default-other-10
expr::ExprTree::same-returns-in_default-other-10 t c =
    different (λ same. apart_Index forgotten c.args.other.now c.in_default-other-10.not-Index _ _ _ (sym same ∙ ap shape c.in-Index.is ∙ seen_Index forgotten c.in-Index.spot c.in-Index.a c.in-Index.c))

pub expr::ExprTree::same-returns-in_default-other-11 : goal.expr::ExprTree::same-returns-in_default-other-11
expr::ExprTree::same-returns-in_default-other-11 t c =
    different (λ same. apart_Sliced forgotten c.args.other.now c.in_default-other-11.not-Sliced _ _ _ _ _ (sym same ∙ ap shape c.in-Sliced.is ∙ seen_Sliced forgotten c.in-Sliced.spot c.in-Sliced.a c.in-Sliced.c c.in-Sliced.e c.in-Sliced.g))

pub expr::ExprTree::same-returns-in_default-other-12 : goal.expr::ExprTree::same-returns-in_default-other-12
expr::ExprTree::same-returns-in_default-other-12 t c =
    different (λ same. apart_Call forgotten c.args.other.now c.in_default-other-12.not-Call _ _ _ _ (sym same ∙ ap shape c.in-Call.is ∙ seen_Call forgotten c.in-Call.spot c.in-Call.a c.in-Call.c c.in-Call.e))

pub expr::ExprTree::same-returns-in_default-other-13 : goal.expr::ExprTree::same-returns-in_default-other-13
expr::ExprTree::same-returns-in_default-other-13 t c =
    different (λ same. apart_Type forgotten c.args.other.now c.in_default-other-13.not-Type _ (sym same ∙ ap shape c.in-Type.is ∙ seen_Type forgotten c.in-Type.a))

pub expr::ExprTree::same-returns-in_default-other-14 : goal.expr::ExprTree::same-returns-in_default-other-14
expr::ExprTree::same-returns-in_default-other-14 t c =
    different (λ same. apart_Unary forgotten c.args.other.now c.in_default-other-14.not-Unary _ _ _ (sym same ∙ ap shape c.in-Unary.is ∙ seen_Unary forgotten c.in-Unary.spot c.in-Unary.a c.in-Unary.c))

pub expr::ExprTree::same-returns-in_default-other-15 : goal.expr::ExprTree::same-returns-in_default-other-15
expr::ExprTree::same-returns-in_default-other-15 t c =
    different (λ same. apart_Binary forgotten c.args.other.now c.in_default-other-15.not-Binary _ _ _ _ (sym same ∙ ap shape c.in-Binary.is ∙ seen_Binary forgotten c.in-Binary.spot c.in-Binary.a c.in-Binary.c c.in-Binary.e))

pub expr::TypeExpr::same-returns-in_default : goal.expr::TypeExpr::same-returns-in_default
expr::TypeExpr::same-returns-in_default t c =
    different (λ same. apart_Named forgotten c.args.other.now c.in_default.not-Named _ _ _ (sym same ∙ ap type_shape c.in-Named.is ∙ seen_Named forgotten c.in-Named.a c.in-Named.c c.in-Named.e))

pub expr::TypeExpr::same-returns-in_default-other : goal.expr::TypeExpr::same-returns-in_default-other
expr::TypeExpr::same-returns-in_default-other t c =
    different (λ same. apart_Parenthesized forgotten c.args.other.now c.in_default-other.not-Parenthesized _ _ (sym same ∙ ap type_shape c.in-Parenthesized.is ∙ seen_Parenthesized forgotten c.in-Parenthesized.spot c.in-Parenthesized.a))

pub expr::TypeExpr::same-returns-in_default-other-2 : goal.expr::TypeExpr::same-returns-in_default-other-2
expr::TypeExpr::same-returns-in_default-other-2 t c =
    different (λ same. apart_Pointer forgotten c.args.other.now c.in_default-other-2.not-Pointer _ _ (sym same ∙ ap type_shape c.in-Pointer.is ∙ seen_Pointer forgotten c.in-Pointer.spot c.in-Pointer.a))

pub expr::TypeExpr::same-returns-in_default-other-3 : goal.expr::TypeExpr::same-returns-in_default-other-3
expr::TypeExpr::same-returns-in_default-other-3 t c =
    different (λ same. apart_Slice forgotten c.args.other.now c.in_default-other-3.not-Slice _ _ (sym same ∙ ap type_shape c.in-Slice.is ∙ seen_Slice forgotten c.in-Slice.spot c.in-Slice.a))

pub expr::TypeExpr::same-returns-in_default-other-4 : goal.expr::TypeExpr::same-returns-in_default-other-4
expr::TypeExpr::same-returns-in_default-other-4 t c =
    different (λ same. apart_Array forgotten c.args.other.now c.in_default-other-4.not-Array _ _ _ (sym same ∙ ap type_shape c.in-Array.is ∙ seen_Array forgotten c.in-Array.spot c.in-Array.a c.in-Array.c))

pub expr::TypeExpr::same-returns-in_default-other-5 : goal.expr::TypeExpr::same-returns-in_default-other-5
expr::TypeExpr::same-returns-in_default-other-5 t c =
    different (λ same. apart_Counted forgotten c.args.other.now c.in_default-other-5.not-Counted _ _ (sym same ∙ ap type_shape c.in-Counted.is ∙ seen_Counted forgotten c.in-Counted.spot c.in-Counted.a))

pub expr::TypeExpr::same-returns-in_default-other-6 : goal.expr::TypeExpr::same-returns-in_default-other-6
expr::TypeExpr::same-returns-in_default-other-6 t c =
    different (λ same. apart_Map forgotten c.args.other.now c.in_default-other-6.not-Map _ _ _ (sym same ∙ ap type_shape c.in-Map.is ∙ seen_Map forgotten c.in-Map.spot c.in-Map.a c.in-Map.c))

pub expr::TypeExpr::same-returns-in_default-other-7 : goal.expr::TypeExpr::same-returns-in_default-other-7
expr::TypeExpr::same-returns-in_default-other-7 t c =
    different (λ same. apart_Func forgotten c.args.other.now c.in_default-other-7.not-Func _ _ _ (sym same ∙ ap type_shape c.in-Func.is ∙ seen_Func forgotten c.in-Func.spot c.in-Func.a.params c.in-Func.a.results))

pub expr::TypeExpr::same-returns-in_default-other-8 : goal.expr::TypeExpr::same-returns-in_default-other-8
expr::TypeExpr::same-returns-in_default-other-8 t c =
    different (λ same. apart_Listed forgotten c.args.other.now c.in_default-other-8.not-Listed _ _ (sym same ∙ ap type_shape c.in-Listed.is ∙ seen_Listed forgotten c.in-Listed.spot c.in-Listed.a))

pub expr::TypeExpr::same-returns-in_default-other-9 : goal.expr::TypeExpr::same-returns-in_default-other-9
expr::TypeExpr::same-returns-in_default-other-9 t c =
    different (λ same. apart_Struct forgotten c.args.other.now c.in_default-other-9.not-Struct _ _ (sym same ∙ ap type_shape c.in-Struct.is ∙ seen_Struct forgotten c.in-Struct.spot c.in-Struct.a))

pub expr::TypeExpr::same-returns-in_default-other-10 : goal.expr::TypeExpr::same-returns-in_default-other-10
expr::TypeExpr::same-returns-in_default-other-10 t c =
    different (λ same. apart_Interface forgotten c.args.other.now c.in_default-other-10.not-Interface _ _ (sym same ∙ ap type_shape c.in-Interface.is ∙ seen_Interface forgotten c.in-Interface.spot c.in-Interface.a))

pub expr::TypeExpr::same-returns-in_default-other-11 : goal.expr::TypeExpr::same-returns-in_default-other-11
expr::TypeExpr::same-returns-in_default-other-11 t c =
    different (λ same. apart_Method forgotten c.args.other.now c.in_default-other-11.not-Method _ _ _ (sym same ∙ ap type_shape c.in-Method.is ∙ seen_Method forgotten c.in-Method.a c.in-Method.c.params c.in-Method.c.results))

pub expr::TypeExpr::same-returns-in_default-other-12 : goal.expr::TypeExpr::same-returns-in_default-other-12
expr::TypeExpr::same-returns-in_default-other-12 t c =
    different (λ same. apart_Union forgotten c.args.other.now c.in_default-other-12.not-Union _ _ (sym same ∙ ap type_shape c.in-Union.is ∙ seen_Union forgotten c.in-Union.spot c.in-Union.a))

pub expr::TypeExpr::same-returns-in_default-other-13 : goal.expr::TypeExpr::same-returns-in_default-other-13
expr::TypeExpr::same-returns-in_default-other-13 t c =
    different (λ same. apart_Tilde forgotten c.args.other.now c.in_default-other-13.not-Tilde _ _ (sym same ∙ ap type_shape c.in-Tilde.is ∙ seen_Tilde forgotten c.in-Tilde.spot c.in-Tilde.a))

pub same::same_trees-returns-then-a-b : goal.same::same_trees-returns-then-a-b
same::same_trees-returns-then-a-b t c =
    (λ h. search rules, λ e. let p = images_length shape c.args.a.now c.args.b.now (trees_same _ _ e) in grind (arith, common_steps))

pub same::same_types-returns-then-a-b : goal.same::same_types-returns-then-a-b
same::same_types-returns-then-a-b t c =
    (λ h. search rules, λ e. let p = images_length type_shape c.args.a.now c.args.b.now (types_same _ _ e) in grind (arith, common_steps))

pub same::same_groups-returns-then-a-b : goal.same::same_groups-returns-then-a-b
same::same_groups-returns-then-a-b t c =
    (λ h. search rules, λ e. let p = images_length group_shape c.args.a.now c.args.b.now (groups_same _ _ e) in grind (arith, common_steps))

pub expr::ExprTree::same-returns-then-same_maybe-2 : goal.expr::ExprTree::same-returns-then-same_maybe-2
expr::ExprTree::same-returns-then-same_maybe-2 t c =
    let u = ap shape c.in-Sliced.is ∙ seen_Sliced forgotten c.in-Sliced.spot c.in-Sliced.a c.in-Sliced.c c.in-Sliced.e c.in-Sliced.g in
    let v = ap shape c.in-Sliced-other.is ∙ seen_Sliced forgotten c.in-Sliced-other.spot c.in-Sliced-other.b c.in-Sliced-other.d c.in-Sliced-other.f c.in-Sliced-other.h in
    grind (arith, common_steps)

pub expr::ExprTree::same-returns-else-same_maybe-2 : goal.expr::ExprTree::same-returns-else-same_maybe-2
expr::ExprTree::same-returns-else-same_maybe-2 t c =
    let u = ap shape c.in-Sliced.is ∙ seen_Sliced forgotten c.in-Sliced.spot c.in-Sliced.a c.in-Sliced.c c.in-Sliced.e c.in-Sliced.g in
    let v = ap shape c.in-Sliced-other.is ∙ seen_Sliced forgotten c.in-Sliced-other.spot c.in-Sliced-other.b c.in-Sliced-other.d c.in-Sliced-other.f c.in-Sliced-other.h in
    grind (arith, common_steps)

pub expr::ExprTree::same-returns-else-same-8 : goal.expr::ExprTree::same-returns-else-same-8
expr::ExprTree::same-returns-else-same-8 t c =
    let u = ap shape c.in-Sliced.is ∙ seen_Sliced forgotten c.in-Sliced.spot c.in-Sliced.a c.in-Sliced.c c.in-Sliced.e c.in-Sliced.g in
    let v = ap shape c.in-Sliced-other.is ∙ seen_Sliced forgotten c.in-Sliced-other.spot c.in-Sliced-other.b c.in-Sliced-other.d c.in-Sliced-other.f c.in-Sliced-other.h in
    grind (arith, common_steps)

pub same::same_groups-returns-then-not-same_names : goal.same::same_groups-returns-then-not-same_names
same::same_groups-returns-then-not-same_names t c =
    (λ h. search rules, λ e. let p = ap names_in (images_at group_shape c.args.a.now c.args.b.now c.loop-i.i c.index-a-i.result c.index-b-i.result c.loop-i-test.true c.if-a-b.false c.index-a-i.is c.index-b-i.is (groups_same _ _ e)) in grind (arith, common_steps))

pub same::same_groups-returns-then-not-same : goal.same::same_groups-returns-then-not-same
same::same_groups-returns-then-not-same t c =
    (λ h. search rules, λ e. let p = ap type_in (images_at group_shape c.args.a.now c.args.b.now c.loop-i.i c.index-a-i-in-loop-i.result c.index-b-i-in-loop-i.result c.loop-i-test.true c.if-a-b.false c.index-a-i-in-loop-i.is c.index-b-i-in-loop-i.is (groups_same _ _ e)) in grind (arith, common_steps))

pub same::same_groups-returns : goal.same::same_groups-returns
same::same_groups-returns t c =
    (λ h. groups_same_back c.args.a.now c.args.b.now (images_all group_shape c.args.a.now c.args.b.now c.loop-i.i c.loop-i-test.false c.if-a-b.false c.loop-i.invariant), λ e. search rules)

pub same::same_trees-returns-then-not-same : goal.same::same_trees-returns-then-not-same
same::same_trees-returns-then-not-same t c =
    (λ h. search rules, λ e. let p = images_at shape c.args.a.now c.args.b.now c.loop-i.i c.index-a-i.result c.index-b-i.result c.loop-i-test.true c.if-a-b.false c.index-a-i.is c.index-b-i.is (trees_same _ _ e) in grind (arith, common_steps))

pub same::same_types-returns-then-not-same : goal.same::same_types-returns-then-not-same
same::same_types-returns-then-not-same t c =
    (λ h. search rules, λ e. let p = images_at type_shape c.args.a.now c.args.b.now c.loop-i.i c.index-a-i.result c.index-b-i.result c.loop-i-test.true c.if-a-b.false c.index-a-i.is c.index-b-i.is (types_same _ _ e) in grind (arith, common_steps))
