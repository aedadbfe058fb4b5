use Rattle.std.proofs.Common.{◌≡◌, ◌+◌, ◌≤◌, List, take, arith, rules, get_or, sym, ◌∙◌, ap, subst as transport}
use Rattle.ui_types.specs.declared.id.TypeId.{TypeId}
use Rattle.ui_types.specs.Ty.{Ty, snoc, size, sizes, subst, substs}
use Rattle.std.specs.Prelude.{IfOk}
use Rattle.ui_types.specs.Table.{AreIds, shown, tree, trees, parts}
use Rattle.ui_types.specs.Nodes.{ids_of, node_with}
use Rattle.ui_types.specs.Trees.{size_of_part, parts-take, trees-grows, sizes-snoc, depths-snoc, substs-snoc, Grows-trans, IsId-grows, AreIds-grows}
use Rattle.ui_types.specs.Made.{IsMade}
use Rattle.ui_types.proofs.NodeLemmas.{AreIds-ids_of, size-shown}
use Rattle.ui_types.proofs.SubstLemmas.{made_more, whole_made, not_true, is_true}
use Rattle.ui_types.proofs.MemoLemmas.{IsMemo-grows, IsMemo-later, IsMemo-earlier, IsMemo-same, IsMemo-more}
use Rattle.ui_types.proofs.substitute.+substituted.Goals as goal

pub all_substituted-substituted-requires : goal.all_substituted-substituted-requires
all_substituted-substituted-requires t c =
    let i = c.loop-id.invariant in
    let r = c.requires in
    let id : TypeId = get_or c.args.ids.now c.loop-id.id-index (record { 0 = 0 }) in
    let valid = r.ids c.loop-id.id-index (record { 0 = 0 }) c.loop-id-test.true in
    let kept : tree c.loop-id.table id ≡ tree c.args.table.now id = i.grows.keeps id valid in
    let small : size (tree c.loop-id.table id) ≤ sizes (parts c.args.table.now c.args.ids.now) = rw kept (size_of_part c.args.table.now c.args.ids.now c.loop-id.id-index (record { 0 = 0 }) c.loop-id-test.true) in
    (omega (arith, c.decreases, small), (IsId-grows id i.grows valid, (AreIds-grows c.args.args.now i.grows r.arguments, IsMemo-later c.args.args.now i.grows r.arguments i.memo)))

pub all_substituted-returns-in_err-part-clause-memo : goal.all_substituted-returns-in_err-part-clause-memo
all_substituted-returns-in_err-part-clause-memo t c = IsMemo-earlier c.args.args.now c.loop-id.invariant.grows c.requires.arguments c.in_err-part.ensures.memo

pub all_substituted-returns-in_err-push_made-clause-memo : goal.all_substituted-returns-in_err-push_made-clause-memo
all_substituted-returns-in_err-push_made-clause-memo t c = IsMemo-earlier c.args.args.now c.loop-id.invariant.grows c.requires.arguments c.in_ok-part.ensures.memo

pub substituted-returns-in-Some-clause-made : goal.substituted-returns-in-Some-clause-made
substituted-returns-in-Some-clause-made t c = (c.requires.memo.each c.args.t _ (sym c.in-Some.ensures.value)).1

pub substituted-returns-in_err-insert-clause-memo : goal.substituted-returns-in_err-insert-clause-memo
substituted-returns-in_err-insert-clause-memo t c = IsMemo-same c.in_err-insert.ensures.err c.in_ok-made.ensures.memo

pub substituted-returns-clause-memo : goal.substituted-returns-clause-memo
substituted-returns-clause-memo t c =
    let h = c.in_ok-made.ensures in
    let new = c.substituted_anew.new.table in
    let A = trees c.args.table.now c.args.args.now in
    let kept : tree new c.args.t ≡ tree c.args.table.now c.args.t = h.grows.keeps c.args.t c.requires.id in
    let made : IsMade new (subst A (tree new c.args.t)) c.in_ok-made.made = rw kept h.made in
    IsMemo-more c.args.t c.in_ok-made.made h.memo (IsId-grows c.args.t h.grows c.requires.id) made c.in_ok-insert.ensures.updates.0

pub all_substituted-loop-id-preserved : goal.all_substituted-loop-id-preserved
all_substituted-loop-id-preserved t c =
    let h = c.in_ok-part.ensures in
    let i = c.loop-id.invariant in
    let r = c.requires in
    let old = c.args.table.now in
    let mid = c.loop-id.table in
    let new = c.substituted.new.table in
    let A = trees old c.args.args.now in
    let done = substs A (parts old (take c.loop-id.id-index c.args.ids.now)) in
    let id : TypeId = get_or c.args.ids.now c.loop-id.id-index (record { 0 = 0 }) in
    let kept : tree mid id ≡ tree old id = i.grows.keeps id (r.ids c.loop-id.id-index (record { 0 = 0 }) c.loop-id-test.true) in
    let same : trees mid c.args.args.now ≡ A = trees-grows c.args.args.now i.grows r.arguments in
    let made : IsMade new (subst A (tree old id)) c.in_ok-part.part = transport (λ (u : Ty). IsMade new u c.in_ok-part.part) (λ a. subst (same a) (kept a)) h.made in
    let more : substs A (parts old (take (c.loop-id.id-index + 1) c.args.ids.now)) ≡ snoc done (subst A (tree old id)) =
    ap (substs A) (parts-take old c.args.ids.now c.loop-id.id-index (record { 0 = 0 }) c.loop-id-test.true) ∙ substs-snoc A _ _ in
    record {
      grows = Grows-trans i.grows h.grows;
      memo = IsMemo-earlier c.args.args.now i.grows r.arguments h.memo;
      size_so_far = rw (more, sizes-snoc) (omega (arith, made.extent.size_is, i.size_so_far));
      depth_so_far = rw (more, depths-snoc) (omega (arith, made.extent.depth_is, i.depth_so_far));
      there = λ l. rw (more, c.in_ok-push_made.ensures) (made_more done (subst A (tree old id)) c.in_ok-part.part c.loop-id.made.items h.grows i.there made (rw more at l));
    }

pub substituted_anew-all_substituted-requires : goal.substituted_anew-all_substituted-requires
substituted_anew-all_substituted-requires t c =
    let table = c.args.table.now in
    let node_is : c.in_ok-node.node ≡ c.node.result.now = search rules in
    let ids_are : c.as_slice.result.now ≡ ids_of c.node.result.now = search rules in
    let size_is : size (tree table c.args.t) ≡ 1 + sizes (parts table (ids_of c.node.result.now)) = ap size (sym c.node.ensures.value) ∙ size-shown table c.node.result.now in
    let fewer : sizes (parts table c.as_slice.result.now) ≡ sizes (parts table (ids_of c.node.result.now)) = ap (λ (is : List TypeId). sizes (parts table is)) ids_are in
    let valid : AreIds table c.as_slice.result.now = transport (AreIds table) (sym ids_are) (AreIds-ids_of table c.node.result.now c.node.ensures.valid) in
    (omega (arith, c.decreases, size_is, fewer), (valid, (c.requires.arguments, c.requires.memo)))

pub substituted_anew-returns-then-not-is_within : goal.substituted_anew-returns-then-not-is_within
substituted_anew-returns-then-not-is_within t c =
    let old = c.args.table.now in
    let node_is : c.in_ok-node.node ≡ c.node.result.now = search rules in
    let ids_are : c.as_slice.result.now ≡ ids_of c.in_ok-node.node = search rules in
    let whole = whole_made old c.all_substituted.new.table (trees old c.args.args.now) c.in_ok-node.node c.in_default.not-Param c.in_ok-parts.parts (record { size = c.saturating_add.result; depth = c.saturating_add-2.result })
    (tree old c.args.t) c.as_slice.result.now (ap (shown old) node_is ∙ c.node.ensures.value) ids_are c.in_ok-parts.ensures.made c.saturating_add.ensures c.saturating_add-2.ensures in
    record {
      made = record { extent = whole.extent; there = λ l. not_true c.is_within.result _ c.if-not-is_within.true c.is_within.ensures.1 (whole.within l) };
      memo = c.in_ok-parts.ensures.memo;
      grows = c.in_ok-parts.ensures.grows;
    }

pub substituted_anew-rebuilt-requires : goal.substituted_anew-rebuilt-requires
substituted_anew-rebuilt-requires t c =
    let old = c.args.table.now in
    let node_is : c.in_ok-node.node ≡ c.node.result.now = search rules in
    let ids_are : c.as_slice.result.now ≡ ids_of c.in_ok-node.node = search rules in
    let whole = whole_made old c.all_substituted.new.table (trees old c.args.args.now) c.in_ok-node.node c.in_default.not-Param c.in_ok-parts.parts (record { size = c.saturating_add.result; depth = c.saturating_add-2.result })
    (tree old c.args.t) c.as_slice.result.now (ap (shown old) node_is ∙ c.node.ensures.value) ids_are c.in_ok-parts.ensures.made c.saturating_add.ensures c.saturating_add-2.ensures in
    let limits = whole.limits (is_true c.is_within.result _ c.if-not-is_within.false c.is_within.ensures.0) in
    let made = whole.rebuilt limits in
    let items = c.as_slice-2.ensures.value in
    record {
      count = rw items made.count;
      node = rw items made.valid;
      limits = rw (items, made.value) limits;
      extent = rw (items, made.value) whole.extent;
    }

pub substituted_anew-returns : goal.substituted_anew-returns
substituted_anew-returns t c =
    let old = c.args.table.now in
    let node_is : c.in_ok-node.node ≡ c.node.result.now = search rules in
    let ids_are : c.as_slice.result.now ≡ ids_of c.in_ok-node.node = search rules in
    let whole = whole_made old c.all_substituted.new.table (trees old c.args.args.now) c.in_ok-node.node c.in_default.not-Param c.in_ok-parts.parts (record { size = c.saturating_add.result; depth = c.saturating_add-2.result })
    (tree old c.args.t) c.as_slice.result.now (ap (shown old) node_is ∙ c.node.ensures.value) ids_are c.in_ok-parts.ensures.made c.saturating_add.ensures c.saturating_add-2.ensures in
    let limits = whole.limits (is_true c.is_within.result _ c.if-not-is_within.false c.is_within.ensures.0) in
    let made = whole.rebuilt limits in
    let items = c.as_slice-2.ensures.value in
    let value : shown c.all_substituted.new.table (node_with c.in_ok-node.node c.as_slice-2.result.now) ≡ subst (trees old c.args.args.now) (tree old c.args.t) = rw items made.value in
    record {
      made = transport (λ (u : Ty). IfOk c.rebuilt.result (IsMade c.rebuilt.new.table u)) value c.rebuilt.ensures.made;
      memo = IsMemo-grows c.rebuilt.ensures.grows c.in_ok-parts.ensures.memo;
      grows = Grows-trans c.in_ok-parts.ensures.grows c.rebuilt.ensures.grows;
    }
