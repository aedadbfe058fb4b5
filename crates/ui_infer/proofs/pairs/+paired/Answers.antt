use Rattle.std.proofs.Common.{◌≡◌, ◌<◌, List, length, get_or, drop, sym, ◌∙◌, ap, arith}
use Rattle.std.proofs.Common.{rules, true, false, ◌+◌, subst as transport}
use Rattle.ui_types.specs.declared.id.TypeId.{TypeId}
use Rattle.ui_types.specs.Ty.{size, sizes}
use Rattle.ui_types.specs.Table.{AreIds, tree, parts}
use Rattle.ui_types.specs.Nodes.{ids_of}
use Rattle.ui_types.specs.Trees.{size_of_part}
use Rattle.ui_types.proofs.NodeLemmas.{AreIds-ids_of, parts_of, parts_of-shown, size-shown}
use Rattle.ui_infer.specs.Shape.{same_shape}
use Rattle.ui_infer.specs.Pairs.{pairs, pairs_all, are_alike}
use Rattle.ui_infer.proofs.PairLemmas.{pairs_parts, pairs_unlike, pairs_unknown, pairs_rest}
use Rattle.ui_infer.proofs.PairLemmas.{bindings_step, alike_step, bindings_over, alike_over}
use Rattle.ui_infer.proofs.PairLemmas.{pushed_binding, no_unknown, as_many, alike_by, bindings_by}
use Rattle.ui_infer.proofs.pairs.+paired.Goals as goal

pub all_paired-paired-requires : goal.all_paired-paired-requires
all_paired-paired-requires t c =
    let r = c.requires in
    let h : c.loop-k.k < length c.args.formals.now = c.loop-k-test.true in
    let formals = c.args.formals.now in
    let small = size_of_part c.args.table.now formals c.loop-k.k (record { 0 = 0 }) h in (
      omega (arith, c.decreases, small),
      (
        r.formals c.loop-k.k (record { 0 = 0 }) h,
        (
          r.actuals c.loop-k.k (record { 0 = 0 }) (omega (arith, h, r.same)),
          c.loop-k.invariant.valid,
        ),
      ),
    )

pub all_paired-loop-k-preserved : goal.all_paired-loop-k-preserved
all_paired-loop-k-preserved t c =
    let i = c.loop-k.invariant in
    let e = c.in_ok-same.ensures in
    let table = c.args.table.now in
    let n = c.args.count in
    let k = c.loop-k.k in
    let first = pairs n (tree table (get_or c.args.formals.now k (record { 0 = 0 })))
    (tree table (get_or c.args.actuals.now k (record { 0 = 0 }))) in
    let rest = pairs_all n (parts table (drop (k + 1) c.args.formals.now))
    (parts table (drop (k + 1) c.args.actuals.now)) in
    let step = pairs_rest c.args.count c.args.table.now c.args.formals.now c.args.actuals.now
    c.loop-k.k (record { 0 = 0 }) (record { 0 = 0 }) c.loop-k-test.true c.requires.same in
    record {
      valid = e.valid;
      bindings = bindings_step _ _ _ first _ rest e.bindings step i.bindings;
      alike = alike_step c.both-alike.result c.loop-k.alike c.in_ok-same.same _ first _ rest
          c.both-alike.ensures e.alike step i.alike;
    }

pub all_paired-returns-clause-alike : goal.all_paired-returns-clause-alike
all_paired-returns-clause-alike t c = alike_over c.args.count c.args.table.now c.args.formals.now _
    c.loop-k.k c.loop-k.alike _ c.loop-k-test.false c.loop-k.invariant.alike

pub all_paired-returns-clause-bindings : goal.all_paired-returns-clause-bindings
all_paired-returns-clause-bindings t c = bindings_over c.args.count c.args.table.now
    c.args.formals.now _ c.loop-k.k _ _ c.loop-k-test.false c.loop-k.invariant.bindings

pub paired-returns-in-Some-clause-alike : goal.paired-returns-in-Some-clause-alike
paired-returns-in-Some-clause-alike t c = sym
    (ap are_alike (pairs_unknown c.args.count _ (tree c.args.table.now c.args.actual)
    c.in-Some.param (sym c.in-Some.ensures)))

pub paired-returns-in-Some-clause-bindings : goal.paired-returns-in-Some-clause-bindings
paired-returns-in-Some-clause-bindings t c =
    pushed_binding c.args.table.now _ _ (record { param = c.in-Some.param; ty = c.args.actual }) _
    (search rules)
    (pairs_unknown c.args.count _ (tree c.args.table.now c.args.actual) c.in-Some.param
    (sym c.in-Some.ensures))

pub paired-returns-then-not-branch-clause-alike : goal.paired-returns-then-not-branch-clause-alike
paired-returns-then-not-branch-clause-alike t c =
    let other = no_unknown c.unknown.result _ c.unknown.ensures c.in_default.not-Some in
    let differ : same_shape (tree c.args.table.now c.args.formal)
    (tree c.args.table.now c.args.actual) ≡ false = sym c.in_ok-is_same_shape.ensures
    ∙ c.if-not-branch.true in
    sym (ap are_alike (pairs_unlike c.args.count _ _ other differ))

pub paired-returns-then-not-branch-clause-bindings :
    goal.paired-returns-then-not-branch-clause-bindings
paired-returns-then-not-branch-clause-bindings t c =
    let other = no_unknown c.unknown.result _ c.unknown.ensures c.in_default.not-Some in
    let differ : same_shape (tree c.args.table.now c.args.formal)
    (tree c.args.table.now c.args.actual) ≡ false = sym c.in_ok-is_same_shape.ensures
    ∙ c.if-not-branch.true in
    rw (pairs_unlike c.args.count _ _ other differ) (search rules)

pub paired-all_paired-requires : goal.paired-all_paired-requires
paired-all_paired-requires t c =
    let table = c.args.table.now in
    let xs : c.as_slice.result.now ≡ ids_of c.node.result.now = search rules in
    let ys : c.as_slice-2.result.now ≡ ids_of c.node-2.result.now = search rules in
    let size_is : size (tree table c.args.formal)
    ≡ 1 + sizes (parts table (ids_of c.node.result.now)) = ap size (sym c.node.ensures.value)
    ∙ size-shown table c.node.result.now in
    let fewer : sizes (parts table c.as_slice.result.now)
    ≡ sizes (parts table (ids_of c.node.result.now)) = ap
    (λ (is : List TypeId). sizes (parts table is)) xs in
    let alike : same_shape (tree table c.args.formal) (tree table c.args.actual)
    ≡ true = sym c.in_ok-is_same_shape.ensures ∙ c.if-not-branch.false in
    let p : parts_of (tree table c.args.formal)
    ≡ parts table c.as_slice.result.now = ap parts_of (sym c.node.ensures.value)
    ∙ parts_of-shown table c.node.result.now
    ∙ ap (λ (is : List TypeId). parts table is) (sym xs) in
    let q : parts_of (tree table c.args.actual)
    ≡ parts table c.as_slice-2.result.now = ap parts_of (sym c.node-2.ensures.value)
    ∙ parts_of-shown table c.node-2.result.now
    ∙ ap (λ (is : List TypeId). parts table is) (sym ys) in (
      omega (arith, c.decreases, size_is, fewer),
      (
        transport (AreIds table) (sym xs) (AreIds-ids_of table c.node.result.now
            c.node.ensures.valid),
        (
          transport (AreIds table) (sym ys)
              (AreIds-ids_of table c.node-2.result.now c.node-2.ensures.valid),
          (as_many table _ _ _ _ alike p q, c.requires.bindings),
        ),
      ),
    )

pub paired-returns-clause-alike : goal.paired-returns-clause-alike
paired-returns-clause-alike t c =
    let table = c.args.table.now in
    let xs : c.as_slice.result.now ≡ ids_of c.node.result.now = search rules in
    let ys : c.as_slice-2.result.now ≡ ids_of c.node-2.result.now = search rules in
    let other = no_unknown c.unknown.result _ c.unknown.ensures c.in_default.not-Some in
    let alike : same_shape (tree table c.args.formal) (tree table c.args.actual)
    ≡ true = sym c.in_ok-is_same_shape.ensures ∙ c.if-not-branch.false in
    let p : parts_of (tree table c.args.formal)
    ≡ parts table c.as_slice.result.now = ap parts_of (sym c.node.ensures.value)
    ∙ parts_of-shown table c.node.result.now
    ∙ ap (λ (is : List TypeId). parts table is) (sym xs) in
    let q : parts_of (tree table c.args.actual)
    ≡ parts table c.as_slice-2.result.now = ap parts_of (sym c.node-2.ensures.value)
    ∙ parts_of-shown table c.node-2.result.now
    ∙ ap (λ (is : List TypeId). parts table is) (sym ys) in
    let whole : pairs c.args.count (tree table c.args.formal) (tree table c.args.actual)
    ≡ pairs_all c.args.count (parts table c.as_slice.result.now)
    (parts table c.as_slice-2.result.now) =
    pairs_parts c.args.count _ _ other alike ∙ (λ i. pairs_all c.args.count (p i) (q i)) in
    alike_by c.all_paired.result _ _ whole c.all_paired.ensures.alike

pub paired-returns-clause-bindings : goal.paired-returns-clause-bindings
paired-returns-clause-bindings t c =
    let table = c.args.table.now in
    let xs : c.as_slice.result.now ≡ ids_of c.node.result.now = search rules in
    let ys : c.as_slice-2.result.now ≡ ids_of c.node-2.result.now = search rules in
    let other = no_unknown c.unknown.result _ c.unknown.ensures c.in_default.not-Some in
    let alike : same_shape (tree table c.args.formal) (tree table c.args.actual)
    ≡ true = sym c.in_ok-is_same_shape.ensures ∙ c.if-not-branch.false in
    let p : parts_of (tree table c.args.formal)
    ≡ parts table c.as_slice.result.now = ap parts_of (sym c.node.ensures.value)
    ∙ parts_of-shown table c.node.result.now
    ∙ ap (λ (is : List TypeId). parts table is) (sym xs) in
    let q : parts_of (tree table c.args.actual)
    ≡ parts table c.as_slice-2.result.now = ap parts_of (sym c.node-2.ensures.value)
    ∙ parts_of-shown table c.node-2.result.now
    ∙ ap (λ (is : List TypeId). parts table is) (sym ys) in
    let whole : pairs c.args.count (tree table c.args.formal) (tree table c.args.actual)
    ≡ pairs_all c.args.count (parts table c.as_slice.result.now)
    (parts table c.as_slice-2.result.now) =
    pairs_parts c.args.count _ _ other alike ∙ (λ i. pairs_all c.args.count (p i) (q i)) in
    bindings_by c.all_paired.result _ _ _ _ whole c.all_paired.ensures.bindings
