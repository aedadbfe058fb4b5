use Rattle.std.proofs.Common.{◌≡◌, Bool, List, get_or, sym, ap, ◌∙◌, subst}
use Rattle.ui_types.specs.declared.id.TypeId.{TypeId}
use Rattle.ui_types.specs.Table.{tree, trees}
use Rattle.ui_types.specs.Trees.{trees-grows}
use Rattle.ui_types.specs.Kept.{Kept-trans}
use Rattle.ui_satisfy.specs.declared.marks.Marks.{Marks}
use Rattle.ui_satisfy.specs.Search.{opened}
use Rattle.ui_satisfy.specs.Marks.{seen, seen-grows, IsFound}
use Rattle.ui_satisfy.proofs.Walks.{longer_refl, look_bad, look_good, look_past, looks_anew}
use Rattle.ui_satisfy.proofs.Turns.{all_more_at, all_stops_at, all_refused_at, all_ends}
use Rattle.ui_satisfy.proofs.Turns.{one_more_at, one_stops_at, one_refused_at, one_ends}
use Rattle.ui_satisfy.proofs.Anew.{anew_at, param_at, anew_fails, inside_walk}
use Rattle.ui_satisfy.proofs.search.+look.Goals as goal

pub all_looked-returns-in-Ok-false-clause-answer : goal.all_looked-returns-in-Ok-false-clause-answer
all_looked-returns-in-Ok-false-clause-answer g t c =
    let i = c.loop-t.invariant in
    let old = c.args.table.now in
    let ids = c.args.types.now in
    let k = c.loop-t.t-index in
    let d : TypeId = record { 0 = 0 } in
    let ds = g.E.Env.decls c.args.env.now old in
    let bs = trees old c.args.bounds.now in
    let bounds = trees-grows c.args.bounds.now i.kept.grows c.requires.bounds in
    let read = i.kept.grows.keeps (get_or ids k d) (c.requires.types k d c.loop-t-test.true) in
    all_stops_at ds bs old c.args.marks.now ids c.loop-t.table c.look.new.table c.loop-t.marks
    c.look.new.marks k d c.in-Ok-false.field-0 c.loop-t-test.true i.turns i.kept.same bounds
    read
    c.in-Ok-false.field-0-test c.in-Ok-false.ensures.answer

pub all_looked-returns-in-Err-clause-answer : goal.all_looked-returns-in-Err-clause-answer
all_looked-returns-in-Err-clause-answer g t c =
    let i = c.loop-t.invariant in
    let old = c.args.table.now in
    let ids = c.args.types.now in
    let k = c.loop-t.t-index in
    let d : TypeId = record { 0 = 0 } in
    let ds = g.E.Env.decls c.args.env.now old in
    let bs = trees old c.args.bounds.now in
    let bounds = trees-grows c.args.bounds.now i.kept.grows c.requires.bounds in
    let read = i.kept.grows.keeps (get_or ids k d) (c.requires.types k d c.loop-t-test.true) in
    all_refused_at ds bs old c.args.marks.now ids c.loop-t.table c.look.new.table c.loop-t.marks
    c.look.new.marks k d c.in-Err.fault c.loop-t-test.true i.turns i.kept.same bounds read
    c.in-Err.ensures.answer

pub all_looked-loop-t-preserved : goal.all_looked-loop-t-preserved
all_looked-loop-t-preserved g t c =
    let i = c.loop-t.invariant in
    let old = c.args.table.now in
    let ids = c.args.types.now in
    let k = c.loop-t.t-index in
    let d : TypeId = record { 0 = 0 } in
    let ds = g.E.Env.decls c.args.env.now old in
    let bs = trees old c.args.bounds.now in
    let bounds = trees-grows c.args.bounds.now i.kept.grows c.requires.bounds in
    let read = i.kept.grows.keeps (get_or ids k d) (c.requires.types k d c.loop-t-test.true) in
    record {
      kept = Kept-trans i.kept c.look.ensures.kept;
      turns =
          all_more_at ds bs old c.args.marks.now ids c.loop-t.table c.look.new.table c.loop-t.marks
          c.look.new.marks k d c.in-Ok-true.field-0 c.loop-t-test.true i.turns i.kept.same
          bounds read
          c.in-Ok-true.field-0-test c.in-Ok-true.ensures.answer;
    }

pub all_looked-returns-clause-answer : goal.all_looked-returns-clause-answer
all_looked-returns-clause-answer g t c =
    all_ends (g.E.Env.decls c.args.env.now c.args.table.now)
    (trees c.args.table.now c.args.bounds.now) c.args.table.now
    c.args.marks.now c.args.types.now c.loop-t.table c.loop-t.marks c.loop-t.t-index
    c.loop-t-test.false c.loop-t.invariant.turns

pub one_looked-returns-in-Ok-true-clause-answer : goal.one_looked-returns-in-Ok-true-clause-answer
one_looked-returns-in-Ok-true-clause-answer g t c =
    let i = c.loop-union.invariant in
    let old = c.args.table.now in
    let ids = c.args.unions.now in
    let k = c.loop-union.union-index in
    let d : TypeId = record { 0 = 0 } in
    let ds = g.E.Env.decls c.args.env.now old in
    let bs = trees old c.args.bounds.now in
    let bounds = trees-grows c.args.bounds.now i.kept.grows c.requires.bounds in
    let read = i.kept.grows.keeps (get_or ids k d) (c.requires.unions k d c.loop-union-test.true) in
    one_stops_at ds bs old c.args.marks.now ids c.loop-union.table c.union_looked.new.table
    c.loop-union.marks c.union_looked.new.marks k d c.in-Ok-true.field-0 c.loop-union-test.true
    i.turns i.kept.same bounds read
    c.in-Ok-true.field-0-test c.in-Ok-true.ensures.answer

pub one_looked-returns-in-Err-clause-answer : goal.one_looked-returns-in-Err-clause-answer
one_looked-returns-in-Err-clause-answer g t c =
    let i = c.loop-union.invariant in
    let old = c.args.table.now in
    let ids = c.args.unions.now in
    let k = c.loop-union.union-index in
    let d : TypeId = record { 0 = 0 } in
    let ds = g.E.Env.decls c.args.env.now old in
    let bs = trees old c.args.bounds.now in
    let bounds = trees-grows c.args.bounds.now i.kept.grows c.requires.bounds in
    let read = i.kept.grows.keeps (get_or ids k d) (c.requires.unions k d c.loop-union-test.true) in
    one_refused_at ds bs old c.args.marks.now ids c.loop-union.table c.union_looked.new.table
    c.loop-union.marks c.union_looked.new.marks k d c.in-Err.fault c.loop-union-test.true
    i.turns i.kept.same bounds read
    c.in-Err.ensures.answer

pub one_looked-loop-union-preserved : goal.one_looked-loop-union-preserved
one_looked-loop-union-preserved g t c =
    let i = c.loop-union.invariant in
    let old = c.args.table.now in
    let ids = c.args.unions.now in
    let k = c.loop-union.union-index in
    let d : TypeId = record { 0 = 0 } in
    let ds = g.E.Env.decls c.args.env.now old in
    let bs = trees old c.args.bounds.now in
    let bounds = trees-grows c.args.bounds.now i.kept.grows c.requires.bounds in
    let read = i.kept.grows.keeps (get_or ids k d) (c.requires.unions k d c.loop-union-test.true) in
    record {
      kept = Kept-trans i.kept c.union_looked.ensures.kept;
      turns =
          one_more_at ds bs old c.args.marks.now ids c.loop-union.table c.union_looked.new.table
          c.loop-union.marks c.union_looked.new.marks k d c.in-Ok-false.field-0
          c.loop-union-test.true i.turns i.kept.same bounds read
          c.in-Ok-false.field-0-test c.in-Ok-false.ensures.answer;
    }

pub one_looked-returns-clause-answer : goal.one_looked-returns-clause-answer
one_looked-returns-clause-answer g t c =
    one_ends (g.E.Env.decls c.args.env.now c.args.table.now)
    (trees c.args.table.now c.args.bounds.now) c.args.table.now
    c.args.marks.now c.args.unions.now c.loop-union.table c.loop-union.marks
    c.loop-union.union-index c.loop-union-test.false c.loop-union.invariant.turns

pub inside_param-returns-in-Ok-clause-answer : goal.inside_param-returns-in-Ok-clause-answer
inside_param-returns-in-Ok-clause-answer g t c =
    let k = c.needed_bound.ensures.kept in
    let m = c.args.marks.now in
    param_at c.inside_bound.new.table m c.inside_bound.new.marks c.inside_bound.result k.same
    (trees-grows c.args.bounds.now k.grows c.requires.bounds)
    (seen-grows m k.grows c.requires.marks)
    (tree c.args.table.now c.args.under) (tree c.needed_bound.new.table c.in-Ok.bound) c.args.k
    c.in-Ok.ensures.answer.1
    c.inside_bound.ensures.answer

pub look-returns-then-is_in-clause-answer : goal.look-returns-then-is_in-clause-answer
look-returns-then-is_in-clause-answer g t c =
    let old = c.args.table.now in
    let m = c.args.marks.now in
    record {
      marks = c.requires.marks;
      longer = longer_refl m.good.keys;
      ends =
          look_bad (g.E.Env.decls c.args.env.now old) (trees old c.args.bounds.now) (seen old m)
          (tree old c.args.t)
          (sym c.is_in.ensures ∙ c.if-is_in.true);
    }

pub look-returns-then-is_in-2-clause-answer : goal.look-returns-then-is_in-2-clause-answer
look-returns-then-is_in-2-clause-answer g t c =
    let old = c.args.table.now in
    let m = c.args.marks.now in
    record {
      marks = c.requires.marks;
      longer = longer_refl m.good.keys;
      ends =
          look_good (g.E.Env.decls c.args.env.now old) (trees old c.args.bounds.now) (seen old m)
          (tree old c.args.t)
          (sym c.is_in.ensures ∙ c.if-is_in.false) (sym c.is_in-2.ensures ∙ c.if-is_in-2.true);
    }

pub look-returns-in-Ok-clause-answer : goal.look-returns-in-Ok-clause-answer
look-returns-in-Ok-clause-answer g t c =
    let old = c.args.table.now in
    let m = c.args.marks.now in
    let k = c.needed.ensures.kept in
    let u = tree c.needed.new.table c.in-Ok.under in
    looks_anew (g.E.Env.decls c.args.env.now old) (trees old c.args.bounds.now) (seen old m)
    (tree old c.args.t) c.look_anew.new.table m
    c.look_anew.new.marks u c.look_anew.result (sym c.is_in.ensures ∙ c.if-is_in.false)
    (sym c.is_in-2.ensures ∙ c.if-is_in-2.false) c.in-Ok.ensures.answer.1
    (anew_at c.look_anew.new.table m c.look_anew.new.marks c.look_anew.result k.same
    (trees-grows c.args.bounds.now k.grows c.requires.bounds)
    (seen-grows m k.grows c.requires.marks) u
    (k.grows.keeps c.args.t c.requires.id) c.look_anew.ensures.answer)

pub look-returns-in-Err-clause-answer : goal.look-returns-in-Err-clause-answer
look-returns-in-Err-clause-answer g t c =
    let old = c.args.table.now in
    look_past (g.E.Env.decls c.args.env.now old) (trees old c.args.bounds.now)
    (seen old c.args.marks.now) (tree old c.args.t)
    (sym c.is_in.ensures ∙ c.if-is_in.false) (sym c.is_in-2.ensures ∙ c.if-is_in-2.false)
    c.in-Err.fault
    c.in-Err.ensures.answer

pub look_anew-returns-in-Ok-close-clause-answer : goal.look_anew-returns-in-Ok-close-clause-answer
look_anew-returns-in-Ok-close-clause-answer g t c =
    let old = c.args.table.now in
    let new = c.inside.new.table in
    let ds = g.E.Env.decls c.args.env.now old in
    let bs = trees old c.args.bounds.now in
    let m0 = c.args.marks.now in
    let m1 : Marks = record { good = c.put.new.set; bad = m0.bad } in
    let m2 = c.inside.new.marks in
    let u = tree old c.args.under in
    let opening : seen old m1 ≡ opened (seen old m0) (tree old c.args.t) =
    λ i. record { good = c.in-Ok.ensures.answer i; bad = trees old m0.bad.keys } in
    let k = c.inside.ensures.kept in
    anew_fails ds bs old new m0 m1 m2 c.args.t u opening c.in-Ok.ensures.longer c.close.new.marks
    c.len-count.result k.grows
    c.requires.marks c.requires.id
    (subst (λ (b : Bool). IsFound new m1 m2 (inside_walk ds bs old new m0 m1 m2 c.args.t u opening
    c.in-Ok.ensures.longer) b) c.if-is.false c.in-Ok-inside.ensures.answer)
    c.in-Ok-close.ensures.valid c.len-count.ensures.len c.in-Ok-close.ensures.good
    c.in-Ok-close.ensures.bad
