use Rattle.std.proofs.Common.{Bool, Ok, get_or, ap, sym, subst, ◌∙◌}
use Rattle.ui_types.specs.declared.id.TypeId.{TypeId}
use Rattle.ui_types.specs.Kept.{Kept-refl, Kept-trans}
use Rattle.ui_sets.specs.Needed.{Needs, Refuses, fault_of}
use Rattle.ui_terms.specs.Reading.{shown_unions}
use Rattle.ui_terms.specs.Loops.{shown_unions-grow}
use Rattle.ui_terms.proofs.Inside.{inside_start, inside_more, inside_out, inside_refused, inside_end}
use Rattle.ui_terms.proofs.Inside.{union_at}
use Rattle.ui_terms.proofs.membership.in_unions.Goals as goal

pub loop-k-init : goal.loop-k-init
loop-k-init g c = record {
  kept = Kept-refl c.args.env.now c.args.table.now c.requires.env;
  inside =
      inside_start (g.E.Env.decls c.args.env.now c.args.table.now)
      (shown_unions c.args.table.now c.args.own.now) c.args.table.now c.args.unions.now;
}

pub loop-k-preserved : goal.loop-k-preserved
loop-k-preserved g c =
    let i = c.loop-k.invariant in
    let d : TypeId = record { 0 = 0 } in
    let k = c.loop-k.k in
    let valid = c.requires.unions k d c.loop-k-test.true in
    let read = union_at i.kept.same (shown_unions-grow c.args.own.now i.kept.grows c.requires.own)
    (i.kept.grows.keeps (get_or c.args.unions.now k d) valid) in
    record {
      kept = Kept-trans i.kept c.in_union.ensures.kept;
      inside =
          inside_more (g.E.Env.decls c.args.env.now c.args.table.now)
          (shown_unions c.args.table.now c.args.own.now) c.args.table.now c.args.unions.now k d
          c.loop-k-test.true i.inside
          (sym read ∙ c.in-Ok.ensures.answer ∙ ap (λ (b : Bool). let r : Needs Bool = Ok b in r)
          c.if-not-is_in.false);
    }

pub returns-then-not-is_in-clause-answer : goal.returns-then-not-is_in-clause-answer
returns-then-not-is_in-clause-answer g c =
    let i = c.loop-k.invariant in
    let d : TypeId = record { 0 = 0 } in
    let k = c.loop-k.k in
    let valid = c.requires.unions k d c.loop-k-test.true in
    let read = union_at i.kept.same (shown_unions-grow c.args.own.now i.kept.grows c.requires.own)
    (i.kept.grows.keeps (get_or c.args.unions.now k d) valid) in
    let out = inside_out (g.E.Env.decls c.args.env.now c.args.table.now)
    (shown_unions c.args.table.now c.args.own.now) c.args.table.now c.args.unions.now k d
    c.loop-k-test.true i.inside
    (sym read ∙ c.in-Ok.ensures.answer ∙ ap (λ (b : Bool). let r : Needs Bool = Ok b in r)
    c.if-not-is_in.true) in
    ap (λ (m : Needs (Unit {0})). fault_of m) out

pub returns-in-Err-clause-answer : goal.returns-in-Err-clause-answer
returns-in-Err-clause-answer g c =
    let i = c.loop-k.invariant in
    let d : TypeId = record { 0 = 0 } in
    let k = c.loop-k.k in
    let valid = c.requires.unions k d c.loop-k-test.true in
    let read = union_at i.kept.same (shown_unions-grow c.args.own.now i.kept.grows c.requires.own)
    (i.kept.grows.keeps (get_or c.args.unions.now k d) valid) in
    inside_refused (g.E.Env.decls c.args.env.now c.args.table.now)
    (shown_unions c.args.table.now c.args.own.now) c.args.table.now c.args.unions.now k d
    c.in-Err.fault
    c.loop-k-test.true i.inside
    (subst (λ (m : Needs Bool). Refuses (fault_of m) c.in-Err.fault) read c.in-Err.ensures.answer)

pub returns-clause-answer : goal.returns-clause-answer
returns-clause-answer g c =
    inside_end (g.E.Env.decls c.args.env.now c.args.table.now)
    (shown_unions c.args.table.now c.args.own.now) c.args.table.now c.args.unions.now c.loop-k.k
    c.loop-k-test.false c.loop-k.invariant.inside
