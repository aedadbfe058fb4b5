use Rattle.std.proofs.Common.{◌+◌, List, get_or, sym, subst}
use Rattle.ui_types.specs.Kept.{Kept-refl, Kept-trans}
use Rattle.ui_types.specs.Table.{tree}
use Rattle.ui_terms.specs.Terms.{own_union}
use Rattle.ui_terms.specs.Reading.{AreOwn, shown_owns}
use Rattle.ui_terms.specs.Loops.{AreOwns-grow, shown_unions-grow}
use Rattle.ui_terms.proofs.EachLoop.{Turns, turns_start, turns_more, turns_fault, turns_end}
use Rattle.ui_terms.proofs.own.own_unions.Goals as goal

pub loop-union-init : goal.loop-union-init
loop-union-init g c = record {
  kept = Kept-refl c.args.env.now c.args.table.now c.requires.env;
  turns =
      turns_start own_union tree AreOwn shown_owns (g.E.Env.decls c.args.env.now c.args.table.now)
      c.args.table.now c.args.unions.now c.new-own.result.items
      c.new-own.ensures.items;
}

pub loop-union-preserved : goal.loop-union-preserved
loop-union-preserved g c =
    let i = c.loop-union.invariant in
    let old = c.args.table.now in
    let x = get_or c.args.unions.now c.loop-union.union-index (record { 0 = 0 }) in
    let valid = c.requires.unions c.loop-union.union-index (record { 0 = 0 }) c.loop-union-test.true
    in
    let read = i.kept.grows.keeps x valid in
    let k = c.own_union.ensures.kept in
    record {
      kept = Kept-trans i.kept k;
      turns =
          subst (λ (d : List _). Turns own_union tree AreOwn shown_owns
          (g.E.Env.decls c.args.env.now c.args.table.now) old c.args.unions.now
          c.own_union.new.table d (c.loop-union.union-index + 1))
          (sym c.in_ok-pushed.ensures)
          (turns_more own_union tree AreOwn shown_owns (g.E.Env.decls c.args.env.now
          c.args.table.now) (g.E.Env.decls c.loop-union.env c.loop-union.table) old
          c.args.unions.now c.loop-union.table c.own_union.new.table c.loop-union.own.items
          c.loop-union.union-index
          (record { 0 = 0 }) c.in-Ok.one c.loop-union-test.true i.turns i.kept.same read
          (λ h. AreOwns-grow c.loop-union.own.items k.grows h)
          (λ h. shown_unions-grow c.loop-union.own.items k.grows h)
          c.in-Ok.ensures.answer.0 c.in-Ok.ensures.answer.1);
    }

pub returns-in-Err-clause-answer : goal.returns-in-Err-clause-answer
returns-in-Err-clause-answer g c =
    let i = c.loop-union.invariant in
    let old = c.args.table.now in
    let x = get_or c.args.unions.now c.loop-union.union-index (record { 0 = 0 }) in
    let valid = c.requires.unions c.loop-union.union-index (record { 0 = 0 }) c.loop-union-test.true
    in
    let read = i.kept.grows.keeps x valid in
    turns_fault own_union tree AreOwn shown_owns (g.E.Env.decls c.args.env.now c.args.table.now)
    (g.E.Env.decls c.loop-union.env c.loop-union.table) old c.args.unions.now c.loop-union.table
    c.loop-union.own.items c.loop-union.union-index
    (record { 0 = 0 }) c.in-Err.fault c.loop-union-test.true i.turns i.kept.same read
    c.in-Err.ensures.answer

pub returns-clause-answer : goal.returns-clause-answer
returns-clause-answer g c =
    rw c.new.ensures (turns_end own_union tree AreOwn shown_owns
    (g.E.Env.decls c.args.env.now c.args.table.now) c.args.table.now c.args.unions.now
    c.loop-union.table c.loop-union.own.items c.loop-union.union-index
    c.loop-union-test.false c.loop-union.invariant.turns)
