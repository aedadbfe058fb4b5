use Rattle.std.proofs.Common.{◌+◌, false, List, get_or, sym, subst}
use Rattle.ui_types.specs.Kept.{Kept-refl, Kept-trans}
use Rattle.ui_terms.specs.Terms.{own_term}
use Rattle.ui_terms.specs.Reading.{IsOwn, shown_own, shown_term}
use Rattle.ui_terms.specs.Loops.{term-grows, AreOwn-grow, shown_owns-grow}
use Rattle.ui_terms.proofs.EachLoop.{Turns, turns_start, turns_more, turns_fault, turns_end}
use Rattle.ui_terms.proofs.own.own_terms.Goals as goal

pub loop-term-init : goal.loop-term-init
loop-term-init g c = record {
  kept = Kept-refl c.args.env.now c.args.table.now c.requires.env;
  turns =
      turns_start own_term shown_term IsOwn shown_own (g.E.Env.decls c.args.env.now
      c.args.table.now) c.args.table.now c.args.terms.now c.new-own.result.items
      c.new-own.ensures.items;
}

pub loop-term-preserved : goal.loop-term-preserved
loop-term-preserved g c =
    let i = c.loop-term.invariant in
    let old = c.args.table.now in
    let x = get_or c.args.terms.now c.loop-term.term-index
    (record { tilde = false; ty = record { 0 = 0 } }) in
    let valid = c.requires.terms c.loop-term.term-index (record
    { tilde = false; ty = record { 0 = 0 } }) c.loop-term-test.true in
    let read = term-grows x i.kept.grows valid in
    let k = c.own_term.ensures.kept in
    record {
      kept = Kept-trans i.kept k;
      turns =
          subst (λ (d : List _). Turns own_term shown_term IsOwn shown_own
          (g.E.Env.decls c.args.env.now c.args.table.now) old c.args.terms.now
          c.own_term.new.table d (c.loop-term.term-index + 1))
          (sym c.in_ok-pushed.ensures)
          (turns_more own_term shown_term IsOwn shown_own
          (g.E.Env.decls c.args.env.now c.args.table.now)
          (g.E.Env.decls c.loop-term.env c.loop-term.table) old c.args.terms.now
          c.loop-term.table c.own_term.new.table c.loop-term.own.items c.loop-term.term-index
          (record { tilde = false; ty = record { 0 = 0 } }) c.in-Ok.one c.loop-term-test.true
          i.turns i.kept.same read
          (λ h. AreOwn-grow c.loop-term.own.items k.grows h)
          (λ h. shown_owns-grow c.loop-term.own.items k.grows h)
          c.in-Ok.ensures.answer.0 c.in-Ok.ensures.answer.1);
    }

pub returns-in-Err-clause-answer : goal.returns-in-Err-clause-answer
returns-in-Err-clause-answer g c =
    let i = c.loop-term.invariant in
    let old = c.args.table.now in
    let x = get_or c.args.terms.now c.loop-term.term-index
    (record { tilde = false; ty = record { 0 = 0 } }) in
    let valid = c.requires.terms c.loop-term.term-index (record
    { tilde = false; ty = record { 0 = 0 } }) c.loop-term-test.true in
    let read = term-grows x i.kept.grows valid in
    turns_fault own_term shown_term IsOwn shown_own (g.E.Env.decls c.args.env.now c.args.table.now)
    (g.E.Env.decls c.loop-term.env c.loop-term.table) old c.args.terms.now c.loop-term.table
    c.loop-term.own.items c.loop-term.term-index
    (record { tilde = false; ty = record { 0 = 0 } }) c.in-Err.fault c.loop-term-test.true i.turns
    i.kept.same read c.in-Err.ensures.answer

pub returns-clause-answer : goal.returns-clause-answer
returns-clause-answer g c =
    rw c.new.ensures (turns_end own_term shown_term IsOwn shown_own
    (g.E.Env.decls c.args.env.now c.args.table.now) c.args.table.now c.args.terms.now
    c.loop-term.table c.loop-term.own.items c.loop-term.term-index
    c.loop-term-test.false c.loop-term.invariant.turns)
