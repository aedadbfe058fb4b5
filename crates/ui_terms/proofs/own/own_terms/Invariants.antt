use Rattle.ui_types.specs.Kept.{Kept}
use Rattle.ui_terms.specs.Terms.{own_term}
use Rattle.ui_terms.specs.Reading.{IsOwn, shown_own, shown_term}
use Rattle.ui_terms.proofs.EachLoop.{Turns}
use Rattle.ui_terms.proofs.own.own_terms.Given as goal

abbrev pub invariant-loop-term : goal.invariant-loop-term
invariant-loop-term g l = record {
  kept : Kept g.E.Env.packages g.E.Env.lent g.E.Env.decls g.E.Env.fits l.initial.env l.initial.table
      l.env l.table;
  turns : Turns own_term shown_term IsOwn shown_own (g.E.Env.decls l.initial.env l.initial.table)
      l.initial.table
      l.terms l.table l.own.items l.term-index;
}
