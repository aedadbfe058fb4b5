use Rattle.ui_types.specs.Kept.{Kept}
use Rattle.ui_terms.specs.Terms.{asked}
use Rattle.ui_terms.specs.Reading.{IsTerm, shown_term}
use Rattle.ui_terms.proofs.EachLoop.{Turns}
use Rattle.ui_terms.proofs.membership.all_asked.Given as goal

abbrev pub invariant-loop-term : goal.invariant-loop-term
invariant-loop-term g l = record {
  kept : Kept g.E.Env.packages g.E.Env.lent g.E.Env.decls g.E.Env.fits l.initial.env l.initial.table
      l.env l.table;
  turns : Turns asked shown_term IsTerm shown_term (g.E.Env.decls l.initial.env l.initial.table)
      l.initial.table
      l.terms l.table l.all.items l.term-index;
}
