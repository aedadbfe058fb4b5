use Rattle.ui_types.specs.Kept.{Kept}
use Rattle.ui_terms.specs.Reading.{shown_unions}
use Rattle.ui_terms.proofs.Inside.{IsInside}
use Rattle.ui_terms.proofs.membership.in_unions.Given as goal

abbrev pub invariant-loop-k : goal.invariant-loop-k
invariant-loop-k g l = record {
  kept : Kept g.E.Env.packages g.E.Env.lent g.E.Env.decls g.E.Env.fits l.initial.env l.initial.table
      l.env l.table;
  inside : IsInside (g.E.Env.decls l.initial.env l.initial.table)
      (shown_unions l.initial.table l.own)
      l.initial.table l.unions l.k;
}
