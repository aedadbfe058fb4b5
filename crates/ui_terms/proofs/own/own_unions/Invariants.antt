use Rattle.ui_types.specs.Table.{tree}
use Rattle.ui_types.specs.Kept.{Kept}
use Rattle.ui_terms.specs.Terms.{own_union}
use Rattle.ui_terms.specs.Reading.{AreOwn, shown_owns}
use Rattle.ui_terms.proofs.EachLoop.{Turns}
use Rattle.ui_terms.proofs.own.own_unions.Given as goal

abbrev pub invariant-loop-union : goal.invariant-loop-union
invariant-loop-union g l = record {
  kept : Kept g.E.Env.packages g.E.Env.lent g.E.Env.decls g.E.Env.fits l.initial.env l.initial.table
      l.env l.table;
  turns : Turns own_union tree AreOwn shown_owns (g.E.Env.decls l.initial.env l.initial.table)
      l.initial.table
      l.unions l.table l.own.items l.union-index;
}
