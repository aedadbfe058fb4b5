use Rattle.std.proofs.Common.{◌≡◌, drop}
use Rattle.ui_types.specs.Table.{trees}
use Rattle.ui_types.specs.Kept.{Kept}
use Rattle.ui_infer.specs.Bindings.{arguments}
use Rattle.ui_infer.specs.Shown.{AreBindings, shown_actuals, shown_bound}
use Rattle.ui_infer.proofs.arguments.arguments.Given as goal

abbrev pub invariant-loop-k : goal.invariant-loop-k
invariant-loop-k g l = record {
  kept : Kept g.E.Env.packages g.E.Env.lent g.E.Env.decls g.E.Env.fits l.initial.env
      l.initial.table l.env l.table;
  valid : AreBindings l.table l.bound.entries.items;
  answer : arguments (g.E.Env.decls l.initial.env l.initial.table) l.count l.given
      (shown_actuals l.initial.table (drop l.k l.actuals))
      (trees l.initial.table (drop l.k l.formals)) (shown_bound l.table l.bound)
      ≡ arguments (g.E.Env.decls l.initial.env l.initial.table) l.count l.given
      (shown_actuals l.initial.table l.actuals) (trees l.initial.table l.formals)
      (shown_bound l.initial.table l.initial.bound);
}
