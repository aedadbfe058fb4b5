use Rattle.std.proofs.Common.{◌≡◌, ◌-◌, length}
use Rattle.ui_types.specs.Kept.{Kept}
use Rattle.ui_infer.specs.Bindings.{rounds}
use Rattle.ui_infer.specs.Shown.{AreBindings, shown_cores, shown_round}
use Rattle.ui_infer.proofs.cores.rounds.Given as goal

abbrev pub invariant-loop-round : goal.invariant-loop-round
invariant-loop-round g l = record {
  kept : Kept g.E.Env.packages g.E.Env.lent g.E.Env.decls g.E.Env.fits l.initial.env
      l.initial.table l.env l.table;
  valid : AreBindings l.table l.bindings.items;
  answer : rounds (g.E.Env.decls l.initial.env l.initial.table)
      (shown_cores l.initial.table l.cores) (length l.cores - l._round)
      (shown_round l.table l.bindings.items l.taken)
      ≡ rounds (g.E.Env.decls l.initial.env l.initial.table) (shown_cores l.initial.table l.cores)
      (length l.cores)
      (shown_round l.initial.table l.initial.bindings.items l.initial.taken);
}
