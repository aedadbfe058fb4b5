use Rattle.std.proofs.Common.{◌≡◌, drop, length, false}
use Rattle.ui_types.specs.Kept.{Kept}
use Rattle.ui_infer.specs.Bindings.{turns}
use Rattle.ui_infer.specs.Shown.{AreBindings, shown_cores, shown_round}
use Rattle.ui_infer.proofs.cores.turns.Given as goal

abbrev pub invariant-loop-k : goal.invariant-loop-k
invariant-loop-k g l = record {
  kept : Kept g.E.Env.packages g.E.Env.lent g.E.Env.decls g.E.Env.fits l.initial.env
      l.initial.table l.env l.table;
  valid : AreBindings l.table l.bindings.items;
  idle : l.any ≡ false → shown_round l.table l.bindings.items l.taken
      ≡ shown_round l.initial.table l.initial.bindings.items l.initial.taken;
  answer : turns (g.E.Env.decls l.initial.env l.initial.table) (length l.cores) l.k
      (shown_cores l.initial.table (drop l.k l.cores))
      (shown_round l.table l.bindings.items l.taken)
      ≡ turns (g.E.Env.decls l.initial.env l.initial.table) (length l.cores) 0
      (shown_cores l.initial.table l.cores) (shown_round l.initial.table l.initial.bindings.items
      l.initial.taken);
}
