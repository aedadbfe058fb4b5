use Rattle.std.proofs.Common.{◌+◌, ◌*◌, ◌-◌, ◌^◌, length}
use Rattle.ui_types.specs.Table.{trees}
use Rattle.ui_types.specs.Kept.{Kept}
use Rattle.ui_satisfy.proofs.Turns.{AllTurns, OneTurns}
use Rattle.ui_satisfy.proofs.search.+look.Given as goal

abbrev pub decreases-look : goal.decreases-look
decreases-look g l = 8 * (2 ^ 64 - length l.marks.now.good.keys) + 1

abbrev pub decreases-look_anew : goal.decreases-look_anew
decreases-look_anew g l = 8 * (2 ^ 64 - length l.marks.now.good.keys)

abbrev pub decreases-inside : goal.decreases-inside
decreases-inside g l = 8 * (2 ^ 64 - length l.marks.now.good.keys) + 7

abbrev pub decreases-inside_plain : goal.decreases-inside_plain
decreases-inside_plain g l = 8 * (2 ^ 64 - length l.marks.now.good.keys) + 6

abbrev pub decreases-inside_param : goal.decreases-inside_param
decreases-inside_param g l = 8 * (2 ^ 64 - length l.marks.now.good.keys) + 6

abbrev pub decreases-inside_bound : goal.decreases-inside_bound
decreases-inside_bound g l = 8 * (2 ^ 64 - length l.marks.now.good.keys) + 5

abbrev pub decreases-one_looked : goal.decreases-one_looked
decreases-one_looked g l = 8 * (2 ^ 64 - length l.marks.now.good.keys) + 4

abbrev pub decreases-union_looked : goal.decreases-union_looked
decreases-union_looked g l = 8 * (2 ^ 64 - length l.marks.now.good.keys) + 3

abbrev pub decreases-all_looked : goal.decreases-all_looked
decreases-all_looked g l = 8 * (2 ^ 64 - length l.marks.now.good.keys) + 2

abbrev pub invariant-all_looked-loop-t : goal.invariant-all_looked-loop-t
invariant-all_looked-loop-t g l = record {
  kept : Kept g.E.Env.packages g.E.Env.lent g.E.Env.decls g.E.Env.fits l.initial.env l.initial.table
      l.env l.table;
  turns : AllTurns (g.E.Env.decls l.initial.env l.initial.table) (trees l.initial.table l.bounds)
      l.initial.table l.initial.marks l.types l.table l.marks l.t-index;
}

abbrev pub invariant-one_looked-loop-union : goal.invariant-one_looked-loop-union
invariant-one_looked-loop-union g l = record {
  kept : Kept g.E.Env.packages g.E.Env.lent g.E.Env.decls g.E.Env.fits l.initial.env l.initial.table
      l.env l.table;
  turns : OneTurns (g.E.Env.decls l.initial.env l.initial.table) (trees l.initial.table l.bounds)
      l.initial.table l.initial.marks l.unions l.table l.marks l.union-index;
}
