use Rattle.ui_types.specs.Kept.{Kept-grown}
use Rattle.ui_sets.specs.Needed.{within_any}
use Rattle.ui_sets.proofs.Bounds.{no_bound_of}
use Rattle.ui_sets.proofs.needs.needed_bound.Goals as goal

pub returns-clause-answer : goal.returns-clause-answer
returns-clause-answer g c = rw (
  no_bound_of c.args.table.now c.args.bounds.now c.args.k
      c.if-k-bounds.false,
  within_any,
) c.no_bound.ensures.answer

pub returns-clause-kept : goal.returns-clause-kept
returns-clause-kept g c = Kept-grown g.met.E.Env.stays c.args.env.now c.no_bound.ensures.grows
    c.requires.env
