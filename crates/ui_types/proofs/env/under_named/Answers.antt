use Rattle.ui_types.specs.Kept.{Kept-grown}
use Rattle.ui_types.proofs.env.under_named.Goals as goal

pub returns-then-is_error-clause-kept : goal.returns-then-is_error-clause-kept
returns-then-is_error-clause-kept g c = Kept-grown g.met.E.Env.stays c.args.env.now c.error_made.ensures.grows c.requires.env
