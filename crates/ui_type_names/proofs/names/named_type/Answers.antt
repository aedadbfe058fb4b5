use Rattle.ui_scopes.specs.Scopes.{world}
use Rattle.ui_scopes.specs.Standing.{Stands-grown, Stands-kept}
use Rattle.ui_type_names.proofs.names.named_type.Goals as goal

pub object_type-requires : goal.object_type-requires
object_type-requires g c = Stands-kept {L = g.E.Env.lent} (Stands-grown
    c.in-Ok-Declared.ensures.grows c.requires.env) c.requires.env

pub returns-in-Ok-Known-clause-kept : goal.returns-in-Ok-Known-clause-kept
returns-in-Ok-Known-clause-kept g c = Stands-grown c.in-Ok-Known.ensures.grows c.requires.env

pub returns-in-Err-clause-answer : goal.returns-in-Err-clause-answer
returns-in-Err-clause-answer g c = c.in-Err.ensures.answer (world (g.E.Env.packages c.args.env.now)
    (g.E.Env.decls c.args.env.now c.args.table.now))

pub returns-in-Err-clause-kept : goal.returns-in-Err-clause-kept
returns-in-Err-clause-kept g c = Stands-grown c.in-Err.ensures.grows c.requires.env
