use Rattle.ui_scopes.specs.Standing.{Stands-grown}
use Rattle.ui_operand.proofs.names.meaning_operand.Goals as goal

pub returns-in-Predeclared-clause-kept : goal.returns-in-Predeclared-clause-kept
returns-in-Predeclared-clause-kept g c =
    Stands-grown c.predeclared_operand.ensures.grows c.requires.env
