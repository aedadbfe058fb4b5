use Rattle.std.proofs.Common.{ap, sym}
use Rattle.ui_scopes.specs.declared.scope.Meaning.TheVariants.{Predeclared}
use Rattle.ui_face_rules.specs.TypeNames as names
use Rattle.ui_type_names.proofs.FoundLemmas.{Finds-same, lent_meaning}
use Rattle.ui_type_names.proofs.found.found_meaning.Goals as goal

pub returns-in-Predeclared-clause-answer : goal.returns-in-Predeclared-clause-answer
returns-in-Predeclared-clause-answer c = Finds-same c.predeclared.new.table _ _ _
    c.predeclared.result (λ w. sym (ap (names.meaning_type w c.args.file.now c.args.name.now)
    (lent_meaning c.args.table.now c.args.meaning c.in-Some.meaning (Predeclared
    c.in-Predeclared.word) c.in-Some.is c.in-Predeclared.is))) (c.predeclared.ensures.answer (λ w n.
    names.object_type w c.args.file.now c.args.name.now.spot n))
