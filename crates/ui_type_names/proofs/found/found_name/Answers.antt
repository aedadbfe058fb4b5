use Rattle.std.proofs.Common.{◌≡◌, ap, sym, ◌∙◌, false, rules}
use Rattle.std.specs.Prelude.{codes, bytes_eq}
use Rattle.ui_scopes.specs.Scopes.{shown_scope}
use Rattle.ui_face_rules.specs.TypeNames as names
use Rattle.ui_type_names.proofs.FoundLemmas.{Finds-same, name_found, qualified_found}
use Rattle.ui_type_names.proofs.found.found_name.Goals as goal

pub returns-in-None-clause-answer : goal.returns-in-None-clause-answer
returns-in-None-clause-answer c =
    let other : bytes_eq c.args.name.now.text (codes "_") ≡ false = search rules in
    Finds-same c.found_meaning.new.table _ _ _ c.found_meaning.result (λ w. name_found
    c.args.table.now c.args.scope.now c.args.name.now c.meaning-meaning.result other
    c.meaning-meaning.ensures w ∙ sym (ap (names.named_type w (shown_scope c.args.table.now
    c.args.scope.now) c.args.name.now) c.in-None.is)) c.found_meaning.ensures.answer

pub returns-in-Some-clause-answer : goal.returns-in-Some-clause-answer
returns-in-Some-clause-answer c =
    let other : bytes_eq c.args.name.now.text (codes "_") ≡ false = search rules in
    Finds-same c.args.table.now _ _ _ c.qualified_meaning.result (λ w. qualified_found
    c.args.table.now c.args.scope.now c.args.name.now c.meaning-meaning.result
    c.in-Some.member.text other c.meaning-meaning.ensures w ∙ sym (ap (names.named_type w
    (shown_scope c.args.table.now c.args.scope.now) c.args.name.now) c.in-Some.is))
    c.qualified_meaning.ensures
