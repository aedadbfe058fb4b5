use Rattle.std.proofs.Common.{ap, ◌∙◌}
use Rattle.std.specs.Map.{lookup}
use Rattle.ui_types.specs.Decls.{name_eq}
use Rattle.ui_known.proofs.MapLemmas.{shown_some, shown_none, valid_some}
use Rattle.ui_known.proofs.decls.DeclMap.find.Goals as goal

pub returns-in-Some-clause-valid : goal.returns-in-Some-clause-valid
returns-in-Some-clause-valid c table h =
    valid_some table c.args.self.now c.args.name.now c.in-Some.decl.now c.get-in-Some.result.now
    (c.in-Some.ensures.value ∙ ap (lookup (name_eq c.args.name.now)) c.self.view_is)
    c.get-in-Some.ensures h

pub returns-in-Some-clause-value : goal.returns-in-Some-clause-value
returns-in-Some-clause-value c table =
    shown_some table c.args.self.now c.args.name.now c.in-Some.decl.now c.get-in-Some.result.now
    (c.in-Some.ensures.value ∙ ap (lookup (name_eq c.args.name.now)) c.self.view_is)
    c.get-in-Some.ensures

pub returns-in-None-clause-value : goal.returns-in-None-clause-value
returns-in-None-clause-value c table =
    shown_none table c.args.self.now c.args.name.now
    (c.in-None.ensures.value ∙ ap (lookup (name_eq c.args.name.now)) c.self.view_is)
