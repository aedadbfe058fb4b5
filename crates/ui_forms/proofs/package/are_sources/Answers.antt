use Rattle.std.proofs.Common.{sym, rules, tests, ◌∙◌}
use Rattle.std.proofs.lemmas.Iterator.{YieldsList-from_slice}
use Rattle.std.proofs.lemmas.Iterator.Search.{all_from_yields_List}
use Rattle.std.proofs.lemmas.List.Folds.{list_all-map}
use Rattle.ui_forms.specs.Form.{is_source, source_of}
use Rattle.ui_forms.proofs.package.are_sources.Goals as goal

pub returns : goal.returns
returns c =
    all_from_yields_List (λ f. is_source c.args.path.now (source_of f)) _ _ _ c.all.ensures.ran (YieldsList-from_slice c.args.files.now cc) (λ x b q k. search (rules, tests))
    ∙ sym (list_all-map (is_source c.args.path.now) source_of c.args.files.now)
