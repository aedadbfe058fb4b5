use Rattle.std.proofs.Common.{◌≡◌, true, map, sym, subst, ◌∙◌}
use Rattle.std.specs.List.{AllByRecursion}
use Rattle.std.specs.FinMap.{keys}
use Rattle.ui_base.specs.Paths.{is_path}
use Rattle.ui_tree.specs.StmtView.{file_view}
use Rattle.ui_forms.specs.Form.{file_paths}
use Rattle.ui_forms.proofs.SetLemmas.{ascending-all}
use Rattle.ui_forms.proofs.FormLemmas.{found_as}
use Rattle.ui_forms.proofs.discovery.imports_of.Goals as goal

pub paths_of-requires : goal.paths_of-requires
paths_of-requires c =
    subst (λ m. AllByRecursion (λ p. is_path p ≡ true) (keys m)) (sym (c.numbers.view_is ∙ c.in_ok-numbers.ensures)) (ascending-all (λ p. is_path p ≡ true) (file_paths (map file_view c.args.files.now)) c.requires)

pub returns : goal.returns
returns c = found_as _ _ (map file_view c.args.files.now) c.in_ok-paths.ensures (c.numbers.view_is ∙ c.in_ok-numbers.ensures)
