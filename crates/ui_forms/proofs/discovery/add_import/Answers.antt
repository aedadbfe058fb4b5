use Rattle.std.proofs.Common.{◌≡◌, subst}
use Rattle.std.specs.Result.{OnOk}
use Rattle.ui_forms.specs.Form.{set_with}
use Rattle.ui_forms.proofs.SetLemmas.{group_paths}
use Rattle.ui_forms.proofs.discovery.add_import.Goals as goal

pub returns-in-Grouped : goal.returns-in-Grouped
returns-in-Grouped c =
    subst (λ texts. OnOk c.add_group.result (c.add_group.new.paths ≡ set_with c.args.paths.now texts)) (group_paths c.args.import.now c.in-Grouped.group c.as_slice.result.now c.in-Grouped.is c.as_slice.ensures) c.add_group.ensures
