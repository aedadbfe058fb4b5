use Rattle.std.proofs.Common.{◌≡◌, map, drop}
use Rattle.ui_tree.specs.StmtView.{import_view}
use Rattle.ui_forms.specs.Form.{import_of}
use Rattle.ui_base.specs.Steps.{each}
use Rattle.ui_base.proofs.StepLemmas.{behind}
use Rattle.ui_forms.proofs.import.imports_in.Given as goal

abbrev pub invariant-loop-import : goal.invariant-loop-import
invariant-loop-import l = behind l.taken (each (import_of l.own) (map import_view (drop l.import-index l.imports))) ≡ each (import_of l.own) (map import_view l.imports)
