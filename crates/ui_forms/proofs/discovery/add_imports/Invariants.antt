use Rattle.std.proofs.Common.{◌≡◌, map, drop}
use Rattle.ui_tree.specs.StmtView.{import_view}
use Rattle.ui_forms.specs.Form.{import_paths, set_with}
use Rattle.ui_forms.proofs.discovery.add_imports.Given as goal

abbrev pub invariant-loop-import : goal.invariant-loop-import
invariant-loop-import l = set_with l.paths (import_paths (map import_view (drop l.import-index l.imports))) ≡ set_with l.initial.paths (import_paths (map import_view l.imports))
