use Rattle.std.proofs.Common.{◌≡◌, map, drop}
use Rattle.std.specs.FinMap.{empty}
use Rattle.ui_tree.specs.StmtView.{file_view}
use Rattle.ui_forms.specs.Form.{file_paths, set_with}
use Rattle.ui_forms.proofs.discovery.paths_in.Given as goal

abbrev pub invariant-loop-file : goal.invariant-loop-file
invariant-loop-file l = set_with l.paths (file_paths (map file_view (drop l.file-index l.files))) ≡ set_with empty (file_paths (map file_view l.files))
