use Rattle.std.proofs.Common.{map, ap, ◌∙◌}
use Rattle.ui_tree.specs.StmtView.{file_view, import_view}
use Rattle.ui_forms.specs.Form.{file_paths, import_paths, set_with}
use Rattle.ui_forms.proofs.SetLemmas.{sets_end, sets_more}
use Rattle.ui_forms.proofs.discovery.paths_in.Goals as goal

pub loop-file-init : goal.loop-file-init
loop-file-init c = ap (λ m. set_with m (file_paths (map file_view c.args.files.now))) c.new-paths.ensures

pub loop-file-preserved : goal.loop-file-preserved
loop-file-preserved c =
    sets_more file_view (λ f. import_paths f.imports) c.args.files.now c.loop-file.file-index c.loop-file.paths _ c.file-item.result c.add_imports.new.paths c.loop-file-test.true c.file-item.is c.loop-file.invariant
    (c.in_ok-add_imports.ensures ∙ ap (λ is. set_with c.loop-file.paths (import_paths (map import_view is))) c.as_slice.ensures)

pub returns : goal.returns
returns c = sets_end file_view (λ f. import_paths f.imports) c.args.files.now c.loop-file.file-index c.loop-file.paths _ c.loop-file-test.false c.loop-file.invariant
