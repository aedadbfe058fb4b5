use Rattle.ui_tree.specs.StmtView.{import_view}
use Rattle.ui_forms.specs.Form.{spec_paths}
use Rattle.ui_forms.proofs.SetLemmas.{sets_end, sets_more}
use Rattle.ui_forms.proofs.discovery.add_imports.Goals as goal

pub loop-import-preserved : goal.loop-import-preserved
loop-import-preserved c = sets_more import_view (λ i. spec_paths i.specs) c.args.imports.now c.loop-import.import-index c.loop-import.paths _ c.import-item.result c.add_import.new.paths c.loop-import-test.true c.import-item.is c.loop-import.invariant c.in_ok-add_import.ensures

pub returns : goal.returns
returns c = sets_end import_view (λ i. spec_paths i.specs) c.args.imports.now c.loop-import.import-index c.loop-import.paths _ c.loop-import-test.false c.loop-import.invariant
