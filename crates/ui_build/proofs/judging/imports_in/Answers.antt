use Rattle.std.proofs.Common.{◌≡◌, ◌∙◌, ap, sym, map, Result, Ok}
use Rattle.ui_base.specs.declared.fault.Fault.{Fault}
use Rattle.ui_sources.specs.Sources.{Trees, source_of, trees_of}
use Rattle.ui_build.specs.Sources.{trees_seen}
use Rattle.ui_build.specs.Package.{imports_by_trees}
use Rattle.ui_build.proofs.Forms.{imports_seen, paths_valid}
use Rattle.ui_build.proofs.judging.imports_in.Goals as goal

pub imports_of-requires : goal.imports_of-requires
imports_of-requires c =
    let h : ◌≡◌ {A = Result Trees Fault} (trees_of c.args.path.now (map source_of c.args.sources.now)) (Ok (trees_seen c.in-Ok.trees)) = c.in-Ok.ensures in
    rw c.deref.ensures.value (paths_valid c.in-Ok.trees.files.items (c.import_paths_are_valid.ensures c.args.path.now (map source_of c.args.sources.now) (trees_seen c.in-Ok.trees) h))

pub returns-in-Ok : goal.returns-in-Ok
returns-in-Ok c =
    let h : ◌≡◌ {A = Result Trees Fault} (trees_of c.args.path.now (map source_of c.args.sources.now)) (Ok (trees_seen c.in-Ok.trees)) = c.in-Ok.ensures in
    ap Ok (ap imports_by_trees h ∙ imports_seen c.in-Ok.trees.files.items ∙ sym (rw c.deref.ensures.value at c.in_ok-imports_of-in-Ok.ensures))
