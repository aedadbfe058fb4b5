use Rattle.std.proofs.Common.{◌≡◌, map, drop}
use Rattle.ui_sources.specs.Sources.{source_of, source_tree, tree_in}
use Rattle.ui_base.specs.Steps.{each}
use Rattle.ui_base.proofs.StepLemmas.{behind}
use Rattle.ui_sources.proofs.parse.parse_all.Given as goal

abbrev pub invariant-loop-i : goal.invariant-loop-i
invariant-loop-i l = behind (map source_tree l.files.items) (each (tree_in l.own) (map source_of (drop l.i l.sources))) ≡ each (tree_in l.own) (map source_of l.sources)
