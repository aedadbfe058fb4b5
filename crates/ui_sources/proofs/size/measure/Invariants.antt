use Rattle.std.proofs.Common.{◌≡◌, map, drop, take}
use Rattle.ui_sources.specs.Sources.{measured, source_of}
use Rattle.ui_base.specs.Steps.{each}
use Rattle.ui_base.proofs.StepLemmas.{behind}
use Rattle.ui_sources.proofs.size.measure.Given as goal

abbrev pub invariant-loop-source : goal.invariant-loop-source
invariant-loop-source l = behind (map source_of (take l.source-index l.sources)) (each measured (map source_of (drop l.source-index l.sources))) ≡ each measured (map source_of l.sources)
