use Rattle.std.proofs.Common.{◌≡◌, map, drop}
use Rattle.ui_sources.specs.Sources.{source_of, tokens_in}
use Rattle.ui_base.specs.Steps.{each}
use Rattle.ui_base.proofs.StepLemmas.{behind}
use Rattle.ui_sources.proofs.scan.scan_all.Given as goal

abbrev pub invariant-loop-source : goal.invariant-loop-source
invariant-loop-source l = behind (map (λ tokens. tokens.items) l.scanned.items) (each tokens_in (map source_of (drop l.source-index l.sources))) ≡ each tokens_in (map source_of l.sources)
