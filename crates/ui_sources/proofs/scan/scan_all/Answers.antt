use Rattle.ui_sources.specs.Sources.{source_of}
use Rattle.ui_sources.proofs.SourceLemmas.{item_short}
use Rattle.ui_sources.proofs.scan.scan_all.Goals as goal

pub scan-requires : goal.scan-requires
scan-requires c = item_short source_of c.args.sources.now c.loop-source.source-index c.source-item.result c.requires c.loop-source-test.true c.source-item.is
