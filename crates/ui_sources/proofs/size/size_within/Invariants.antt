use Rattle.std.proofs.Common.{◌≡◌, ◌+◌, ◌≤◌, map, drop}
use Rattle.ui_sources.specs.Sources.{source_of, total}
use Rattle.ui_sources.proofs.size.size_within.Given as goal

abbrev pub invariant-loop-source : goal.invariant-loop-source
invariant-loop-source l = record {
  sum : l.room + total (map source_of l.sources) ≡ 16777216 + total (map source_of (drop l.source-index l.sources));
  within : l.room ≤ 16777216;
}
