use Rattle.std.proofs.Common.{◌≡◌, ◌≤◌}
use Rattle.ui_build.specs.Sources.{sources_of}
use Rattle.ui_build.specs.Stops.{state}
use Rattle.ui_build.proofs.Hearing.{ReadSoFar}
use Rattle.ui_build.proofs.Reading.{Continues}
use Rattle.ui_build.proofs.sources.read_sources.Given as goal

abbrev pub invariant-loop-name : goal.invariant-loop-name
invariant-loop-name g l = record {
  files : (g.S.Store.told l.store).files ≡ (g.S.Store.told l.initial.store).files;
  heard : ReadSoFar l.folder l.names l.name-index (sources_of l.sources) (g.S.Store.told l.initial.store).heard (g.S.Store.told l.store).heard;
  count : (g.S.Store.told l.initial.store).faults ≤ (g.S.Store.told l.store).faults;
  rest : Continues l.folder l.names (state (g.S.Store.told l.initial.store).files (g.S.Store.told l.initial.store).asked) l.name-index (sources_of l.sources) (state (g.S.Store.told l.store).files (g.S.Store.told l.store).asked);
}
