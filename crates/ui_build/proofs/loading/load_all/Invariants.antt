use Rattle.std.proofs.Common.{◌≡◌, ◌≤◌, length, map, take, string_bytes, true}
use Rattle.ui_below.specs.Claims.{claims}
use Rattle.ui_build.specs.Stops.{state}
use Rattle.ui_build.proofs.LoadingAll.{GoesOn, are_sound}
use Rattle.ui_build.proofs.Hearing.{LoadedSoFar}
use Rattle.ui_build.proofs.loading.load_all.Given as goal

abbrev pub invariant-loop-path : goal.invariant-loop-path
invariant-loop-path g l = record {
  rest : GoesOn l.paths (state (g.S.Store.told l.initial.store).files (g.S.Store.told l.initial.store).asked) l.path-index (l.files.items, l.prints.items) (state (g.S.Store.told l.store).files (g.S.Store.told l.store).asked);
  same : (g.S.Store.told l.store).files ≡ (g.S.Store.told l.initial.store).files;
  count : (g.S.Store.told l.initial.store).faults ≤ (g.S.Store.told l.store).faults;
  paths : map (λ x. x.export.path) l.files.items ≡ map string_bytes (take l.path-index l.paths);
  paired : length l.files.items ≡ length l.prints.items;
  heard : LoadedSoFar l.paths l.path-index (l.files.items, l.prints.items) (g.S.Store.told l.initial.store).heard (g.S.Store.told l.store).heard;
  sound : are_sound (claims l.files.items l.prints.items) ≡ true;
}
