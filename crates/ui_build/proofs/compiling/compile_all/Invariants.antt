use Rattle.std.proofs.Common.{◌≡◌, ◌≤◌, length, map, string_bytes, [], Some}
use Rattle.ui_store.specs.Files.{Files}
use Rattle.ui_build.specs.Build.{package_limit}
use Rattle.ui_build.specs.Built.{IsInOrder}
use Rattle.ui_build.specs.Stops.{state}
use Rattle.ui_build.proofs.Hearing.{CompiledSoFar}
use Rattle.ui_build.proofs.Ordered.{CompilesOn}
use Rattle.ui_build.proofs.compiling.compile_all.Given as goal

abbrev pub invariant-loop-path : goal.invariant-loop-path
invariant-loop-path g l = record {
  on : (files : Files) → (g.S.Store.told l.initial.store).files ≡ Some files → IsInOrder files [] (map string_bytes l.order) → length l.order ≤ package_limit → CompilesOn files l.order (state (g.S.Store.told l.initial.store).files (g.S.Store.told l.initial.store).asked) l.path-index (state (g.S.Store.told l.store).files (g.S.Store.told l.store).asked);
  heard : CompiledSoFar l.order l.path-index (g.S.Store.told l.initial.store).heard (g.S.Store.told l.store).heard;
  count : (g.S.Store.told l.initial.store).faults ≤ (g.S.Store.told l.store).faults;
}
