use Rattle.std.proofs.Common.{◌≡◌, ◌≤◌, ◌-◌}
use Rattle.ui_order.specs.Found.{IsFound}
use Rattle.ui_build.proofs.HearingFound.{Turned}
use Rattle.ui_build.specs.Stops.{state}
use Rattle.ui_build.proofs.Finding.{Finds}
use Rattle.ui_build.proofs.discovering.discover.Given as goal

abbrev pub invariant-loop-turn : goal.invariant-loop-turn
invariant-loop-turn g l = record {
  rest : Finds l.root (state (g.S.Store.told l.initial.store).files (g.S.Store.told l.initial.store).asked) (1025 - l._turn) l.discovery (state (g.S.Store.told l.store).files (g.S.Store.told l.store).asked);
  same : (g.S.Store.told l.store).files ≡ (g.S.Store.told l.initial.store).files;
  count : (g.S.Store.told l.initial.store).faults ≤ (g.S.Store.told l.store).faults;
  heard : Turned l.root l._turn l.discovery (g.S.Store.told l.initial.store).heard (g.S.Store.told l.store).heard;
  found : IsFound l.root l.discovery;
}
