use Rattle.std.proofs.Common.{◌≡◌, length}
use Rattle.ui_scan.specs.Scan.{scanned, then_outcome}
use Rattle.ui_scan.proofs.ScanLaws.{EndsOnce}
use Rattle.ui_scan.proofs.scanner.all_tokens.Given as goal

abbrev pub invariant-loop-found : goal.invariant-loop-found
invariant-loop-found l = record {
  so_far : then_outcome l.found.items l.scanner ≡ scanned l.bytes;
  once : EndsOnce l.scanner;
}

abbrev pub decreases-loop-found : goal.decreases-loop-found
decreases-loop-found l = length l.scanner.front
