use Rattle.std.proofs.Common.{◌≡◌, drop}
use Rattle.ui_eobj.specs.Values.{magnitude, magnitude_from}
use Rattle.ui_eobj.proofs.magnitude.magnitude_number.Given as goal

abbrev pub invariant-loop-byte : goal.invariant-loop-byte
invariant-loop-byte l = magnitude_from l.number (drop l.byte-index l.bytes) ≡ magnitude l.bytes
