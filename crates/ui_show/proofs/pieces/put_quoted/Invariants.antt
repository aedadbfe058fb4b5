use Rattle.std.proofs.Common.{◌≡◌, ◌++◌, take}
use Rattle.std.specs.List.{flat_map}
use Rattle.ui_show.specs.Pieces.{quoted_byte}
use Rattle.ui_show.proofs.pieces.put_quoted.Given as goal

abbrev pub invariant-loop-b : goal.invariant-loop-b
invariant-loop-b l = l.out.items ≡ l.initial.out.items ++ flat_map quoted_byte (take l.b-index l.bytes)
