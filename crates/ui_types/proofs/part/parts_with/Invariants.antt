use Rattle.std.proofs.Common.{◌≡◌, take}
use Rattle.ui_types.specs.Parts.{with_types}
use Rattle.ui_types.proofs.part.parts_with.Given as goal

abbrev pub invariant-loop-k : goal.invariant-loop-k
invariant-loop-k g l = l.made.items ≡ with_types g.P.Part.with_type (take l.k l.parts) (take l.k l.ids)
