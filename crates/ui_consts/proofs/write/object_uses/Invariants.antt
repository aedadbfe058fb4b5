use Rattle.std.proofs.Common.{◌≡◌, map}
use Rattle.std.specs.List.{range_with_len}
use Rattle.ui_consts.specs.Elements.{use_of}
use Rattle.ui_consts.proofs.write.object_uses.Given as goal

abbrev pub invariant-loop-object : goal.invariant-loop-object
invariant-loop-object l = l.uses.items ≡ map use_of (range_with_len 0 l.object)
