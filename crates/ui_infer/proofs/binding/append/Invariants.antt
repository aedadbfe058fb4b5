use Rattle.std.proofs.Common.{◌≡◌, ◌++◌, take}
use Rattle.ui_infer.proofs.binding.append.Given as goal

abbrev pub invariant-loop-binding : goal.invariant-loop-binding
invariant-loop-binding l = l.bindings.items ≡ l.initial.bindings.items
    ++ take l.binding-index l.more
