use Rattle.std.proofs.Common.{◌≡◌, ◌++◌, map, take}
use Rattle.ui_type_rules.proofs.limit_rule.put_methods.Given as goal

abbrev pub invariant-loop-method : goal.invariant-loop-method
invariant-loop-method l = l.out.items
    ≡ l.initial.out.items ++ map (λ m. m.sig) (take l.method-index l.methods)
