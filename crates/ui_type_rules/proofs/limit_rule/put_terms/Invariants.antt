use Rattle.std.proofs.Common.{◌≡◌, ◌++◌, map, take}
use Rattle.ui_type_rules.proofs.limit_rule.put_terms.Given as goal

abbrev pub invariant-loop-term : goal.invariant-loop-term
invariant-loop-term l = l.out.items
    ≡ l.initial.out.items ++ map (λ t. t.ty) (take l.term-index l.terms)
