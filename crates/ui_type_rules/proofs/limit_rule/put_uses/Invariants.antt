use Rattle.std.proofs.Common.{◌≡◌, ◌++◌, take}
use Rattle.ui_type_rules.proofs.limit_rule.put_uses.Given as goal

abbrev pub invariant-loop-u : goal.invariant-loop-u
invariant-loop-u l = l.out.items ≡ l.initial.out.items ++ take l.u-index l.uses
