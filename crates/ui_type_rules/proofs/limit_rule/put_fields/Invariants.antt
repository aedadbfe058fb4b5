use Rattle.std.proofs.Common.{◌≡◌, ◌++◌, map, take}
use Rattle.ui_type_rules.proofs.limit_rule.put_fields.Given as goal

abbrev pub invariant-loop-field : goal.invariant-loop-field
invariant-loop-field l = l.out.items
    ≡ l.initial.out.items ++ map (λ f. f.ty) (take l.field-index l.fields)
