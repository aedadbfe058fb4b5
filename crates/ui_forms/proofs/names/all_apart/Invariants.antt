use Rattle.std.proofs.Common.{◌≡◌, drop}
use Rattle.std.specs.List.{list_all}
use Rattle.ui_forms.specs.Form.{are_apart, segments}
use Rattle.ui_forms.specs.Numbers.{has}
use Rattle.ui_forms.proofs.names.all_apart.Given as goal

abbrev pub invariant-loop-part : goal.invariant-loop-part
invariant-loop-part l = list_all (λ p. are_apart (has l.names) (segments p.imports)) (drop l.part-index l.parts) ≡ list_all (λ p. are_apart (has l.names) (segments p.imports)) l.parts
