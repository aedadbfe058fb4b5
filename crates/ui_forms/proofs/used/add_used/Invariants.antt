use Rattle.std.proofs.Common.{◌≡◌, ◌||◌, ℕ, List, drop}
use Rattle.std.specs.List.{list_any}
use Rattle.ui_forms.specs.Numbers.{has}
use Rattle.ui_forms.specs.Verdict.{has_segment}
use Rattle.ui_forms.proofs.used.add_used.Given as goal

abbrev pub invariant-loop-term : goal.invariant-loop-term
invariant-loop-term l = (q : List ℕ) → (list_any (has_segment q) (drop l.term-index l.terms) || has l.used q) ≡ (list_any (has_segment q) l.terms || has l.initial.used q)
