use Rattle.std.proofs.Common.{◌≡◌, ◌||◌, ℕ, List, drop}
use Rattle.ui_forms.specs.Numbers.{has}
use Rattle.ui_forms.specs.Verdict.{has_term}
use Rattle.ui_forms.proofs.used.used_of.Given as goal

abbrev pub invariant-loop-constant : goal.invariant-loop-constant
invariant-loop-constant l = (q : List ℕ) → (has_term (drop l.constant-index l.constants) q || has l.used q) ≡ has_term l.constants q
