use Rattle.std.proofs.Common.{◌≡◌, ◌||◌, ◌++◌, ℕ, List, map, drop}
use Rattle.ui_forms.specs.Form.{are_new, is_among}
use Rattle.ui_forms.specs.Numbers.{has}
use Rattle.ui_forms.proofs.names.add_names.Given as goal

abbrev pub invariant-loop-constant : goal.invariant-loop-constant
invariant-loop-constant l = record {
  new : (rest : List (List ℕ)) → are_new (has l.names) (map (λ c. c.name) (drop l.constant-index l.constants) ++ rest) ≡ are_new (has l.initial.names) (map (λ c. c.name) l.constants ++ rest);
  set : (q : List ℕ) → (is_among (map (λ c. c.name) (drop l.constant-index l.constants)) q || has l.names q) ≡ (is_among (map (λ c. c.name) l.constants) q || has l.initial.names q);
}
