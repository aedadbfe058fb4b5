use Rattle.std.proofs.Common.{◌≡◌, ◌||◌, ℕ, List, drop}
use Rattle.ui_forms.specs.Form.{are_new, is_among, names}
use Rattle.ui_forms.specs.Numbers.{has}
use Rattle.ui_forms.specs.Sums.{nothing}
use Rattle.ui_forms.proofs.names.names_of.Given as goal

abbrev pub invariant-loop-part : goal.invariant-loop-part
invariant-loop-part l = record {
  new : are_new (has l.names) (names (drop l.part-index l.parts)) ≡ are_new nothing (names l.parts);
  set : (q : List ℕ) → (is_among (names (drop l.part-index l.parts)) q || has l.names q) ≡ is_among (names l.parts) q;
}
