use Rattle.std.proofs.Common.{◌≡◌, ◌||◌, ℕ, List, drop}
use Rattle.ui_forms.specs.Form.{is_among, segments}
use Rattle.ui_forms.specs.Numbers.{has}
use Rattle.ui_forms.proofs.names.segments_of.Given as goal

abbrev pub invariant-loop-import : goal.invariant-loop-import
invariant-loop-import l = (q : List ℕ) → (is_among (segments (drop l.import-index l.imports)) q || has l.names q) ≡ is_among (segments l.imports) q
