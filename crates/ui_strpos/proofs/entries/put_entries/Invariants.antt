use Rattle.std.proofs.Common.{◌≡◌, ◌∷◌, length, take, None}
use Rattle.ui_strpos.specs.Items.{written, UInt}
use Rattle.ui_strpos.specs.Format.{items_by}
use Rattle.ui_strpos.proofs.entries.put_entries.Given as goal

abbrev pub invariant-loop-entry : goal.invariant-loop-entry
invariant-loop-entry g l = l.out ≡ written l.fn.out (UInt (length l.list) ∷ items_by g.T.ListEntry.form None (take l.entry-index l.list))
