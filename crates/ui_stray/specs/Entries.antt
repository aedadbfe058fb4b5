-- An entry that was read, by what stands there.
use Rattle.std.specs.Prelude.{◌≡◌, ℕ, List, drop, Result, Ok, Err}
use Rattle.ui_frame.specs.declared.number.NumFault.{NumFault}
use Rattle.ui_strpos.specs.Items.{target}
use Rattle.ui_strpos.specs.declared.target.Target.{Target}
use Rattle.ui_stray.specs.declared.table.Entry.{Entry}

abbrev pub ReadsEntry : List ℕ → Result Entry NumFault → Result (Target × List ℕ) NumFault → Type 0
ReadsEntry bytes (Ok e) read = read ≡ Ok (target e.section e.index, drop e.next bytes)
ReadsEntry bytes (Err e) read = read ≡ Err e
