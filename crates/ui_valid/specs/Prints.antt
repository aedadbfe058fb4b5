-- Fingerprints of eight bytes.
use Rattle.std.specs.Prelude.{◌≡◌, ℕ, ◌<◌, List, length, get_or}
use Rattle.ui_eobj.specs.declared.root.BelowEl.{BelowEl}
use Rattle.ui_file.specs.Words.{text_at}

-- the fingerprints of a list are such
pub record HaveEight (texts : List (List ℕ)) (els : List BelowEl) : Type 0 where
  pub each : (k : ℕ) (d : BelowEl) → k < length els
      → length (text_at texts (get_or els k d).print) ≡ 8
