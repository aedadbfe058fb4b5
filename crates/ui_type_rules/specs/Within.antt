-- The extent of a type where it is within the limits.
use Rattle.std.specs.Prelude.{◌≡◌, ◌⊎◌, ◌<◌, ◌≤◌, true, false, Option, Some, None}
use Rattle.ui_file.specs.Rules.{is_within}
use Rattle.ui_file.specs.declared.extent.Extent.{Extent}

-- one that is past the limits is not told
abbrev pub IsWithin : Extent → Option Extent → Type 0
IsWithin e (Some f) = (f ≡ e) × (is_within e ≡ true)
IsWithin e None = is_within e ≡ false

-- types side by side, where they are not past the limits
abbrev pub AreBeside : Extent → Option Extent → Type 0
AreBeside e (Some f) = f ≡ e
AreBeside e None = (65536 < e.size) ⊎ (256 < e.depth)
