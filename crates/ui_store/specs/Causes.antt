-- When a fault may come: only where a count of faults rose. A count never falls, and stands still at 2^64 - 1. This project's own.
use Rattle.std.specs.Prelude.{ℕ, ◌+◌, ◌-◌, ◌^◌, ◌≤◌, min, Result, OnErr, IsErrOf}
use Rattle.ui_store.specs.declared.fault.StoreFault.{StoreFault}
use Rattle.ui_store.specs.declared.fault.StoreFault.TheVariants.{Failed}

-- the count rose, or stands at its last value
abbrev pub Rose : ℕ → ℕ → Type 0
Rose before now = min (before + 1) (2 ^ 64 - 1) ≤ now

-- a fault of a source or a sink
pub record HasCause {T E : Type 0} (before now : ℕ) (result : Result T E) : Type 0 where
  pub later : before ≤ now
  pub failed : OnErr result (Rose before now)

-- a fault of a store: `Failed` alone is the device's
pub record StoreCause {T : Type 0} (before now : ℕ) (result : Result T StoreFault) : Type 0 where
  pub later : before ≤ now
  pub failed : IsErrOf result Failed → Rose before now
