-- The loop over the entries of a table.
use Rattle.std.proofs.Common.{◌≡◌, ℕ, suc, ◌+◌, ◌-◌, ◌<◌, ◌≤◌, Result, Ok, refl, sym, ◌∙◌, arith}
use Rattle.ui_strpos.specs.declared.fault.ElementFault.{ElementFault}
use Rattle.ui_strpos.specs.declared.fault.ElementFault.TheVariants as faults
use Rattle.ui_strpos.specs.Reading.{State, Fault, Fails, entry_in, entries_in}

pub step : (count i : ℕ) (s t : State) → i < count → entry_in s ≡ Ok t → entries_in (count - i) s ≡ entries_in (count - (i + 1)) t
unfolding entries_in
step count i s t lt e =
    let k : count - i ≡ suc (count - (i + 1)) = omega arith in
    rw (k, e) refl

pub ends : (e : ElementFault) (count i : ℕ) (s : State) (total : Result State Fault) → i < count → Fails e (entry_in s) → entries_in (count - i) s ≡ total → Fails e total
unfolding entries_in
ends faults.NoMemory count i s total lt h so_far = tt
ends (faults.Bad o c) count i s total lt h so_far =
    let k : count - i ≡ suc (count - (i + 1)) = omega arith in
    sym so_far ∙ rw (k, h) refl

pub is_done : (count i : ℕ) (s : State) (total : Result State Fault) → count ≤ i → entries_in (count - i) s ≡ total → total ≡ Ok s
unfolding entries_in
is_done count i s total le so_far =
    let k : count - i ≡ 0 = omega arith in
    sym so_far ∙ rw k refl
