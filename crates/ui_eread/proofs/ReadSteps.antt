-- From the fields of one level to the expression.
use Rattle.std.proofs.Common.{◌≡◌, ℕ, zero, suc, true, false, Result, Ok, Err, ap, refl}
use Rattle.std.specs.Prelude.{nat_lt}
use Rattle.ui_strpos.specs.declared.fault.ElementFault.{ElementFault}
use Rattle.ui_strpos.specs.declared.fault.ElementFault.TheVariants as faults
use Rattle.ui_strpos.specs.declared.fault.Cause.TheVariants.{BadCode}
use Rattle.ui_strpos.specs.Reading.{State, fault, Fails, Gives, uint_in}
use Rattle.ui_eexpr.specs.declared.expr.ExprEl.{ExprEl, out-ExprEl}
use Rattle.ui_eexpr.specs.declared.expr.ExprEl.TheViews.{roll-out-ExprEl}
use Rattle.ui_eexpr.specs.Exprs.{cases, expression}

pub whole : (locals depth d code : ℕ) (r : Result ExprEl ElementFault) (s t u : State)
    → depth ≡ suc d → uint_in s ≡ Ok (code, t) → nat_lt code 26 ≡ true
    → Gives out-ExprEl r u ((cases locals (expression locals d) code).read t)
    → Gives (λ v. v) r u ((expression locals depth).read s)
unfolding expression
whole locals depth d code (Ok v) s t u deep first lt h =
    rw (deep, first, lt, h) (ap (λ (e : ExprEl). Ok (e, u)) (roll-out-ExprEl v))
whole locals depth d code (Err faults.NoMemory) s t u deep first lt h = tt
whole locals depth d code (Err (faults.Bad o c)) s t u deep first lt h =
    rw (deep, first, lt, h) refl

pub refused : (locals depth code : ℕ) (s t : State) → uint_in s ≡ Ok (code, t)
    → nat_lt code 26 ≡ false → (expression locals depth).read s ≡ Err (fault s.place BadCode)
unfolding expression
refused locals zero code s t first lt = rw first refl
refused locals (suc d) code s t first lt = rw (first, lt) refl

pub too_deep : (locals code : ℕ) (s t : State) → uint_in s ≡ Ok (code, t)
    → (expression locals 0).read s ≡ Err (fault s.place BadCode)
unfolding expression
too_deep locals code s t first = rw first refl

pub no_code : (locals depth : ℕ) (e : ElementFault) (s : State) → Fails e (uint_in s)
    → Fails e ((expression locals depth).read s)
unfolding expression
no_code locals depth faults.NoMemory s h = tt
no_code locals zero (faults.Bad o c) s h = rw h refl
no_code locals (suc d) (faults.Bad o c) s h = rw h refl
