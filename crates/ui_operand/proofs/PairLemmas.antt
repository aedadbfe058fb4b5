-- Two operands of `==` and `!=`.
use Rattle.std.proofs.Common.{◌≡◌, ℕ, List, [], Bool, true, Some, Result, Ok, Err}
use Rattle.std.proofs.Common.{ap, sym, subst, if◌then◌else◌}
use Rattle.ui_base.specs.declared.value.Spot.{Spot}
use Rattle.ui_base.specs.declared.kind.BinOp.{BinOp}
use Rattle.ui_base.specs.declared.fault.Fault.{Fault}
use Rattle.ui_base.specs.declared.fault.CheckFault.{CheckFault}
use Rattle.ui_base.specs.declared.fault.FaultKind.TheVariants as fault
use Rattle.ui_types.specs.Table.{Table}
use Rattle.ui_scopes.specs.Steps.{Checks, fault_at, fault_of, Refuses}
use Rattle.ui_rules.specs.Kinds.{is_equality}
use Rattle.ui_rules.specs.Constants.{Constant, assignable, paired, matched}
use Rattle.ui_operand.specs.declared.constants.Constant as code
use Rattle.ui_operand.specs.Shown.{GivesPair}

-- what is assigned stays
pub assignable_ok : (file : List ℕ) (at : Spot) (want : Checks (Constant × Constant))
    (p : Constant × Constant) → want ≡ Ok p → assignable file at want ≡ Ok p
assignable_ok file at want p e = ap (assignable file at) e

-- any fault becomes this one
pub assignable_err : (file : List ℕ) (at : Spot) (want : Checks (Constant × Constant))
    (f : Fault) (e : CheckFault) → fault_of want ≡ Some f
    → Refuses (Some (fault_at file at fault.NotComparable [])) e
    → Refuses (fault_of (assignable file at want)) e
assignable_err file at (Ok p) f e h k = cc
assignable_err file at (Err x) f e h k = k

pub ruleset pairing = (assignable_ok, assignable_err)

-- two operands of an equality
pub equality_matched : (file : List ℕ) (at : Spot) (op : BinOp) (x y : Constant) (table : Table)
    (r : Result (code.Constant × code.Constant) CheckFault)
    → is_equality op ≡ true
    → GivesPair table (assignable file at (paired file at x y)) r
    → GivesPair table (matched file at op x y) r
equality_matched file at op x y table r e h =
    subst
    (λ (b : Bool). GivesPair table
    (if b then assignable file at (paired file at x y) else paired file at x y) r)
    (sym e) h
