-- Checking is local: two environments that agree on a set of names, which holds all that is mentioned,
-- check alike. This project's own.
use Rattle.std.specs.Prelude.{◌≡◌, Bool, true, IfOk}
use Rattle.ui_base.specs.declared.name.Name.{Name}
use Rattle.ui_tree.specs.Tree.{Tree}
use Rattle.ui_scopes.specs.Scopes.{World, ScopeTree}
use Rattle.ui_scopes.specs.Local.{Names, OperandIn, Agree}
use Rattle.ui_rules.specs.Rules.{operand_of}
use Rattle.ui_local.specs.Mentioned.{ScopeIn, IsPackage, TreeIn}

-- the set that a test tells
abbrev pub members : (Name → Bool) → Names
members set n = set n ≡ true

-- an expression is checked to be one operand in both, or has one first fault
abbrev pub ExpressionsAgree : Type 0
ExpressionsAgree =
    (set : Name → Bool) (w w' : World) (s : ScopeTree) (t : Tree)
    → Agree (members set) w w' → ScopeIn (members set) s → TreeIn (members set) s t
    → operand_of w s t ≡ operand_of w' s t

-- the operand mentions only names of the set, and is a package only where the expression is the package's name
abbrev pub ExpressionsStayWithin : Type 0
ExpressionsStayWithin =
    (set : Name → Bool) (w w' : World) (s : ScopeTree) (t : Tree)
    → Agree (members set) w w' → ScopeIn (members set) s → TreeIn (members set) s t
    → IfOk (operand_of w s t) (OperandIn (members set) (IsPackage s t))
