-- What is answered for bodies at type arguments, and what such a call leaves; and checked packages.
-- This project's own.
use Rattle.std.specs.Prelude.{◌≡◌, ℕ, List, map, All, Option, IfSome, option_map}
use Rattle.std.specs.Prelude.{Result, Ok, Err}
use Rattle.ui_types.specs.Ty.{Ty}
use Rattle.ui_types.specs.Table.{Table, IsId, Grows, tree}
use Rattle.ui_types.specs.Decls.{Packages, DeclTrees, AreDecls, shown_decls}
use Rattle.ui_core.specs.declared.callee.FuncKey.{FuncKey}
use Rattle.ui_core.specs.declared.tree.Body.{Body}
use Rattle.ui_core.specs.declared.fault.InstFault.{InstFault}
use Rattle.ui_core.specs.declared.fault.InstFault.TheVariants.{NoSuch, WrongCount, Unsatisfied}
use Rattle.ui_core.specs.declared.fault.InstFault.TheVariants.{TooBig, TooDeep, Unmet, NoMemory}
use Rattle.ui_core.specs.declared.fault.BodyFault.{BodyFault}
use Rattle.ui_core.specs.declared.fault.BodyFault.TheVariants as answered
use Rattle.ui_core.specs.declared.package.Checked.{Checked}
use Rattle.ui_core.specs.Checked.{BodyOf}
use Rattle.ui_core.specs.Mentions.{body_with, BodyMentions, any_name}
use Rattle.ui_core.specs.View.{body_view}

-- ---- bodies

-- a body in memory has ids of the table
abbrev pub IsBody : Table → Body → Type 0
IsBody table b = BodyMentions (IsId table) any_name (body_view b)

-- with the trees of its ids
abbrev pub shown_body : Table → Body → BodyOf Ty
shown_body table b = body_with (tree table) (body_view b)

-- a body, nothing, or a refusal
abbrev pub Answer : Type 0
Answer = Result (Option (BodyOf Ty)) InstFault

-- for each key and type arguments
abbrev pub Answers : Type 0
Answers = FuncKey → List Ty → Answer

-- want of memory refuses no instance
abbrev pub IsRefusal : InstFault → Type 0
IsRefusal NoSuch = Unit {0}
IsRefusal (WrongCount wanted given) = Unit {0}
IsRefusal (Unsatisfied parameter) = Unit {0}
IsRefusal TooBig = Unit {0}
IsRefusal TooDeep = Unit {0}
IsRefusal (Unmet entry) = Unit {0}
IsRefusal NoMemory = ⊥

-- it is the answer that is wanted, with ids of the table, or memory ran out
abbrev pub GivesBody : Table → Answer → Result (Option Body) BodyFault → Type 0
GivesBody table want (Ok found) =
    IfSome found (IsBody table) × (want ≡ Ok (option_map (shown_body table) found))
GivesBody table want (Err (answered.Inst fault)) = IsRefusal fault × (want ≡ Err fault)
GivesBody table want (Err answered.NoMemory) = Unit {0}

-- the answers are the same after a call, and the table only grew
pub record BodiesKept {S : Type 0} (table : S → Table) (lent : S → List ℕ) (answers : S → Answers)
    (fits : S → Type 0) (s s' : S) : Type 0 where
  pub still_fits : fits s'
  pub same_lent : lent s' ≡ lent s
  pub same : (key : FuncKey) (args : List Ty) → answers s' key args ≡ answers s key args
  pub grows : Grows (table s) (table s')

-- ---- packages

-- a checked package as plain data
pub record PackageTree : Type 0 where
  pub path : List ℕ
  pub name : List ℕ
  pub decls : DeclTrees
  pub bodies : List (FuncKey × BodyOf Ty)
  pub imports : List (List ℕ)
  pub packages : Packages

-- a checked package in memory has ids of the table
pub record IsChecked (table : Table) (c : Checked) : Type 0 where
  pub decls : AreDecls table c.decls
  pub bodies : All (λ b. IsBody table b.1) c.bodies

-- with the trees of its ids
abbrev pub shown_checked : Table → Checked → PackageTree
shown_checked table c = record {
  path = c.path;
  name = c.name;
  decls = shown_decls table c.decls;
  bodies = map (λ b. (b.0, shown_body table b.1)) c.bodies;
  imports = c.imports;
  packages = c.packages;
}
