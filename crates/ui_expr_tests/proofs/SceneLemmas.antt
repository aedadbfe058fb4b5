-- The scene's names have ids of its table.
use Rattle.std.proofs.Common.{◌≡◌, ℕ, List, [], ◌∷◌, Bool, true, false, All, Option, Some, None}
use Rattle.std.proofs.Common.{Result, Ok, Err, sym, subst, if◌then◌else◌}
use Rattle.std.specs.Prelude.{IfSome, IfOk, OnOk, OnErr, bytes_eq}
use Rattle.std.proofs.lemmas.List.Elements.{All-head, All-tail}
use Rattle.ui_base.specs.declared.fault.CheckFault.{CheckFault}
use Rattle.ui_types.specs.Table.{Table, AreIds}
use Rattle.ui_types.specs.Trees.{growth}
use Rattle.ui_types.specs.Kept.{keeping}
use Rattle.ui_types.specs.Stays.{staying, decls_stay}
use Rattle.ui_types.specs.Decls.{AreDecls, shown_decls}
use Rattle.ui_types.specs.declared.list_env.ListEnv.{ListEnv}
use Rattle.ui_scopes.specs.declared.operand.Operand.{Operand}
use Rattle.ui_scopes.specs.declared.scope.Meaning.{Meaning}
use Rattle.ui_scopes.specs.declared.scope.Scope.{Scope}
use Rattle.ui_scopes.specs.Operands.{OperandTree, IsOperand}
use Rattle.ui_scopes.specs.Scopes.{Binds, IsMeaning, IsScope, find_in, find_meaning, or_else}
use Rattle.ui_scopes.specs.Standing.{Stands}
use Rattle.ui_scopes.specs.Steps.{Checks, GivesOperand}
use Rattle.ui_expr_tests.specs.Meanings.{IsLevel}

if_some : (P : Meaning → Type 0) (b : Bool) (m : Meaning) (found : Option Meaning)
    → P m → IfSome found P → IfSome (if b then Some m else found) P
if_some P true m found h k = h
if_some P false m found h k = k

-- a level without names
pub IsLevel-none : (table : Table) → IsLevel table []
unfolding IsLevel
IsLevel-none table n = tt

-- a level with one more name
pub IsLevel-put : (table : Table) (old new : Binds) (name : List ℕ) (m : Meaning)
    → ((n : List ℕ) → find_in new n ≡ (if bytes_eq n name then Some m else find_in old n))
    → IsMeaning table m → IsLevel table old → IsLevel table new
unfolding IsLevel
IsLevel-put table old new name m e h k n =
    subst (λ (o : Option Meaning). IfSome o (IsMeaning table)) (sym (e n))
    (if_some (IsMeaning table) (bytes_eq n name) m (find_in old n) h (k n))

-- or with the same names, where there was no room
pub IsLevel-after : {A B : Type 0} (table : Table) (old new : Binds) (name : List ℕ) (m : Meaning)
    (r : Result A B)
    → OnOk r ((n : List ℕ)
    → find_in new n ≡ (if bytes_eq n name then Some m else find_in old n))
    → OnErr r (new ≡ old)
    → IsMeaning table m → IsLevel table old → IsLevel table new
IsLevel-after table old new name m (Ok x) put same h k = IsLevel-put table old new name m put h k
IsLevel-after table old new name m (Err e) put same h k =
    subst (λ (l : Binds). IsLevel table l) (sym same) k

inner : (P : Meaning → Type 0) (x y : Option Meaning)
    → IfSome x P → IfSome y P → IfSome (or_else x y) P
inner P None y h k = k
inner P (Some m) y h k = h

found : (table : Table) (ls : List Binds) → All (IsLevel table) ls
    → (n : List ℕ) → IfSome (find_meaning ls n) (IsMeaning table)
unfolding IsLevel
found table [] h n = tt
found table (l ∷ ls) h n =
    inner (IsMeaning table) (find_meaning ls n) (find_in l n)
    (found table ls (All-tail (IsLevel table) l ls h) n)
    (All-head (IsLevel table) l ls h n)

-- a scope of such levels
pub IsScope-made : (table : Table) (s : Scope) → All (IsLevel table) s.levels
    → AreIds table s.bounds → IsScope table s
IsScope-made table s h k = record { meanings = found table s.levels h; bounds = k }

-- what is given is of the table
pub given_operand : (table : Table) (want : Checks OperandTree) (r : Result Operand CheckFault)
    → GivesOperand table want r → IfOk r (IsOperand table)
given_operand table want (Ok x) h = h.0
given_operand table want (Err e) h = tt

-- declarations in memory stand, over a table that has their ids
pub list_stands : (s : ListEnv) (t : Table) → AreDecls t s.decls
    → Stands (λ (e : ListEnv). e.packages.items) (λ (e : ListEnv) (u : Table). shown_decls u e.decls)
    (λ (e : ListEnv) (u : Table). AreDecls u e.decls) s t
list_stands s t h = record { fits_now = h; law = λ e u v g k. decls_stay u v e.decls g k }

pub ruleset steps =
    (growth, keeping, staying, IsLevel-none, IsLevel-put, IsScope-made, given_operand, list_stands)
