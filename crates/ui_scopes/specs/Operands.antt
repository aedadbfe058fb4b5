-- What expressions are checked to be, as plain data. T is what stands for a type: an id of a table, or a tree. This project's own.
use Rattle.std.specs.Prelude.{◌≡◌, ℕ, Bool, List, map, All, Option}
use Rattle.ui_base.specs.declared.name.Name.{Name}
use Rattle.ui_base.specs.declared.value.Value.{Value}
use Rattle.ui_types.specs.declared.id.TypeId.{TypeId}
use Rattle.ui_types.specs.Ty.{Ty}
use Rattle.ui_types.specs.Table.{Table, IsId, tree}
use Rattle.ui_scopes.specs.declared.operand.Operand.{Operand}
use Rattle.ui_scopes.specs.declared.operand.Operand.TheVariants.{Val, Many, Ty as TyOf, GenericTy, Func, Method, Builtin, Package}
use Rattle.ui_core.specs.Checked.{ExprOf}
use Rattle.ui_core.specs.Mentions.{with_types, Mentions, any_name}
use Rattle.ui_core.specs.View.{view}

pub data OperandOf (T : Type 0) : Type 0 where
  -- its checked tree, its type, its value where it is constant, and whether it has an address
  value : ExprOf T → T → Option Value → Bool → OperandOf T
  -- a call that has no or several results
  many : ExprOf T → List T → OperandOf T
  type_of : T → OperandOf T
  -- a generic type without its arguments
  generic_type : Name → OperandOf T
  -- a generic function with the arguments written
  generic_func : Name → List T → OperandOf T
  -- a method of a value: the call with its receiver alone, and the signature
  method : ExprOf T → T → OperandOf T
  -- a predeclared function
  builtin : List ℕ → OperandOf T
  -- an imported package, by its path
  package_at : List ℕ → OperandOf T

abbrev pub OperandTree : Type 0
OperandTree = OperandOf Ty

-- the operand with other types in the places of its own
abbrev pub operand_with : {T U : Type 0} → (T → U) → OperandOf T → OperandOf U
operand_with f (value e t c a) = value (with_types f e) (f t) c a
operand_with f (many e ts) = many (with_types f e) (map f ts)
operand_with f (type_of t) = type_of (f t)
operand_with f (generic_type n) = generic_type n
operand_with f (generic_func n ts) = generic_func n (map f ts)
operand_with f (method e t) = method (with_types f e) (f t)
operand_with f (builtin n) = builtin n
operand_with f (package_at p) = package_at p

-- all types and names that it mentions
abbrev pub OperandMentions : {T : Type 0} → (T → Type 0) → (Name → Type 0) → OperandOf T → Type 0
OperandMentions P N (value e t c a) = Mentions P N e × P t
OperandMentions P N (many e ts) = Mentions P N e × All P ts
OperandMentions P N (type_of t) = P t
OperandMentions P N (generic_type n) = N n
OperandMentions P N (generic_func n ts) = N n × All P ts
OperandMentions P N (method e t) = Mentions P N e × P t
OperandMentions P N (builtin n) = Unit {0}
OperandMentions P N (package_at p) = Unit {0}

-- an operand in memory, with ids
abbrev pub seen : Operand → OperandOf TypeId
seen (Val e t c a) = value (view e) t c a
seen (Many e ts) = many (view e) ts
seen (TyOf t) = type_of t
seen (GenericTy n) = generic_type n
seen (Func n ts) = generic_func n ts
seen (Method e t) = method (view e) t
seen (Builtin n) = builtin n
seen (Package p) = package_at p

-- its ids are of the table
abbrev pub IsOperand : Table → Operand → Type 0
IsOperand table o = OperandMentions (IsId table) any_name (seen o)

-- with the trees of its ids
abbrev pub shown_operand : Table → Operand → OperandTree
shown_operand table o = operand_with (tree table) (seen o)
