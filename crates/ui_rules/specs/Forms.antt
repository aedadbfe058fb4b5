-- The rules of forms over what their parts are checked to be. Go specification, "Operands", "Operators", "Selectors".
use Rattle.std.specs.Prelude.{◌≡◌, ℕ, Bool, true, false, List, Option, Some, None, Result, Ok, Err}
use Rattle.ui_base.specs.declared.value.Spot.{Spot}
use Rattle.ui_base.specs.declared.value.Value.{Value}
use Rattle.ui_base.specs.declared.kind.BinOp.{BinOp}
use Rattle.ui_base.specs.declared.kind.UnOp.TheVariants.{Neg, Flip, Not}
use Rattle.ui_base.specs.declared.kind.Basic.TheVariants.{UntypedInt, UntypedRune, UntypedString}
use Rattle.ui_base.specs.declared.fault.FaultKind.TheVariants as fault
use Rattle.ui_types.specs.Ty.{Ty, basic, named, pointer, slice, array, map_of, func, struct, iface, union, param}
use Rattle.ui_tree.specs.declared.part.LiteralKind.{LiteralKind}
use Rattle.ui_tree.specs.declared.part.LiteralKind.TheVariants as literal_kind
use Rattle.ui_tree.specs.declared.part.PrefixOp.{PrefixOp}
use Rattle.ui_tree.specs.declared.part.PrefixOp.TheVariants as prefix
use Rattle.ui_scopes.specs.Operands.{OperandTree, value, many, type_of, generic_type, generic_func, method, builtin, package_at}
use Rattle.ui_scopes.specs.Scopes.{World}
use Rattle.ui_scopes.specs.Steps.{Checks, ◌>>=◌, refuse, under_at}
use Rattle.ui_rules.specs.Kinds.{not_taken}
use Rattle.ui_rules.specs.Constants.{Constant, constant_operand, constant_binary, constant_prefix, constant_plus}
use Rattle.ui_rules.specs.Names.{package_member}

-- "Constants": the literals are untyped constants
abbrev pub literal_operand : LiteralKind → Value → OperandTree
literal_operand literal_kind.Whole v = constant_operand (basic UntypedInt) v
literal_operand literal_kind.Rune v = constant_operand (basic UntypedRune) v
literal_operand literal_kind.Text v = constant_operand (basic UntypedString) v

-- ---- operands of operators

-- a constant by the underlying type of its type
abbrev pub constant_with : List ℕ → Spot → Ty → Value → Ty → Checks Constant
constant_with file at t v (basic b) = Ok (record { ty = t; kind = b; value = v })
constant_with file at t v (named n ts) = refuse file at fault.BadOperand
constant_with file at t v (pointer u) = refuse file at fault.BadOperand
constant_with file at t v (slice u) = refuse file at fault.BadOperand
constant_with file at t v (array len u) = refuse file at fault.BadOperand
constant_with file at t v (map_of k u) = refuse file at fault.BadOperand
constant_with file at t v (func ps rs) = refuse file at fault.BadOperand
constant_with file at t v (struct ns ts) = refuse file at fault.BadOperand
constant_with file at t v (iface ns ts c us) = refuse file at fault.BadOperand
constant_with file at t v (union ms ts) = refuse file at fault.BadOperand
constant_with file at t v (param k) = refuse file at fault.BadOperand

abbrev pub constant_value : World → List ℕ → Spot → Ty → Option Value → Checks Constant
constant_value w file at t (Some v) = under_at w file at t >>= constant_with file at t v
constant_value w file at t None = refuse file at not_taken

-- an operand that has to be constant; a package is none
abbrev pub constant_of : World → List ℕ → Spot → OperandTree → Checks Constant
constant_of w file at (value e t c a) = constant_value w file at t c
constant_of w file at (many e ts) = refuse file at not_taken
constant_of w file at (type_of t) = refuse file at not_taken
constant_of w file at (generic_type n) = refuse file at not_taken
constant_of w file at (generic_func n ts) = refuse file at not_taken
constant_of w file at (method e t) = refuse file at not_taken
constant_of w file at (builtin n) = refuse file at not_taken
constant_of w file at (package_at p) = refuse file at fault.BadOperand

-- ---- `&x`, `*x`

-- "Address operators": the operand must be addressable, which no constant is
abbrev pub address_value : List ℕ → Spot → Option Value → Checks OperandTree
address_value file at (Some v) = refuse file at fault.NotAddressable
address_value file at None = refuse file at not_taken

abbrev pub address_operand : List ℕ → Spot → OperandTree → Checks OperandTree
address_operand file at (value e t c a) = address_value file at c
address_operand file at (many e ts) = refuse file at not_taken
address_operand file at (type_of t) = refuse file at not_taken
address_operand file at (generic_type n) = refuse file at not_taken
address_operand file at (generic_func n ts) = refuse file at not_taken
address_operand file at (method e t) = refuse file at not_taken
address_operand file at (builtin n) = refuse file at not_taken
address_operand file at (package_at p) = refuse file at fault.BadOperand

-- "Address operators": the operand must be of pointer type, which no constant is
abbrev pub deref_value : List ℕ → Spot → Option Value → Checks OperandTree
deref_value file at (Some v) = refuse file at fault.BadOperand
deref_value file at None = refuse file at not_taken

abbrev pub deref_operand : List ℕ → Spot → OperandTree → Checks OperandTree
deref_operand file at (value e t c a) = deref_value file at c
deref_operand file at (many e ts) = refuse file at not_taken
deref_operand file at (type_of t) = refuse file at not_taken
deref_operand file at (generic_type n) = refuse file at not_taken
deref_operand file at (generic_func n ts) = refuse file at not_taken
deref_operand file at (method e t) = refuse file at not_taken
deref_operand file at (builtin n) = refuse file at not_taken
deref_operand file at (package_at p) = refuse file at fault.BadOperand

-- ---- forms

-- "Operators", by the operator
abbrev pub unary_operand : World → List ℕ → Spot → PrefixOp → OperandTree → Checks OperandTree
unary_operand w file at prefix.Plus x = constant_of w file at x >>= constant_plus file at
unary_operand w file at prefix.Minus x = constant_of w file at x >>= constant_prefix file at Neg
unary_operand w file at prefix.Not x = constant_of w file at x >>= constant_prefix file at Not
unary_operand w file at prefix.Flip x = constant_of w file at x >>= constant_prefix file at Flip
unary_operand w file at prefix.Deref x = deref_operand file at x
unary_operand w file at prefix.Address x = address_operand file at x

-- "Operators": both operands, and then the operator
abbrev pub binary_operand : World → List ℕ → Spot → BinOp → OperandTree → OperandTree → Checks OperandTree
binary_operand w file at op x y = constant_of w file at x >>= λ a. constant_of w file at y >>= λ b. constant_binary file at op a b

-- "Selectors", "Qualified identifiers": `x.f`, where x is a package
abbrev pub selected : World → List ℕ → Spot → List ℕ → OperandTree → Checks OperandTree
selected w file at name (package_at path) = package_member w file at path name
selected w file at name (value e t c a) = refuse file at not_taken
selected w file at name (many e ts) = refuse file at not_taken
selected w file at name (type_of t) = refuse file at not_taken
selected w file at name (generic_type n) = refuse file at not_taken
selected w file at name (generic_func n ts) = refuse file at not_taken
selected w file at name (method e t) = refuse file at not_taken
selected w file at name (builtin n) = refuse file at not_taken

-- "Operands": parentheses group; a package stands before a selector alone
abbrev pub in_parens : List ℕ → Spot → OperandTree → Checks OperandTree
in_parens file at (value e t c a) = Ok (value e t c a)
in_parens file at (many e ts) = Ok (many e ts)
in_parens file at (type_of t) = Ok (type_of t)
in_parens file at (generic_type n) = Ok (generic_type n)
in_parens file at (generic_func n ts) = Ok (generic_func n ts)
in_parens file at (method e t) = Ok (method e t)
in_parens file at (builtin n) = Ok (builtin n)
in_parens file at (package_at p) = refuse file at fault.BadOperand
