-- The rules of forms are local.
use Rattle.std.specs.Prelude.{◌≡◌, ℕ, true, List, Option, Some, None}
use Rattle.ui_base.specs.Names.{is_exported}
use Rattle.ui_base.specs.declared.value.Spot.{Spot}
use Rattle.ui_base.specs.declared.value.Value.{Value}
use Rattle.ui_base.specs.declared.kind.BinOp.{BinOp}
use Rattle.ui_base.specs.declared.kind.UnOp.TheVariants.{Neg, Flip, Not}
use Rattle.ui_types.specs.Ty.{Ty, basic}
use Rattle.ui_tree.specs.declared.part.LiteralKind.{LiteralKind}
use Rattle.ui_tree.specs.declared.part.LiteralKind.TheVariants as literal_kind
use Rattle.ui_tree.specs.declared.part.PrefixOp.{PrefixOp}
use Rattle.ui_tree.specs.declared.part.PrefixOp.TheVariants as prefix
use Rattle.ui_scopes.specs.Operands.{OperandTree, value, many, type_of, generic_type, generic_func, method, builtin, package_at}
use Rattle.ui_scopes.specs.Scopes.{World}
use Rattle.ui_scopes.specs.Local.{Names, TypeIn, OperandIn, any_package, no_package, Agree, Same, same_then, same_ok, same_err, under_at_same}
use Rattle.ui_rules.specs.Forms.{literal_operand, constant_with, constant_value, constant_of, address_value, address_operand, deref_value, deref_operand, unary_operand, binary_operand, selected, in_parens}
use Rattle.ui_local.proofs.ConstantsLocal.{SameValue, Local, ConstantIn, constant_binary_local, constant_prefix_local, constant_plus_local}
use Rattle.ui_local.proofs.NamesLocal.{package_member_local}

-- any package is one
pub any_package_is : (S : Names) (K : List ℕ → Type 0) (x : OperandTree) → OperandIn S K x → OperandIn S any_package x
any_package_is S K (value e t c a) h = h
any_package_is S K (many e ts) h = h
any_package_is S K (type_of t) h = h
any_package_is S K (generic_type n) h = h
any_package_is S K (generic_func n ts) h = h
any_package_is S K (method e t) h = h
any_package_is S K (builtin n) h = h
any_package_is S K (package_at p) h = tt

-- literals have predeclared types
pub literal_in : (S : Names) (kind : LiteralKind) (v : Value) → OperandIn S no_package (literal_operand kind v)
literal_in S literal_kind.Whole v = (tt, tt)
literal_in S literal_kind.Rune v = (tt, tt)
literal_in S literal_kind.Text v = (tt, tt)

-- ---- forms that ask no environment

module _ (S : Names) (file : List ℕ) (at : Spot) where
  constant_with_local : (t : Ty) (v : Value) (u : Ty) → TypeIn S t → Same (ConstantIn S) (constant_with file at t v u) (constant_with file at t v u)
  constant_with_local t v (basic b) h = same_ok h
  constant_with_local t v u h = same_err

  address_value_local : (c : Option Value) → Local S (address_value file at c)
  address_value_local (Some v) = same_err
  address_value_local None = same_err

  address_local : (x : OperandTree) → Local S (address_operand file at x)
  address_local (value e t c a) = address_value_local c
  address_local (many e ts) = same_err
  address_local (type_of t) = same_err
  address_local (generic_type n) = same_err
  address_local (generic_func n ts) = same_err
  address_local (method e t) = same_err
  address_local (builtin n) = same_err
  address_local (package_at p) = same_err

  deref_value_local : (c : Option Value) → Local S (deref_value file at c)
  deref_value_local (Some v) = same_err
  deref_value_local None = same_err

  deref_local : (x : OperandTree) → Local S (deref_operand file at x)
  deref_local (value e t c a) = deref_value_local c
  deref_local (many e ts) = same_err
  deref_local (type_of t) = same_err
  deref_local (generic_type n) = same_err
  deref_local (generic_func n ts) = same_err
  deref_local (method e t) = same_err
  deref_local (builtin n) = same_err
  deref_local (package_at p) = same_err

  pub in_parens_local : (x : OperandTree) → OperandIn S any_package x → Local S (in_parens file at x)
  in_parens_local (value e t c a) h = same_ok h
  in_parens_local (many e ts) h = same_ok h
  in_parens_local (type_of t) h = same_ok h
  in_parens_local (generic_type n) h = same_ok h
  in_parens_local (generic_func n ts) h = same_ok h
  in_parens_local (method e t) h = same_ok h
  in_parens_local (builtin n) h = same_ok h
  in_parens_local (package_at p) h = same_err

-- ---- forms that ask one

module _ {S : Names} {w w' : World} (g : Agree S w w') (file : List ℕ) (at : Spot) where
  constant_value_local : (t : Ty) (c : Option Value) → TypeIn S t → Same (ConstantIn S) (constant_value w file at t c) (constant_value w' file at t c)
  constant_value_local t (Some v) h = same_then (under_at_same g file at t h) (λ u i. constant_with_local S file at t v u h)
  constant_value_local t None h = same_err

  constant_local : (x : OperandTree) → OperandIn S any_package x → Same (ConstantIn S) (constant_of w file at x) (constant_of w' file at x)
  constant_local (value e t c a) h = constant_value_local t c h.1
  constant_local (many e ts) h = same_err
  constant_local (type_of t) h = same_err
  constant_local (generic_type n) h = same_err
  constant_local (generic_func n ts) h = same_err
  constant_local (method e t) h = same_err
  constant_local (builtin n) h = same_err
  constant_local (package_at p) h = same_err

  pub unary_local : (op : PrefixOp) (x : OperandTree) → OperandIn S any_package x → SameValue S (unary_operand w file at op x) (unary_operand w' file at op x)
  unary_local prefix.Plus x h = same_then (constant_local x h) (λ c i. constant_plus_local S file at c i)
  unary_local prefix.Minus x h = same_then (constant_local x h) (λ c i. constant_prefix_local S file at Neg c i)
  unary_local prefix.Not x h = same_then (constant_local x h) (λ c i. constant_prefix_local S file at Not c i)
  unary_local prefix.Flip x h = same_then (constant_local x h) (λ c i. constant_prefix_local S file at Flip c i)
  unary_local prefix.Deref x h = deref_local S file at x
  unary_local prefix.Address x h = address_local S file at x

  pub binary_local : (op : BinOp) (x y : OperandTree) → OperandIn S any_package x → OperandIn S any_package y → SameValue S (binary_operand w file at op x y) (binary_operand w' file at op x y)
  binary_local op x y h k = same_then (constant_local x h) (λ a i. same_then (constant_local y k) (λ b j. constant_binary_local S file at op a b i j))

  -- where the set has each exported name that is selected from a package which the operand may be
  pub selected_local : (n : List ℕ) (K : List ℕ → Type 0) → ((path : List ℕ) → K path → is_exported n ≡ true → S (record { path = path; name = n })) → (x : OperandTree) → OperandIn S K x → SameValue S (selected w file at n x) (selected w' file at n x)
  selected_local n K c (package_at path) h = package_member_local g file at path n (c path h)
  selected_local n K c (value e t o a) h = same_err
  selected_local n K c (many e ts) h = same_err
  selected_local n K c (type_of t) h = same_err
  selected_local n K c (generic_type m) h = same_err
  selected_local n K c (generic_func m ts) h = same_err
  selected_local n K c (method e t) h = same_err
  selected_local n K c (builtin m) h = same_err
