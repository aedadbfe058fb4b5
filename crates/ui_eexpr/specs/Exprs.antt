-- The grammar of expressions. This project's own, after `cmd/compile/internal/noder` of the Go
-- tree.
use Rattle.std.specs.Prelude.{ℕ, zero, suc, nat_eq, nat_lt, if◌then◌else◌, List, Bool, true, false}
use Rattle.std.specs.Prelude.{Option, Some, None}
use Rattle.ui_base.specs.declared.kind.BinOp.{BinOp}
use Rattle.ui_base.specs.declared.kind.UnOp.{UnOp}
use Rattle.ui_core.specs.declared.callee.BuiltinFn.{BuiltinFn}
use Rattle.ui_core.specs.declared.tree.Entry.{Entry}
use Rattle.ui_core.specs.declared.tree.IndexedValue.{IndexedValue}
use Rattle.ui_strpos.specs.declared.fault.Cause.{Cause}
use Rattle.ui_strpos.specs.declared.fault.Cause.TheVariants.{BadCode, BadLocal}
use Rattle.ui_strpos.specs.Reading.{Context}
use Rattle.ui_strpos.specs.Elements.{any, code_below}
use Rattle.ui_strpos.specs.Format.{Format, uint_field, truth_field, seq, via, variant, tagged}
use Rattle.ui_strpos.specs.Format.{choose, no_format, with_option, counted}
use Rattle.ui_etype.specs.declared.uses.TypeUse.{TypeUse}
use Rattle.ui_etype.specs.declared.sel.Sel.{Sel}
use Rattle.ui_etype.specs.Types.{outer_use, sel}
use Rattle.ui_edecl.specs.declared.value.ValueEl.{ValueEl}
use Rattle.ui_edecl.specs.Values.{constant_value}
use Rattle.ui_eexpr.specs.declared.uses.InstanceUse.{InstanceUse}
use Rattle.ui_eexpr.specs.declared.callee.CalleeEl.{CalleeEl}
use Rattle.ui_eexpr.specs.declared.expr.SelValue.{SelValue}
use Rattle.ui_eexpr.specs.declared.expr.ExprEl.{ExprEl, out-ExprEl, roll-ExprEl}
use Rattle.ui_eexpr.specs.declared.expr.ExprEl.TheOpen.{ExprEl-F}
use Rattle.ui_eexpr.specs.Uses.{instance, callee}
use Rattle.ui_eexpr.specs.Codes as codes

-- one level of an expression, whose parts are whole expressions
abbrev pub Layer : Type 0
Layer = ExprEl-F ExprEl

-- ---- parts

-- the number of a local, which is below how many there are
abbrev pub is_local : ℕ → Context → ℕ → Option Cause
is_local locals c k = if nat_lt k locals then None else Some BadLocal

abbrev pub is_there : Context → Bool → Bool
is_there c b = b

abbrev pub is_some : {A : Type 0} → Option A → Bool
is_some None = false
is_some (Some a) = true

-- B(0), or B(1) and what is there
abbrev pub maybe : {A : Type 0} → Format A → Format (Option A)
maybe f = via (λ x. x.1) (λ o. (is_some o, o)) (with_option (truth_field any) is_there f)

-- Sel E
abbrev pub sel_value : Format ExprEl → Format (SelValue ExprEl)
sel_value sub =
    via (λ x. record { sel = x.0; value = x.1 }) (λ v. (v.sel, v.value)) (seq sel (λ _. sub))

-- U(index) E
abbrev pub indexed_value : Format ExprEl → Format (IndexedValue ExprEl)
indexed_value sub =
    via (λ x. record { index = x.0; value = x.1 }) (λ v. (v.index, v.value))
    (seq (uint_field any) (λ _. sub))

-- E E
abbrev pub entry : Format ExprEl → Format (Entry ExprEl)
entry sub =
    via (λ x. record { key = x.0; value = x.1 }) (λ v. (v.key, v.value)) (seq sub (λ _. sub))

-- ---- the cases, by their codes
abbrev pub code_of : Layer → ℕ
code_of (ExprEl-F.Const a b) = 0
code_of (ExprEl-F.Nil a) = 1
code_of (ExprEl-F.Zero a) = 2
code_of (ExprEl-F.Local a) = 3
code_of (ExprEl-F.Global a) = 4
code_of (ExprEl-F.Func a) = 5
code_of (ExprEl-F.Unary a b c) = 6
code_of (ExprEl-F.Binary a b c d) = 7
code_of (ExprEl-F.Convert a b) = 8
code_of (ExprEl-F.Field a b) = 9
code_of (ExprEl-F.Index a b) = 10
code_of (ExprEl-F.Slice a b c d) = 11
code_of (ExprEl-F.Deref a) = 12
code_of (ExprEl-F.Addr a) = 13
code_of (ExprEl-F.StructLit a b) = 14
code_of (ExprEl-F.ListLit a b) = 15
code_of (ExprEl-F.MapLit a b) = 16
code_of (ExprEl-F.Call a b) = 17
code_of (ExprEl-F.MethodCall a b c d) = 18
code_of (ExprEl-F.DynCall a b c) = 19
code_of (ExprEl-F.ParamCall a b c) = 20
code_of (ExprEl-F.ValueCall a b) = 21
code_of (ExprEl-F.Builtin a b c) = 22
code_of (ExprEl-F.Assert a b) = 23
code_of (ExprEl-F.OkIndex a b) = 24
code_of (ExprEl-F.OkAssert a b) = 25

abbrev pub as_constant : Layer → Option (TypeUse × ValueEl)
as_constant (ExprEl-F.Const a b) = Some (a, b)
as_constant v = None

abbrev pub as_nil : Layer → Option TypeUse
as_nil (ExprEl-F.Nil a) = Some a
as_nil v = None

abbrev pub as_zero_value : Layer → Option TypeUse
as_zero_value (ExprEl-F.Zero a) = Some a
as_zero_value v = None

abbrev pub as_local : Layer → Option ℕ
as_local (ExprEl-F.Local a) = Some a
as_local v = None

abbrev pub as_global : Layer → Option InstanceUse
as_global (ExprEl-F.Global a) = Some a
as_global v = None

abbrev pub as_func : Layer → Option CalleeEl
as_func (ExprEl-F.Func a) = Some a
as_func v = None

abbrev pub as_unary : Layer → Option (UnOp × (TypeUse × ExprEl))
as_unary (ExprEl-F.Unary a b c) = Some (a, (b, c))
as_unary v = None

abbrev pub as_binary : Layer → Option (BinOp × (TypeUse × (ExprEl × ExprEl)))
as_binary (ExprEl-F.Binary a b c d) = Some (a, (b, (c, d)))
as_binary v = None

abbrev pub as_convert : Layer → Option (TypeUse × ExprEl)
as_convert (ExprEl-F.Convert a b) = Some (a, b)
as_convert v = None

abbrev pub as_field : Layer → Option (Sel × ExprEl)
as_field (ExprEl-F.Field a b) = Some (a, b)
as_field v = None

abbrev pub as_index : Layer → Option (ExprEl × ExprEl)
as_index (ExprEl-F.Index a b) = Some (a, b)
as_index v = None

abbrev pub as_slice : Layer → Option (ExprEl × (Option ExprEl × (Option ExprEl × Option ExprEl)))
as_slice (ExprEl-F.Slice a b c d) = Some (a, (b, (c, d)))
as_slice v = None

abbrev pub as_deref : Layer → Option ExprEl
as_deref (ExprEl-F.Deref a) = Some a
as_deref v = None

abbrev pub as_address : Layer → Option ExprEl
as_address (ExprEl-F.Addr a) = Some a
as_address v = None

abbrev pub as_struct_literal : Layer → Option (TypeUse × List (SelValue ExprEl))
as_struct_literal (ExprEl-F.StructLit a b) = Some (a, b)
as_struct_literal v = None

abbrev pub as_list_literal : Layer → Option (TypeUse × List (IndexedValue ExprEl))
as_list_literal (ExprEl-F.ListLit a b) = Some (a, b)
as_list_literal v = None

abbrev pub as_map_literal : Layer → Option (TypeUse × List (Entry ExprEl))
as_map_literal (ExprEl-F.MapLit a b) = Some (a, b)
as_map_literal v = None

abbrev pub as_call : Layer → Option (CalleeEl × List ExprEl)
as_call (ExprEl-F.Call a b) = Some (a, b)
as_call v = None

abbrev pub as_method_call : Layer → Option (TypeUse × (Bool × (Sel × List ExprEl)))
as_method_call (ExprEl-F.MethodCall a b c d) = Some (a, (b, (c, d)))
as_method_call v = None

abbrev pub as_dynamic_call : Layer → Option (Sel × (ExprEl × List ExprEl))
as_dynamic_call (ExprEl-F.DynCall a b c) = Some (a, (b, c))
as_dynamic_call v = None

abbrev pub as_param_call : Layer → Option (ℕ × (ExprEl × List ExprEl))
as_param_call (ExprEl-F.ParamCall a b c) = Some (a, (b, c))
as_param_call v = None

abbrev pub as_value_call : Layer → Option (ExprEl × List ExprEl)
as_value_call (ExprEl-F.ValueCall a b) = Some (a, b)
as_value_call v = None

abbrev pub as_builtin_call : Layer → Option (BuiltinFn × (Option TypeUse × List ExprEl))
as_builtin_call (ExprEl-F.Builtin a b c) = Some (a, (b, c))
as_builtin_call v = None

abbrev pub as_assertion : Layer → Option (TypeUse × ExprEl)
as_assertion (ExprEl-F.Assert a b) = Some (a, b)
as_assertion v = None

abbrev pub as_ok_index : Layer → Option (ExprEl × ExprEl)
as_ok_index (ExprEl-F.OkIndex a b) = Some (a, b)
as_ok_index v = None

abbrev pub as_ok_assertion : Layer → Option (TypeUse × ExprEl)
as_ok_assertion (ExprEl-F.OkAssert a b) = Some (a, b)
as_ok_assertion v = None

abbrev pub constant : Format Layer
constant = variant (λ x. ExprEl-F.Const x.0 x.1) as_constant (seq outer_use (λ _. constant_value))

abbrev pub nil : Format Layer
nil = variant (λ x. ExprEl-F.Nil x) as_nil (outer_use)

abbrev pub zero_value : Format Layer
zero_value = variant (λ x. ExprEl-F.Zero x) as_zero_value (outer_use)

abbrev pub local : ℕ → Format Layer
local locals = variant (λ x. ExprEl-F.Local x) as_local (uint_field (is_local locals))

abbrev pub global : Format Layer
global = variant (λ x. ExprEl-F.Global x) as_global (instance)

abbrev pub func : Format Layer
func = variant (λ x. ExprEl-F.Func x) as_func (callee)

abbrev pub unary : Format ExprEl → Format Layer
unary sub = variant (λ x. ExprEl-F.Unary x.0 x.1.0 x.1.1) as_unary (seq codes.unary (λ _. seq
    outer_use (λ _. sub)))

abbrev pub binary : Format ExprEl → Format Layer
binary sub = variant (λ x. ExprEl-F.Binary x.0 x.1.0 x.1.1.0 x.1.1.1) as_binary (seq codes.binary
    (λ _. seq outer_use (λ _. seq sub (λ _. sub))))

abbrev pub convert : Format ExprEl → Format Layer
convert sub = variant (λ x. ExprEl-F.Convert x.0 x.1) as_convert (seq outer_use (λ _. sub))

abbrev pub field : Format ExprEl → Format Layer
field sub = variant (λ x. ExprEl-F.Field x.0 x.1) as_field (seq sel (λ _. sub))

abbrev pub index : Format ExprEl → Format Layer
index sub = variant (λ x. ExprEl-F.Index x.0 x.1) as_index (seq sub (λ _. sub))

abbrev pub slice : Format ExprEl → Format Layer
slice sub = variant (λ x. ExprEl-F.Slice x.0 x.1.0 x.1.1.0 x.1.1.1) as_slice (seq sub (λ _. seq
    (maybe sub) (λ _. seq (maybe sub) (λ _. (maybe sub)))))

abbrev pub deref : Format ExprEl → Format Layer
deref sub = variant (λ x. ExprEl-F.Deref x) as_deref (sub)

abbrev pub address : Format ExprEl → Format Layer
address sub = variant (λ x. ExprEl-F.Addr x) as_address (sub)

abbrev pub struct_literal : Format ExprEl → Format Layer
struct_literal sub = variant (λ x. ExprEl-F.StructLit x.0 x.1) as_struct_literal (seq outer_use (λ
    _. (counted (sel_value sub))))

abbrev pub list_literal : Format ExprEl → Format Layer
list_literal sub = variant (λ x. ExprEl-F.ListLit x.0 x.1) as_list_literal (seq outer_use (λ _.
    (counted (indexed_value sub))))

abbrev pub map_literal : Format ExprEl → Format Layer
map_literal sub = variant (λ x. ExprEl-F.MapLit x.0 x.1) as_map_literal (seq outer_use (λ _.
    (counted (entry sub))))

abbrev pub call : Format ExprEl → Format Layer
call sub = variant (λ x. ExprEl-F.Call x.0 x.1) as_call (seq callee (λ _. (counted sub)))

abbrev pub method_call : Format ExprEl → Format Layer
method_call sub = variant (λ x. ExprEl-F.MethodCall x.0 x.1.0 x.1.1.0 x.1.1.1) as_method_call (seq
    outer_use (λ _. seq (truth_field any) (λ _. seq sel (λ _. (counted sub)))))

abbrev pub dynamic_call : Format ExprEl → Format Layer
dynamic_call sub = variant (λ x. ExprEl-F.DynCall x.0 x.1.0 x.1.1) as_dynamic_call (seq sel (λ _.
    seq sub (λ _. (counted sub))))

abbrev pub param_call : Format ExprEl → Format Layer
param_call sub = variant (λ x. ExprEl-F.ParamCall x.0 x.1.0 x.1.1) as_param_call (seq (uint_field
    any) (λ _. seq sub (λ _. (counted sub))))

abbrev pub value_call : Format ExprEl → Format Layer
value_call sub = variant (λ x. ExprEl-F.ValueCall x.0 x.1) as_value_call (seq sub (λ _. (counted
    sub)))

abbrev pub builtin_call : Format ExprEl → Format Layer
builtin_call sub = variant (λ x. ExprEl-F.Builtin x.0 x.1.0 x.1.1) as_builtin_call (seq
    codes.builtin (λ _. seq (maybe outer_use) (λ _. (counted sub))))

abbrev pub assertion : Format ExprEl → Format Layer
assertion sub = variant (λ x. ExprEl-F.Assert x.0 x.1) as_assertion (seq outer_use (λ _. sub))

abbrev pub ok_index : Format ExprEl → Format Layer
ok_index sub = variant (λ x. ExprEl-F.OkIndex x.0 x.1) as_ok_index (seq sub (λ _. sub))

abbrev pub ok_assertion : Format ExprEl → Format Layer
ok_assertion sub = variant (λ x. ExprEl-F.OkAssert x.0 x.1) as_ok_assertion (seq outer_use (λ _.
    sub))

-- values, variables and functions
abbrev pub plain_cases : ℕ → ℕ → Format Layer
plain_cases locals k =
    choose (nat_eq k 0) constant (
    choose (nat_eq k 1) nil (
    choose (nat_eq k 2) zero_value (
    choose (nat_eq k 3) (local locals) (
    choose (nat_eq k 4) global (
    choose (nat_eq k 5) func (
    no_format))))))

-- operations on one or two expressions
abbrev pub part_cases : Format ExprEl → ℕ → Format Layer
part_cases sub k =
    choose (nat_eq k 6) (unary sub) (
    choose (nat_eq k 7) (binary sub) (
    choose (nat_eq k 8) (convert sub) (
    choose (nat_eq k 9) (field sub) (
    choose (nat_eq k 10) (index sub) (
    choose (nat_eq k 11) (slice sub) (
    choose (nat_eq k 12) (deref sub) (
    choose (nat_eq k 13) (address sub) (
    no_format))))))))

-- literals and calls
abbrev pub list_cases : Format ExprEl → ℕ → Format Layer
list_cases sub k =
    choose (nat_eq k 14) (struct_literal sub) (
    choose (nat_eq k 15) (list_literal sub) (
    choose (nat_eq k 16) (map_literal sub) (
    choose (nat_eq k 17) (call sub) (
    choose (nat_eq k 18) (method_call sub) (
    choose (nat_eq k 19) (dynamic_call sub) (
    choose (nat_eq k 20) (param_call sub) (
    choose (nat_eq k 21) (value_call sub) (
    choose (nat_eq k 22) (builtin_call sub) (
    no_format)))))))))

-- assertions, and a map's index that tells whether it is there
abbrev pub test_cases : Format ExprEl → ℕ → Format Layer
test_cases sub k =
    choose (nat_eq k 23) (assertion sub) (
    choose (nat_eq k 24) (ok_index sub) (
    choose (nat_eq k 25) (ok_assertion sub) (
    no_format)))

abbrev pub cases : ℕ → Format ExprEl → ℕ → Format Layer
cases locals sub k =
    choose (nat_lt k 6) (plain_cases locals k) (
    choose (nat_lt k 14) (part_cases sub k) (
    choose (nat_lt k 23) (list_cases sub k) (test_cases sub k)))

-- a code, and the fields of its case
abbrev pub layer : ℕ → Format ExprEl → Format Layer
layer locals sub = tagged (uint_field (code_below 26)) code_of (cases locals sub)

-- ---- expressions

abbrev pub too_deep : Context → ℕ → Option Cause
too_deep c k = Some BadCode

-- An expression among so many locals, that nests at most so deep. The code of one that nests
-- deeper is refused.
unfoldable pub expression : ℕ → ℕ → Format ExprEl
expression locals zero = tagged (uint_field too_deep) (λ e. 0) (λ k. no_format)
expression locals (suc depth) =
    via roll-ExprEl out-ExprEl (layer locals (expression locals depth))
