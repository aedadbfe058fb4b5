-- The formats of expressions are lawful.
use Rattle.std.proofs.Common.{◌≡◌, ℕ, zero, suc, List, Bool, true, false, Option, Some, None}
use Rattle.std.proofs.Common.{refl, sym, ap}
use Rattle.std.specs.Prelude.{nat_eq, nat_lt}
use Rattle.ui_base.specs.declared.kind.BinOp.{BinOp}
use Rattle.ui_base.specs.declared.kind.UnOp.{UnOp}
use Rattle.ui_core.specs.declared.callee.BuiltinFn.{BuiltinFn}
use Rattle.ui_core.specs.declared.tree.Entry.{Entry}
use Rattle.ui_core.specs.declared.tree.IndexedValue.{IndexedValue}
use Rattle.ui_strpos.specs.Reading.{Context}
use Rattle.ui_strpos.specs.Elements.{any, code_below}
use Rattle.ui_strpos.specs.Format.{Format, uint_field, truth_field, seq, choose, there, counted}
use Rattle.ui_strpos.specs.Format.{no_format, Lawful}
use Rattle.ui_strpos.specs.Laws.{uint_lawful, truth_lawful, seq_lawful, via_lawful, variant_lawful}
use Rattle.ui_strpos.specs.Laws.{tagged_lawful, either_lawful, counted_lawful, option_lawful}
use Rattle.ui_strpos.specs.Laws.{no_lawful, case_only, variant_code}
use Rattle.ui_etype.specs.declared.uses.TypeUse.{TypeUse}
use Rattle.ui_etype.specs.declared.sel.Sel.{Sel}
use Rattle.ui_etype.specs.Types.{outer_use, sel}
use Rattle.ui_etype.specs.TypeLaws.{sel_lawful}
use Rattle.ui_edecl.specs.declared.value.ValueEl.{ValueEl}
use Rattle.ui_edecl.specs.Values.{constant_value}
use Rattle.ui_edecl.specs.DeclLaws.{constant_value_lawful}
use Rattle.ui_eexpr.specs.declared.uses.InstanceUse.{InstanceUse}
use Rattle.ui_eexpr.specs.declared.callee.CalleeEl.{CalleeEl}
use Rattle.ui_eexpr.specs.declared.expr.SelValue.{SelValue}
use Rattle.ui_eexpr.specs.declared.expr.ExprEl.{ExprEl, out-ExprEl, roll-ExprEl}
use Rattle.ui_eexpr.specs.declared.expr.ExprEl.TheOpen.{ExprEl-F}
use Rattle.ui_eexpr.specs.declared.expr.ExprEl.TheViews.{out-roll-ExprEl, roll-out-ExprEl}
use Rattle.ui_eexpr.specs.Uses.{instance, callee}
use Rattle.ui_eexpr.specs.UseLaws.{outer_use_lawful, instance_lawful, callee_lawful}
use Rattle.ui_eexpr.specs.Codes as codes
use Rattle.ui_eexpr.proofs.CodeLaws as code
use Rattle.ui_eexpr.specs.Exprs as expr
use Rattle.ui_eexpr.specs.Exprs.{Layer, is_local, is_some, is_there, maybe, sel_value}
use Rattle.ui_eexpr.specs.Exprs.{indexed_value, entry, plain_cases, part_cases, list_cases}
use Rattle.ui_eexpr.specs.Exprs.{test_cases, cases}
use Rattle.ui_eexpr.specs.Exprs.{layer, too_deep, expression}

-- ---- parts

maybe_is : {A : Type 0} (f : Format A) (c : Context) (b : Bool) (o : Option A)
    → there b f c o → is_some o ≡ b
maybe_is f c true None h = absurd h
maybe_is f c true (Some a) h = refl
maybe_is f c false None h = refl
maybe_is f c false (Some a) h = absurd h

pub maybe_lawful : {A : Type 0} (f : Format A) → Lawful f → Lawful (maybe f)
maybe_lawful {A = A} f l =
    via_lawful _ _ _ (option_lawful (truth_field any) is_there f (truth_lawful any) l)
    (λ v. refl) (λ c a h. ap (λ (b : Bool). (b, a.1)) (maybe_is f c a.0 a.1 h.1))

sel_value_lawful : (sub : Format ExprEl) → Lawful sub → Lawful (sel_value sub)
sel_value_lawful sub l =
    via_lawful _ _ _ (seq_lawful sel (λ _. sub) sel_lawful (λ _. l)) (λ v. refl) (λ c a h. refl)

indexed_value_lawful : (sub : Format ExprEl) → Lawful sub → Lawful (indexed_value sub)
indexed_value_lawful sub l =
    via_lawful _ _ _ (seq_lawful (uint_field any) (λ _. sub) (uint_lawful any) (λ _. l))
    (λ v. refl) (λ c a h. refl)

entry_lawful : (sub : Format ExprEl) → Lawful sub → Lawful (entry sub)
entry_lawful sub l =
    via_lawful _ _ _ (seq_lawful sub (λ _. sub) l (λ _. l)) (λ v. refl) (λ c a h. refl)

-- ---- a level is its case

constant_forth : (v : Layer) (a : TypeUse × ValueEl) → expr.as_constant v ≡ Some a → ExprEl-F.Const
    a.0 a.1 ≡ v
constant_forth (ExprEl-F.Const b d) a e =
    (let s : (b, d) ≡ a = cc in ap (λ (x : TypeUse × ValueEl). ExprEl-F.Const x.0 x.1) (sym s))
constant_forth v a e = absurd cc

nil_forth : (v : Layer) (a : TypeUse) → expr.as_nil v ≡ Some a → ExprEl-F.Nil a ≡ v
nil_forth (ExprEl-F.Nil b) a e = cc
nil_forth v a e = absurd cc

zero_value_forth : (v : Layer) (a : TypeUse) → expr.as_zero_value v ≡ Some a → ExprEl-F.Zero a ≡ v
zero_value_forth (ExprEl-F.Zero b) a e = cc
zero_value_forth v a e = absurd cc

local_forth : (v : Layer) (a : ℕ) → expr.as_local v ≡ Some a → ExprEl-F.Local a ≡ v
local_forth (ExprEl-F.Local b) a e = cc
local_forth v a e = absurd cc

global_forth : (v : Layer) (a : InstanceUse) → expr.as_global v ≡ Some a → ExprEl-F.Global a ≡ v
global_forth (ExprEl-F.Global b) a e = cc
global_forth v a e = absurd cc

func_forth : (v : Layer) (a : CalleeEl) → expr.as_func v ≡ Some a → ExprEl-F.Func a ≡ v
func_forth (ExprEl-F.Func b) a e = cc
func_forth v a e = absurd cc

unary_forth : (v : Layer) (a : UnOp × (TypeUse × ExprEl)) → expr.as_unary v ≡ Some a →
    ExprEl-F.Unary a.0 a.1.0 a.1.1 ≡ v
unary_forth (ExprEl-F.Unary b d f) a e =
    (let s : (b, (d, f)) ≡ a = cc in ap (λ (x : UnOp × (TypeUse × ExprEl)). ExprEl-F.Unary x.0
    x.1.0 x.1.1) (sym s))
unary_forth v a e = absurd cc

binary_forth : (v : Layer) (a : BinOp × (TypeUse × (ExprEl × ExprEl))) → expr.as_binary v ≡ Some a
    → ExprEl-F.Binary a.0 a.1.0 a.1.1.0 a.1.1.1 ≡ v
binary_forth (ExprEl-F.Binary b d f g) a e =
    (let s : (b, (d, (f, g))) ≡ a = cc in ap (λ (x : BinOp × (TypeUse × (ExprEl × ExprEl))).
    ExprEl-F.Binary x.0 x.1.0 x.1.1.0 x.1.1.1) (sym s))
binary_forth v a e = absurd cc

convert_forth : (v : Layer) (a : TypeUse × ExprEl) → expr.as_convert v ≡ Some a → ExprEl-F.Convert
    a.0 a.1 ≡ v
convert_forth (ExprEl-F.Convert b d) a e =
    (let s : (b, d) ≡ a = cc in ap (λ (x : TypeUse × ExprEl). ExprEl-F.Convert x.0 x.1) (sym s))
convert_forth v a e = absurd cc

field_forth : (v : Layer) (a : Sel × ExprEl) → expr.as_field v ≡ Some a → ExprEl-F.Field a.0 a.1 ≡ v
field_forth (ExprEl-F.Field b d) a e =
    (let s : (b, d) ≡ a = cc in ap (λ (x : Sel × ExprEl). ExprEl-F.Field x.0 x.1) (sym s))
field_forth v a e = absurd cc

index_forth : (v : Layer) (a : ExprEl × ExprEl) → expr.as_index v ≡ Some a → ExprEl-F.Index a.0 a.1
    ≡ v
index_forth (ExprEl-F.Index b d) a e =
    (let s : (b, d) ≡ a = cc in ap (λ (x : ExprEl × ExprEl). ExprEl-F.Index x.0 x.1) (sym s))
index_forth v a e = absurd cc

slice_forth : (v : Layer) (a : ExprEl × (Option ExprEl × (Option ExprEl × Option ExprEl))) →
    expr.as_slice v ≡ Some a → ExprEl-F.Slice a.0 a.1.0 a.1.1.0 a.1.1.1 ≡ v
slice_forth (ExprEl-F.Slice b d f g) a e =
    (let s : (b, (d, (f, g))) ≡ a = cc in ap (λ (x : ExprEl × (Option ExprEl × (Option ExprEl ×
    Option ExprEl))). ExprEl-F.Slice x.0 x.1.0 x.1.1.0 x.1.1.1) (sym s))
slice_forth v a e = absurd cc

deref_forth : (v : Layer) (a : ExprEl) → expr.as_deref v ≡ Some a → ExprEl-F.Deref a ≡ v
deref_forth (ExprEl-F.Deref b) a e = cc
deref_forth v a e = absurd cc

address_forth : (v : Layer) (a : ExprEl) → expr.as_address v ≡ Some a → ExprEl-F.Addr a ≡ v
address_forth (ExprEl-F.Addr b) a e = cc
address_forth v a e = absurd cc

struct_literal_forth : (v : Layer) (a : TypeUse × List (SelValue ExprEl)) → expr.as_struct_literal
    v ≡ Some a → ExprEl-F.StructLit a.0 a.1 ≡ v
struct_literal_forth (ExprEl-F.StructLit b d) a e =
    (let s : (b, d) ≡ a = cc in ap (λ (x : TypeUse × List (SelValue ExprEl)). ExprEl-F.StructLit
    x.0 x.1) (sym s))
struct_literal_forth v a e = absurd cc

list_literal_forth : (v : Layer) (a : TypeUse × List (IndexedValue ExprEl)) → expr.as_list_literal
    v ≡ Some a → ExprEl-F.ListLit a.0 a.1 ≡ v
list_literal_forth (ExprEl-F.ListLit b d) a e =
    (let s : (b, d) ≡ a = cc in ap (λ (x : TypeUse × List (IndexedValue ExprEl)). ExprEl-F.ListLit
    x.0 x.1) (sym s))
list_literal_forth v a e = absurd cc

map_literal_forth : (v : Layer) (a : TypeUse × List (Entry ExprEl)) → expr.as_map_literal v ≡ Some
    a → ExprEl-F.MapLit a.0 a.1 ≡ v
map_literal_forth (ExprEl-F.MapLit b d) a e =
    (let s : (b, d) ≡ a = cc in ap (λ (x : TypeUse × List (Entry ExprEl)). ExprEl-F.MapLit x.0 x.1)
    (sym s))
map_literal_forth v a e = absurd cc

call_forth : (v : Layer) (a : CalleeEl × List ExprEl) → expr.as_call v ≡ Some a → ExprEl-F.Call a.0
    a.1 ≡ v
call_forth (ExprEl-F.Call b d) a e =
    (let s : (b, d) ≡ a = cc in ap (λ (x : CalleeEl × List ExprEl). ExprEl-F.Call x.0 x.1) (sym s))
call_forth v a e = absurd cc

method_call_forth : (v : Layer) (a : TypeUse × (Bool × (Sel × List ExprEl))) → expr.as_method_call
    v ≡ Some a → ExprEl-F.MethodCall a.0 a.1.0 a.1.1.0 a.1.1.1 ≡ v
method_call_forth (ExprEl-F.MethodCall b d f g) a e =
    (let s : (b, (d, (f, g))) ≡ a = cc in ap (λ (x : TypeUse × (Bool × (Sel × List ExprEl))).
    ExprEl-F.MethodCall x.0 x.1.0 x.1.1.0 x.1.1.1) (sym s))
method_call_forth v a e = absurd cc

dynamic_call_forth : (v : Layer) (a : Sel × (ExprEl × List ExprEl)) → expr.as_dynamic_call v ≡ Some
    a → ExprEl-F.DynCall a.0 a.1.0 a.1.1 ≡ v
dynamic_call_forth (ExprEl-F.DynCall b d f) a e =
    (let s : (b, (d, f)) ≡ a = cc in ap (λ (x : Sel × (ExprEl × List ExprEl)). ExprEl-F.DynCall x.0
    x.1.0 x.1.1) (sym s))
dynamic_call_forth v a e = absurd cc

param_call_forth : (v : Layer) (a : ℕ × (ExprEl × List ExprEl)) → expr.as_param_call v ≡ Some a →
    ExprEl-F.ParamCall a.0 a.1.0 a.1.1 ≡ v
param_call_forth (ExprEl-F.ParamCall b d f) a e =
    (let s : (b, (d, f)) ≡ a = cc in ap (λ (x : ℕ × (ExprEl × List ExprEl)). ExprEl-F.ParamCall x.0
    x.1.0 x.1.1) (sym s))
param_call_forth v a e = absurd cc

value_call_forth : (v : Layer) (a : ExprEl × List ExprEl) → expr.as_value_call v ≡ Some a →
    ExprEl-F.ValueCall a.0 a.1 ≡ v
value_call_forth (ExprEl-F.ValueCall b d) a e =
    (let s : (b, d) ≡ a = cc in ap (λ (x : ExprEl × List ExprEl). ExprEl-F.ValueCall x.0 x.1) (sym
    s))
value_call_forth v a e = absurd cc

builtin_call_forth : (v : Layer) (a : BuiltinFn × (Option TypeUse × List ExprEl)) →
    expr.as_builtin_call v ≡ Some a → ExprEl-F.Builtin a.0 a.1.0 a.1.1 ≡ v
builtin_call_forth (ExprEl-F.Builtin b d f) a e =
    (let s : (b, (d, f)) ≡ a = cc in ap (λ (x : BuiltinFn × (Option TypeUse × List ExprEl)).
    ExprEl-F.Builtin x.0 x.1.0 x.1.1) (sym s))
builtin_call_forth v a e = absurd cc

assertion_forth : (v : Layer) (a : TypeUse × ExprEl) → expr.as_assertion v ≡ Some a →
    ExprEl-F.Assert a.0 a.1 ≡ v
assertion_forth (ExprEl-F.Assert b d) a e =
    (let s : (b, d) ≡ a = cc in ap (λ (x : TypeUse × ExprEl). ExprEl-F.Assert x.0 x.1) (sym s))
assertion_forth v a e = absurd cc

ok_index_forth : (v : Layer) (a : ExprEl × ExprEl) → expr.as_ok_index v ≡ Some a → ExprEl-F.OkIndex
    a.0 a.1 ≡ v
ok_index_forth (ExprEl-F.OkIndex b d) a e =
    (let s : (b, d) ≡ a = cc in ap (λ (x : ExprEl × ExprEl). ExprEl-F.OkIndex x.0 x.1) (sym s))
ok_index_forth v a e = absurd cc

ok_assertion_forth : (v : Layer) (a : TypeUse × ExprEl) → expr.as_ok_assertion v ≡ Some a →
    ExprEl-F.OkAssert a.0 a.1 ≡ v
ok_assertion_forth (ExprEl-F.OkAssert b d) a e =
    (let s : (b, d) ≡ a = cc in ap (λ (x : TypeUse × ExprEl). ExprEl-F.OkAssert x.0 x.1) (sym s))
ok_assertion_forth v a e = absurd cc

constant_lawful : Lawful expr.constant
constant_lawful =
    variant_lawful _ _ _ (seq_lawful outer_use _ outer_use_lawful (λ _. constant_value_lawful)) (λ
    a. refl) constant_forth

nil_lawful : Lawful expr.nil
nil_lawful =
    variant_lawful _ _ _ outer_use_lawful (λ a. refl) nil_forth

zero_value_lawful : Lawful expr.zero_value
zero_value_lawful =
    variant_lawful _ _ _ outer_use_lawful (λ a. refl) zero_value_forth

local_lawful : (locals : ℕ) → Lawful (expr.local locals)
local_lawful locals =
    variant_lawful _ _ _ (uint_lawful (is_local locals)) (λ a. refl) local_forth

global_lawful : Lawful expr.global
global_lawful =
    variant_lawful _ _ _ instance_lawful (λ a. refl) global_forth

func_lawful : Lawful expr.func
func_lawful =
    variant_lawful _ _ _ callee_lawful (λ a. refl) func_forth

unary_lawful : (sub : Format ExprEl) → Lawful sub → Lawful (expr.unary sub)
unary_lawful sub l =
    variant_lawful _ _ _ (seq_lawful codes.unary _ code.unary_lawful (λ _. (seq_lawful outer_use _
    outer_use_lawful (λ _. l)))) (λ a. refl) unary_forth

binary_lawful : (sub : Format ExprEl) → Lawful sub → Lawful (expr.binary sub)
binary_lawful sub l =
    variant_lawful _ _ _ (seq_lawful codes.binary _ code.binary_lawful (λ _. (seq_lawful outer_use
    _ outer_use_lawful (λ _. (seq_lawful sub _ l (λ _. l)))))) (λ a. refl) binary_forth

convert_lawful : (sub : Format ExprEl) → Lawful sub → Lawful (expr.convert sub)
convert_lawful sub l =
    variant_lawful _ _ _ (seq_lawful outer_use _ outer_use_lawful (λ _. l)) (λ a. refl)
    convert_forth

field_lawful : (sub : Format ExprEl) → Lawful sub → Lawful (expr.field sub)
field_lawful sub l =
    variant_lawful _ _ _ (seq_lawful sel _ sel_lawful (λ _. l)) (λ a. refl) field_forth

index_lawful : (sub : Format ExprEl) → Lawful sub → Lawful (expr.index sub)
index_lawful sub l =
    variant_lawful _ _ _ (seq_lawful sub _ l (λ _. l)) (λ a. refl) index_forth

slice_lawful : (sub : Format ExprEl) → Lawful sub → Lawful (expr.slice sub)
slice_lawful sub l =
    variant_lawful _ _ _ (seq_lawful sub _ l (λ _. (seq_lawful (maybe sub) _ (maybe_lawful sub l)
    (λ _. (seq_lawful (maybe sub) _ (maybe_lawful sub l) (λ _. (maybe_lawful sub l))))))) (λ a.
    refl) slice_forth

deref_lawful : (sub : Format ExprEl) → Lawful sub → Lawful (expr.deref sub)
deref_lawful sub l =
    variant_lawful _ _ _ l (λ a. refl) deref_forth

address_lawful : (sub : Format ExprEl) → Lawful sub → Lawful (expr.address sub)
address_lawful sub l =
    variant_lawful _ _ _ l (λ a. refl) address_forth

struct_literal_lawful : (sub : Format ExprEl) → Lawful sub → Lawful (expr.struct_literal sub)
struct_literal_lawful sub l =
    variant_lawful _ _ _ (seq_lawful outer_use _ outer_use_lawful (λ _. (counted_lawful (sel_value
    sub) (sel_value_lawful sub l)))) (λ a. refl) struct_literal_forth

list_literal_lawful : (sub : Format ExprEl) → Lawful sub → Lawful (expr.list_literal sub)
list_literal_lawful sub l =
    variant_lawful _ _ _ (seq_lawful outer_use _ outer_use_lawful (λ _. (counted_lawful
    (indexed_value sub) (indexed_value_lawful sub l)))) (λ a. refl) list_literal_forth

map_literal_lawful : (sub : Format ExprEl) → Lawful sub → Lawful (expr.map_literal sub)
map_literal_lawful sub l =
    variant_lawful _ _ _ (seq_lawful outer_use _ outer_use_lawful (λ _. (counted_lawful (entry sub)
    (entry_lawful sub l)))) (λ a. refl) map_literal_forth

call_lawful : (sub : Format ExprEl) → Lawful sub → Lawful (expr.call sub)
call_lawful sub l =
    variant_lawful _ _ _ (seq_lawful callee _ callee_lawful (λ _. (counted_lawful sub l))) (λ a.
    refl) call_forth

method_call_lawful : (sub : Format ExprEl) → Lawful sub → Lawful (expr.method_call sub)
method_call_lawful sub l =
    variant_lawful _ _ _ (seq_lawful outer_use _ outer_use_lawful (λ _. (seq_lawful (truth_field
    any) _ (truth_lawful any) (λ _. (seq_lawful sel _ sel_lawful (λ _. (counted_lawful sub
    l))))))) (λ a. refl) method_call_forth

dynamic_call_lawful : (sub : Format ExprEl) → Lawful sub → Lawful (expr.dynamic_call sub)
dynamic_call_lawful sub l =
    variant_lawful _ _ _ (seq_lawful sel _ sel_lawful (λ _. (seq_lawful sub _ l (λ _.
    (counted_lawful sub l))))) (λ a. refl) dynamic_call_forth

param_call_lawful : (sub : Format ExprEl) → Lawful sub → Lawful (expr.param_call sub)
param_call_lawful sub l =
    variant_lawful _ _ _ (seq_lawful (uint_field any) _ (uint_lawful any) (λ _. (seq_lawful sub _ l
    (λ _. (counted_lawful sub l))))) (λ a. refl) param_call_forth

value_call_lawful : (sub : Format ExprEl) → Lawful sub → Lawful (expr.value_call sub)
value_call_lawful sub l =
    variant_lawful _ _ _ (seq_lawful sub _ l (λ _. (counted_lawful sub l))) (λ a. refl)
    value_call_forth

builtin_call_lawful : (sub : Format ExprEl) → Lawful sub → Lawful (expr.builtin_call sub)
builtin_call_lawful sub l =
    variant_lawful _ _ _ (seq_lawful codes.builtin _ code.builtin_lawful (λ _. (seq_lawful (maybe
    outer_use) _ (maybe_lawful outer_use outer_use_lawful) (λ _. (counted_lawful sub l))))) (λ
    a. refl) builtin_call_forth

assertion_lawful : (sub : Format ExprEl) → Lawful sub → Lawful (expr.assertion sub)
assertion_lawful sub l =
    variant_lawful _ _ _ (seq_lawful outer_use _ outer_use_lawful (λ _. l)) (λ a. refl)
    assertion_forth

ok_index_lawful : (sub : Format ExprEl) → Lawful sub → Lawful (expr.ok_index sub)
ok_index_lawful sub l =
    variant_lawful _ _ _ (seq_lawful sub _ l (λ _. l)) (λ a. refl) ok_index_forth

ok_assertion_lawful : (sub : Format ExprEl) → Lawful sub → Lawful (expr.ok_assertion sub)
ok_assertion_lawful sub l =
    variant_lawful _ _ _ (seq_lawful outer_use _ outer_use_lawful (λ _. l)) (λ a. refl)
    ok_assertion_forth

plain_lawful : (locals k : ℕ) → Lawful (plain_cases locals k)
plain_lawful locals k =
    either_lawful (nat_eq k 0) _ _ constant_lawful (
    either_lawful (nat_eq k 1) _ _ nil_lawful (
    either_lawful (nat_eq k 2) _ _ zero_value_lawful (
    either_lawful (nat_eq k 3) _ _ (local_lawful locals) (
    either_lawful (nat_eq k 4) _ _ global_lawful (
    either_lawful (nat_eq k 5) _ _ func_lawful (
    no_lawful))))))

part_lawful : (sub : Format ExprEl) → Lawful sub → (k : ℕ)
    → Lawful (part_cases sub k)
part_lawful sub l k =
    either_lawful (nat_eq k 6) _ _ (unary_lawful sub l) (
    either_lawful (nat_eq k 7) _ _ (binary_lawful sub l) (
    either_lawful (nat_eq k 8) _ _ (convert_lawful sub l) (
    either_lawful (nat_eq k 9) _ _ (field_lawful sub l) (
    either_lawful (nat_eq k 10) _ _ (index_lawful sub l) (
    either_lawful (nat_eq k 11) _ _ (slice_lawful sub l) (
    either_lawful (nat_eq k 12) _ _ (deref_lawful sub l) (
    either_lawful (nat_eq k 13) _ _ (address_lawful sub l) (
    no_lawful))))))))

list_lawful : (sub : Format ExprEl) → Lawful sub → (k : ℕ)
    → Lawful (list_cases sub k)
list_lawful sub l k =
    either_lawful (nat_eq k 14) _ _ (struct_literal_lawful sub l) (
    either_lawful (nat_eq k 15) _ _ (list_literal_lawful sub l) (
    either_lawful (nat_eq k 16) _ _ (map_literal_lawful sub l) (
    either_lawful (nat_eq k 17) _ _ (call_lawful sub l) (
    either_lawful (nat_eq k 18) _ _ (method_call_lawful sub l) (
    either_lawful (nat_eq k 19) _ _ (dynamic_call_lawful sub l) (
    either_lawful (nat_eq k 20) _ _ (param_call_lawful sub l) (
    either_lawful (nat_eq k 21) _ _ (value_call_lawful sub l) (
    either_lawful (nat_eq k 22) _ _ (builtin_call_lawful sub l) (
    no_lawful)))))))))

test_lawful : (sub : Format ExprEl) → Lawful sub → (k : ℕ)
    → Lawful (test_cases sub k)
test_lawful sub l k =
    either_lawful (nat_eq k 23) _ _ (assertion_lawful sub l) (
    either_lawful (nat_eq k 24) _ _ (ok_index_lawful sub l) (
    either_lawful (nat_eq k 25) _ _ (ok_assertion_lawful sub l) (
    no_lawful)))

plain_only : (locals k : ℕ) (c : Context) (v : Layer)
    → (plain_cases locals k).fits c v → expr.code_of v ≡ k
plain_only locals k c v h =
    case_only expr.code_of k 0 _ _ c v h (λ f. variant_code _ _ (seq outer_use (λ _.
    constant_value)) expr.code_of 0 c v f constant_forth (λ a. refl)) (λ h.
    case_only expr.code_of k 1 _ _ c v h (λ f. variant_code _ _ outer_use expr.code_of 1 c v f
    nil_forth (λ a. refl)) (λ h.
    case_only expr.code_of k 2 _ _ c v h (λ f. variant_code _ _ outer_use expr.code_of 2 c v f
    zero_value_forth (λ a. refl)) (λ h.
    case_only expr.code_of k 3 _ _ c v h (λ f. variant_code _ _ (uint_field (is_local locals))
    expr.code_of 3 c v f local_forth (λ a. refl)) (λ h.
    case_only expr.code_of k 4 _ _ c v h (λ f. variant_code _ _ instance expr.code_of 4 c v f
    global_forth (λ a. refl)) (λ h.
    case_only expr.code_of k 5 _ _ c v h (λ f. variant_code _ _ callee expr.code_of 5 c v f
    func_forth (λ a. refl)) (λ h.
    absurd h))))))

part_only : (sub : Format ExprEl) (k : ℕ) (c : Context) (v : Layer)
    → (part_cases sub k).fits c v → expr.code_of v ≡ k
part_only sub k c v h =
    case_only expr.code_of k 6 _ _ c v h (λ f. variant_code _ _ (seq codes.unary (λ _. seq
    outer_use (λ _. sub))) expr.code_of 6 c v f unary_forth (λ a. refl)) (λ h.
    case_only expr.code_of k 7 _ _ c v h (λ f. variant_code _ _ (seq codes.binary (λ _. seq
    outer_use (λ _. seq sub (λ _. sub)))) expr.code_of 7 c v f binary_forth (λ a. refl)) (λ h.
    case_only expr.code_of k 8 _ _ c v h (λ f. variant_code _ _ (seq outer_use (λ _. sub))
    expr.code_of 8 c v f convert_forth (λ a. refl)) (λ h.
    case_only expr.code_of k 9 _ _ c v h (λ f. variant_code _ _ (seq sel (λ _. sub)) expr.code_of 9
    c v f field_forth (λ a. refl)) (λ h.
    case_only expr.code_of k 10 _ _ c v h (λ f. variant_code _ _ (seq sub (λ _. sub)) expr.code_of
    10 c v f index_forth (λ a. refl)) (λ h.
    case_only expr.code_of k 11 _ _ c v h (λ f. variant_code _ _ (seq sub (λ _. seq (maybe sub) (λ
    _. seq (maybe sub) (λ _. (maybe sub))))) expr.code_of 11 c v f slice_forth (λ a. refl)) (λ
    h.
    case_only expr.code_of k 12 _ _ c v h (λ f. variant_code _ _ sub expr.code_of 12 c v f
    deref_forth (λ a. refl)) (λ h.
    case_only expr.code_of k 13 _ _ c v h (λ f. variant_code _ _ sub expr.code_of 13 c v f
    address_forth (λ a. refl)) (λ h.
    absurd h))))))))

list_only : (sub : Format ExprEl) (k : ℕ) (c : Context) (v : Layer)
    → (list_cases sub k).fits c v → expr.code_of v ≡ k
list_only sub k c v h =
    case_only expr.code_of k 14 _ _ c v h (λ f. variant_code _ _ (seq outer_use (λ _. (counted
    (sel_value sub)))) expr.code_of 14 c v f struct_literal_forth (λ a. refl)) (λ h.
    case_only expr.code_of k 15 _ _ c v h (λ f. variant_code _ _ (seq outer_use (λ _. (counted
    (indexed_value sub)))) expr.code_of 15 c v f list_literal_forth (λ a. refl)) (λ h.
    case_only expr.code_of k 16 _ _ c v h (λ f. variant_code _ _ (seq outer_use (λ _. (counted
    (entry sub)))) expr.code_of 16 c v f map_literal_forth (λ a. refl)) (λ h.
    case_only expr.code_of k 17 _ _ c v h (λ f. variant_code _ _ (seq callee (λ _. (counted sub)))
    expr.code_of 17 c v f call_forth (λ a. refl)) (λ h.
    case_only expr.code_of k 18 _ _ c v h (λ f. variant_code _ _ (seq outer_use (λ _. seq
    (truth_field any) (λ _. seq sel (λ _. (counted sub))))) expr.code_of 18 c v f
    method_call_forth (λ a. refl)) (λ h.
    case_only expr.code_of k 19 _ _ c v h (λ f. variant_code _ _ (seq sel (λ _. seq sub (λ _.
    (counted sub)))) expr.code_of 19 c v f dynamic_call_forth (λ a. refl)) (λ h.
    case_only expr.code_of k 20 _ _ c v h (λ f. variant_code _ _ (seq (uint_field any) (λ _. seq
    sub (λ _. (counted sub)))) expr.code_of 20 c v f param_call_forth (λ a. refl)) (λ h.
    case_only expr.code_of k 21 _ _ c v h (λ f. variant_code _ _ (seq sub (λ _. (counted sub)))
    expr.code_of 21 c v f value_call_forth (λ a. refl)) (λ h.
    case_only expr.code_of k 22 _ _ c v h (λ f. variant_code _ _ (seq codes.builtin (λ _. seq
    (maybe outer_use) (λ _. (counted sub)))) expr.code_of 22 c v f builtin_call_forth (λ a.
    refl)) (λ h.
    absurd h)))))))))

test_only : (sub : Format ExprEl) (k : ℕ) (c : Context) (v : Layer)
    → (test_cases sub k).fits c v → expr.code_of v ≡ k
test_only sub k c v h =
    case_only expr.code_of k 23 _ _ c v h (λ f. variant_code _ _ (seq outer_use (λ _. sub))
    expr.code_of 23 c v f assertion_forth (λ a. refl)) (λ h.
    case_only expr.code_of k 24 _ _ c v h (λ f. variant_code _ _ (seq sub (λ _. sub)) expr.code_of
    24 c v f ok_index_forth (λ a. refl)) (λ h.
    case_only expr.code_of k 25 _ _ c v h (λ f. variant_code _ _ (seq outer_use (λ _. sub))
    expr.code_of 25 c v f ok_assertion_forth (λ a. refl)) (λ h.
    absurd h)))

cases_lawful : (locals : ℕ) (sub : Format ExprEl) → Lawful sub → (k : ℕ)
    → Lawful (cases locals sub k)
cases_lawful locals sub l k =
    either_lawful (nat_lt k 6) _ _ (plain_lawful locals k) (
    either_lawful (nat_lt k 14) _ _ (part_lawful sub l k) (
    either_lawful (nat_lt k 23) _ _ (list_lawful sub l k) (test_lawful sub l k)))

-- either of two formats
either_only : (b : Bool) (f g : Format Layer) (k : ℕ) (c : Context) (v : Layer)
    → (choose b f g).fits c v → (f.fits c v → expr.code_of v ≡ k)
    → (g.fits c v → expr.code_of v ≡ k) → expr.code_of v ≡ k
either_only true f g k c v h one other = one h
either_only false f g k c v h one other = other h

cases_only : (locals : ℕ) (sub : Format ExprEl) (k : ℕ) (c : Context) (v : Layer)
    → (cases locals sub k).fits c v → expr.code_of v ≡ k
cases_only locals sub k c v h =
    either_only (nat_lt k 6) _ _ k c v h (plain_only locals k c v) (λ h.
    either_only (nat_lt k 14) _ _ k c v h (part_only sub k c v) (λ h.
    either_only (nat_lt k 23) _ _ k c v h (list_only sub k c v) (test_only sub k c v)))

layer_lawful : (locals : ℕ) (sub : Format ExprEl) → Lawful sub → Lawful (layer locals sub)
layer_lawful locals sub l =
    tagged_lawful (uint_field (code_below 26)) expr.code_of (cases locals sub)
    (uint_lawful (code_below 26)) (cases_lawful locals sub l) (cases_only locals sub)

pub expression_lawful : (locals depth : ℕ) → Lawful (expression locals depth)
unfolding expression
expression_lawful locals zero =
    tagged_lawful (uint_field too_deep) (λ e. 0) (λ k. no_format) (uint_lawful too_deep)
    (λ k. no_lawful) (λ k c v h. absurd h)
expression_lawful locals (suc depth) =
    via_lawful roll-ExprEl out-ExprEl (layer locals (expression locals depth))
    (layer_lawful locals (expression locals depth) (expression_lawful locals depth))
    roll-out-ExprEl (λ c a h. out-roll-ExprEl a)
