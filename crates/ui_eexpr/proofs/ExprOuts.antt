-- One level of an expression that is made.
use Rattle.std.proofs.Common.{◌≡◌, ℕ, List, Bool, Option, ap, ◌∙◌}
use Rattle.ui_base.specs.declared.kind.BinOp.{BinOp}
use Rattle.ui_base.specs.declared.kind.UnOp.{UnOp}
use Rattle.ui_core.specs.declared.callee.BuiltinFn.{BuiltinFn}
use Rattle.ui_core.specs.declared.tree.Entry.{Entry}
use Rattle.ui_core.specs.declared.tree.IndexedValue.{IndexedValue}
use Rattle.ui_etype.specs.declared.uses.TypeUse.{TypeUse}
use Rattle.ui_etype.specs.declared.sel.Sel.{Sel}
use Rattle.ui_edecl.specs.declared.value.ValueEl.{ValueEl}
use Rattle.ui_eexpr.specs.declared.uses.InstanceUse.{InstanceUse}
use Rattle.ui_eexpr.specs.declared.callee.CalleeEl.{CalleeEl}
use Rattle.ui_eexpr.specs.declared.expr.SelValue.{SelValue}
use Rattle.ui_eexpr.specs.declared.expr.ExprEl.{ExprEl, out-ExprEl, roll-ExprEl}
use Rattle.ui_eexpr.specs.declared.expr.ExprEl.TheOpen.{ExprEl-F}
use Rattle.ui_eexpr.specs.declared.expr.ExprEl.TheViews.{out-roll-ExprEl}
use Rattle.ui_eexpr.specs.declared.expr.ExprEl.TheVariants as made

pub out_Const : (a : TypeUse) (b : ValueEl) → out-ExprEl (made.Const a b) ≡ ExprEl-F.Const a b
unfolding roll-ExprEl out-ExprEl denote.Hole.Carrier.roll
out_Const a b = ap out-ExprEl (made.rolls-Const a b) ∙ out-roll-ExprEl (ExprEl-F.Const a b)

pub out_Nil : (a : TypeUse) → out-ExprEl (made.Nil a) ≡ ExprEl-F.Nil a
unfolding roll-ExprEl out-ExprEl denote.Hole.Carrier.roll
out_Nil a = ap out-ExprEl (made.rolls-Nil a) ∙ out-roll-ExprEl (ExprEl-F.Nil a)

pub out_Zero : (a : TypeUse) → out-ExprEl (made.Zero a) ≡ ExprEl-F.Zero a
unfolding roll-ExprEl out-ExprEl denote.Hole.Carrier.roll
out_Zero a = ap out-ExprEl (made.rolls-Zero a) ∙ out-roll-ExprEl (ExprEl-F.Zero a)

pub out_Local : (a : ℕ) → out-ExprEl (made.Local a) ≡ ExprEl-F.Local a
unfolding roll-ExprEl out-ExprEl denote.Hole.Carrier.roll
out_Local a = ap out-ExprEl (made.rolls-Local a) ∙ out-roll-ExprEl (ExprEl-F.Local a)

pub out_Global : (a : InstanceUse) → out-ExprEl (made.Global a) ≡ ExprEl-F.Global a
unfolding roll-ExprEl out-ExprEl denote.Hole.Carrier.roll
out_Global a = ap out-ExprEl (made.rolls-Global a) ∙ out-roll-ExprEl (ExprEl-F.Global a)

pub out_Func : (a : CalleeEl) → out-ExprEl (made.Func a) ≡ ExprEl-F.Func a
unfolding roll-ExprEl out-ExprEl denote.Hole.Carrier.roll
out_Func a = ap out-ExprEl (made.rolls-Func a) ∙ out-roll-ExprEl (ExprEl-F.Func a)

pub out_Unary : (a : UnOp) (b : TypeUse) (c : ExprEl) → out-ExprEl (made.Unary a b c) ≡
    ExprEl-F.Unary a b c
unfolding roll-ExprEl out-ExprEl denote.Hole.Carrier.roll
out_Unary a b c = ap out-ExprEl (made.rolls-Unary a b c) ∙ out-roll-ExprEl (ExprEl-F.Unary a b c)

pub out_Binary : (a : BinOp) (b : TypeUse) (c : ExprEl) (d : ExprEl) → out-ExprEl (made.Binary a b
    c d) ≡ ExprEl-F.Binary a b c d
unfolding roll-ExprEl out-ExprEl denote.Hole.Carrier.roll
out_Binary a b c d = ap out-ExprEl (made.rolls-Binary a b c d) ∙ out-roll-ExprEl (ExprEl-F.Binary a
    b c d)

pub out_Convert : (a : TypeUse) (b : ExprEl) → out-ExprEl (made.Convert a b) ≡ ExprEl-F.Convert a b
unfolding roll-ExprEl out-ExprEl denote.Hole.Carrier.roll
out_Convert a b = ap out-ExprEl (made.rolls-Convert a b) ∙ out-roll-ExprEl (ExprEl-F.Convert a b)

pub out_Field : (a : Sel) (b : ExprEl) → out-ExprEl (made.Field a b) ≡ ExprEl-F.Field a b
unfolding roll-ExprEl out-ExprEl denote.Hole.Carrier.roll
out_Field a b = ap out-ExprEl (made.rolls-Field a b) ∙ out-roll-ExprEl (ExprEl-F.Field a b)

pub out_Index : (a : ExprEl) (b : ExprEl) → out-ExprEl (made.Index a b) ≡ ExprEl-F.Index a b
unfolding roll-ExprEl out-ExprEl denote.Hole.Carrier.roll
out_Index a b = ap out-ExprEl (made.rolls-Index a b) ∙ out-roll-ExprEl (ExprEl-F.Index a b)

pub out_Slice : (a : ExprEl) (b : Option ExprEl) (c : Option ExprEl) (d : Option ExprEl) →
    out-ExprEl (made.Slice a b c d) ≡ ExprEl-F.Slice a b c d
unfolding roll-ExprEl out-ExprEl denote.Hole.Carrier.roll
out_Slice a b c d = ap out-ExprEl (made.rolls-Slice a b c d) ∙ out-roll-ExprEl (ExprEl-F.Slice a b
    c d)

pub out_Deref : (a : ExprEl) → out-ExprEl (made.Deref a) ≡ ExprEl-F.Deref a
unfolding roll-ExprEl out-ExprEl denote.Hole.Carrier.roll
out_Deref a = ap out-ExprEl (made.rolls-Deref a) ∙ out-roll-ExprEl (ExprEl-F.Deref a)

pub out_Addr : (a : ExprEl) → out-ExprEl (made.Addr a) ≡ ExprEl-F.Addr a
unfolding roll-ExprEl out-ExprEl denote.Hole.Carrier.roll
out_Addr a = ap out-ExprEl (made.rolls-Addr a) ∙ out-roll-ExprEl (ExprEl-F.Addr a)

pub out_StructLit : (a : TypeUse) (b : List (SelValue ExprEl)) → out-ExprEl (made.StructLit a b) ≡
    ExprEl-F.StructLit a b
unfolding roll-ExprEl out-ExprEl denote.Hole.Carrier.roll
out_StructLit a b = ap out-ExprEl (made.rolls-StructLit a b) ∙ out-roll-ExprEl (ExprEl-F.StructLit
    a b)

pub out_ListLit : (a : TypeUse) (b : List (IndexedValue ExprEl)) → out-ExprEl (made.ListLit a b) ≡
    ExprEl-F.ListLit a b
unfolding roll-ExprEl out-ExprEl denote.Hole.Carrier.roll
out_ListLit a b = ap out-ExprEl (made.rolls-ListLit a b) ∙ out-roll-ExprEl (ExprEl-F.ListLit a b)

pub out_MapLit : (a : TypeUse) (b : List (Entry ExprEl)) → out-ExprEl (made.MapLit a b) ≡
    ExprEl-F.MapLit a b
unfolding roll-ExprEl out-ExprEl denote.Hole.Carrier.roll
out_MapLit a b = ap out-ExprEl (made.rolls-MapLit a b) ∙ out-roll-ExprEl (ExprEl-F.MapLit a b)

pub out_Call : (a : CalleeEl) (b : List ExprEl) → out-ExprEl (made.Call a b) ≡ ExprEl-F.Call a b
unfolding roll-ExprEl out-ExprEl denote.Hole.Carrier.roll
out_Call a b = ap out-ExprEl (made.rolls-Call a b) ∙ out-roll-ExprEl (ExprEl-F.Call a b)

pub out_MethodCall : (a : TypeUse) (b : Bool) (c : Sel) (d : List ExprEl) → out-ExprEl
    (made.MethodCall a b c d) ≡ ExprEl-F.MethodCall a b c d
unfolding roll-ExprEl out-ExprEl denote.Hole.Carrier.roll
out_MethodCall a b c d = ap out-ExprEl (made.rolls-MethodCall a b c d) ∙ out-roll-ExprEl
    (ExprEl-F.MethodCall a b c d)

pub out_DynCall : (a : Sel) (b : ExprEl) (c : List ExprEl) → out-ExprEl (made.DynCall a b c) ≡
    ExprEl-F.DynCall a b c
unfolding roll-ExprEl out-ExprEl denote.Hole.Carrier.roll
out_DynCall a b c = ap out-ExprEl (made.rolls-DynCall a b c) ∙ out-roll-ExprEl (ExprEl-F.DynCall a
    b c)

pub out_ParamCall : (a : ℕ) (b : ExprEl) (c : List ExprEl) → out-ExprEl (made.ParamCall a b c) ≡
    ExprEl-F.ParamCall a b c
unfolding roll-ExprEl out-ExprEl denote.Hole.Carrier.roll
out_ParamCall a b c = ap out-ExprEl (made.rolls-ParamCall a b c) ∙ out-roll-ExprEl
    (ExprEl-F.ParamCall a b c)

pub out_ValueCall : (a : ExprEl) (b : List ExprEl) → out-ExprEl (made.ValueCall a b) ≡
    ExprEl-F.ValueCall a b
unfolding roll-ExprEl out-ExprEl denote.Hole.Carrier.roll
out_ValueCall a b = ap out-ExprEl (made.rolls-ValueCall a b) ∙ out-roll-ExprEl (ExprEl-F.ValueCall
    a b)

pub out_Builtin : (a : BuiltinFn) (b : Option TypeUse) (c : List ExprEl) → out-ExprEl (made.Builtin
    a b c) ≡ ExprEl-F.Builtin a b c
unfolding roll-ExprEl out-ExprEl denote.Hole.Carrier.roll
out_Builtin a b c = ap out-ExprEl (made.rolls-Builtin a b c) ∙ out-roll-ExprEl (ExprEl-F.Builtin a
    b c)

pub out_Assert : (a : TypeUse) (b : ExprEl) → out-ExprEl (made.Assert a b) ≡ ExprEl-F.Assert a b
unfolding roll-ExprEl out-ExprEl denote.Hole.Carrier.roll
out_Assert a b = ap out-ExprEl (made.rolls-Assert a b) ∙ out-roll-ExprEl (ExprEl-F.Assert a b)

pub out_OkIndex : (a : ExprEl) (b : ExprEl) → out-ExprEl (made.OkIndex a b) ≡ ExprEl-F.OkIndex a b
unfolding roll-ExprEl out-ExprEl denote.Hole.Carrier.roll
out_OkIndex a b = ap out-ExprEl (made.rolls-OkIndex a b) ∙ out-roll-ExprEl (ExprEl-F.OkIndex a b)

pub out_OkAssert : (a : TypeUse) (b : ExprEl) → out-ExprEl (made.OkAssert a b) ≡ ExprEl-F.OkAssert
    a b
unfolding roll-ExprEl out-ExprEl denote.Hole.Carrier.roll
out_OkAssert a b = ap out-ExprEl (made.rolls-OkAssert a b) ∙ out-roll-ExprEl (ExprEl-F.OkAssert a b)

pub ruleset layers = (
  out_Const,
  out_Nil,
  out_Zero,
  out_Local,
  out_Global,
  out_Func,
  out_Unary,
  out_Binary,
  out_Convert,
  out_Field,
  out_Index,
  out_Slice,
  out_Deref,
  out_Addr,
  out_StructLit,
  out_ListLit,
  out_MapLit,
  out_Call,
  out_MethodCall,
  out_DynCall,
  out_ParamCall,
  out_ValueCall,
  out_Builtin,
  out_Assert,
  out_OkIndex,
  out_OkAssert,
)
