-- What a tree is seen as, at each variant.
use Rattle.std.proofs.Common.{◌≡◌, ℕ, Bool, List, [], ◌∷◌, map, Option, Some, None, ap, sym, refl, ◌∙◌}
use Rattle.ui_core.specs.declared.tree.Expr.TheViews.{roll-Body, roll-Clause}
use Rattle.ui_core.specs.declared.tree.Expr.TheShapes.{former-Stmt-Assign-0-at-1}
use Rattle.std.specs.Option.{option_map}
use Rattle.ui_base.specs.declared.name.Name.{Name}
use Rattle.ui_base.specs.declared.value.Value.{Value}
use Rattle.ui_base.specs.declared.kind.BinOp.{BinOp}
use Rattle.ui_base.specs.declared.kind.UnOp.{UnOp}
use Rattle.ui_types.specs.declared.id.TypeId.{TypeId}
use Rattle.ui_core.specs.declared.callee.BuiltinFn.{BuiltinFn}
use Rattle.ui_core.specs.declared.callee.Callee.{Callee}
use Rattle.ui_core.specs.declared.tree.Expr.{Expr, fold-Expr, fold-roll-Expr}
use Rattle.ui_core.specs.declared.tree.Expr.TheVariants as ev
use Rattle.ui_core.specs.declared.tree.Stmt.{Stmt, fold-Stmt, fold-roll-Stmt}
use Rattle.ui_core.specs.declared.tree.Stmt.TheVariants as sv
use Rattle.ui_core.specs.declared.tree.Body.{Body, fold-roll-Body, fold_out-Body}
use Rattle.ui_core.specs.declared.tree.Expr.TheOpen.{Expr-F, Stmt-F}
use Rattle.ui_core.specs.declared.tree.FieldValue.{FieldValue}
use Rattle.ui_core.specs.declared.tree.IndexedValue.{IndexedValue}
use Rattle.ui_core.specs.declared.tree.Entry.{Entry}
use Rattle.ui_core.specs.declared.tree.Clause.{Clause, fold-roll-Clause, fold_out-Clause}
use Rattle.ui_core.specs.declared.tree.Places.{Places}
use Rattle.ui_core.specs.declared.tree.Places.TheVariants as range
use Rattle.ui_core.specs.Checked.{ExprOf, StmtOf, ClauseOf, clause, BodyOf, body, constant, nil, zero_value, local, global, func, unary, binary, convert, field, index, slice, deref, address, struct_literal, list_literal, map_literal, call, method_call, dynamic_call, param_call, value_call, builtin, assert, ok_index, ok_assert, inline, alone, define, assign, op_assign, block, branch, loop, ranging, switch, returning, breaking, continuing}
use Rattle.ui_core.specs.View.{called, exprs, maybe, field_values, indexed_values, entries, assigned_all, range_of, stmts, maybe_stmts, clauses, field_with, item_with, entry_with, range_with, layer, stmt_layer, clause_layer, body_layer, view, stmt_view, clause_view, body_view}

pub view_Const : (t : TypeId) (v : Value) → view (ev.Const t v) ≡ constant t v
unfolding view stmt_view clause_view body_view
view_Const t v = ap (fold-Expr (ExprOf TypeId) (StmtOf TypeId) (BodyOf TypeId) (ClauseOf TypeId) layer stmt_layer body_layer clause_layer) (sym (ev.rolls-Const t v)) ∙ fold-roll-Expr (ExprOf TypeId) (StmtOf TypeId) (BodyOf TypeId) (ClauseOf TypeId) layer stmt_layer body_layer clause_layer (Expr-F.Const t v)

pub view_Nil : (t : TypeId) → view (ev.Nil t) ≡ nil t
unfolding view stmt_view clause_view body_view
view_Nil t = ap (fold-Expr (ExprOf TypeId) (StmtOf TypeId) (BodyOf TypeId) (ClauseOf TypeId) layer stmt_layer body_layer clause_layer) (sym (ev.rolls-Nil t)) ∙ fold-roll-Expr (ExprOf TypeId) (StmtOf TypeId) (BodyOf TypeId) (ClauseOf TypeId) layer stmt_layer body_layer clause_layer (Expr-F.Nil t)

pub view_Zero : (t : TypeId) → view (ev.Zero t) ≡ zero_value t
unfolding view stmt_view clause_view body_view
view_Zero t = ap (fold-Expr (ExprOf TypeId) (StmtOf TypeId) (BodyOf TypeId) (ClauseOf TypeId) layer stmt_layer body_layer clause_layer) (sym (ev.rolls-Zero t)) ∙ fold-roll-Expr (ExprOf TypeId) (StmtOf TypeId) (BodyOf TypeId) (ClauseOf TypeId) layer stmt_layer body_layer clause_layer (Expr-F.Zero t)

pub view_Local : (k : ℕ) → view (ev.Local k) ≡ local k
unfolding view stmt_view clause_view body_view
view_Local k = ap (fold-Expr (ExprOf TypeId) (StmtOf TypeId) (BodyOf TypeId) (ClauseOf TypeId) layer stmt_layer body_layer clause_layer) (sym (ev.rolls-Local k)) ∙ fold-roll-Expr (ExprOf TypeId) (StmtOf TypeId) (BodyOf TypeId) (ClauseOf TypeId) layer stmt_layer body_layer clause_layer (Expr-F.Local k)

pub view_Global : (n : Name) (ts : List TypeId) → view (ev.Global n ts) ≡ global n ts
unfolding view stmt_view clause_view body_view
view_Global n ts = ap (fold-Expr (ExprOf TypeId) (StmtOf TypeId) (BodyOf TypeId) (ClauseOf TypeId) layer stmt_layer body_layer clause_layer) (sym (ev.rolls-Global n ts)) ∙ fold-roll-Expr (ExprOf TypeId) (StmtOf TypeId) (BodyOf TypeId) (ClauseOf TypeId) layer stmt_layer body_layer clause_layer (Expr-F.Global n ts)

pub view_Func : (c : Callee) → view (ev.Func c) ≡ func (called c)
unfolding view stmt_view clause_view body_view
view_Func c = ap (fold-Expr (ExprOf TypeId) (StmtOf TypeId) (BodyOf TypeId) (ClauseOf TypeId) layer stmt_layer body_layer clause_layer) (sym (ev.rolls-Func c)) ∙ fold-roll-Expr (ExprOf TypeId) (StmtOf TypeId) (BodyOf TypeId) (ClauseOf TypeId) layer stmt_layer body_layer clause_layer (Expr-F.Func c)

pub view_Unary : (op : UnOp) (t : TypeId) (a : Expr) → view (ev.Unary op t a) ≡ unary op t (view a)
unfolding view stmt_view clause_view body_view
view_Unary op t a = ap (fold-Expr (ExprOf TypeId) (StmtOf TypeId) (BodyOf TypeId) (ClauseOf TypeId) layer stmt_layer body_layer clause_layer) (sym (ev.rolls-Unary op t a)) ∙ fold-roll-Expr (ExprOf TypeId) (StmtOf TypeId) (BodyOf TypeId) (ClauseOf TypeId) layer stmt_layer body_layer clause_layer (Expr-F.Unary op t a)

pub view_Binary : (op : BinOp) (t : TypeId) (a : Expr) (b : Expr) → view (ev.Binary op t a b) ≡ binary op t (view a) (view b)
unfolding view stmt_view clause_view body_view
view_Binary op t a b = ap (fold-Expr (ExprOf TypeId) (StmtOf TypeId) (BodyOf TypeId) (ClauseOf TypeId) layer stmt_layer body_layer clause_layer) (sym (ev.rolls-Binary op t a b)) ∙ fold-roll-Expr (ExprOf TypeId) (StmtOf TypeId) (BodyOf TypeId) (ClauseOf TypeId) layer stmt_layer body_layer clause_layer (Expr-F.Binary op t a b)

pub view_Convert : (t : TypeId) (a : Expr) → view (ev.Convert t a) ≡ convert t (view a)
unfolding view stmt_view clause_view body_view
view_Convert t a = ap (fold-Expr (ExprOf TypeId) (StmtOf TypeId) (BodyOf TypeId) (ClauseOf TypeId) layer stmt_layer body_layer clause_layer) (sym (ev.rolls-Convert t a)) ∙ fold-roll-Expr (ExprOf TypeId) (StmtOf TypeId) (BodyOf TypeId) (ClauseOf TypeId) layer stmt_layer body_layer clause_layer (Expr-F.Convert t a)

pub view_Field : (n : Name) (a : Expr) → view (ev.Field n a) ≡ field n (view a)
unfolding view stmt_view clause_view body_view
view_Field n a = ap (fold-Expr (ExprOf TypeId) (StmtOf TypeId) (BodyOf TypeId) (ClauseOf TypeId) layer stmt_layer body_layer clause_layer) (sym (ev.rolls-Field n a)) ∙ fold-roll-Expr (ExprOf TypeId) (StmtOf TypeId) (BodyOf TypeId) (ClauseOf TypeId) layer stmt_layer body_layer clause_layer (Expr-F.Field n a)

pub view_Index : (a : Expr) (b : Expr) → view (ev.Index a b) ≡ index (view a) (view b)
unfolding view stmt_view clause_view body_view
view_Index a b = ap (fold-Expr (ExprOf TypeId) (StmtOf TypeId) (BodyOf TypeId) (ClauseOf TypeId) layer stmt_layer body_layer clause_layer) (sym (ev.rolls-Index a b)) ∙ fold-roll-Expr (ExprOf TypeId) (StmtOf TypeId) (BodyOf TypeId) (ClauseOf TypeId) layer stmt_layer body_layer clause_layer (Expr-F.Index a b)

pub view_Slice : (a : Expr) (l : Option Expr) (h : Option Expr) (m : Option Expr) → view (ev.Slice a l h m) ≡ slice (view a) (maybe (option_map view l)) (maybe (option_map view h)) (maybe (option_map view m))
unfolding view stmt_view clause_view body_view
view_Slice a None None None = ap (fold-Expr (ExprOf TypeId) (StmtOf TypeId) (BodyOf TypeId) (ClauseOf TypeId) layer stmt_layer body_layer clause_layer) (sym (ev.rolls-Slice a None None None)) ∙ fold-roll-Expr (ExprOf TypeId) (StmtOf TypeId) (BodyOf TypeId) (ClauseOf TypeId) layer stmt_layer body_layer clause_layer (Expr-F.Slice a None None None)
view_Slice a None None (Some m) = ap (fold-Expr (ExprOf TypeId) (StmtOf TypeId) (BodyOf TypeId) (ClauseOf TypeId) layer stmt_layer body_layer clause_layer) (sym (ev.rolls-Slice a None None (Some m))) ∙ fold-roll-Expr (ExprOf TypeId) (StmtOf TypeId) (BodyOf TypeId) (ClauseOf TypeId) layer stmt_layer body_layer clause_layer (Expr-F.Slice a None None (Some m))
view_Slice a None (Some h) None = ap (fold-Expr (ExprOf TypeId) (StmtOf TypeId) (BodyOf TypeId) (ClauseOf TypeId) layer stmt_layer body_layer clause_layer) (sym (ev.rolls-Slice a None (Some h) None)) ∙ fold-roll-Expr (ExprOf TypeId) (StmtOf TypeId) (BodyOf TypeId) (ClauseOf TypeId) layer stmt_layer body_layer clause_layer (Expr-F.Slice a None (Some h) None)
view_Slice a None (Some h) (Some m) = ap (fold-Expr (ExprOf TypeId) (StmtOf TypeId) (BodyOf TypeId) (ClauseOf TypeId) layer stmt_layer body_layer clause_layer) (sym (ev.rolls-Slice a None (Some h) (Some m))) ∙ fold-roll-Expr (ExprOf TypeId) (StmtOf TypeId) (BodyOf TypeId) (ClauseOf TypeId) layer stmt_layer body_layer clause_layer (Expr-F.Slice a None (Some h) (Some m))
view_Slice a (Some l) None None = ap (fold-Expr (ExprOf TypeId) (StmtOf TypeId) (BodyOf TypeId) (ClauseOf TypeId) layer stmt_layer body_layer clause_layer) (sym (ev.rolls-Slice a (Some l) None None)) ∙ fold-roll-Expr (ExprOf TypeId) (StmtOf TypeId) (BodyOf TypeId) (ClauseOf TypeId) layer stmt_layer body_layer clause_layer (Expr-F.Slice a (Some l) None None)
view_Slice a (Some l) None (Some m) = ap (fold-Expr (ExprOf TypeId) (StmtOf TypeId) (BodyOf TypeId) (ClauseOf TypeId) layer stmt_layer body_layer clause_layer) (sym (ev.rolls-Slice a (Some l) None (Some m))) ∙ fold-roll-Expr (ExprOf TypeId) (StmtOf TypeId) (BodyOf TypeId) (ClauseOf TypeId) layer stmt_layer body_layer clause_layer (Expr-F.Slice a (Some l) None (Some m))
view_Slice a (Some l) (Some h) None = ap (fold-Expr (ExprOf TypeId) (StmtOf TypeId) (BodyOf TypeId) (ClauseOf TypeId) layer stmt_layer body_layer clause_layer) (sym (ev.rolls-Slice a (Some l) (Some h) None)) ∙ fold-roll-Expr (ExprOf TypeId) (StmtOf TypeId) (BodyOf TypeId) (ClauseOf TypeId) layer stmt_layer body_layer clause_layer (Expr-F.Slice a (Some l) (Some h) None)
view_Slice a (Some l) (Some h) (Some m) = ap (fold-Expr (ExprOf TypeId) (StmtOf TypeId) (BodyOf TypeId) (ClauseOf TypeId) layer stmt_layer body_layer clause_layer) (sym (ev.rolls-Slice a (Some l) (Some h) (Some m))) ∙ fold-roll-Expr (ExprOf TypeId) (StmtOf TypeId) (BodyOf TypeId) (ClauseOf TypeId) layer stmt_layer body_layer clause_layer (Expr-F.Slice a (Some l) (Some h) (Some m))

pub view_Deref : (a : Expr) → view (ev.Deref a) ≡ deref (view a)
unfolding view stmt_view clause_view body_view
view_Deref a = ap (fold-Expr (ExprOf TypeId) (StmtOf TypeId) (BodyOf TypeId) (ClauseOf TypeId) layer stmt_layer body_layer clause_layer) (sym (ev.rolls-Deref a)) ∙ fold-roll-Expr (ExprOf TypeId) (StmtOf TypeId) (BodyOf TypeId) (ClauseOf TypeId) layer stmt_layer body_layer clause_layer (Expr-F.Deref a)

pub view_Addr : (a : Expr) → view (ev.Addr a) ≡ address (view a)
unfolding view stmt_view clause_view body_view
view_Addr a = ap (fold-Expr (ExprOf TypeId) (StmtOf TypeId) (BodyOf TypeId) (ClauseOf TypeId) layer stmt_layer body_layer clause_layer) (sym (ev.rolls-Addr a)) ∙ fold-roll-Expr (ExprOf TypeId) (StmtOf TypeId) (BodyOf TypeId) (ClauseOf TypeId) layer stmt_layer body_layer clause_layer (Expr-F.Addr a)

pub view_StructLit : (t : TypeId) (fs : List (FieldValue Expr)) → view (ev.StructLit t fs) ≡ struct_literal t (field_values (map (field_with view) fs))
unfolding view stmt_view clause_view body_view
view_StructLit t fs = ap (fold-Expr (ExprOf TypeId) (StmtOf TypeId) (BodyOf TypeId) (ClauseOf TypeId) layer stmt_layer body_layer clause_layer) (sym (ev.rolls-StructLit t fs)) ∙ fold-roll-Expr (ExprOf TypeId) (StmtOf TypeId) (BodyOf TypeId) (ClauseOf TypeId) layer stmt_layer body_layer clause_layer (Expr-F.StructLit t fs)

pub view_ListLit : (t : TypeId) (is : List (IndexedValue Expr)) → view (ev.ListLit t is) ≡ list_literal t (indexed_values (map (item_with view) is))
unfolding view stmt_view clause_view body_view
view_ListLit t is = ap (fold-Expr (ExprOf TypeId) (StmtOf TypeId) (BodyOf TypeId) (ClauseOf TypeId) layer stmt_layer body_layer clause_layer) (sym (ev.rolls-ListLit t is)) ∙ fold-roll-Expr (ExprOf TypeId) (StmtOf TypeId) (BodyOf TypeId) (ClauseOf TypeId) layer stmt_layer body_layer clause_layer (Expr-F.ListLit t is)

pub view_MapLit : (t : TypeId) (es : List (Entry Expr)) → view (ev.MapLit t es) ≡ map_literal t (entries (map (entry_with view) es))
unfolding view stmt_view clause_view body_view
view_MapLit t es = ap (fold-Expr (ExprOf TypeId) (StmtOf TypeId) (BodyOf TypeId) (ClauseOf TypeId) layer stmt_layer body_layer clause_layer) (sym (ev.rolls-MapLit t es)) ∙ fold-roll-Expr (ExprOf TypeId) (StmtOf TypeId) (BodyOf TypeId) (ClauseOf TypeId) layer stmt_layer body_layer clause_layer (Expr-F.MapLit t es)

pub view_Call : (c : Callee) (es : List Expr) → view (ev.Call c es) ≡ call (called c) (exprs (map view es))
unfolding view stmt_view clause_view body_view
view_Call c es = ap (fold-Expr (ExprOf TypeId) (StmtOf TypeId) (BodyOf TypeId) (ClauseOf TypeId) layer stmt_layer body_layer clause_layer) (sym (ev.rolls-Call c es)) ∙ fold-roll-Expr (ExprOf TypeId) (StmtOf TypeId) (BodyOf TypeId) (ClauseOf TypeId) layer stmt_layer body_layer clause_layer (Expr-F.Call c es)

pub view_MethodCall : (t : TypeId) (p : Bool) (n : Name) (es : List Expr) → view (ev.MethodCall t p n es) ≡ method_call t p n (exprs (map view es))
unfolding view stmt_view clause_view body_view
view_MethodCall t p n es = ap (fold-Expr (ExprOf TypeId) (StmtOf TypeId) (BodyOf TypeId) (ClauseOf TypeId) layer stmt_layer body_layer clause_layer) (sym (ev.rolls-MethodCall t p n es)) ∙ fold-roll-Expr (ExprOf TypeId) (StmtOf TypeId) (BodyOf TypeId) (ClauseOf TypeId) layer stmt_layer body_layer clause_layer (Expr-F.MethodCall t p n es)

pub view_DynCall : (n : Name) (a : Expr) (es : List Expr) → view (ev.DynCall n a es) ≡ dynamic_call n (view a) (exprs (map view es))
unfolding view stmt_view clause_view body_view
view_DynCall n a es = ap (fold-Expr (ExprOf TypeId) (StmtOf TypeId) (BodyOf TypeId) (ClauseOf TypeId) layer stmt_layer body_layer clause_layer) (sym (ev.rolls-DynCall n a es)) ∙ fold-roll-Expr (ExprOf TypeId) (StmtOf TypeId) (BodyOf TypeId) (ClauseOf TypeId) layer stmt_layer body_layer clause_layer (Expr-F.DynCall n a es)

pub view_ParamCall : (k : ℕ) (n : Name) (a : Expr) (es : List Expr) → view (ev.ParamCall k n a es) ≡ param_call k n (view a) (exprs (map view es))
unfolding view stmt_view clause_view body_view
view_ParamCall k n a es = ap (fold-Expr (ExprOf TypeId) (StmtOf TypeId) (BodyOf TypeId) (ClauseOf TypeId) layer stmt_layer body_layer clause_layer) (sym (ev.rolls-ParamCall k n a es)) ∙ fold-roll-Expr (ExprOf TypeId) (StmtOf TypeId) (BodyOf TypeId) (ClauseOf TypeId) layer stmt_layer body_layer clause_layer (Expr-F.ParamCall k n a es)

pub view_ValueCall : (a : Expr) (es : List Expr) → view (ev.ValueCall a es) ≡ value_call (view a) (exprs (map view es))
unfolding view stmt_view clause_view body_view
view_ValueCall a es = ap (fold-Expr (ExprOf TypeId) (StmtOf TypeId) (BodyOf TypeId) (ClauseOf TypeId) layer stmt_layer body_layer clause_layer) (sym (ev.rolls-ValueCall a es)) ∙ fold-roll-Expr (ExprOf TypeId) (StmtOf TypeId) (BodyOf TypeId) (ClauseOf TypeId) layer stmt_layer body_layer clause_layer (Expr-F.ValueCall a es)

pub view_Builtin : (k : BuiltinFn) (t : Option TypeId) (es : List Expr) → view (ev.Builtin k t es) ≡ builtin k t (exprs (map view es))
unfolding view stmt_view clause_view body_view
view_Builtin k t es = ap (fold-Expr (ExprOf TypeId) (StmtOf TypeId) (BodyOf TypeId) (ClauseOf TypeId) layer stmt_layer body_layer clause_layer) (sym (ev.rolls-Builtin k t es)) ∙ fold-roll-Expr (ExprOf TypeId) (StmtOf TypeId) (BodyOf TypeId) (ClauseOf TypeId) layer stmt_layer body_layer clause_layer (Expr-F.Builtin k t es)

pub view_Assert : (t : TypeId) (a : Expr) → view (ev.Assert t a) ≡ assert t (view a)
unfolding view stmt_view clause_view body_view
view_Assert t a = ap (fold-Expr (ExprOf TypeId) (StmtOf TypeId) (BodyOf TypeId) (ClauseOf TypeId) layer stmt_layer body_layer clause_layer) (sym (ev.rolls-Assert t a)) ∙ fold-roll-Expr (ExprOf TypeId) (StmtOf TypeId) (BodyOf TypeId) (ClauseOf TypeId) layer stmt_layer body_layer clause_layer (Expr-F.Assert t a)

pub view_OkIndex : (a : Expr) (b : Expr) → view (ev.OkIndex a b) ≡ ok_index (view a) (view b)
unfolding view stmt_view clause_view body_view
view_OkIndex a b = ap (fold-Expr (ExprOf TypeId) (StmtOf TypeId) (BodyOf TypeId) (ClauseOf TypeId) layer stmt_layer body_layer clause_layer) (sym (ev.rolls-OkIndex a b)) ∙ fold-roll-Expr (ExprOf TypeId) (StmtOf TypeId) (BodyOf TypeId) (ClauseOf TypeId) layer stmt_layer body_layer clause_layer (Expr-F.OkIndex a b)

pub view_OkAssert : (t : TypeId) (a : Expr) → view (ev.OkAssert t a) ≡ ok_assert t (view a)
unfolding view stmt_view clause_view body_view
view_OkAssert t a = ap (fold-Expr (ExprOf TypeId) (StmtOf TypeId) (BodyOf TypeId) (ClauseOf TypeId) layer stmt_layer body_layer clause_layer) (sym (ev.rolls-OkAssert t a)) ∙ fold-roll-Expr (ExprOf TypeId) (StmtOf TypeId) (BodyOf TypeId) (ClauseOf TypeId) layer stmt_layer body_layer clause_layer (Expr-F.OkAssert t a)

pub view_Inline : (c : Callee) (es : List Expr) (b : Body) → view (ev.Inline c es b) ≡ inline (called c) (exprs (map view es)) (body_view b)
unfolding view stmt_view clause_view body_view
view_Inline c es b = ap (fold-Expr (ExprOf TypeId) (StmtOf TypeId) (BodyOf TypeId) (ClauseOf TypeId) layer stmt_layer body_layer clause_layer) (sym (ev.rolls-Inline c es b)) ∙ fold-roll-Expr (ExprOf TypeId) (StmtOf TypeId) (BodyOf TypeId) (ClauseOf TypeId) layer stmt_layer body_layer clause_layer (Expr-F.Inline c es b)

-- places to assign, one by one
place_seen : (p : Option Expr) → (former-Stmt-Assign-0-at-1).map Expr (ExprOf TypeId) view p ≡ option_map view p
place_seen None = refl
place_seen (Some e) = refl

places_seen : (ps : List (Option Expr)) → map ((former-Stmt-Assign-0-at-1).map Expr (ExprOf TypeId) view) ps ≡ map (option_map view) ps
places_seen [] = refl
places_seen (p ∷ ps) = λ i. place_seen p i ∷ places_seen ps i

pub stmt_Expr : (a : Expr) → stmt_view (sv.Expr a) ≡ alone (view a)
unfolding view stmt_view clause_view body_view
stmt_Expr a = ap (fold-Stmt (ExprOf TypeId) (StmtOf TypeId) (BodyOf TypeId) (ClauseOf TypeId) layer stmt_layer body_layer clause_layer) (sym (sv.rolls-Expr a)) ∙ fold-roll-Stmt (ExprOf TypeId) (StmtOf TypeId) (BodyOf TypeId) (ClauseOf TypeId) layer stmt_layer body_layer clause_layer (Stmt-F.Expr a)

pub stmt_Define : (ps : List (Option ℕ)) (es : List Expr) → stmt_view (sv.Define ps es) ≡ define ps (exprs (map view es))
unfolding view stmt_view clause_view body_view
stmt_Define ps es = ap (fold-Stmt (ExprOf TypeId) (StmtOf TypeId) (BodyOf TypeId) (ClauseOf TypeId) layer stmt_layer body_layer clause_layer) (sym (sv.rolls-Define ps es)) ∙ fold-roll-Stmt (ExprOf TypeId) (StmtOf TypeId) (BodyOf TypeId) (ClauseOf TypeId) layer stmt_layer body_layer clause_layer (Stmt-F.Define ps es)

pub stmt_Assign : (ps : List (Option Expr)) (es : List Expr) → stmt_view (sv.Assign ps es) ≡ assign (assigned_all (map (option_map view) ps)) (exprs (map view es))
unfolding view stmt_view clause_view body_view
stmt_Assign ps es = ap (fold-Stmt (ExprOf TypeId) (StmtOf TypeId) (BodyOf TypeId) (ClauseOf TypeId) layer stmt_layer body_layer clause_layer) (sym (sv.rolls-Assign ps es)) ∙ fold-roll-Stmt (ExprOf TypeId) (StmtOf TypeId) (BodyOf TypeId) (ClauseOf TypeId) layer stmt_layer body_layer clause_layer (Stmt-F.Assign ps es) ∙ ap (λ qs. assign (assigned_all qs) (exprs (map view es))) (places_seen ps)

pub stmt_OpAssign : (op : BinOp) (a : Expr) (b : Expr) → stmt_view (sv.OpAssign op a b) ≡ op_assign op (view a) (view b)
unfolding view stmt_view clause_view body_view
stmt_OpAssign op a b = ap (fold-Stmt (ExprOf TypeId) (StmtOf TypeId) (BodyOf TypeId) (ClauseOf TypeId) layer stmt_layer body_layer clause_layer) (sym (sv.rolls-OpAssign op a b)) ∙ fold-roll-Stmt (ExprOf TypeId) (StmtOf TypeId) (BodyOf TypeId) (ClauseOf TypeId) layer stmt_layer body_layer clause_layer (Stmt-F.OpAssign op a b)

pub stmt_Block : (ss : List Stmt) → stmt_view (sv.Block ss) ≡ block (stmts (map stmt_view ss))
unfolding view stmt_view clause_view body_view
stmt_Block ss = ap (fold-Stmt (ExprOf TypeId) (StmtOf TypeId) (BodyOf TypeId) (ClauseOf TypeId) layer stmt_layer body_layer clause_layer) (sym (sv.rolls-Block ss)) ∙ fold-roll-Stmt (ExprOf TypeId) (StmtOf TypeId) (BodyOf TypeId) (ClauseOf TypeId) layer stmt_layer body_layer clause_layer (Stmt-F.Block ss)

pub stmt_If : (a : Expr) (ss : List Stmt) (rs : List Stmt) → stmt_view (sv.If a ss rs) ≡ branch (view a) (stmts (map stmt_view ss)) (stmts (map stmt_view rs))
unfolding view stmt_view clause_view body_view
stmt_If a ss rs = ap (fold-Stmt (ExprOf TypeId) (StmtOf TypeId) (BodyOf TypeId) (ClauseOf TypeId) layer stmt_layer body_layer clause_layer) (sym (sv.rolls-If a ss rs)) ∙ fold-roll-Stmt (ExprOf TypeId) (StmtOf TypeId) (BodyOf TypeId) (ClauseOf TypeId) layer stmt_layer body_layer clause_layer (Stmt-F.If a ss rs)

pub stmt_For : (is : List Stmt) (a : Option Expr) (ps : List Stmt) (ss : List Stmt) → stmt_view (sv.For is a ps ss) ≡ loop (stmts (map stmt_view is)) (maybe (option_map view a)) (stmts (map stmt_view ps)) (stmts (map stmt_view ss))
unfolding view stmt_view clause_view body_view
stmt_For is None ps ss = ap (fold-Stmt (ExprOf TypeId) (StmtOf TypeId) (BodyOf TypeId) (ClauseOf TypeId) layer stmt_layer body_layer clause_layer) (sym (sv.rolls-For is None ps ss)) ∙ fold-roll-Stmt (ExprOf TypeId) (StmtOf TypeId) (BodyOf TypeId) (ClauseOf TypeId) layer stmt_layer body_layer clause_layer (Stmt-F.For is None ps ss)
stmt_For is (Some a) ps ss = ap (fold-Stmt (ExprOf TypeId) (StmtOf TypeId) (BodyOf TypeId) (ClauseOf TypeId) layer stmt_layer body_layer clause_layer) (sym (sv.rolls-For is (Some a) ps ss)) ∙ fold-roll-Stmt (ExprOf TypeId) (StmtOf TypeId) (BodyOf TypeId) (ClauseOf TypeId) layer stmt_layer body_layer clause_layer (Stmt-F.For is (Some a) ps ss)

pub stmt_Range : (ps : Places Expr) (a : Expr) (ss : List Stmt) → stmt_view (sv.Range ps a ss) ≡ ranging (range_of (range_with view ps)) (view a) (stmts (map stmt_view ss))
unfolding view stmt_view clause_view body_view
stmt_Range range.None a ss = ap (fold-Stmt (ExprOf TypeId) (StmtOf TypeId) (BodyOf TypeId) (ClauseOf TypeId) layer stmt_layer body_layer clause_layer) (sym (sv.rolls-Range range.None a ss)) ∙ fold-roll-Stmt (ExprOf TypeId) (StmtOf TypeId) (BodyOf TypeId) (ClauseOf TypeId) layer stmt_layer body_layer clause_layer (Stmt-F.Range range.None a ss)
stmt_Range (range.Define x y) a ss = ap (fold-Stmt (ExprOf TypeId) (StmtOf TypeId) (BodyOf TypeId) (ClauseOf TypeId) layer stmt_layer body_layer clause_layer) (sym (sv.rolls-Range (range.Define x y) a ss)) ∙ fold-roll-Stmt (ExprOf TypeId) (StmtOf TypeId) (BodyOf TypeId) (ClauseOf TypeId) layer stmt_layer body_layer clause_layer (Stmt-F.Range (range.Define x y) a ss)
stmt_Range (range.Assign None None) a ss = ap (fold-Stmt (ExprOf TypeId) (StmtOf TypeId) (BodyOf TypeId) (ClauseOf TypeId) layer stmt_layer body_layer clause_layer) (sym (sv.rolls-Range (range.Assign None None) a ss)) ∙ fold-roll-Stmt (ExprOf TypeId) (StmtOf TypeId) (BodyOf TypeId) (ClauseOf TypeId) layer stmt_layer body_layer clause_layer (Stmt-F.Range (range.Assign None None) a ss)
stmt_Range (range.Assign None (Some y)) a ss = ap (fold-Stmt (ExprOf TypeId) (StmtOf TypeId) (BodyOf TypeId) (ClauseOf TypeId) layer stmt_layer body_layer clause_layer) (sym (sv.rolls-Range (range.Assign None (Some y)) a ss)) ∙ fold-roll-Stmt (ExprOf TypeId) (StmtOf TypeId) (BodyOf TypeId) (ClauseOf TypeId) layer stmt_layer body_layer clause_layer (Stmt-F.Range (range.Assign None (Some y)) a ss)
stmt_Range (range.Assign (Some x) None) a ss = ap (fold-Stmt (ExprOf TypeId) (StmtOf TypeId) (BodyOf TypeId) (ClauseOf TypeId) layer stmt_layer body_layer clause_layer) (sym (sv.rolls-Range (range.Assign (Some x) None) a ss)) ∙ fold-roll-Stmt (ExprOf TypeId) (StmtOf TypeId) (BodyOf TypeId) (ClauseOf TypeId) layer stmt_layer body_layer clause_layer (Stmt-F.Range (range.Assign (Some x) None) a ss)
stmt_Range (range.Assign (Some x) (Some y)) a ss = ap (fold-Stmt (ExprOf TypeId) (StmtOf TypeId) (BodyOf TypeId) (ClauseOf TypeId) layer stmt_layer body_layer clause_layer) (sym (sv.rolls-Range (range.Assign (Some x) (Some y)) a ss)) ∙ fold-roll-Stmt (ExprOf TypeId) (StmtOf TypeId) (BodyOf TypeId) (ClauseOf TypeId) layer stmt_layer body_layer clause_layer (Stmt-F.Range (range.Assign (Some x) (Some y)) a ss)

pub stmt_Switch : (a : Expr) (cs : List Clause) (ss : Option (List Stmt)) → stmt_view (sv.Switch a cs ss) ≡ switch (view a) (clauses (map clause_view cs)) (maybe_stmts (option_map (map stmt_view) ss))
unfolding view stmt_view clause_view body_view
stmt_Switch a cs None = ap (fold-Stmt (ExprOf TypeId) (StmtOf TypeId) (BodyOf TypeId) (ClauseOf TypeId) layer stmt_layer body_layer clause_layer) (sym (sv.rolls-Switch a cs None)) ∙ fold-roll-Stmt (ExprOf TypeId) (StmtOf TypeId) (BodyOf TypeId) (ClauseOf TypeId) layer stmt_layer body_layer clause_layer (Stmt-F.Switch a cs None)
stmt_Switch a cs (Some ss) = ap (fold-Stmt (ExprOf TypeId) (StmtOf TypeId) (BodyOf TypeId) (ClauseOf TypeId) layer stmt_layer body_layer clause_layer) (sym (sv.rolls-Switch a cs (Some ss))) ∙ fold-roll-Stmt (ExprOf TypeId) (StmtOf TypeId) (BodyOf TypeId) (ClauseOf TypeId) layer stmt_layer body_layer clause_layer (Stmt-F.Switch a cs (Some ss))

pub stmt_Return : (es : List Expr) → stmt_view (sv.Return es) ≡ returning (exprs (map view es))
unfolding view stmt_view clause_view body_view
stmt_Return es = ap (fold-Stmt (ExprOf TypeId) (StmtOf TypeId) (BodyOf TypeId) (ClauseOf TypeId) layer stmt_layer body_layer clause_layer) (sym (sv.rolls-Return es)) ∙ fold-roll-Stmt (ExprOf TypeId) (StmtOf TypeId) (BodyOf TypeId) (ClauseOf TypeId) layer stmt_layer body_layer clause_layer (Stmt-F.Return es)

pub stmt_Break : stmt_view sv.Break ≡ breaking
unfolding view stmt_view clause_view body_view
stmt_Break = ap (fold-Stmt (ExprOf TypeId) (StmtOf TypeId) (BodyOf TypeId) (ClauseOf TypeId) layer stmt_layer body_layer clause_layer) (sym sv.rolls-Break) ∙ fold-roll-Stmt (ExprOf TypeId) (StmtOf TypeId) (BodyOf TypeId) (ClauseOf TypeId) layer stmt_layer body_layer clause_layer Stmt-F.Break

pub stmt_Continue : stmt_view sv.Continue ≡ continuing
unfolding view stmt_view clause_view body_view
stmt_Continue = ap (fold-Stmt (ExprOf TypeId) (StmtOf TypeId) (BodyOf TypeId) (ClauseOf TypeId) layer stmt_layer body_layer clause_layer) (sym sv.rolls-Continue) ∙ fold-roll-Stmt (ExprOf TypeId) (StmtOf TypeId) (BodyOf TypeId) (ClauseOf TypeId) layer stmt_layer body_layer clause_layer Stmt-F.Continue

pub ruleset variants = (view_Const, view_Nil, view_Zero, view_Local, view_Global, view_Func, view_Unary, view_Binary, view_Convert, view_Field, view_Index, view_Slice, view_Deref, view_Addr, view_StructLit, view_ListLit, view_MapLit, view_Call, view_MethodCall, view_DynCall, view_ParamCall, view_ValueCall, view_Builtin, view_Assert, view_OkIndex, view_OkAssert, view_Inline)

pub ruleset stmt_variants = (stmt_Expr, stmt_Define, stmt_Assign, stmt_OpAssign, stmt_Block, stmt_If, stmt_For, stmt_Range, stmt_Switch, stmt_Return, stmt_Break, stmt_Continue)

pub clause_seen : (es : List Expr) (ss : List Stmt) → clause_view (roll-Clause (record { values = es; stmts = ss })) ≡ clause (exprs (map view es)) (stmts (map stmt_view ss))
unfolding view stmt_view clause_view body_view
clause_seen es ss = fold-roll-Clause (ExprOf TypeId) (StmtOf TypeId) (BodyOf TypeId) (ClauseOf TypeId) layer stmt_layer body_layer clause_layer (record { values = es; stmts = ss })

pub body_seen : (k : ℕ) (ls rs : List TypeId) (ss : List Stmt) → body_view (roll-Body (record { params = k; locals = ls; results = rs; stmts = ss })) ≡ body k ls rs (stmts (map stmt_view ss))
unfolding view stmt_view clause_view body_view
body_seen k ls rs ss = fold-roll-Body (ExprOf TypeId) (StmtOf TypeId) (BodyOf TypeId) (ClauseOf TypeId) layer stmt_layer body_layer clause_layer (record { params = k; locals = ls; results = rs; stmts = ss })

-- the same, of one that is opened
pub clause_opened : (c : Clause) → clause_view c ≡ clause (exprs (map view c.values)) (stmts (map stmt_view c.stmts))
unfolding view stmt_view clause_view body_view
clause_opened c = fold_out-Clause (ExprOf TypeId) (StmtOf TypeId) (BodyOf TypeId) (ClauseOf TypeId) layer stmt_layer body_layer clause_layer c

pub body_opened : (b : Body) → body_view b ≡ body b.params b.locals b.results (stmts (map stmt_view b.stmts))
unfolding view stmt_view clause_view body_view
body_opened b = fold_out-Body (ExprOf TypeId) (StmtOf TypeId) (BodyOf TypeId) (ClauseOf TypeId) layer stmt_layer body_layer clause_layer b
