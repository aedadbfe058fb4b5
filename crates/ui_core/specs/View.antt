-- The plain trees that the code's checked trees stand for, with ids in the places of types.
use Rattle.std.specs.Prelude.{List, [], ◌∷◌, Option, Some, None, option_map}
use Rattle.ui_types.specs.declared.id.TypeId.{TypeId}
use Rattle.ui_core.specs.declared.callee.Callee.{Callee}
use Rattle.ui_core.specs.declared.tree.Expr.{Expr, fold-Expr}
use Rattle.ui_core.specs.declared.tree.Stmt.{Stmt, fold-Stmt}
use Rattle.ui_core.specs.declared.tree.Body.{Body, fold-Body}
use Rattle.ui_core.specs.declared.tree.Expr.TheOpen.{Body-F, Clause-F, Expr-F, Stmt-F}
use Rattle.ui_core.specs.declared.tree.FieldValue.{FieldValue}
use Rattle.ui_core.specs.declared.tree.IndexedValue.{IndexedValue}
use Rattle.ui_core.specs.declared.tree.Entry.{Entry}
use Rattle.ui_core.specs.declared.tree.Clause.{Clause, fold-Clause}
use Rattle.ui_core.specs.declared.tree.Places.{Places}
use Rattle.ui_core.specs.declared.tree.Places.TheVariants as range
use Rattle.ui_core.specs.Checked.{Called, ExprOf, Exprs, exprs_end, expr_and, MaybeExpr, absent, given, FieldValues, fields_end, field_and, IndexedValues, items_end, item_and, Entries, entries_end, entry_and, Assigned, assigned_end, assigned_and, RangeOf, no_places, defined, assigned, StmtOf, StmtsOf, stmts_end, stmt_and, MaybeStmts, no_stmts, given_stmts, ClauseOf, clause, ClausesOf, clauses_end, clause_and, BodyOf, body, constant, nil, zero_value, local, global, func, unary, binary, convert, field, index, slice, deref, address, struct_literal, list_literal, map_literal, call, method_call, dynamic_call, param_call, value_call, builtin, assert, ok_index, ok_assert, inline, alone, define, assign, op_assign, block, branch, loop, ranging, switch, returning, breaking, continuing}

abbrev pub called : Callee → Called TypeId
called c = record { key = c.key; targs = c.targs; pointer = c.pointer }

-- ---- lists and parts

module _ {T : Type 0} where
  abbrev pub exprs : List (ExprOf T) → Exprs T
  exprs [] = exprs_end
  exprs (e ∷ es) = expr_and e (exprs es)

  abbrev pub maybe : Option (ExprOf T) → MaybeExpr T
  maybe None = absent
  maybe (Some e) = given e

  abbrev pub field_values : List (FieldValue (ExprOf T)) → FieldValues T
  field_values [] = fields_end
  field_values (f ∷ fs) = field_and f.name f.value (field_values fs)

  abbrev pub indexed_values : List (IndexedValue (ExprOf T)) → IndexedValues T
  indexed_values [] = items_end
  indexed_values (i ∷ is) = item_and i.index i.value (indexed_values is)

  abbrev pub entries : List (Entry (ExprOf T)) → Entries T
  entries [] = entries_end
  entries (e ∷ es) = entry_and e.key e.value (entries es)

  abbrev pub assigned_all : List (Option (ExprOf T)) → Assigned T
  assigned_all [] = assigned_end
  assigned_all (p ∷ ps) = assigned_and (maybe p) (assigned_all ps)

  abbrev pub range_of : Places (ExprOf T) → RangeOf T
  range_of range.None = no_places
  range_of (range.Define j k) = defined j k
  range_of (range.Assign a b) = assigned (maybe a) (maybe b)

  abbrev pub stmts : List (StmtOf T) → StmtsOf T
  stmts [] = stmts_end
  stmts (s ∷ ss) = stmt_and s (stmts ss)

  abbrev pub maybe_stmts : Option (List (StmtOf T)) → MaybeStmts T
  maybe_stmts None = no_stmts
  maybe_stmts (Some ss) = given_stmts (stmts ss)

  abbrev pub clauses : List (ClauseOf T) → ClausesOf T
  clauses [] = clauses_end
  clauses (c ∷ cs) = clause_and c (clauses cs)

-- ---- parts with other parts of their own

module _ {A B : Type 0} (f : A → B) where
  abbrev pub field_with : FieldValue A → FieldValue B
  field_with x = record { name = x.name; value = f x.value }

  abbrev pub item_with : IndexedValue A → IndexedValue B
  item_with x = record { index = x.index; value = f x.value }

  abbrev pub entry_with : Entry A → Entry B
  entry_with x = record { key = f x.key; value = f x.value }

  abbrev pub range_with : Places A → Places B
  range_with range.None = range.None
  range_with (range.Define j k) = range.Define j k
  range_with (range.Assign a b) = range.Assign (option_map f a) (option_map f b)

-- ---- one layer of a tree, whose parts are trees already

abbrev pub layer : Expr-F (ExprOf TypeId) (StmtOf TypeId) (BodyOf TypeId) (ClauseOf TypeId) → ExprOf TypeId
layer (Expr-F.Const t v) = constant t v
layer (Expr-F.Nil t) = nil t
layer (Expr-F.Zero t) = zero_value t
layer (Expr-F.Local k) = local k
layer (Expr-F.Global n ts) = global n ts
layer (Expr-F.Func c) = func (called c)
layer (Expr-F.Unary op t a) = unary op t a
layer (Expr-F.Binary op t a b) = binary op t a b
layer (Expr-F.Convert t a) = convert t a
layer (Expr-F.Field n a) = field n a
layer (Expr-F.Index a b) = index a b
layer (Expr-F.Slice a l h m) = slice a (maybe l) (maybe h) (maybe m)
layer (Expr-F.Deref a) = deref a
layer (Expr-F.Addr a) = address a
layer (Expr-F.StructLit t fs) = struct_literal t (field_values fs)
layer (Expr-F.ListLit t is) = list_literal t (indexed_values is)
layer (Expr-F.MapLit t es) = map_literal t (entries es)
layer (Expr-F.Call c es) = call (called c) (exprs es)
layer (Expr-F.MethodCall t p n es) = method_call t p n (exprs es)
layer (Expr-F.DynCall n a es) = dynamic_call n a (exprs es)
layer (Expr-F.ParamCall k n a es) = param_call k n a (exprs es)
layer (Expr-F.ValueCall a es) = value_call a (exprs es)
layer (Expr-F.Builtin k t es) = builtin k t (exprs es)
layer (Expr-F.Assert t a) = assert t a
layer (Expr-F.OkIndex a b) = ok_index a b
layer (Expr-F.OkAssert t a) = ok_assert t a
layer (Expr-F.Inline c es b) = inline (called c) (exprs es) b

abbrev pub stmt_layer : Stmt-F (ExprOf TypeId) (StmtOf TypeId) (BodyOf TypeId) (ClauseOf TypeId) → StmtOf TypeId
stmt_layer (Stmt-F.Expr a) = alone a
stmt_layer (Stmt-F.Define ps es) = define ps (exprs es)
stmt_layer (Stmt-F.Assign ps es) = assign (assigned_all ps) (exprs es)
stmt_layer (Stmt-F.OpAssign op a b) = op_assign op a b
stmt_layer (Stmt-F.Block ss) = block (stmts ss)
stmt_layer (Stmt-F.If a ss rs) = branch a (stmts ss) (stmts rs)
stmt_layer (Stmt-F.For is a ps ss) = loop (stmts is) (maybe a) (stmts ps) (stmts ss)
stmt_layer (Stmt-F.Range ps a ss) = ranging (range_of ps) a (stmts ss)
stmt_layer (Stmt-F.Switch a cs ss) = switch a (clauses cs) (maybe_stmts ss)
stmt_layer (Stmt-F.Return es) = returning (exprs es)
stmt_layer Stmt-F.Break = breaking
stmt_layer Stmt-F.Continue = continuing

abbrev pub clause_layer : Clause-F (ExprOf TypeId) (StmtOf TypeId) (BodyOf TypeId) (ClauseOf TypeId) → ClauseOf TypeId
clause_layer c = clause (exprs c.values) (stmts c.stmts)

abbrev pub body_layer : Body-F (ExprOf TypeId) (StmtOf TypeId) (BodyOf TypeId) (ClauseOf TypeId) → BodyOf TypeId
body_layer b = body b.params b.locals b.results (stmts b.stmts)

-- ---- whole trees

unfoldable pub view : Expr → ExprOf TypeId
view = fold-Expr (ExprOf TypeId) (StmtOf TypeId) (BodyOf TypeId) (ClauseOf TypeId) layer stmt_layer body_layer clause_layer

unfoldable pub stmt_view : Stmt → StmtOf TypeId
stmt_view = fold-Stmt (ExprOf TypeId) (StmtOf TypeId) (BodyOf TypeId) (ClauseOf TypeId) layer stmt_layer body_layer clause_layer

unfoldable pub clause_view : Clause → ClauseOf TypeId
clause_view = fold-Clause (ExprOf TypeId) (StmtOf TypeId) (BodyOf TypeId) (ClauseOf TypeId) layer stmt_layer body_layer clause_layer

unfoldable pub body_view : Body → BodyOf TypeId
body_view = fold-Body (ExprOf TypeId) (StmtOf TypeId) (BodyOf TypeId) (ClauseOf TypeId) layer stmt_layer body_layer clause_layer
