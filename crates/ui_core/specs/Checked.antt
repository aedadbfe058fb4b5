-- Checked trees as plain data: what sources become, with each conversion, followed pointer and taken address explicit. T is
-- what stands for a type: an id of a table, or a tree. Go specification, "Expressions" and "Statements".
use Rattle.std.specs.Prelude.{ℕ, Bool, List, Option}
use Rattle.ui_base.specs.declared.name.Name.{Name}
use Rattle.ui_base.specs.declared.value.Value.{Value}
use Rattle.ui_base.specs.declared.kind.BinOp.{BinOp}
use Rattle.ui_base.specs.declared.kind.UnOp.{UnOp}
use Rattle.ui_core.specs.declared.callee.BuiltinFn.{BuiltinFn}
use Rattle.ui_core.specs.declared.callee.FuncKey.{FuncKey}

-- what is called, with its type arguments, and whether it is a method of a pointer
pub record Called (T : Type 0) : Type 0 where
  pub key : FuncKey
  pub targs : List T
  pub pointer : Bool

mutual
  -- an expression
  pub data ExprOf (T : Type 0) : Type 0 where
    constant : T → Value → ExprOf T
    nil : T → ExprOf T
    zero_value : T → ExprOf T
    local : ℕ → ExprOf T
    global : Name → List T → ExprOf T
    func : Called T → ExprOf T
    unary : UnOp → T → ExprOf T → ExprOf T
    -- the type is that of the result
    binary : BinOp → T → ExprOf T → ExprOf T → ExprOf T
    convert : T → ExprOf T → ExprOf T
    field : Name → ExprOf T → ExprOf T
    index : ExprOf T → ExprOf T → ExprOf T
    slice : ExprOf T → MaybeExpr T → MaybeExpr T → MaybeExpr T → ExprOf T
    deref : ExprOf T → ExprOf T
    address : ExprOf T → ExprOf T
    struct_literal : T → FieldValues T → ExprOf T
    list_literal : T → IndexedValues T → ExprOf T
    map_literal : T → Entries T → ExprOf T
    call : Called T → Exprs T → ExprOf T
    -- the receiver is the first of the arguments
    method_call : T → Bool → Name → Exprs T → ExprOf T
    dynamic_call : Name → ExprOf T → Exprs T → ExprOf T
    -- a method of the type parameter of this number
    param_call : ℕ → Name → ExprOf T → Exprs T → ExprOf T
    value_call : ExprOf T → Exprs T → ExprOf T
    -- with the type that it is given
    builtin : BuiltinFn → Option T → Exprs T → ExprOf T
    assert : T → ExprOf T → ExprOf T
    -- with the truth value that says whether the key is there
    ok_index : ExprOf T → ExprOf T → ExprOf T
    -- with the truth value that says whether the assertion holds
    ok_assert : T → ExprOf T → ExprOf T
    -- a call in whose place the body of what it calls stands
    inline : Called T → Exprs T → BodyOf T → ExprOf T

  pub data Exprs (T : Type 0) : Type 0 where
    exprs_end : Exprs T
    expr_and : ExprOf T → Exprs T → Exprs T

  pub data MaybeExpr (T : Type 0) : Type 0 where
    absent : MaybeExpr T
    given : ExprOf T → MaybeExpr T

  pub data FieldValues (T : Type 0) : Type 0 where
    fields_end : FieldValues T
    field_and : Name → ExprOf T → FieldValues T → FieldValues T

  pub data IndexedValues (T : Type 0) : Type 0 where
    items_end : IndexedValues T
    item_and : ℕ → ExprOf T → IndexedValues T → IndexedValues T

  pub data Entries (T : Type 0) : Type 0 where
    entries_end : Entries T
    entry_and : ExprOf T → ExprOf T → Entries T → Entries T

  -- places to assign: an expression, or blank
  pub data Assigned (T : Type 0) : Type 0 where
    assigned_end : Assigned T
    assigned_and : MaybeExpr T → Assigned T → Assigned T

  -- what a range defines or assigns at each turn, or nothing
  pub data RangeOf (T : Type 0) : Type 0 where
    no_places : RangeOf T
    defined : Option ℕ → Option ℕ → RangeOf T
    assigned : MaybeExpr T → MaybeExpr T → RangeOf T

  -- a statement
  pub data StmtOf (T : Type 0) : Type 0 where
    alone : ExprOf T → StmtOf T
    -- each place is a local, or blank
    define : List (Option ℕ) → Exprs T → StmtOf T
    assign : Assigned T → Exprs T → StmtOf T
    op_assign : BinOp → ExprOf T → ExprOf T → StmtOf T
    block : StmtsOf T → StmtOf T
    branch : ExprOf T → StmtsOf T → StmtsOf T → StmtOf T
    loop : StmtsOf T → MaybeExpr T → StmtsOf T → StmtsOf T → StmtOf T
    ranging : RangeOf T → ExprOf T → StmtsOf T → StmtOf T
    switch : ExprOf T → ClausesOf T → MaybeStmts T → StmtOf T
    returning : Exprs T → StmtOf T
    breaking : StmtOf T
    continuing : StmtOf T

  pub data StmtsOf (T : Type 0) : Type 0 where
    stmts_end : StmtsOf T
    stmt_and : StmtOf T → StmtsOf T → StmtsOf T

  pub data MaybeStmts (T : Type 0) : Type 0 where
    no_stmts : MaybeStmts T
    given_stmts : StmtsOf T → MaybeStmts T

  -- the values and the statements of a clause
  pub data ClauseOf (T : Type 0) : Type 0 where
    clause : Exprs T → StmtsOf T → ClauseOf T

  pub data ClausesOf (T : Type 0) : Type 0 where
    clauses_end : ClausesOf T
    clause_and : ClauseOf T → ClausesOf T → ClausesOf T

  -- a body: the number of its parameters, its locals, its results, and its statements
  pub data BodyOf (T : Type 0) : Type 0 where
    body : ℕ → List T → List T → StmtsOf T → BodyOf T
