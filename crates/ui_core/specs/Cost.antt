-- How many expression and statement nodes a checked tree has.
use Rattle.std.specs.Prelude.{ℕ, ◌+◌, ◌-◌, ◌^◌, min}
use Rattle.ui_core.specs.Checked.{ExprOf, constant, nil, zero_value, local, global, func, unary, binary, convert, field, index, slice, deref, address, struct_literal, list_literal, map_literal, call, method_call, dynamic_call, param_call, value_call, builtin, assert, ok_index, ok_assert, inline, Exprs, exprs_end, expr_and, MaybeExpr, absent, given, FieldValues, fields_end, field_and, IndexedValues, items_end, item_and, Entries, entries_end, entry_and, Assigned, assigned_end, assigned_and, RangeOf, no_places, defined, assigned, StmtOf, alone, define, assign, op_assign, block, branch, loop, ranging, switch, returning, breaking, continuing, StmtsOf, stmts_end, stmt_and, MaybeStmts, no_stmts, given_stmts, ClauseOf, clause, ClausesOf, clauses_end, clause_and, BodyOf, body}

-- a number as 64 bits hold it
abbrev pub capped : ℕ → ℕ
capped n = min n (2 ^ 64 - 1)

module _ {T : Type 0} where
  abbrev mutual
    pub expr_cost : ExprOf T → ℕ
    expr_cost (constant t v) = 1
    expr_cost (nil t) = 1
    expr_cost (zero_value t) = 1
    expr_cost (local k) = 1
    expr_cost (global n ts) = 1
    expr_cost (func c) = 1
    expr_cost (unary op t a) = 1 + expr_cost a
    expr_cost (binary op t a b) = 1 + expr_cost a + expr_cost b
    expr_cost (convert t a) = 1 + expr_cost a
    expr_cost (field n a) = 1 + expr_cost a
    expr_cost (index a b) = 1 + expr_cost a + expr_cost b
    expr_cost (slice a l h m) = 1 + expr_cost a + maybe_cost l + maybe_cost h + maybe_cost m
    expr_cost (deref a) = 1 + expr_cost a
    expr_cost (address a) = 1 + expr_cost a
    expr_cost (struct_literal t fs) = 1 + fields_cost fs
    expr_cost (list_literal t is) = 1 + items_cost is
    expr_cost (map_literal t es) = 1 + entries_cost es
    expr_cost (call c es) = 1 + exprs_cost es
    expr_cost (method_call t b n es) = 1 + exprs_cost es
    expr_cost (dynamic_call n a es) = 1 + expr_cost a + exprs_cost es
    expr_cost (param_call k n a es) = 1 + expr_cost a + exprs_cost es
    expr_cost (value_call a es) = 1 + expr_cost a + exprs_cost es
    expr_cost (builtin k t es) = 1 + exprs_cost es
    expr_cost (assert t a) = 1 + expr_cost a
    expr_cost (ok_index a b) = 1 + expr_cost a + expr_cost b
    expr_cost (ok_assert t a) = 1 + expr_cost a
    expr_cost (inline c es b) = 1 + exprs_cost es + body_cost b

    pub exprs_cost : Exprs T → ℕ
    exprs_cost exprs_end = 0
    exprs_cost (expr_and a es) = expr_cost a + exprs_cost es

    pub maybe_cost : MaybeExpr T → ℕ
    maybe_cost absent = 0
    maybe_cost (given a) = expr_cost a

    pub fields_cost : FieldValues T → ℕ
    fields_cost fields_end = 0
    fields_cost (field_and n a fs) = expr_cost a + fields_cost fs

    pub items_cost : IndexedValues T → ℕ
    items_cost items_end = 0
    items_cost (item_and k a is) = expr_cost a + items_cost is

    pub entries_cost : Entries T → ℕ
    entries_cost entries_end = 0
    entries_cost (entry_and a b es) = expr_cost a + expr_cost b + entries_cost es

    pub places_cost : Assigned T → ℕ
    places_cost assigned_end = 0
    places_cost (assigned_and a ps) = maybe_cost a + places_cost ps

    pub range_cost : RangeOf T → ℕ
    range_cost no_places = 0
    range_cost (defined j k) = 0
    range_cost (assigned a b) = maybe_cost a + maybe_cost b

    pub stmt_cost : StmtOf T → ℕ
    stmt_cost (alone a) = 1 + expr_cost a
    stmt_cost (define ps es) = 1 + exprs_cost es
    stmt_cost (assign ps es) = 1 + places_cost ps + exprs_cost es
    stmt_cost (op_assign op a b) = 1 + expr_cost a + expr_cost b
    stmt_cost (block ss) = 1 + stmts_cost ss
    stmt_cost (branch a ss rs) = 1 + expr_cost a + stmts_cost ss + stmts_cost rs
    stmt_cost (loop is a ps ss) = 1 + stmts_cost is + maybe_cost a + stmts_cost ps + stmts_cost ss
    stmt_cost (ranging ps a ss) = 1 + range_cost ps + expr_cost a + stmts_cost ss
    stmt_cost (switch a cs ss) = 1 + expr_cost a + clauses_cost cs + maybe_stmts_cost ss
    stmt_cost (returning es) = 1 + exprs_cost es
    stmt_cost breaking = 1
    stmt_cost continuing = 1

    pub stmts_cost : StmtsOf T → ℕ
    stmts_cost stmts_end = 0
    stmts_cost (stmt_and s ss) = stmt_cost s + stmts_cost ss

    pub maybe_stmts_cost : MaybeStmts T → ℕ
    maybe_stmts_cost no_stmts = 0
    maybe_stmts_cost (given_stmts ss) = stmts_cost ss

    pub clause_cost : ClauseOf T → ℕ
    clause_cost (clause es ss) = exprs_cost es + stmts_cost ss

    pub clauses_cost : ClausesOf T → ℕ
    clauses_cost clauses_end = 0
    clauses_cost (clause_and c cs) = clause_cost c + clauses_cost cs

    pub body_cost : BodyOf T → ℕ
    body_cost (body k ls rs ss) = stmts_cost ss
