-- What a checked tree mentions, and the tree with other types in the places of its own.
use Rattle.std.specs.Prelude.{map, All, IfSome, option_map}
use Rattle.ui_base.specs.declared.name.Name.{Name}
use Rattle.ui_core.specs.Checked.{Called, ExprOf, constant, nil, zero_value, local, global, func, unary, binary, convert, field, index, slice, deref, address, struct_literal, list_literal, map_literal, call, method_call, dynamic_call, param_call, value_call, builtin, assert, ok_index, ok_assert, inline, Exprs, exprs_end, expr_and, MaybeExpr, absent, given, FieldValues, fields_end, field_and, IndexedValues, items_end, item_and, Entries, entries_end, entry_and, Assigned, assigned_end, assigned_and, RangeOf, no_places, defined, assigned, StmtOf, alone, define, assign, op_assign, block, branch, loop, ranging, switch, returning, breaking, continuing, StmtsOf, stmts_end, stmt_and, MaybeStmts, no_stmts, given_stmts, ClauseOf, clause, ClausesOf, clauses_end, clause_and, BodyOf, body}

module _ {T U : Type 0} (f : T → U) where
  abbrev pub called_with : Called T → Called U
  called_with c = record { key = c.key; targs = map f c.targs; pointer = c.pointer }

  abbrev mutual
    pub with_types : ExprOf T → ExprOf U
    with_types (constant t v) = constant (f t) v
    with_types (nil t) = nil (f t)
    with_types (zero_value t) = zero_value (f t)
    with_types (local k) = local k
    with_types (global n ts) = global n (map f ts)
    with_types (func c) = func (called_with c)
    with_types (unary op t a) = unary op (f t) (with_types a)
    with_types (binary op t a b) = binary op (f t) (with_types a) (with_types b)
    with_types (convert t a) = convert (f t) (with_types a)
    with_types (field n a) = field n (with_types a)
    with_types (index a b) = index (with_types a) (with_types b)
    with_types (slice a l h m) = slice (with_types a) (maybe_with l) (maybe_with h) (maybe_with m)
    with_types (deref a) = deref (with_types a)
    with_types (address a) = address (with_types a)
    with_types (struct_literal t fs) = struct_literal (f t) (fields_with fs)
    with_types (list_literal t is) = list_literal (f t) (items_with is)
    with_types (map_literal t es) = map_literal (f t) (entries_with es)
    with_types (call c es) = call (called_with c) (exprs_with es)
    with_types (method_call t b n es) = method_call (f t) b n (exprs_with es)
    with_types (dynamic_call n a es) = dynamic_call n (with_types a) (exprs_with es)
    with_types (param_call k n a es) = param_call k n (with_types a) (exprs_with es)
    with_types (value_call a es) = value_call (with_types a) (exprs_with es)
    with_types (builtin k t es) = builtin k (option_map f t) (exprs_with es)
    with_types (assert t a) = assert (f t) (with_types a)
    with_types (ok_index a b) = ok_index (with_types a) (with_types b)
    with_types (ok_assert t a) = ok_assert (f t) (with_types a)
    with_types (inline c es b) = inline (called_with c) (exprs_with es) (body_with b)

    pub exprs_with : Exprs T → Exprs U
    exprs_with exprs_end = exprs_end
    exprs_with (expr_and a es) = expr_and (with_types a) (exprs_with es)

    pub maybe_with : MaybeExpr T → MaybeExpr U
    maybe_with absent = absent
    maybe_with (given a) = given (with_types a)

    pub fields_with : FieldValues T → FieldValues U
    fields_with fields_end = fields_end
    fields_with (field_and n a fs) = field_and n (with_types a) (fields_with fs)

    pub items_with : IndexedValues T → IndexedValues U
    items_with items_end = items_end
    items_with (item_and k a is) = item_and k (with_types a) (items_with is)

    pub entries_with : Entries T → Entries U
    entries_with entries_end = entries_end
    entries_with (entry_and a b es) = entry_and (with_types a) (with_types b) (entries_with es)

    pub places_with : Assigned T → Assigned U
    places_with assigned_end = assigned_end
    places_with (assigned_and a ps) = assigned_and (maybe_with a) (places_with ps)

    pub range_with : RangeOf T → RangeOf U
    range_with no_places = no_places
    range_with (defined j k) = defined j k
    range_with (assigned a b) = assigned (maybe_with a) (maybe_with b)

    pub stmt_with : StmtOf T → StmtOf U
    stmt_with (alone a) = alone (with_types a)
    stmt_with (define ps es) = define ps (exprs_with es)
    stmt_with (assign ps es) = assign (places_with ps) (exprs_with es)
    stmt_with (op_assign op a b) = op_assign op (with_types a) (with_types b)
    stmt_with (block ss) = block (stmts_with ss)
    stmt_with (branch a ss rs) = branch (with_types a) (stmts_with ss) (stmts_with rs)
    stmt_with (loop is a ps ss) = loop (stmts_with is) (maybe_with a) (stmts_with ps) (stmts_with ss)
    stmt_with (ranging ps a ss) = ranging (range_with ps) (with_types a) (stmts_with ss)
    stmt_with (switch a cs ss) = switch (with_types a) (clauses_with cs) (maybe_stmts_with ss)
    stmt_with (returning es) = returning (exprs_with es)
    stmt_with breaking = breaking
    stmt_with continuing = continuing

    pub stmts_with : StmtsOf T → StmtsOf U
    stmts_with stmts_end = stmts_end
    stmts_with (stmt_and s ss) = stmt_and (stmt_with s) (stmts_with ss)

    pub maybe_stmts_with : MaybeStmts T → MaybeStmts U
    maybe_stmts_with no_stmts = no_stmts
    maybe_stmts_with (given_stmts ss) = given_stmts (stmts_with ss)

    pub clause_with : ClauseOf T → ClauseOf U
    clause_with (clause es ss) = clause (exprs_with es) (stmts_with ss)

    pub clauses_with : ClausesOf T → ClausesOf U
    clauses_with clauses_end = clauses_end
    clauses_with (clause_and c cs) = clause_and (clause_with c) (clauses_with cs)

    pub body_with : BodyOf T → BodyOf U
    body_with (body k ls rs ss) = body k (map f ls) (map f rs) (stmts_with ss)

-- all types that it mentions are such, and so are all names of declarations
module _ {T : Type 0} (P : T → Type 0) (N : Name → Type 0) where
  abbrev pub CalledMentions : Called T → Type 0
  CalledMentions c = N c.key.name × All P c.targs

  abbrev mutual
    pub Mentions : ExprOf T → Type 0
    Mentions (constant t v) = P t
    Mentions (nil t) = P t
    Mentions (zero_value t) = P t
    Mentions (local k) = Unit {0}
    Mentions (global n ts) = N n × All P ts
    Mentions (func c) = CalledMentions c
    Mentions (unary op t a) = P t × Mentions a
    Mentions (binary op t a b) = P t × Mentions a × Mentions b
    Mentions (convert t a) = P t × Mentions a
    Mentions (field n a) = Mentions a
    Mentions (index a b) = Mentions a × Mentions b
    Mentions (slice a l h m) = Mentions a × MaybeMentions l × MaybeMentions h × MaybeMentions m
    Mentions (deref a) = Mentions a
    Mentions (address a) = Mentions a
    Mentions (struct_literal t fs) = P t × FieldsMention fs
    Mentions (list_literal t is) = P t × ItemsMention is
    Mentions (map_literal t es) = P t × EntriesMention es
    Mentions (call c es) = CalledMentions c × ExprsMention es
    Mentions (method_call t b n es) = P t × ExprsMention es
    Mentions (dynamic_call n a es) = Mentions a × ExprsMention es
    Mentions (param_call k n a es) = Mentions a × ExprsMention es
    Mentions (value_call a es) = Mentions a × ExprsMention es
    Mentions (builtin k t es) = IfSome t P × ExprsMention es
    Mentions (assert t a) = P t × Mentions a
    Mentions (ok_index a b) = Mentions a × Mentions b
    Mentions (ok_assert t a) = P t × Mentions a
    Mentions (inline c es b) = CalledMentions c × ExprsMention es × BodyMentions b

    pub ExprsMention : Exprs T → Type 0
    ExprsMention exprs_end = Unit {0}
    ExprsMention (expr_and a es) = Mentions a × ExprsMention es

    pub MaybeMentions : MaybeExpr T → Type 0
    MaybeMentions absent = Unit {0}
    MaybeMentions (given a) = Mentions a

    pub FieldsMention : FieldValues T → Type 0
    FieldsMention fields_end = Unit {0}
    FieldsMention (field_and n a fs) = Mentions a × FieldsMention fs

    pub ItemsMention : IndexedValues T → Type 0
    ItemsMention items_end = Unit {0}
    ItemsMention (item_and k a is) = Mentions a × ItemsMention is

    pub EntriesMention : Entries T → Type 0
    EntriesMention entries_end = Unit {0}
    EntriesMention (entry_and a b es) = Mentions a × Mentions b × EntriesMention es

    pub PlacesMention : Assigned T → Type 0
    PlacesMention assigned_end = Unit {0}
    PlacesMention (assigned_and a ps) = MaybeMentions a × PlacesMention ps

    pub RangeMentions : RangeOf T → Type 0
    RangeMentions no_places = Unit {0}
    RangeMentions (defined j k) = Unit {0}
    RangeMentions (assigned a b) = MaybeMentions a × MaybeMentions b

    pub StmtMentions : StmtOf T → Type 0
    StmtMentions (alone a) = Mentions a
    StmtMentions (define ps es) = ExprsMention es
    StmtMentions (assign ps es) = PlacesMention ps × ExprsMention es
    StmtMentions (op_assign op a b) = Mentions a × Mentions b
    StmtMentions (block ss) = StmtsMention ss
    StmtMentions (branch a ss rs) = Mentions a × StmtsMention ss × StmtsMention rs
    StmtMentions (loop is a ps ss) = StmtsMention is × MaybeMentions a × StmtsMention ps × StmtsMention ss
    StmtMentions (ranging ps a ss) = RangeMentions ps × Mentions a × StmtsMention ss
    StmtMentions (switch a cs ss) = Mentions a × ClausesMention cs × MaybeStmtsMention ss
    StmtMentions (returning es) = ExprsMention es
    StmtMentions breaking = Unit {0}
    StmtMentions continuing = Unit {0}

    pub StmtsMention : StmtsOf T → Type 0
    StmtsMention stmts_end = Unit {0}
    StmtsMention (stmt_and s ss) = StmtMentions s × StmtsMention ss

    pub MaybeStmtsMention : MaybeStmts T → Type 0
    MaybeStmtsMention no_stmts = Unit {0}
    MaybeStmtsMention (given_stmts ss) = StmtsMention ss

    pub ClauseMentions : ClauseOf T → Type 0
    ClauseMentions (clause es ss) = ExprsMention es × StmtsMention ss

    pub ClausesMention : ClausesOf T → Type 0
    ClausesMention clauses_end = Unit {0}
    ClausesMention (clause_and c cs) = ClauseMentions c × ClausesMention cs

    pub BodyMentions : BodyOf T → Type 0
    BodyMentions (body k ls rs ss) = All P ls × All P rs × StmtsMention ss

abbrev pub any_name : Name → Type 0
any_name n = Unit {0}
