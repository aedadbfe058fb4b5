-- Trees that mention less, and trees whose types are alike.
use Rattle.std.specs.Prelude.{◌≡◌, List, [], ◌∷◌, map, refl, All, Option, Some, None, IfSome, option_map}
use Rattle.std.proofs.Common.{ap}
use Rattle.std.proofs.lemmas.List.Elements.{All-head, All-tail, All-weaker}
use Rattle.ui_base.specs.declared.name.Name.{Name}
use Rattle.ui_core.specs.Checked.{Called, ExprOf, constant, nil, zero_value, local, global, func, unary, binary, convert, field, index, slice, deref, address, struct_literal, list_literal, map_literal, call, method_call, dynamic_call, param_call, value_call, builtin, assert, ok_index, ok_assert, inline, Exprs, exprs_end, expr_and, MaybeExpr, absent, given, FieldValues, fields_end, field_and, IndexedValues, items_end, item_and, Entries, entries_end, entry_and, Assigned, assigned_end, assigned_and, RangeOf, no_places, defined, assigned, StmtOf, alone, define, assign, op_assign, block, branch, loop, ranging, switch, returning, breaking, continuing, StmtsOf, stmts_end, stmt_and, MaybeStmts, no_stmts, given_stmts, ClauseOf, clause, ClausesOf, clauses_end, clause_and, BodyOf, body}
use Rattle.ui_core.specs.Mentions.{called_with, CalledMentions, any_name, with_types, Mentions, exprs_with, ExprsMention, maybe_with, MaybeMentions, fields_with, FieldsMention, items_with, ItemsMention, entries_with, EntriesMention, places_with, PlacesMention, range_with, RangeMentions, stmt_with, StmtMentions, stmts_with, StmtsMention, maybe_stmts_with, MaybeStmtsMention, clause_with, ClauseMentions, clauses_with, ClausesMention, body_with, BodyMentions}

module _ {T : Type 0} {P Q : T → Type 0} {M N : Name → Type 0} (p : (x : T) → P x → Q x) (q : (n : Name) → M n → N n) where
  option-weaker : (o : Option T) → IfSome o P → IfSome o Q
  option-weaker None h = h
  option-weaker (Some x) h = p x h

  called-weaker : (c : Called T) → CalledMentions P M c → CalledMentions Q N c
  called-weaker c h = (q c.key.name h.0, All-weaker P Q p c.targs h.1)

  mutual
    pub Mentions-weaker : (x : ExprOf T) → Mentions P M x → Mentions Q N x
    Mentions-weaker (constant t v) h = p t h
    Mentions-weaker (nil t) h = p t h
    Mentions-weaker (zero_value t) h = p t h
    Mentions-weaker (local k) h = h
    Mentions-weaker (global n ts) h = (q n h.0, All-weaker P Q p ts h.1)
    Mentions-weaker (func c) h = called-weaker c h
    Mentions-weaker (unary op t a) h = (p t h.0, Mentions-weaker a h.1)
    Mentions-weaker (binary op t a b) h = (p t h.0, Mentions-weaker a h.1, Mentions-weaker b h.2)
    Mentions-weaker (convert t a) h = (p t h.0, Mentions-weaker a h.1)
    Mentions-weaker (field n a) h = Mentions-weaker a h
    Mentions-weaker (index a b) h = (Mentions-weaker a h.0, Mentions-weaker b h.1)
    Mentions-weaker (slice a l h m) g = (Mentions-weaker a g.0, MaybeMentions-weaker l g.1, MaybeMentions-weaker h g.2, MaybeMentions-weaker m g.3)
    Mentions-weaker (deref a) h = Mentions-weaker a h
    Mentions-weaker (address a) h = Mentions-weaker a h
    Mentions-weaker (struct_literal t fs) h = (p t h.0, FieldsMention-weaker fs h.1)
    Mentions-weaker (list_literal t is) h = (p t h.0, ItemsMention-weaker is h.1)
    Mentions-weaker (map_literal t es) h = (p t h.0, EntriesMention-weaker es h.1)
    Mentions-weaker (call c es) h = (called-weaker c h.0, ExprsMention-weaker es h.1)
    Mentions-weaker (method_call t b n es) h = (p t h.0, ExprsMention-weaker es h.1)
    Mentions-weaker (dynamic_call n a es) h = (Mentions-weaker a h.0, ExprsMention-weaker es h.1)
    Mentions-weaker (param_call k n a es) h = (Mentions-weaker a h.0, ExprsMention-weaker es h.1)
    Mentions-weaker (value_call a es) h = (Mentions-weaker a h.0, ExprsMention-weaker es h.1)
    Mentions-weaker (builtin k t es) h = (option-weaker t h.0, ExprsMention-weaker es h.1)
    Mentions-weaker (assert t a) h = (p t h.0, Mentions-weaker a h.1)
    Mentions-weaker (ok_index a b) h = (Mentions-weaker a h.0, Mentions-weaker b h.1)
    Mentions-weaker (ok_assert t a) h = (p t h.0, Mentions-weaker a h.1)
    Mentions-weaker (inline c es b) h = (called-weaker c h.0, ExprsMention-weaker es h.1, BodyMentions-weaker b h.2)

    pub ExprsMention-weaker : (x : Exprs T) → ExprsMention P M x → ExprsMention Q N x
    ExprsMention-weaker exprs_end h = h
    ExprsMention-weaker (expr_and a es) h = (Mentions-weaker a h.0, ExprsMention-weaker es h.1)

    pub MaybeMentions-weaker : (x : MaybeExpr T) → MaybeMentions P M x → MaybeMentions Q N x
    MaybeMentions-weaker absent h = h
    MaybeMentions-weaker (given a) h = Mentions-weaker a h

    pub FieldsMention-weaker : (x : FieldValues T) → FieldsMention P M x → FieldsMention Q N x
    FieldsMention-weaker fields_end h = h
    FieldsMention-weaker (field_and n a fs) h = (Mentions-weaker a h.0, FieldsMention-weaker fs h.1)

    pub ItemsMention-weaker : (x : IndexedValues T) → ItemsMention P M x → ItemsMention Q N x
    ItemsMention-weaker items_end h = h
    ItemsMention-weaker (item_and k a is) h = (Mentions-weaker a h.0, ItemsMention-weaker is h.1)

    pub EntriesMention-weaker : (x : Entries T) → EntriesMention P M x → EntriesMention Q N x
    EntriesMention-weaker entries_end h = h
    EntriesMention-weaker (entry_and a b es) h = (Mentions-weaker a h.0, Mentions-weaker b h.1, EntriesMention-weaker es h.2)

    pub PlacesMention-weaker : (x : Assigned T) → PlacesMention P M x → PlacesMention Q N x
    PlacesMention-weaker assigned_end h = h
    PlacesMention-weaker (assigned_and a ps) h = (MaybeMentions-weaker a h.0, PlacesMention-weaker ps h.1)

    pub RangeMentions-weaker : (x : RangeOf T) → RangeMentions P M x → RangeMentions Q N x
    RangeMentions-weaker no_places h = h
    RangeMentions-weaker (defined j k) h = h
    RangeMentions-weaker (assigned a b) h = (MaybeMentions-weaker a h.0, MaybeMentions-weaker b h.1)

    pub StmtMentions-weaker : (x : StmtOf T) → StmtMentions P M x → StmtMentions Q N x
    StmtMentions-weaker (alone a) h = Mentions-weaker a h
    StmtMentions-weaker (define ps es) h = ExprsMention-weaker es h
    StmtMentions-weaker (assign ps es) h = (PlacesMention-weaker ps h.0, ExprsMention-weaker es h.1)
    StmtMentions-weaker (op_assign op a b) h = (Mentions-weaker a h.0, Mentions-weaker b h.1)
    StmtMentions-weaker (block ss) h = StmtsMention-weaker ss h
    StmtMentions-weaker (branch a ss rs) h = (Mentions-weaker a h.0, StmtsMention-weaker ss h.1, StmtsMention-weaker rs h.2)
    StmtMentions-weaker (loop is a ps ss) h = (StmtsMention-weaker is h.0, MaybeMentions-weaker a h.1, StmtsMention-weaker ps h.2, StmtsMention-weaker ss h.3)
    StmtMentions-weaker (ranging ps a ss) h = (RangeMentions-weaker ps h.0, Mentions-weaker a h.1, StmtsMention-weaker ss h.2)
    StmtMentions-weaker (switch a cs ss) h = (Mentions-weaker a h.0, ClausesMention-weaker cs h.1, MaybeStmtsMention-weaker ss h.2)
    StmtMentions-weaker (returning es) h = ExprsMention-weaker es h
    StmtMentions-weaker breaking h = h
    StmtMentions-weaker continuing h = h

    pub StmtsMention-weaker : (x : StmtsOf T) → StmtsMention P M x → StmtsMention Q N x
    StmtsMention-weaker stmts_end h = h
    StmtsMention-weaker (stmt_and s ss) h = (StmtMentions-weaker s h.0, StmtsMention-weaker ss h.1)

    pub MaybeStmtsMention-weaker : (x : MaybeStmts T) → MaybeStmtsMention P M x → MaybeStmtsMention Q N x
    MaybeStmtsMention-weaker no_stmts h = h
    MaybeStmtsMention-weaker (given_stmts ss) h = StmtsMention-weaker ss h

    pub ClauseMentions-weaker : (x : ClauseOf T) → ClauseMentions P M x → ClauseMentions Q N x
    ClauseMentions-weaker (clause es ss) h = (ExprsMention-weaker es h.0, StmtsMention-weaker ss h.1)

    pub ClausesMention-weaker : (x : ClausesOf T) → ClausesMention P M x → ClausesMention Q N x
    ClausesMention-weaker clauses_end h = h
    ClausesMention-weaker (clause_and c cs) h = (ClauseMentions-weaker c h.0, ClausesMention-weaker cs h.1)

    pub BodyMentions-weaker : (x : BodyOf T) → BodyMentions P M x → BodyMentions Q N x
    BodyMentions-weaker (body k ls rs ss) h = (All-weaker P Q p ls h.0, All-weaker P Q p rs h.1, StmtsMention-weaker ss h.2)

module _ {T U : Type 0} (f g : T → U) where
  list-alike : (xs : List T) → All (λ x. f x ≡ g x) xs → map f xs ≡ map g xs
  list-alike [] h = refl
  list-alike (x ∷ xs) h = λ i. All-head (λ x. f x ≡ g x) x xs h i ∷ list-alike xs (All-tail (λ x. f x ≡ g x) x xs h) i

  option-alike : (o : Option T) → IfSome o (λ x. f x ≡ g x) → option_map f o ≡ option_map g o
  option-alike None h = refl
  option-alike (Some x) h = ap Some h

  called-alike : (c : Called T) → CalledMentions (λ x. f x ≡ g x) any_name c → called_with f c ≡ called_with g c
  called-alike c h = λ i. record { key = c.key; targs = list-alike c.targs h.1 i; pointer = c.pointer }

  mutual
    pub with_types-alike : (x : ExprOf T) → Mentions (λ x. f x ≡ g x) any_name x → with_types f x ≡ with_types g x
    with_types-alike (constant t v) e = λ i. constant (e i) v
    with_types-alike (nil t) e = λ i. nil (e i)
    with_types-alike (zero_value t) e = λ i. zero_value (e i)
    with_types-alike (local k) e = refl
    with_types-alike (global n ts) e = λ i. global n (list-alike ts e.1 i)
    with_types-alike (func c) e = λ i. func (called-alike c e i)
    with_types-alike (unary op t a) e = λ i. unary op (e.0 i) (with_types-alike a e.1 i)
    with_types-alike (binary op t a b) e = λ i. binary op (e.0 i) (with_types-alike a e.1 i) (with_types-alike b e.2 i)
    with_types-alike (convert t a) e = λ i. convert (e.0 i) (with_types-alike a e.1 i)
    with_types-alike (field n a) e = λ i. field n (with_types-alike a e i)
    with_types-alike (index a b) e = λ i. index (with_types-alike a e.0 i) (with_types-alike b e.1 i)
    with_types-alike (slice a l h m) e = λ i. slice (with_types-alike a e.0 i) (maybe_with-alike l e.1 i) (maybe_with-alike h e.2 i) (maybe_with-alike m e.3 i)
    with_types-alike (deref a) e = λ i. deref (with_types-alike a e i)
    with_types-alike (address a) e = λ i. address (with_types-alike a e i)
    with_types-alike (struct_literal t fs) e = λ i. struct_literal (e.0 i) (fields_with-alike fs e.1 i)
    with_types-alike (list_literal t is) e = λ i. list_literal (e.0 i) (items_with-alike is e.1 i)
    with_types-alike (map_literal t es) e = λ i. map_literal (e.0 i) (entries_with-alike es e.1 i)
    with_types-alike (call c es) e = λ i. call (called-alike c e.0 i) (exprs_with-alike es e.1 i)
    with_types-alike (method_call t b n es) e = λ i. method_call (e.0 i) b n (exprs_with-alike es e.1 i)
    with_types-alike (dynamic_call n a es) e = λ i. dynamic_call n (with_types-alike a e.0 i) (exprs_with-alike es e.1 i)
    with_types-alike (param_call k n a es) e = λ i. param_call k n (with_types-alike a e.0 i) (exprs_with-alike es e.1 i)
    with_types-alike (value_call a es) e = λ i. value_call (with_types-alike a e.0 i) (exprs_with-alike es e.1 i)
    with_types-alike (builtin k t es) e = λ i. builtin k (option-alike t e.0 i) (exprs_with-alike es e.1 i)
    with_types-alike (assert t a) e = λ i. assert (e.0 i) (with_types-alike a e.1 i)
    with_types-alike (ok_index a b) e = λ i. ok_index (with_types-alike a e.0 i) (with_types-alike b e.1 i)
    with_types-alike (ok_assert t a) e = λ i. ok_assert (e.0 i) (with_types-alike a e.1 i)
    with_types-alike (inline c es b) e = λ i. inline (called-alike c e.0 i) (exprs_with-alike es e.1 i) (body_with-alike b e.2 i)

    pub exprs_with-alike : (x : Exprs T) → ExprsMention (λ x. f x ≡ g x) any_name x → exprs_with f x ≡ exprs_with g x
    exprs_with-alike exprs_end e = refl
    exprs_with-alike (expr_and a es) e = λ i. expr_and (with_types-alike a e.0 i) (exprs_with-alike es e.1 i)

    pub maybe_with-alike : (x : MaybeExpr T) → MaybeMentions (λ x. f x ≡ g x) any_name x → maybe_with f x ≡ maybe_with g x
    maybe_with-alike absent e = refl
    maybe_with-alike (given a) e = λ i. given (with_types-alike a e i)

    pub fields_with-alike : (x : FieldValues T) → FieldsMention (λ x. f x ≡ g x) any_name x → fields_with f x ≡ fields_with g x
    fields_with-alike fields_end e = refl
    fields_with-alike (field_and n a fs) e = λ i. field_and n (with_types-alike a e.0 i) (fields_with-alike fs e.1 i)

    pub items_with-alike : (x : IndexedValues T) → ItemsMention (λ x. f x ≡ g x) any_name x → items_with f x ≡ items_with g x
    items_with-alike items_end e = refl
    items_with-alike (item_and k a is) e = λ i. item_and k (with_types-alike a e.0 i) (items_with-alike is e.1 i)

    pub entries_with-alike : (x : Entries T) → EntriesMention (λ x. f x ≡ g x) any_name x → entries_with f x ≡ entries_with g x
    entries_with-alike entries_end e = refl
    entries_with-alike (entry_and a b es) e = λ i. entry_and (with_types-alike a e.0 i) (with_types-alike b e.1 i) (entries_with-alike es e.2 i)

    pub places_with-alike : (x : Assigned T) → PlacesMention (λ x. f x ≡ g x) any_name x → places_with f x ≡ places_with g x
    places_with-alike assigned_end e = refl
    places_with-alike (assigned_and a ps) e = λ i. assigned_and (maybe_with-alike a e.0 i) (places_with-alike ps e.1 i)

    pub range_with-alike : (x : RangeOf T) → RangeMentions (λ x. f x ≡ g x) any_name x → range_with f x ≡ range_with g x
    range_with-alike no_places e = refl
    range_with-alike (defined j k) e = refl
    range_with-alike (assigned a b) e = λ i. assigned (maybe_with-alike a e.0 i) (maybe_with-alike b e.1 i)

    pub stmt_with-alike : (x : StmtOf T) → StmtMentions (λ x. f x ≡ g x) any_name x → stmt_with f x ≡ stmt_with g x
    stmt_with-alike (alone a) e = λ i. alone (with_types-alike a e i)
    stmt_with-alike (define ps es) e = λ i. define ps (exprs_with-alike es e i)
    stmt_with-alike (assign ps es) e = λ i. assign (places_with-alike ps e.0 i) (exprs_with-alike es e.1 i)
    stmt_with-alike (op_assign op a b) e = λ i. op_assign op (with_types-alike a e.0 i) (with_types-alike b e.1 i)
    stmt_with-alike (block ss) e = λ i. block (stmts_with-alike ss e i)
    stmt_with-alike (branch a ss rs) e = λ i. branch (with_types-alike a e.0 i) (stmts_with-alike ss e.1 i) (stmts_with-alike rs e.2 i)
    stmt_with-alike (loop is a ps ss) e = λ i. loop (stmts_with-alike is e.0 i) (maybe_with-alike a e.1 i) (stmts_with-alike ps e.2 i) (stmts_with-alike ss e.3 i)
    stmt_with-alike (ranging ps a ss) e = λ i. ranging (range_with-alike ps e.0 i) (with_types-alike a e.1 i) (stmts_with-alike ss e.2 i)
    stmt_with-alike (switch a cs ss) e = λ i. switch (with_types-alike a e.0 i) (clauses_with-alike cs e.1 i) (maybe_stmts_with-alike ss e.2 i)
    stmt_with-alike (returning es) e = λ i. returning (exprs_with-alike es e i)
    stmt_with-alike breaking e = refl
    stmt_with-alike continuing e = refl

    pub stmts_with-alike : (x : StmtsOf T) → StmtsMention (λ x. f x ≡ g x) any_name x → stmts_with f x ≡ stmts_with g x
    stmts_with-alike stmts_end e = refl
    stmts_with-alike (stmt_and s ss) e = λ i. stmt_and (stmt_with-alike s e.0 i) (stmts_with-alike ss e.1 i)

    pub maybe_stmts_with-alike : (x : MaybeStmts T) → MaybeStmtsMention (λ x. f x ≡ g x) any_name x → maybe_stmts_with f x ≡ maybe_stmts_with g x
    maybe_stmts_with-alike no_stmts e = refl
    maybe_stmts_with-alike (given_stmts ss) e = λ i. given_stmts (stmts_with-alike ss e i)

    pub clause_with-alike : (x : ClauseOf T) → ClauseMentions (λ x. f x ≡ g x) any_name x → clause_with f x ≡ clause_with g x
    clause_with-alike (clause es ss) e = λ i. clause (exprs_with-alike es e.0 i) (stmts_with-alike ss e.1 i)

    pub clauses_with-alike : (x : ClausesOf T) → ClausesMention (λ x. f x ≡ g x) any_name x → clauses_with f x ≡ clauses_with g x
    clauses_with-alike clauses_end e = refl
    clauses_with-alike (clause_and c cs) e = λ i. clause_and (clause_with-alike c e.0 i) (clauses_with-alike cs e.1 i)

    pub body_with-alike : (x : BodyOf T) → BodyMentions (λ x. f x ≡ g x) any_name x → body_with f x ≡ body_with g x
    body_with-alike (body k ls rs ss) e = λ i. body k (list-alike ls e.0 i) (list-alike rs e.1 i) (stmts_with-alike ss e.2 i)
