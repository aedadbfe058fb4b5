-- The clauses of a switch, as they are read one after the other.
use Rattle.std.proofs.Common.{◌≡◌, ℕ, max, true, List, [], ◌∷◌, ◌++◌, Option, Some, None, refl, sym, ap, ◌∙◌, append_assoc, arith}
use Rattle.std.proofs.lemmas.List.{append-nil}
use Rattle.ui_base.specs.declared.value.Spot.{Spot}
use Rattle.ui_tree.specs.Stmt.{MaybeTrees, Stmt, Stmts, stmts_end, stmt_and, Clauses, clauses_end, clause_and}
use Rattle.ui_tree.specs.StmtView.{stmts}
use Rattle.ui_grammar.specs.Statement.{stmt_depth, stmts_depth, maybe_trees_depth, clauses_depth}
use Rattle.ui_stmts.specs.Stmts.{Open, Body, no_clauses, with_open, clauses_of, open_clause, into_open, add_stmt, is_open}
use Rattle.ui_stmts.proofs.CompleteBody.{stmt_list, stmts_of_list}

-- what statements and clauses make of a body
abbrev pub with_stmts : Body → Stmts → Body
with_stmts b stmts_end = b
with_stmts b (stmt_and s ss) = with_stmts (add_stmt b s (stmt_depth s)) ss

abbrev pub with_clauses : Body → Clauses → Body
with_clauses b clauses_end = b
with_clauses b (clause_and s es ss cs) = with_clauses (with_stmts (open_clause b s es (maybe_trees_depth es)) ss) cs

pub still_open : (o : Option Open) (s : Stmt) → is_open o ≡ true → is_open (into_open o s) ≡ true
still_open None s e = absurd cc
still_open (Some c) s e = refl

-- ---- the clauses of a body

abbrev clauses_in : Body → List Open
clauses_in b = with_open b.closed b.open_one

abbrev an_open : Spot → MaybeTrees → List Stmt → Open
an_open x vs items = record { spot = x; values = vs; stmts = record { items = items; depth = 0 } }

abbrev opened : List Open → Open → ℕ → Body
opened closed c d = record { closed = closed; open_one = Some c; depth = d }

same_opened : (closed : List Open) (x : Spot) (vs : MaybeTrees) (xs ys : List Stmt) (j k : ℕ) → xs ≡ ys → j ≡ k → opened closed (an_open x vs xs) j ≡ opened closed (an_open x vs ys) k
same_opened closed x vs xs ys j k e d = rw (e, d) refl

stmts_are : (ss : Stmts) (closed : List Open) (x : Spot) (vs : MaybeTrees) (items : List Stmt) (d : ℕ) → with_stmts (opened closed (an_open x vs items) d) ss ≡ opened closed (an_open x vs (items ++ stmt_list ss)) (max d (stmts_depth ss))
stmts_are stmts_end closed x vs items d = same_opened closed x vs items (items ++ []) d (max d 0) (sym (append-nil items)) (omega arith)
stmts_are (stmt_and s ss) closed x vs items d =
    stmts_are ss closed x vs (items ++ (s ∷ [])) (max d (stmt_depth s))
    ∙ same_opened closed x vs (items ++ (s ∷ []) ++ stmt_list ss) (items ++ (s ∷ stmt_list ss)) (max (max d (stmt_depth s)) (stmts_depth ss)) (max d (max (stmt_depth s) (stmts_depth ss))) (append_assoc items (s ∷ []) (stmt_list ss)) (omega arith)

-- clauses before others
abbrev before : List Open → Clauses → Clauses
before [] cs = cs
before (c ∷ l) cs = clause_and c.spot c.values (stmts c.stmts.items) (before l cs)

before_none : (l : List Open) → clauses_of l ≡ before l clauses_end
before_none [] = refl
before_none (c ∷ l) = ap (clause_and c.spot c.values (stmts c.stmts.items)) (before_none l)

before_one : (l : List Open) (c : Open) (cs : Clauses) → before (l ++ (c ∷ [])) cs ≡ before l (clause_and c.spot c.values (stmts c.stmts.items) cs)
before_one [] c cs = refl
before_one (o ∷ l) c cs = ap (clause_and o.spot o.values (stmts o.stmts.items)) (before_one l c cs)

one_clause : (b : Body) (s : Spot) (es : MaybeTrees) (ss : Stmts) → with_stmts (open_clause b s es (maybe_trees_depth es)) ss ≡ opened (clauses_in b) (an_open s es (stmt_list ss)) (max (max b.depth (maybe_trees_depth es)) (stmts_depth ss))
one_clause b s es ss = stmts_are ss (clauses_in b) s es [] (max b.depth (maybe_trees_depth es))

clauses_are : (cs : Clauses) (b : Body) → clauses_of (clauses_in (with_clauses b cs)) ≡ before (clauses_in b) cs
clauses_are clauses_end b = before_none (clauses_in b)
clauses_are (clause_and s es ss cs) b =
    clauses_are cs (with_stmts (open_clause b s es (maybe_trees_depth es)) ss)
    ∙ ap (λ (v : Body). before (clauses_in v) cs) (one_clause b s es ss)
    ∙ before_one (clauses_in b) (an_open s es (stmt_list ss)) cs
    ∙ ap (λ (v : Stmts). before (clauses_in b) (clause_and s es v cs)) (stmts_of_list ss)

depth_is : (cs : Clauses) (b : Body) → (with_clauses b cs).depth ≡ max b.depth (clauses_depth cs)
depth_is clauses_end b = omega arith
depth_is (clause_and s es ss cs) b =
    depth_is cs (with_stmts (open_clause b s es (maybe_trees_depth es)) ss)
    ∙ ap (λ (v : Body). max v.depth (clauses_depth cs)) (one_clause b s es ss)
    ∙ assoc b.depth (maybe_trees_depth es) (stmts_depth ss) (clauses_depth cs)
  where
    assoc : (a b c d : ℕ) → max (max (max a b) c) d ≡ max a (max (max b c) d)
    assoc a b c d = omega arith

-- all of them
pub all_clauses : (cs : Clauses) → clauses_of (clauses_in (with_clauses no_clauses cs)) ≡ cs
all_clauses cs = clauses_are cs no_clauses

pub all_depth : (cs : Clauses) → (with_clauses no_clauses cs).depth ≡ clauses_depth cs
all_depth cs = depth_is cs no_clauses ∙ zero_max (clauses_depth cs)
  where
    zero_max : (k : ℕ) → max 0 k ≡ k
    zero_max k = omega arith
