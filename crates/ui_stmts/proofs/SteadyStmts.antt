-- Readers of statements depend on the words up to the next one alone.
use Rattle.std.proofs.Common.{◌≡◌, ℕ, zero, suc, ◌<◌, ◌≤◌, Bool, true, false, List, [], ◌∷◌, length, Option, Some, None, refl, arith}
use Rattle.std.specs.Prelude.{nat_le, ◌&&◌}
use Rattle.ui_base.specs.declared.value.Spot.{Spot}
use Rattle.ui_base.specs.declared.kind.BinOp.{BinOp}
use Rattle.ui_scan.specs.declared.kind.TokenKind.TheVariants.{LParen, RParen, LBrace, RBrace, Comma, Semi, Colon, Assign, Define, Inc, Dec, Range, Case, Default}
use Rattle.ui_tree.specs.declared.part.Placed.{Placed}
use Rattle.ui_tree.specs.Tree.{TypeTree, Tree}
use Rattle.ui_tree.specs.Stmt.{Places, Stmt, increment, decrement}
use Rattle.ui_grammar.specs.Word.{Word}
use Rattle.ui_parse.specs.Reader.{Reader, marked}
use Rattle.ui_parse.proofs.Alike.{suffix_length}
use Rattle.ui_parse.proofs.Steady.{Steady, steady_pure, steady_refuse, steady_bind, steady_if, steady_take, steady_expect, steady_expect_name, steady_chain, steady_parts, bind_same, cond_same, take_same, steady_by_length}
use Rattle.ui_syntax.specs.declared.site.TypeSite.TheVariants as at
use Rattle.ui_syntax.specs.Cover.{Read}
use Rattle.ui_syntax.specs.Types.{Listed, only, any_end, empty}
use Rattle.ui_syntax.proofs.Steady.{readers_steady, expr_steady, type_steady}
use Rattle.ui_stmts.specs.Common.{Sized, exprs, exprs_from, one_expr_more, names, one_more, specs, one_spec_more, values, constant_behind, constant, variable_behind, variable, constant_decl, variable_decl, maybe}
use Rattle.ui_stmts.specs.Simple.{Head, expression, statement, range_over, stated, assigned, defined, or_range, or_defined, defined_by, assignment, op_assigned, define_or, behind_first, head_behind, simple_of, simple, head, maybe_simple, an_assignment, names_in}
use Rattle.ui_stmts.specs.Stmts.{NestedStmt, Ended, Body, behind_stmt, body_from, body, a_body, is_open, behind_clause_stmt, clause_stmt, default_clause, one_clause_part, clauses_from, clauses, no_clauses}
use Rattle.ui_stmts.proofs.ByBudget.{AreStmtsSteady}
use Rattle.ui_stmts.proofs.SteadyParts.{steady_maybe}

-- ---- lists of expressions and of names

pub steady_one_expr_more : (budget : ℕ) (header : Bool) (l : Listed Tree) → Steady (one_expr_more budget header l)
steady_one_expr_more budget header l = steady_bind (expr_steady budget header) (λ x. steady_pure _)

pub steady_exprs_from : (budget : ℕ) (header : Bool) (l : Listed Tree) → Steady (exprs_from budget header l)
steady_exprs_from budget header l = steady_chain Comma (one_expr_more budget header) (steady_one_expr_more budget header) l

pub steady_exprs : (budget : ℕ) (header : Bool) → Steady (exprs budget header)
unfolding exprs
steady_exprs budget header = steady_bind (expr_steady budget header) (λ x. steady_exprs_from budget header _)

pub steady_one_more : (ns : List Placed) → Steady (one_more ns)
steady_one_more ns = steady_bind steady_expect_name (λ p. steady_pure _)

pub steady_names : Steady names
unfolding names
steady_names = steady_bind steady_expect_name (λ p. steady_chain Comma one_more steady_one_more _)

-- ---- constants and variables

pub steady_specs : {S : Type 0} {spec : Reader (Sized S)} → Steady spec → Steady (specs spec)
unfolding specs
steady_specs {spec = spec} spec_is = steady_take (marked LParen) (λ _. steady_bind (steady_parts Semi RParen any_end (one_spec_more spec) (λ l. steady_bind spec_is (λ s. steady_pure _)) empty) (λ l. steady_pure _)) (steady_bind spec_is (λ s. steady_pure _))

steady_values : (budget : ℕ) (ns : List Placed) (t : Option (Read TypeTree)) → Steady (values budget ns t)
steady_values budget ns t = steady_bind (steady_exprs budget false) (λ es. steady_pure _)

steady_constant_behind : (budget : ℕ) (ns : List Placed) (t : Option (Read TypeTree)) → Steady (constant_behind budget ns t)
steady_constant_behind budget ns None = steady_pure _
steady_constant_behind budget ns (Some t) = steady_bind (steady_expect Assign) (λ _. steady_values budget ns (Some t))

pub steady_constant : (budget : ℕ) → Steady (constant budget)
unfolding constant
steady_constant budget = steady_bind steady_names
    (λ ns. steady_if _ (steady_take (marked Assign) (λ _. steady_values budget ns None) (steady_bind ((readers_steady budget).maybe_type at.Plain) (steady_constant_behind budget ns))) (steady_pure _))

steady_variable_behind : (budget : ℕ) (ns : List Placed) → Steady (variable_behind budget ns)
steady_variable_behind budget ns = steady_take (marked Assign) (λ _. steady_values budget ns None)
    (steady_bind (type_steady budget) (λ t. steady_take (marked Assign) (λ _. steady_values budget ns (Some t)) (steady_pure _)))

pub steady_variable : (budget : ℕ) → Steady (variable budget)
unfolding variable
steady_variable budget = steady_if _ (steady_bind steady_names (steady_variable_behind budget)) steady_refuse

pub steady_constant_decl : (budget : ℕ) (s : Spot) → Steady (constant_decl budget s)
unfolding constant_decl
steady_constant_decl budget s = steady_bind (steady_specs (steady_constant budget)) (λ vs. steady_pure _)

pub steady_variable_decl : (budget : ℕ) (s : Spot) → Steady (variable_decl budget s)
unfolding variable_decl
steady_variable_decl budget s = steady_bind (steady_specs (steady_variable budget)) (λ vs. steady_pure _)

-- ---- simple statements and headers

module _ (room : ℕ) (header range : Bool) where
  steady_assigned : (s : Spot) (l : Listed Tree) → Steady (assigned room header range s l)
  steady_assigned s l = steady_bind (steady_exprs room header) (λ r. steady_pure _)

  steady_defined : (s : Spot) (ns : List Placed) → Steady (defined room header range s ns)
  steady_defined s ns = steady_bind (steady_exprs room header) (λ r. steady_pure _)

  steady_or_range : (ps : Places) (k : ℕ) {other : Reader Head} → Steady other → Steady (or_range room header range ps k other)
  steady_or_range ps k other_is = steady_if range (steady_take (marked Range) (λ _. steady_pure _) other_is) other_is

  steady_or_defined : (l : Listed Tree) {other : Reader Head} → Steady other → Steady (or_defined room header range l other)
  steady_or_defined l other_is = steady_if range (steady_take (marked Define) (λ _. steady_bind (steady_expect Range) (λ _. steady_pure _)) other_is) other_is

  steady_defined_by : (s : Spot) (l : Listed Tree) (ns : Option (List Placed)) → Steady (defined_by room header range s l ns)
  steady_defined_by s l None = steady_or_defined l steady_refuse
  steady_defined_by s l (Some ns) = steady_take (marked Define) (λ _. steady_or_range _ _ (steady_defined s ns)) steady_refuse

  steady_assignment : (s : Spot) (l : Listed Tree) → Steady (assignment room header range s l)
  steady_assignment s l = steady_take (marked Assign) (λ _. steady_or_range _ _ (steady_assigned s l)) (steady_defined_by s l (names_in l.items))

  steady_op_assigned : (x : Read Tree) (o : BinOp) → Steady (op_assigned room header range x o)
  steady_op_assigned x o = steady_bind (expr_steady room header) (λ r. steady_pure _)

  steady_define_or : (x : Read Tree) (ns : Option (List Placed)) → Steady (define_or room header range x ns)
  steady_define_or x None = steady_or_defined (only x.tree x.depth) (steady_pure (expression x))
  steady_define_or x (Some ns) = steady_take (marked Define) (λ _. steady_or_range _ _ (steady_defined x.spot ns)) (steady_pure _)

  steady_behind_first : (x : Read Tree) → Steady (behind_first room header range x)
  steady_behind_first x =
      steady_take (marked Comma) (λ _. steady_bind (expr_steady room header) (λ y. steady_bind (steady_exprs_from room header _) (λ l. steady_assignment x.spot l)))
      (steady_take (marked Assign) (λ _. steady_or_range _ _ (steady_assigned x.spot (only x.tree x.depth)))
      (steady_take an_assignment (λ o. steady_op_assigned x o) (steady_take (marked Inc) (λ _. steady_pure (stated (increment x.spot x.tree) x.depth)) (steady_take (marked Dec) (λ _. steady_pure (stated (decrement x.spot x.tree) x.depth)) (steady_define_or x (names_in (x.tree ∷ [])))))))

  pub steady_head_behind : (x : Read Tree) → Steady (head_behind room header range x)
  unfolding head_behind
  steady_head_behind x = steady_if _ (steady_behind_first x) (steady_pure _)

steady_simple_of : (h : Head) → Steady (simple_of h)
steady_simple_of (expression x) = steady_pure _
steady_simple_of (statement s) = steady_pure _
steady_simple_of (range_over ps) = steady_refuse

pub steady_simple : (room : ℕ) (header : Bool) → Steady (simple room header)
unfolding simple
steady_simple room header = steady_bind (expr_steady room header) (λ x. steady_bind (steady_head_behind room header false x) steady_simple_of)

pub steady_head : (room : ℕ) (range : Bool) → Steady (head room range)
unfolding head
steady_head zero range = steady_refuse
steady_head (suc room) range = steady_bind (expr_steady (suc room) true) (λ x. steady_head_behind room true range x)

pub steady_maybe_simple : (room : ℕ) → Steady (maybe_simple room)
unfolding maybe_simple
steady_maybe_simple zero = steady_pure _
steady_maybe_simple (suc room) = steady_maybe (steady_simple room true)

-- ---- statements in braces

module _ (room : ℕ) (inner : NestedStmt) (is : AreStmtsSteady inner) where
  steady_behind_stmt : (again : Listed Stmt → Reader (Ended room inner)) → ((l : Listed Stmt) → Steady (again l)) → (l : Listed Stmt) (x : Option (Sized Stmt)) → Steady (behind_stmt room inner again l x)
  steady_behind_stmt again again_is l None = steady_take (marked Semi) (λ _. again_is _) steady_refuse
  steady_behind_stmt again again_is l (Some s) = steady_take (marked Semi) (λ _. again_is _) (steady_bind (steady_expect RBrace) (λ e. steady_pure _))

  steady_body_from : (n : ℕ) (l : Listed Stmt) → Steady (body_from room inner n l)
  unfolding body_from
  steady_body_from zero l = steady_refuse
  steady_body_from (suc n) l = steady_take (marked RBrace) (λ e. steady_pure _) (steady_if _ (steady_bind (steady_maybe is.stmt) (steady_behind_stmt (body_from room inner n) (steady_body_from n) l)) steady_refuse)

  behind_stmt_same : (again again' : Listed Stmt → Reader (Ended room inner)) (l : Listed Stmt) (x : Option (Sized Stmt)) (ws : List Word) → ((l2 : Listed Stmt) (rest : List Word) → length rest < length ws → again l2 rest ≡ again' l2 rest)
      → behind_stmt room inner again l x ws ≡ behind_stmt room inner again' l x ws
  behind_stmt_same again again' l None ws same = take_same (marked Semi) _ _ _ _ ws (λ _. same _) refl
  behind_stmt_same again again' l (Some s) ws same = take_same (marked Semi) _ _ _ _ ws (λ _. same _) refl

  pub body_fuel : (n m : ℕ) (l : Listed Stmt) (ws : List Word) → length ws < n → length ws < m → body_from room inner n l ws ≡ body_from room inner m l ws
  unfolding body_from
  body_fuel zero m l ws lt lt' = absurd (omega arith)
  body_fuel (suc n) zero l ws lt lt' = absurd (omega arith)
  body_fuel (suc n) (suc m) l ws lt lt' = take_same (marked RBrace) _ _ _ _ ws (λ _ rest _. refl)
      (cond_same (nat_le 1 room) _ _ _ _ ws
      (bind_same ws (maybe inner.stmt ws) (behind_stmt room inner (body_from room inner n) l) (behind_stmt room inner (body_from room inner m) l) ((steady_maybe is.stmt).ends ws)
      (λ x r sfx. behind_stmt_same (body_from room inner n) (body_from room inner m) l x r (λ l2 rest less. body_fuel n m l2 rest (omega (arith, suffix_length ws r sfx)) (omega (arith, suffix_length ws r sfx)))))
      refl)

  pub steady_body : (s : Spot) → Steady (body room inner s)
  unfolding body
  steady_body s = steady_bind (steady_by_length (λ n. body_from room inner n empty) (λ n. steady_body_from n empty) (λ n m ws. body_fuel n m empty ws)) (λ b. steady_pure _)

  pub steady_a_body : Steady (a_body room inner)
  unfolding a_body
  steady_a_body = steady_bind (steady_expect LBrace) steady_body

  -- ---- clauses

  steady_behind_clause_stmt : (again : Body → Reader Body) → ((b : Body) → Steady (again b)) → (b : Body) (x : Option (Sized Stmt)) → Steady (behind_clause_stmt room inner again b x)
  steady_behind_clause_stmt again again_is b None = steady_take (marked Semi) (λ _. again_is _) steady_refuse
  steady_behind_clause_stmt again again_is b (Some s) = steady_take (marked Semi) (λ _. again_is _) (steady_bind (steady_expect RBrace) (λ e. steady_pure _))

  module _ (again : Body → Reader Body) (again_is : (b : Body) → Steady (again b)) where
    steady_clause_stmt : (b : Body) → Steady (clause_stmt room inner again b)
    steady_clause_stmt b = steady_if _ (steady_bind (steady_maybe is.stmt) (steady_behind_clause_stmt again again_is b)) steady_refuse

    steady_default_clause : (b : Body) → Steady (default_clause room inner again b)
    steady_default_clause b = steady_take (marked Default) (λ s. steady_bind (steady_expect Colon) (λ _. again_is _)) (steady_clause_stmt b)

    steady_one_clause_part : (b : Body) → Steady (one_clause_part room inner again b)
    steady_one_clause_part b = steady_if _ (steady_take (marked Case) (λ s. steady_bind (steady_exprs room false) (λ es. steady_bind (steady_expect Colon) (λ _. again_is _))) (steady_default_clause b)) (steady_default_clause b)

  steady_clauses_from : (n : ℕ) (b : Body) → Steady (clauses_from room inner n b)
  unfolding clauses_from
  steady_clauses_from zero b = steady_refuse
  steady_clauses_from (suc n) b = steady_take (marked RBrace) (λ _. steady_pure _) (steady_one_clause_part (clauses_from room inner n) (steady_clauses_from n) b)

  module _ (again again' : Body → Reader Body) (ws : List Word) (same : (b : Body) (rest : List Word) → length rest < length ws → again b rest ≡ again' b rest) where
    behind_clause_stmt_same : (b : Body) (x : Option (Sized Stmt)) (r : List Word) → length r ≤ length ws → behind_clause_stmt room inner again b x r ≡ behind_clause_stmt room inner again' b x r
    behind_clause_stmt_same b None r le = take_same (marked Semi) _ _ _ _ r (λ _ rest less. same _ rest (omega arith)) refl
    behind_clause_stmt_same b (Some s) r le = take_same (marked Semi) _ _ _ _ r (λ _ rest less. same _ rest (omega arith)) refl

    clause_stmt_same : (b : Body) → clause_stmt room inner again b ws ≡ clause_stmt room inner again' b ws
    clause_stmt_same b = cond_same (is_open b.open_one && nat_le 1 room) _ _ _ _ ws
        (bind_same ws (maybe inner.stmt ws) (behind_clause_stmt room inner again b) (behind_clause_stmt room inner again' b) ((steady_maybe is.stmt).ends ws) (λ x r sfx. behind_clause_stmt_same b x r (suffix_length ws r sfx)))
        refl

    default_clause_same : (b : Body) → default_clause room inner again b ws ≡ default_clause room inner again' b ws
    default_clause_same b = take_same (marked Default) _ _ _ _ ws
        (λ s rest less. bind_same rest _ _ _ ((steady_expect Colon).ends rest) (λ _ r sfx. same _ r (omega (arith, suffix_length rest r sfx))))
        (clause_stmt_same b)

    one_clause_part_same : (b : Body) → one_clause_part room inner again b ws ≡ one_clause_part room inner again' b ws
    one_clause_part_same b = cond_same (nat_le 1 room) _ _ _ _ ws
        (take_same (marked Case) _ _ _ _ ws
        (λ s rest less. bind_same rest _ _ _ ((steady_exprs room false).ends rest)
        (λ es r sfx. bind_same r _ _ _ ((steady_expect Colon).ends r) (λ _ r2 sfx2. same _ r2 (omega (arith, suffix_length rest r sfx, suffix_length r r2 sfx2)))))
        (default_clause_same b))
        (default_clause_same b)

  pub clauses_fuel : (n m : ℕ) (b : Body) (ws : List Word) → length ws < n → length ws < m → clauses_from room inner n b ws ≡ clauses_from room inner m b ws
  unfolding clauses_from
  clauses_fuel zero m b ws lt lt' = absurd (omega arith)
  clauses_fuel (suc n) zero b ws lt lt' = absurd (omega arith)
  clauses_fuel (suc n) (suc m) b ws lt lt' = take_same (marked RBrace) _ _ _ _ ws (λ _ rest _. refl)
      (one_clause_part_same (clauses_from room inner n) (clauses_from room inner m) ws (λ b2 rest less. clauses_fuel n m b2 rest (omega arith) (omega arith)) b)

  pub steady_clauses : Steady (clauses room inner)
  unfolding clauses
  steady_clauses = steady_bind (steady_by_length (λ n. clauses_from room inner n no_clauses) (λ n. steady_clauses_from n no_clauses) (λ n m ws. clauses_fuel n m no_clauses ws)) (λ b. steady_pure _)
