-- The loops over statements in braces and over clauses, turn by turn.
use Rattle.std.proofs.Common.{◌≡◌, ℕ, zero, suc, Bool, true, false, ◌&&◌, cond, nat_le, List, Option, Some, None, Ok, Err, refl}
use Rattle.ui_scan.specs.declared.kind.TokenKind.TheVariants.{RBrace, Semi, Colon, Case, Default}
use Rattle.ui_grammar.specs.Word.{Word}
use Rattle.ui_tree.specs.Stmt.{Stmt, no_trees, given_trees}
use Rattle.ui_tree.specs.View.{trees}
use Rattle.ui_parse.specs.Reader.{Outcome, Reader, ◌>>=◌, and_then, pure, refuse, first, tail, taken, take_by, marked, expect}
use Rattle.ui_syntax.specs.Types.{Listed}
use Rattle.ui_stmts.specs.Common.{Sized, maybe, exprs}
use Rattle.ui_stmts.specs.Stmts.{NestedStmt, Body, Ended, ended, is_open, open_clause, behind_stmt, one_stmt, body_from, behind_clause_stmt, clause_stmt, default_clause, one_clause_part, clauses_from}
use Rattle.ui_pstmt.specs.Seen.{finished, going}
use Rattle.ui_pstmt.specs.Turns as turns
use Rattle.ui_pstmt.specs.Turns.{after_step, stmt_part, default_part, case_part}

-- ---- a reader, and another with more behind it

then_bind : {A B C : Type 0} (o : Outcome A) (f : A → Reader C) (g : A → Reader B) (h : B → Reader C) → ((a : A) (ws : List Word) → f a ws ≡ and_then (g a ws) h) → and_then o f ≡ and_then (and_then o g) h
then_bind (Ok p) f g h same = same p.0 p.1
then_bind (Err ws) f g h same = refl

then_taken : {A B C : Type 0} (x : Option B) (on : B → Reader C) (other : Reader C) (on' : B → Reader A) (other' : Reader A) (h : A → Reader C) (ws : List Word)
    → ((b : B) (u : List Word) → on b u ≡ and_then (on' b u) h) → other ws ≡ and_then (other' ws) h → taken x on other ws ≡ and_then (taken x on' other' ws) h
then_taken None on other on' other' h ws same others = others
then_taken (Some b) on other on' other' h ws same others = same b (tail ws)

then_cond : {A C : Type 0} (b : Bool) (p q : Reader C) (p' q' : Reader A) (h : A → Reader C) (ws : List Word) → p ws ≡ and_then (p' ws) h → q ws ≡ and_then (q' ws) h → cond b p q ws ≡ and_then (cond b p' q' ws) h
then_cond true p q p' q' h ws on off = on
then_cond false p q p' q' h ws on off = off

module _ (room : ℕ) (inner : NestedStmt) where
  -- ---- statements in braces

  pub body_ends : (l : Listed Stmt) (ws : List Word) → body_from room inner zero l ws ≡ Err ws
  unfolding body_from
  body_ends l ws = refl

  behind_is : (again : Listed Stmt → Reader (Ended room inner)) (l : Listed Stmt) (o : Option (Sized Stmt)) (ws : List Word) → behind_stmt room inner again l o ws ≡ and_then (turns.behind_stmt room inner l o ws) (after_step again)
  unfolding take_by
  behind_is again l None ws = then_taken (first (marked Semi) ws) _ refuse _ refuse (after_step again) ws (λ b u. refl) refl
  behind_is again l (Some s) ws = then_taken (first (marked Semi) ws) _ _ _ _ (after_step again) ws (λ b u. refl)
      (then_bind (expect RBrace ws) _ (λ e. pure (finished (ended room inner (turns.added l s) e))) (after_step again) (λ e u. refl))

  stmt_is : (again : Listed Stmt → Reader (Ended room inner)) (l : Listed Stmt) (ws : List Word) → one_stmt room inner again l ws ≡ and_then (turns.stmt_turn room inner l ws) (after_step again)
  stmt_is again l ws = then_cond (nat_le 1 room) _ refuse _ refuse (after_step again) ws
      (then_bind (maybe inner.stmt ws) (behind_stmt room inner again l) (turns.behind_stmt room inner l) (after_step again) (λ o u. behind_is again l o u)) refl

  pub body_turns : (n : ℕ) (l : Listed Stmt) (ws : List Word) → body_from room inner (suc n) l ws ≡ and_then (turns.body_turn room inner l ws) (after_step (body_from room inner n))
  unfolding body_from take_by
  body_turns n l ws = then_taken (first (marked RBrace) ws) _ _ _ _ (after_step (body_from room inner n)) ws (λ b u. refl) (stmt_is (body_from room inner n) l ws)

  -- ---- clauses

  pub clauses_ends : (b : Body) (ws : List Word) → clauses_from room inner zero b ws ≡ Err ws
  unfolding clauses_from
  clauses_ends b ws = refl

  clause_behind_is : (again : Body → Reader Body) (b : Body) (o : Option (Sized Stmt)) (ws : List Word) → behind_clause_stmt room inner again b o ws ≡ and_then (turns.behind_clause_stmt room inner b o ws) (after_step again)
  unfolding take_by
  clause_behind_is again b None ws = then_taken (first (marked Semi) ws) _ refuse _ refuse (after_step again) ws (λ x u. refl) refl
  clause_behind_is again b (Some s) ws = then_taken (first (marked Semi) ws) _ _ _ _ (after_step again) ws (λ x u. refl)
      (then_bind (expect RBrace ws) _ (λ _. pure (finished (turns.added_in b s))) (after_step again) (λ e u. refl))

  clause_stmt_is : (again : Body → Reader Body) (b : Body) (ws : List Word) → clause_stmt room inner again b ws ≡ and_then (stmt_part room inner b ws) (after_step again)
  unfolding stmt_part
  clause_stmt_is again b ws = then_cond (is_open b.open_one && nat_le 1 room) _ refuse _ refuse (after_step again) ws
      (then_bind (maybe inner.stmt ws) (behind_clause_stmt room inner again b) (turns.behind_clause_stmt room inner b) (after_step again) (λ o u. clause_behind_is again b o u)) refl

  default_is : (again : Body → Reader Body) (b : Body) (ws : List Word) → default_clause room inner again b ws ≡ and_then (default_part room inner b ws) (after_step again)
  unfolding take_by default_part
  default_is again b ws = then_taken (first (marked Default) ws) _ _ _ _ (after_step again) ws
      (λ s u. then_bind (expect Colon u) _ (λ _. pure (going (open_clause b s no_trees 0))) (after_step again) (λ e v. refl)) (clause_stmt_is again b ws)

  case_is : (again : Body → Reader Body) (b : Body) (ws : List Word) → one_clause_part room inner again b ws ≡ and_then (case_part room inner b ws) (after_step again)
  unfolding take_by case_part
  case_is again b ws = then_cond (nat_le 1 room) _ _ _ _ (after_step again) ws
      (then_taken (first (marked Case) ws) _ _ _ _ (after_step again) ws
      (λ s u. then_bind (exprs room false u) _ (λ es. expect Colon >>= (λ _. pure (going (open_clause b s (given_trees (trees es.items)) es.depth)))) (after_step again)
      (λ es v. then_bind (expect Colon v) _ (λ _. pure (going (open_clause b s (given_trees (trees es.items)) es.depth))) (after_step again) (λ e w. refl)))
      (default_is again b ws))
      (default_is again b ws)

  pub clauses_turns : (n : ℕ) (b : Body) (ws : List Word) → clauses_from room inner (suc n) b ws ≡ and_then (turns.clause_turn room inner b ws) (after_step (clauses_from room inner n))
  unfolding clauses_from take_by
  clauses_turns n b ws = then_taken (first (marked RBrace) ws) _ _ _ _ (after_step (clauses_from room inner n)) ws (λ x u. refl) (case_is (clauses_from room inner n) b ws)
