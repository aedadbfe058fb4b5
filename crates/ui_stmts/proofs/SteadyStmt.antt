-- Each reader of statements depends on the words up to the next one alone.
use Rattle.std.proofs.Common.{ℕ, zero, suc, true, false, Option, Some, None}
use Rattle.ui_base.specs.declared.value.Spot.{Spot}
use Rattle.ui_scan.specs.declared.kind.TokenKind.TheVariants.{LBrace, Semi, Const, Var, Return, Break, Continue, If, Else, For, Range, Switch}
use Rattle.ui_tree.specs.Tree.{Tree}
use Rattle.ui_tree.specs.Stmt.{Places, Stmt, MaybeStmt, no_stmt}
use Rattle.ui_parse.specs.Reader.{marked}
use Rattle.ui_parse.proofs.Steady.{Steady, steady_pure, steady_refuse, steady_bind, steady_if, steady_take, steady_expect}
use Rattle.ui_syntax.specs.Cover.{Read}
use Rattle.ui_syntax.proofs.Steady.{expr_steady}
use Rattle.ui_stmts.specs.Common.{Sized}
use Rattle.ui_stmts.specs.Simple.{Head, expression, statement, range_over}
use Rattle.ui_stmts.specs.Stmts.{NestedStmt, Init, no_init, branch_of, other_block, other_branch, branches, condition, branch_behind, branch_stmt, counted, ranged, while_of, for_behind, for_header, for_stmt, switch_of, tagged, switch_behind, maybe_head, switch_stmt, plain_stmt, block_stmt, stmt, no_stmts, next_stmt, stmt_readers}
use Rattle.ui_stmts.proofs.ByBudget.{AreStmtsSteady}
use Rattle.ui_stmts.proofs.SteadyParts.{steady_maybe}
use Rattle.ui_stmts.proofs.SteadyStmts.{steady_exprs, steady_constant_decl, steady_variable_decl, steady_simple, steady_head, steady_maybe_simple, steady_body, steady_a_body, steady_clauses}

module _ (room : ℕ) (inner : NestedStmt) (is : AreStmtsSteady inner) where
  -- ---- if

  steady_other_block : (make : MaybeStmt → ℕ → Sized Stmt) → Steady (other_block room inner make)
  steady_other_block make = steady_bind (steady_expect LBrace) (λ s. steady_bind (is.block s) (λ o. steady_pure _))

  steady_other_branch : (make : MaybeStmt → ℕ → Sized Stmt) → Steady (other_branch room inner make)
  steady_other_branch make = steady_if _ (steady_take (marked If) (λ s. steady_bind (is.branch s) (λ o. steady_pure _)) (steady_other_block make)) (steady_other_block make)

  steady_branches : (s : Spot) (i : Init room inner) (c : Read Tree) → Steady (branches room inner s i c)
  steady_branches s i c = steady_bind (steady_a_body room inner is) (λ b. steady_take (marked Else) (λ _. steady_other_branch (branch_of room inner s i c b)) (steady_pure (branch_of room inner s i c b no_stmt 0)))

  steady_condition : (s : Spot) (i : Init room inner) → Steady (condition room inner s i)
  steady_condition s i = steady_bind (expr_steady room true) (λ c. steady_branches s i c)

  steady_branch_behind : (s : Spot) (h : Head) → Steady (branch_behind room inner s h)
  steady_branch_behind s (expression x) = steady_if _ (steady_take (marked Semi) (λ _. steady_condition s _) (steady_branches s _ x)) (steady_branches s _ x)
  steady_branch_behind s (statement st) = steady_bind (steady_expect Semi) (λ _. steady_condition s _)
  steady_branch_behind s (range_over ps) = steady_refuse

  pub steady_branch_stmt : (s : Spot) → Steady (branch_stmt room inner s)
  unfolding branch_stmt
  steady_branch_stmt s = steady_take (marked Semi) (λ _. steady_condition s _) (steady_bind (steady_head room false) (λ h. steady_branch_behind s h))

  -- ---- for

  steady_counted : (s : Spot) (i : Sized Stmt) → Steady (counted room inner s i)
  unfolding counted
  steady_counted s i = steady_bind (steady_maybe (expr_steady room true)) (λ c. steady_bind (steady_expect Semi) (λ _. steady_bind (steady_maybe_simple room) (λ p. steady_bind (steady_a_body room inner is) (λ b. steady_pure _))))

  steady_ranged : (s : Spot) (ps : Sized Places) → Steady (ranged room inner s ps)
  unfolding ranged
  steady_ranged s ps = steady_bind (expr_steady room true) (λ e. steady_bind (steady_a_body room inner is) (λ b. steady_pure _))

  steady_while_of : (s : Spot) (x : Read Tree) → Steady (while_of room inner s x)
  steady_while_of s x = steady_bind (steady_a_body room inner is) (λ b. steady_pure _)

  steady_for_behind : (s : Spot) (h : Head) → Steady (for_behind room inner s h)
  steady_for_behind s (expression x) = steady_if _ (steady_take (marked Semi) (λ _. steady_counted s _) (steady_while_of s x)) (steady_while_of s x)
  steady_for_behind s (statement st) = steady_bind (steady_expect Semi) (λ _. steady_counted s st)
  steady_for_behind s (range_over ps) = steady_ranged s ps

  steady_for_header : (s : Spot) → Steady (for_header room inner s)
  steady_for_header s = steady_take (marked Range) (λ _. steady_ranged s _) (steady_take (marked Semi) (λ _. steady_counted s _) (steady_bind (steady_head room true) (λ h. steady_for_behind s h)))

  pub steady_for_stmt : (s : Spot) → Steady (for_stmt room inner s)
  unfolding for_stmt
  steady_for_stmt s = steady_take (marked LBrace) (λ o. steady_bind (steady_body room inner is o) (λ b. steady_pure _)) (steady_if _ (steady_for_header s) steady_refuse)

  -- ---- switch

  steady_switch_of : (s : Spot) (i : Init room inner) (c : Option (Read Tree)) → Steady (switch_of room inner s i c)
  steady_switch_of s i c = steady_bind (steady_expect LBrace) (λ _. steady_bind (steady_clauses room inner is) (λ cs. steady_pure _))

  steady_tagged : (s : Spot) (i : Init room inner) → Steady (tagged room inner s i)
  steady_tagged s i = steady_bind (steady_maybe (expr_steady room true)) (λ c. steady_switch_of s i c)

  steady_switch_behind : (s : Spot) (h : Head) → Steady (switch_behind room inner s h)
  steady_switch_behind s (expression x) = steady_if _ (steady_take (marked Semi) (λ _. steady_tagged s _) (steady_switch_of s (no_init room inner) (Some x))) (steady_switch_of s (no_init room inner) (Some x))
  steady_switch_behind s (statement st) = steady_bind (steady_expect Semi) (λ _. steady_tagged s _)
  steady_switch_behind s (range_over ps) = steady_refuse

  steady_maybe_head : (h : Option Head) (s : Spot) → Steady (maybe_head room inner h s)
  steady_maybe_head None s = steady_switch_of s (no_init room inner) None
  steady_maybe_head (Some h) s = steady_switch_behind s h

  pub steady_switch_stmt : (s : Spot) → Steady (switch_stmt room inner s)
  unfolding switch_stmt
  steady_switch_stmt s = steady_if _ (steady_take (marked Semi) (λ _. steady_tagged s _) (steady_bind (steady_maybe (steady_head room false)) (λ h. steady_maybe_head h s))) (steady_switch_of s (no_init room inner) None)

  -- ---- statements

  steady_plain_stmt : Steady (plain_stmt room inner)
  steady_plain_stmt = steady_take (marked Return) (λ s. steady_bind (steady_maybe (steady_exprs room false)) (λ es. steady_pure _))
      (steady_take (marked Break) (λ s. steady_pure _) (steady_take (marked Continue) (λ s. steady_pure _)
      (steady_take (marked For) (λ s. steady_for_stmt s) (steady_take (marked Switch) (λ s. steady_switch_stmt s) (steady_take (marked Const) (λ s. steady_bind (steady_constant_decl room s) (λ c. steady_pure _)) (steady_simple room false))))))

  pub steady_block_stmt : (s : Spot) → Steady (block_stmt room inner s)
  unfolding block_stmt
  steady_block_stmt s = steady_bind (steady_body room inner is s) (λ b. steady_pure _)

  pub steady_stmt : Steady (stmt room inner)
  unfolding stmt
  steady_stmt = steady_take (marked LBrace) (λ s. steady_block_stmt s)
      (steady_take (marked Var) (λ s. steady_bind (steady_variable_decl room s) (λ c. steady_pure _)) (steady_if _ (steady_take (marked If) (λ s. steady_branch_stmt s) steady_plain_stmt) steady_plain_stmt))

  pub next_stmts_steady : AreStmtsSteady (next_stmt room inner)
  next_stmts_steady = record { stmt = steady_stmt; branch = steady_branch_stmt; block = steady_block_stmt }

no_stmts_steady : AreStmtsSteady no_stmts
no_stmts_steady = record { stmt = steady_refuse; branch = λ s. steady_refuse; block = λ s. steady_refuse }

pub stmts_steady : (d : ℕ) → AreStmtsSteady (stmt_readers d)
unfolding stmt_readers
stmts_steady zero = no_stmts_steady
stmts_steady (suc d) = next_stmts_steady d (stmt_readers d) (stmts_steady d)
