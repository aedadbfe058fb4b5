-- Statements in braces, and the clauses of a switch, within enough.
use Rattle.std.proofs.Common.{◌≡◌, ℕ, zero, suc, ◌-◌, Bool, true, false, cond, List, length, Option, Some, None, refl, sym, ap, ◌∙◌, arith}
use Rattle.std.specs.Prelude.{◌&&◌, nat_le, if◌then◌else◌}
use Rattle.ui_base.specs.declared.value.Spot.{Spot}
use Rattle.ui_scan.specs.declared.kind.TokenKind.TheVariants.{LBrace, RBrace, Semi, Colon, Case, Default}
use Rattle.ui_tree.specs.Stmt.{Stmt, empty as no_words, Braces, braces}
use Rattle.ui_tree.specs.StmtView.{stmts}
use Rattle.ui_grammar.specs.Word.{Word}
use Rattle.ui_parse.specs.Reader.{Outcome, Reader, and_then, ◌>>=◌, pure, refuse, take_by, marked, expect}
use Rattle.ui_parse.proofs.Steady.{steady_expect}
use Rattle.ui_syntax.specs.Types.{Listed, add, empty}
use Rattle.ui_stmts.specs.Common.{Sized, sized, maybe}
use Rattle.ui_stmts.specs.Stmts.{NestedStmt, Ended, Body, no_clauses, behind_stmt, body_from, body, a_body, is_open, behind_clause_stmt, clause_stmt, default_clause, one_clause_part, clauses_from, clauses, stmt_readers}
use Rattle.ui_depth.proofs.DeepParams.{then_take, take_each, then_each, then_then}
use Rattle.ui_depth.proofs.Settled.{Settled, settled_as, settled_same, settled_pure, settled_refuse, settled_bind, settled_agree, settled_room, settled_take, settled_maybe}
use Rattle.ui_depth.proofs.Syntax.{Wide, one_room, other_room}
use Rattle.ui_depth.proofs.Values.{exprs_settled}

-- The readers of statements of two budgets read the same; behind `if` and `{` there is a word fewer.
pub record AreSettled (n d e : ℕ) : Type 0 where
  pub stmt : Settled n (stmt_readers d).stmt (stmt_readers e).stmt
  pub branch : (s : Spot) → Settled (n - 1) ((stmt_readers d).branch s) ((stmt_readers e).branch s)
  pub block : (s : Spot) → Settled (n - 1) ((stmt_readers d).block s) ((stmt_readers e).block s)

-- ---- statements in braces as pairs, whatever the budget

abbrev Pair : Type 0
Pair = Listed Stmt × Spot

abbrev pair_behind : (Listed Stmt → Reader Pair) → Listed Stmt → Option (Sized Stmt) → Reader Pair
pair_behind again l None = take_by (marked Semi) (λ _. again (add l no_words 1)) refuse
pair_behind again l (Some s) = take_by (marked Semi) (λ _. again (add l s.of s.depth)) (expect RBrace >>= (λ e. pure (add l s.of s.depth, e)))

then_cond : {A B : Type 0} (b : Bool) (p : Reader A) (q : Reader B) (f : A → Reader B) (ws : List Word) → and_then (p ws) f ≡ q ws → and_then (cond b p refuse ws) f ≡ cond b q refuse ws
then_cond true p q f ws e = e
then_cond false p q f ws e = refl

module _ (room : ℕ) (inner : NestedStmt) where
  pairs_from : ℕ → Listed Stmt → Reader Pair
  pairs_from zero l = refuse
  pairs_from (suc n) l = take_by (marked RBrace) (λ e. pure (l, e)) (if nat_le 1 room then (maybe inner.stmt >>= pair_behind (pairs_from n) l) else refuse)

  to_pair : Ended room inner → Reader Pair
  to_pair b = pure (b.all, b.close)

  behind_pair : (again : Listed Stmt → Reader (Ended room inner)) (pairs : Listed Stmt → Reader Pair) → ((l : Listed Stmt) (ws : List Word) → and_then (again l ws) to_pair ≡ pairs l ws)
      → (l : Listed Stmt) (x : Option (Sized Stmt)) (ws : List Word) → and_then (behind_stmt room inner again l x ws) to_pair ≡ pair_behind pairs l x ws
  unfolding to_pair
  behind_pair again pairs same l None ws = then_take (marked Semi) _ refuse to_pair ws ∙ take_each (marked Semi) _ _ _ _ ws (λ _ u. same _ u) refl
  behind_pair again pairs same l (Some s) ws = then_take (marked Semi) _ _ to_pair ws ∙ take_each (marked Semi) _ _ _ _ ws (λ _ u. same _ u) (then_then (expect RBrace ws) _ to_pair)

  pairs_same : (n : ℕ) (l : Listed Stmt) (ws : List Word) → and_then (body_from room inner n l ws) to_pair ≡ pairs_from n l ws
  unfolding body_from pairs_from to_pair
  pairs_same zero l ws = refl
  pairs_same (suc n) l ws = then_take (marked RBrace) _ _ to_pair ws
      ∙ take_each (marked RBrace) _ _ _ _ ws (λ e u. refl)
      (then_cond (nat_le 1 room) (maybe inner.stmt >>= behind_stmt room inner (body_from room inner n) l) (maybe inner.stmt >>= pair_behind (pairs_from n) l) to_pair ws
      (then_then (maybe inner.stmt ws) _ to_pair ∙ then_each (maybe inner.stmt ws) _ _ (λ x u. behind_pair (body_from room inner n) (pairs_from n) (pairs_same n) l x u)))

  all_pairs : Reader Pair
  all_pairs ws = pairs_from (suc (length ws)) empty ws

  body_of : Spot → Pair → Reader (Sized Braces)
  body_of s p = pure (sized (braces s (stmts p.0.items) p.1) p.0.depth)

  body_is : (s : Spot) (ws : List Word) → body room inner s ws ≡ and_then (all_pairs ws) (body_of s)
  unfolding body all_pairs body_of to_pair
  body_is s ws = sym (then_then (body_from room inner (suc (length ws)) empty ws) to_pair (body_of s)) ∙ ap (λ (o : Outcome Pair). and_then o (body_of s)) (pairs_same (suc (length ws)) empty ws)

module _ {n d e : ℕ} (wide : Wide n d e) (is : AreSettled n d e) where
  pair_behind_settled : (again again' : Listed Stmt → Reader Pair) → ((l : Listed Stmt) → Settled n (again l) (again' l)) → (l : Listed Stmt) (x : Option (Sized Stmt)) → Settled n (pair_behind again l x) (pair_behind again' l x)
  pair_behind_settled again again' same l None = settled_take (marked Semi) (λ _. same _) settled_refuse
  pair_behind_settled again again' same l (Some s) = settled_take (marked Semi) (λ _. same _) (settled_bind (settled_same (steady_expect RBrace)) (λ x. settled_pure _))

  pairs_settled : (k : ℕ) (l : Listed Stmt) → Settled n (pairs_from d (stmt_readers d) k l) (pairs_from e (stmt_readers e) k l)
  unfolding pairs_from
  pairs_settled zero l = settled_refuse
  pairs_settled (suc k) l = settled_take (marked RBrace) (λ x. settled_pure _)
      (settled_room (nat_le 1 d) (nat_le 1 e) _ _ (one_room 1 wide (omega arith)) (other_room 1 wide (omega arith))
      (settled_bind (settled_maybe is.stmt) (pair_behind_settled (pairs_from d (stmt_readers d) k) (pairs_from e (stmt_readers e) k) (pairs_settled k) l)))

  all_pairs_settled : Settled n (all_pairs d (stmt_readers d)) (all_pairs e (stmt_readers e))
  unfolding all_pairs
  all_pairs_settled = record { at = λ ws lt. (pairs_settled (suc (length ws)) empty).at ws lt; ends = λ ws lt. (pairs_settled (suc (length ws)) empty).ends ws lt }

  pub body_settled : (s : Spot) → Settled n (body d (stmt_readers d) s) (body e (stmt_readers e) s)
  unfolding body_of
  body_settled s = settled_as (body d (stmt_readers d) s) (body e (stmt_readers e) s) (body_is d (stmt_readers d) s) (body_is e (stmt_readers e) s) (settled_bind all_pairs_settled (λ p. settled_pure _))

  pub a_body_settled : Settled n (a_body d (stmt_readers d)) (a_body e (stmt_readers e))
  unfolding a_body
  a_body_settled = settled_bind (settled_same (steady_expect LBrace)) body_settled

  -- ---- clauses

  behind_clause_settled : (again again' : Body → Reader Body) → ((b : Body) → Settled n (again b) (again' b)) → (b : Body) (x : Option (Sized Stmt))
      → Settled n (behind_clause_stmt d (stmt_readers d) again b x) (behind_clause_stmt e (stmt_readers e) again' b x)
  behind_clause_settled again again' same b None = settled_take (marked Semi) (λ _. same _) settled_refuse
  behind_clause_settled again again' same b (Some s) = settled_take (marked Semi) (λ _. same _) (settled_bind (settled_same (steady_expect RBrace)) (λ x. settled_pure _))

  module _ (again again' : Body → Reader Body) (same : (b : Body) → Settled n (again b) (again' b)) where
    clause_stmt_settled : (b : Body) → Settled n (clause_stmt d (stmt_readers d) again b) (clause_stmt e (stmt_readers e) again' b)
    clause_stmt_settled b = settled_agree (is_open b.open_one && nat_le 1 d) (is_open b.open_one && nat_le 1 e) (ap (λ (x : Bool). is_open b.open_one && x) (one_room 1 wide (omega arith) ∙ sym (other_room 1 wide (omega arith))))
        (settled_bind (settled_maybe is.stmt) (behind_clause_settled again again' same b)) settled_refuse

    default_clause_settled : (b : Body) → Settled n (default_clause d (stmt_readers d) again b) (default_clause e (stmt_readers e) again' b)
    default_clause_settled b = settled_take (marked Default) (λ s. settled_bind (settled_same (steady_expect Colon)) (λ _. same _)) (clause_stmt_settled b)

    clause_part_settled : (b : Body) → Settled n (one_clause_part d (stmt_readers d) again b) (one_clause_part e (stmt_readers e) again' b)
    clause_part_settled b = settled_room (nat_le 1 d) (nat_le 1 e) _ _ (one_room 1 wide (omega arith)) (other_room 1 wide (omega arith))
        (settled_take (marked Case) (λ s. settled_bind (exprs_settled wide false) (λ es. settled_bind (settled_same (steady_expect Colon)) (λ _. same _))) (default_clause_settled b))

  clauses_from_settled : (k : ℕ) (b : Body) → Settled n (clauses_from d (stmt_readers d) k b) (clauses_from e (stmt_readers e) k b)
  unfolding clauses_from
  clauses_from_settled zero b = settled_refuse
  clauses_from_settled (suc k) b = settled_take (marked RBrace) (λ _. settled_pure _) (clause_part_settled (clauses_from d (stmt_readers d) k) (clauses_from e (stmt_readers e) k) (clauses_from_settled k) b)

  all_clauses : Settled n (λ ws. clauses_from d (stmt_readers d) (suc (length ws)) no_clauses ws) (λ ws. clauses_from e (stmt_readers e) (suc (length ws)) no_clauses ws)
  all_clauses = record { at = λ ws lt. (clauses_from_settled (suc (length ws)) no_clauses).at ws lt; ends = λ ws lt. (clauses_from_settled (suc (length ws)) no_clauses).ends ws lt }

  pub clauses_settled : Settled n (clauses d (stmt_readers d)) (clauses e (stmt_readers e))
  unfolding clauses
  clauses_settled = settled_bind all_clauses (λ b. settled_pure _)
