-- The loops over statements in braces and over clauses, at any turn of which what is left gives the whole.
use Rattle.std.proofs.Common.{◌≡◌, ℕ, zero, suc, ◌-◌, List, length, Result, Ok, Err, refl, sym, ap, subst, ◌∙◌}
use Rattle.ui_base.specs.declared.value.Spot.{Spot}
use Rattle.ui_grammar.specs.Word.{Word}
use Rattle.ui_tree.specs.declared.stmt.Block.{Block}
use Rattle.ui_tree.specs.declared.stmt.StmtTree.{StmtTree}
use Rattle.ui_tree.specs.Stmt.{Stmt, braces}
use Rattle.ui_tree.specs.StmtView.{stmts}
use Rattle.ui_parse.specs.declared.fault.ParseError.{ParseError}
use Rattle.ui_parse.specs.declared.fault.ParseError.TheVariants.{Fault}
use Rattle.ui_parse.specs.declared.turn.Turn.{Turn}
use Rattle.ui_parse.specs.declared.turn.Turn.TheVariants.{Done, More as Going}
use Rattle.ui_parse.specs.Reader.{Outcome, and_then, pure}
use Rattle.ui_parse.specs.View.{Reads}
use Rattle.ui_syntax.specs.Types.{Listed, empty}
use Rattle.ui_stmts.specs.Common.{sized}
use Rattle.ui_stmts.specs.Stmts.{NestedStmt, Body, no_clauses, Ended, ended, body_from, body, clauses_from}
use Rattle.ui_psimple.specs.declared.deep.Deep.{Deep}
use Rattle.ui_pstmt.specs.declared.braces.BodyTurn.{BodyTurn}
use Rattle.ui_pstmt.specs.declared.braces.BodyTurn.TheVariants.{Closed, More}
use Rattle.ui_pstmt.specs.declared.clauses.Clauses.{Clauses}
use Rattle.ui_pstmt.specs.Seen.{see_stmts, see_block, see_body_turn, see_clauses, see_clause_turn}
use Rattle.ui_pstmt.specs.Turns.{body_turn, block_of, clause_turn, all_clauses}
use Rattle.ui_pstmt.proofs.Steps.{whole_read, whole_fault, at_end, at_spent, at_more, at_fault}
use Rattle.ui_pstmt.proofs.LoopTurns.{body_ends, body_turns, clauses_ends, clauses_turns}

module _ (room : ℕ) (inner : NestedStmt) (s : Spot) (start : List Word) (n : ℕ) (l : Deep (List StmtTree)) (ws m : List Word) (same : body_from room inner (suc n) (see_stmts l) ws ≡ body_from room inner (suc (length start)) empty start) where
  whole : Outcome (Ended room inner)
  whole = body_from room inner (suc (length start)) empty start

  pub body_closed : (t : BodyTurn) (last : Deep (List StmtTree)) (close : Spot) (x : Deep (Block StmtTree)) → Reads (see_body_turn room inner) (body_turn room inner (see_stmts l) ws) (Ok t) m → t ≡ Closed last close
      → see_block x ≡ block_of s (see_stmts last) close → Reads see_block (body room inner s start) (Ok x) m
  unfolding whole body
  body_closed t last close x h is seen = whole_read see_block whole (λ b. sized (braces s (stmts b.all.items) b.close) b.all.depth) (ended room inner (see_stmts last) close) x m
      (at_end (see_body_turn room inner) (body_turn room inner) (body_from room inner) (body_ends room inner) (body_turns room inner) whole n (see_stmts l) ws m same t (ended room inner (see_stmts last) close) h (ap (see_body_turn room inner) is)) seen

  pub body_spent : (t : BodyTurn) (next : Deep (List StmtTree)) → Reads (see_body_turn room inner) (body_turn room inner (see_stmts l) ws) (Ok t) m → t ≡ More next → n ≡ 0 → Reads see_block (body room inner s start) (Err Fault) m
  unfolding whole body
  body_spent t next h is none = whole_fault see_block whole (λ b. sized (braces s (stmts b.all.items) b.close) b.all.depth) m
      (at_spent (see_body_turn room inner) (body_turn room inner) (body_from room inner) (body_ends room inner) (body_turns room inner) whole n (see_stmts l) ws m same t (see_stmts next) h (ap (see_body_turn room inner) is) none)

  pub body_goes_on : (t : BodyTurn) (next : Deep (List StmtTree)) → Reads (see_body_turn room inner) (body_turn room inner (see_stmts l) ws) (Ok t) m → t ≡ More next → (n ≡ 0 → ⊥)
      → body_from room inner (suc (n - 1)) (see_stmts next) m ≡ body_from room inner (suc (length start)) empty start
  unfolding whole
  body_goes_on t next h is some = at_more (see_body_turn room inner) (body_turn room inner) (body_from room inner) (body_ends room inner) (body_turns room inner) whole n (see_stmts l) ws m same t (see_stmts next) h (ap (see_body_turn room inner) is) some

  pub body_fault : (e : ParseError) → Reads (see_body_turn room inner) (body_turn room inner (see_stmts l) ws) (Err e) m → Reads see_block (body room inner s start) (Err e) m
  unfolding whole body
  body_fault e h = at_fault (see_body_turn room inner) (body_turn room inner) (body_from room inner) (body_ends room inner) (body_turns room inner) whole n (see_stmts l) ws m same see_block (λ b. sized (braces s (stmts b.all.items) b.close) b.all.depth) e h

-- ---- clauses

reads_whole : (o : Outcome Body) (x : Clauses) (m : List Word) → o ≡ Ok (see_clauses x, m) → Reads see_clauses o (Ok x) m
reads_whole o x m e = subst (λ (o : Outcome Body). Reads see_clauses o (Ok x) m) (sym e) (refl, refl)

fault_whole : (o : Outcome Body) (m : List Word) → o ≡ Err m → Reads see_clauses o (Err Fault) m
fault_whole o m e = subst (λ (o : Outcome Body). Reads see_clauses o (Err Fault) m) (sym e) refl

-- and nothing behind it
same_whole : (o : Outcome Body) → and_then o (λ a. pure a) ≡ o
same_whole (Ok p) = refl
same_whole (Err ws) = refl

module _ (room : ℕ) (inner : NestedStmt) (start : List Word) (n : ℕ) (b : Clauses) (ws m : List Word) (same : clauses_from room inner (suc n) (see_clauses b) ws ≡ clauses_from room inner (suc (length start)) no_clauses start) where
  all : Outcome Body
  all = clauses_from room inner (suc (length start)) no_clauses start

  pub clauses_done : (t : Turn Clauses) (last : Clauses) → Reads see_clause_turn (clause_turn room inner (see_clauses b) ws) (Ok t) m → t ≡ Done last → Reads see_clauses (all_clauses room inner start) (Ok last) m
  unfolding all
  clauses_done t last h is = reads_whole all last m (at_end see_clause_turn (clause_turn room inner) (clauses_from room inner) (clauses_ends room inner) (clauses_turns room inner) all n (see_clauses b) ws m same t (see_clauses last) h (ap see_clause_turn is))

  pub clauses_spent : (t : Turn Clauses) (next : Clauses) → Reads see_clause_turn (clause_turn room inner (see_clauses b) ws) (Ok t) m → t ≡ Going next → n ≡ 0 → Reads see_clauses (all_clauses room inner start) (Err Fault) m
  unfolding all
  clauses_spent t next h is none = fault_whole all m (at_spent see_clause_turn (clause_turn room inner) (clauses_from room inner) (clauses_ends room inner) (clauses_turns room inner) all n (see_clauses b) ws m same t (see_clauses next) h (ap see_clause_turn is) none)

  pub clauses_go_on : (t : Turn Clauses) (next : Clauses) → Reads see_clause_turn (clause_turn room inner (see_clauses b) ws) (Ok t) m → t ≡ Going next → (n ≡ 0 → ⊥)
      → clauses_from room inner (suc (n - 1)) (see_clauses next) m ≡ clauses_from room inner (suc (length start)) no_clauses start
  unfolding all
  clauses_go_on t next h is some = at_more see_clause_turn (clause_turn room inner) (clauses_from room inner) (clauses_ends room inner) (clauses_turns room inner) all n (see_clauses b) ws m same t (see_clauses next) h (ap see_clause_turn is) some

  pub clauses_fault : (e : ParseError) → Reads see_clause_turn (clause_turn room inner (see_clauses b) ws) (Err e) m → Reads see_clauses (all_clauses room inner start) (Err e) m
  unfolding all
  clauses_fault e h = subst (λ (o : Outcome Body). Reads see_clauses o (Err e) m) (same_whole all)
      (at_fault see_clause_turn (clause_turn room inner) (clauses_from room inner) (clauses_ends room inner) (clauses_turns room inner) all n (see_clauses b) ws m same see_clauses (λ a. a) e h)
