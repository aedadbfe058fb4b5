-- The clauses of a switch are read, given the readers of statements below.
use Rattle.std.proofs.Common.{◌≡◌, ◌⊎◌, inl, inr, ℕ, zero, suc, ◌<◌, ◌≤◌, Bool, true, false, List, ◌∷◌, length, Some, None, Ok, refl, sym, ap, subst, ◌∙◌, arith}
use Rattle.std.specs.Prelude.{nat_le}
use Rattle.ui_base.specs.declared.value.Spot.{Spot}
use Rattle.ui_scan.specs.declared.kind.TokenKind.TheVariants.{RBrace, Comma, Semi, Colon, Case, Default}
use Rattle.ui_tree.specs.Tree.{Tree}
use Rattle.ui_tree.specs.Stmt.{MaybeTrees, no_trees, given_trees, Stmt, empty as no_words, Stmts, stmts_end, stmt_and, Clauses, clauses_end, clause_and}
use Rattle.ui_grammar.specs.Word.{Word, mark, Mark}
use Rattle.ui_grammar.specs.Fits.{plain}
use Rattle.ui_grammar.specs.Statement.{EndsStmt, SpellsCase, SpellsStmt, SpellsStmts, SpellsClauses, FitsMaybeTrees, FitsStmt, FitsStmts, FitsClauses, stmt_depth, stmts_depth, maybe_trees_depth, clauses_depth, is_empty}
use Rattle.ui_parse.specs.Reader.{and_then, first, take_by, marked}
use Rattle.ui_parse.proofs.Outcomes.{take_mark, take_other, expect_mark}
use Rattle.ui_parse.proofs.Alike.{suffix_length, outcome_ends}
use Rattle.ui_syntax.specs.Types.{Listed}
use Rattle.ui_syntax.proofs.Quiet.{stop_colon, stop_mark, quiet_stop}
use Rattle.ui_syntax.proofs.CompleteTypesLists.{pick_same, room_is}
use Rattle.ui_syntax.proofs.CompleteExprsLists.{trees_of_list}
use Rattle.ui_stmts.specs.Common.{sized, maybe, exprs}
use Rattle.ui_stmts.specs.Stmts.{NestedStmt, Body, no_clauses, open_clause, add_stmt, is_open, behind_clause_stmt, default_clause, clauses_from, clauses}
use Rattle.ui_stmts.proofs.ByBudget.{AreStmtsComplete, AreStmtsSteady}
use Rattle.ui_stmts.proofs.SteadyStmts.{steady_exprs}
use Rattle.ui_stmts.proofs.CompleteLists.{EndsExprs, listed, exprs_read}
use Rattle.ui_stmts.proofs.CompleteValues.{exprs_positive}
use Rattle.ui_stmts.proofs.CompleteMaybe.{maybe_some, maybe_none}
use Rattle.ui_stmts.proofs.CompleteSimple.{stmt_positive}
use Rattle.ui_stmts.proofs.CompleteWords.{StmtCase, no_word, has_words, stmt_case, not_stmt, stmts_closed, clauses_closed}
use Rattle.ui_stmts.proofs.CompleteBody.{stmt_is, follows, shorter}
use Rattle.ui_stmts.proofs.CompleteClauseTrees.{with_stmts, with_clauses, still_open, all_clauses, all_depth}

ends_colon : (ts rest : List Word) → Mark Colon ts rest → EndsExprs false ts
ends_colon ts rest m = record { quiet = quiet_stop _ 1 ts (stop_mark Colon ts rest stop_colon m); no_comma = ap (first (marked Comma)) m.is }

exprs_shorter : (budget : ℕ) (header : Bool) (l : Listed Tree) (ts rest : List Word) → exprs budget header ts ≡ Ok (l, rest) → length rest ≤ length ts
exprs_shorter budget header l ts rest e = suffix_length ts rest (outcome_ends ts (exprs budget header ts) (Some l) rest ((steady_exprs budget header).ends ts) e)

-- statements and clauses, up to the brace behind them
pub record SpellsRest (ss : Stmts) (cs : Clauses) (ts rest : List Word) : Type 0 where
  pub middle : List Word
  pub end : List Word
  pub stmts : SpellsStmts ss ts middle
  pub clauses : SpellsClauses cs middle end
  pub close : Mark RBrace end rest

-- statements stand in a clause
abbrev InClause : Stmts → Body → Type 0
InClause ss b = (ss ≡ stmts_end) ⊎ (is_open b.open_one ≡ true)

module _ (room : ℕ) (inner : NestedStmt) (complete : AreStmtsComplete room inner) (steady : AreStmtsSteady inner) where
  abbrev From : ℕ → Body → List Word → Body → List Word → Type 0
  From n b ts all rest = clauses_from room inner n b ts ≡ Ok (all, rest)

  -- ---- a statement of a clause

  to_stmt : (n : ℕ) (b : Body) (ts : List Word) → first (marked RBrace) ts ≡ None → first (marked Case) ts ≡ None → first (marked Default) ts ≡ None → is_open b.open_one ≡ true → 1 ≤ room
      → clauses_from room inner (suc n) b ts ≡ and_then (maybe inner.stmt ts) (behind_clause_stmt room inner (clauses_from room inner n) b)
  unfolding clauses_from
  to_stmt n b ts no_brace no_case no_default is_in le =
      take_other (marked RBrace) _ _ ts no_brace
      ∙ rw (room_is 1 room le) (take_other (marked Case) _ _ ts no_case ∙ take_other (marked Default) _ _ ts no_default ∙ rw is_in refl)

  empty_next : (n : ℕ) (b : Body) (ts a : List Word) → Mark Semi ts a → is_open b.open_one ≡ true → 1 ≤ room → clauses_from room inner (suc n) b ts ≡ clauses_from room inner n (add_stmt b no_words 1) a
  empty_next n b ts a m is_in le =
      to_stmt n b ts (ap (first (marked RBrace)) m.is) (ap (first (marked Case)) m.is) (ap (first (marked Default)) m.is) is_in le
      ∙ rw (maybe_none inner.stmt ts (complete.no_stmt ts (inl (a, m))), m.is) (take_mark Semi _ _ m.spot a)

  words_next : (n : ℕ) (b : Body) (s : Stmt) (ts a : List Word) → is_empty s ≡ false → SpellsStmt s ts a → FitsStmt s plain → stmt_depth s ≤ room → is_open b.open_one ≡ true → inner.stmt ts ≡ Ok (sized s (stmt_depth s), a)
      → clauses_from room inner (suc n) b ts ≡ behind_clause_stmt room inner (clauses_from room inner n) b (Some (sized s (stmt_depth s))) a
  words_next n b s ts a words sp f le is_in e =
      to_stmt n b ts (not_stmt RBrace s ts a refl words sp f) (not_stmt Case s ts a refl words sp f) (not_stmt Default s ts a refl words sp f) is_in (omega (arith, le, stmt_positive s))
      ∙ rw (maybe_some inner.stmt ts a (sized s (stmt_depth s)) e) refl

  abbrev Again : ℕ → Stmts → Clauses → List Word → Type 0
  Again n ss cs rest = (b : Body) (ts : List Word) → SpellsRest ss cs ts rest → length ts < n → InClause ss b → From n b ts (with_clauses (with_stmts b ss) cs) rest

  stmt_next : (n : ℕ) (s : Stmt) (ss : Stmts) (cs : Clauses) (b : Body) (ts a c rest : List Word) → length ts < suc n → SpellsStmt s ts a → EndsStmt (is_empty s) a c → SpellsRest ss cs c rest → FitsStmt s plain → FitsStmts ss → stmt_depth s ≤ room → is_open b.open_one ≡ true
      → Again n ss cs rest → From (suc n) b ts (with_clauses (with_stmts b (stmt_and s ss)) cs) rest
  stmt_next n s ss cs b ts a c rest lt sp ends sr f g le is_in again = by_case s (stmt_case s) sp ends f le
    where
      go_on : (s : Stmt) → length c < n → From n (add_stmt b s (stmt_depth s)) c (with_clauses (with_stmts b (stmt_and s ss)) cs) rest
      go_on s less = again (add_stmt b s (stmt_depth s)) c sr less (inr (still_open b.open_one s is_in))

      behind : (s : Stmt) → inner.stmt ts ≡ Ok (sized s (stmt_depth s), a) → EndsStmt false a c → behind_clause_stmt room inner (clauses_from room inner n) b (Some (sized s (stmt_depth s))) a ≡ Ok (with_clauses (with_stmts b (stmt_and s ss)) cs, rest)
      behind s is (inl m) =
          ap (behind_clause_stmt room inner (clauses_from room inner n) b (Some (sized s (stmt_depth s)))) m.is ∙ take_mark Semi _ _ m.spot c
          ∙ go_on s (omega (arith, lt, shorter room inner complete steady (sized s (stmt_depth s)) ts a is, ap length m.is))
      behind s is (inr m) =
          let at : c ≡ mark RBrace m.1.1.spot ∷ m.1.0 = sym m.0 ∙ m.1.1.is in
          let none_left = stmts_closed ss m.1.1.spot m.1.0 c sr.middle at sr.stmts g in
          let no_others = clauses_closed cs m.1.1.spot m.1.0 sr.middle sr.end (sym none_left.1 ∙ at) sr.clauses in
          let whole : a ≡ mark RBrace sr.close.spot ∷ rest = m.0 ∙ none_left.1 ∙ no_others.1 ∙ sr.close.is in
          ap (behind_clause_stmt room inner (clauses_from room inner n) b (Some (sized s (stmt_depth s)))) whole ∙ take_other (marked Semi) _ _ (mark RBrace sr.close.spot ∷ rest) refl
          ∙ rw (expect_mark RBrace sr.close.spot rest, none_left.0, no_others.0) refl

      by_case : (s : Stmt) → StmtCase s → SpellsStmt s ts a → EndsStmt (is_empty s) a c → FitsStmt s plain → stmt_depth s ≤ room → From (suc n) b ts (with_clauses (with_stmts b (stmt_and s ss)) cs) rest
      by_case _ no_word spelled semi h small =
          let m : Mark Semi ts c = subst (λ (v : List Word). Mark Semi v c) (sym spelled) semi in
          empty_next n b ts c m is_in small ∙ go_on no_words (omega (arith, lt, ap length m.is))
      by_case s (has_words words) spelled ends1 h small =
          let ends2 : EndsStmt false a c = subst (λ (v : Bool). EndsStmt v a c) words ends1 in
          let is = stmt_is s a (complete.stmt ts a s spelled (record { fits = h; words = words; shallow = small }) (follows a c ends2)) in
          words_next n b s ts a words spelled h small is_in is ∙ behind s is ends2

  -- ---- a clause

  clause_next : (n : ℕ) (s : Spot) (es : MaybeTrees) (ss : Stmts) (cs : Clauses) (b : Body) (ts a c rest : List Word) → length ts < suc n → SpellsCase s es ts a → Mark Colon a c → SpellsRest ss cs c rest → FitsMaybeTrees es → maybe_trees_depth es ≤ room
      → Again n ss cs rest → From (suc n) b ts (with_clauses b (clause_and s es ss cs)) rest
  unfolding clauses_from
  clause_next n s no_trees ss cs b ts a c rest lt sp m sr f le again =
      ap (clauses_from room inner (suc n) b) (sp ∙ ap (λ (v : List Word). mark Default s ∷ v) m.is)
      ∙ take_other (marked RBrace) _ _ (mark Default s ∷ (mark Colon m.spot ∷ c)) refl
      ∙ pick_same (nat_le 1 room) (take_by (marked Case) _ (default_clause room inner (clauses_from room inner n) b)) (default_clause room inner (clauses_from room inner n) b) (mark Default s ∷ (mark Colon m.spot ∷ c)) (Ok (with_clauses b (clause_and s no_trees ss cs), rest))
      (take_other (marked Case) _ _ (mark Default s ∷ (mark Colon m.spot ∷ c)) refl ∙ at_default) at_default
    where
      at_default : default_clause room inner (clauses_from room inner n) b (mark Default s ∷ (mark Colon m.spot ∷ c)) ≡ Ok (with_clauses b (clause_and s no_trees ss cs), rest)
      at_default = take_mark Default _ _ s (mark Colon m.spot ∷ c) ∙ rw (expect_mark Colon m.spot c) (again (open_clause b s no_trees 0) c sr (omega (arith, lt, ap length sp, ap length m.is)) (inr refl))
  clause_next n s (given_trees es) ss cs b ts a c rest lt sp m sr f le again =
      let e = exprs_read room false es sp.0 a sp.2 f le (ends_colon a c m) in
      let less = exprs_shorter room false (listed es) sp.0 a e in
      ap (clauses_from room inner (suc n) b) sp.1
      ∙ take_other (marked RBrace) _ _ (mark Case s ∷ sp.0) refl
      ∙ rw (room_is 1 room (omega (arith, le, exprs_positive es plain sp.0 a sp.2 f))) (take_mark Case _ _ s sp.0
      ∙ rw (e, m.is, expect_mark Colon m.spot c, trees_of_list es) (again (open_clause b s (given_trees es) (maybe_trees_depth (given_trees es))) c sr (omega (arith, lt, less, ap length sp.1, ap length m.is)) (inr refl)))

  -- ---- all of them

  from_read : (n : ℕ) (ss : Stmts) (cs : Clauses) (b : Body) (ts rest : List Word) → length ts < n → SpellsRest ss cs ts rest → FitsStmts ss → FitsClauses cs → stmts_depth ss ≤ room → clauses_depth cs ≤ room → InClause ss b → From n b ts (with_clauses (with_stmts b ss) cs) rest
  unfolding clauses_from
  from_read zero ss cs b ts rest lt sr f g le le2 is_in = absurd (omega (arith, lt))
  from_read (suc n) stmts_end clauses_end b ts rest lt sr f g le le2 is_in =
      ap (clauses_from room inner (suc n) b) (sr.stmts ∙ sr.clauses ∙ sr.close.is) ∙ take_mark RBrace _ _ sr.close.spot rest
  from_read (suc n) stmts_end (clause_and s es ss cs) b ts rest lt sr f g le le2 is_in =
      let sp = sr.clauses in
      clause_next n s es ss cs b ts sp.0 sp.1 rest lt (subst (λ (v : List Word). SpellsCase s es v sp.0) (sym sr.stmts) sp.3) sp.4 (record { middle = sp.2; end = sr.end; stmts = sp.5; clauses = sp.6; close = sr.close }) g.0 (omega (arith, le2))
      (λ b2 more others less is_open2. from_read n ss cs b2 more rest less others g.1 g.2 (omega (arith, le2)) (omega (arith, le2)) is_open2)
  from_read (suc n) (stmt_and s ss) cs b ts rest lt sr f g le le2 (inl e) = absurd cc
  from_read (suc n) (stmt_and s ss) cs b ts rest lt sr f g le le2 (inr is_in) =
      let sp = sr.stmts in
      stmt_next n s ss cs b ts sp.0 sp.1 rest lt sp.2 sp.3 (record { middle = sr.middle; end = sr.end; stmts = sp.4; clauses = sr.clauses; close = sr.close }) f.0 f.1 (omega (arith, le)) is_in
      (λ b2 more others less is_open2. from_read n ss cs b2 more rest less others f.1 g (omega (arith, le)) le2 is_open2)

  pub clauses_read : (cs : Clauses) (ts g rest : List Word) → SpellsClauses cs ts g → Mark RBrace g rest → FitsClauses cs → clauses_depth cs ≤ room → clauses room inner ts ≡ Ok (sized cs (clauses_depth cs), rest)
  unfolding clauses
  clauses_read cs ts g rest sp m f le =
      rw (from_read (suc (length ts)) stmts_end cs no_clauses ts rest (omega arith) (record { middle = ts; end = g; stmts = refl; clauses = sp; close = m }) tt f (omega arith) le (inl refl), all_clauses cs, all_depth cs) refl
