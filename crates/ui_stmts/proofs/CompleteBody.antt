-- Statements in braces are read, given the readers of statements below.
use Rattle.std.proofs.Common.{◌≡◌, inl, inr, ℕ, zero, suc, ◌<◌, ◌≤◌, max, Bool, false, List, [], ◌∷◌, ◌++◌, length, Some, Ok, refl, sym, ap, subst, ◌∙◌, append_assoc, arith}
use Rattle.std.proofs.lemmas.List.{append-nil}
use Rattle.ui_base.specs.declared.value.Spot.{Spot}
use Rattle.ui_scan.specs.declared.kind.TokenKind.TheVariants.{LBrace, RBrace, Semi}
use Rattle.ui_tree.specs.Stmt.{Stmt, empty as no_words, Braces, braces, Stmts, stmts_end, stmt_and}
use Rattle.ui_tree.specs.StmtView.{stmts}
use Rattle.ui_grammar.specs.Word.{Word, mark, Mark}
use Rattle.ui_grammar.specs.Fits.{plain}
use Rattle.ui_grammar.specs.Statement.{EndsStmt, SpellsStmt, SpellsStmts, SpellsBraces, FitsStmt, FitsStmts, FitsBraces, stmt_depth, stmts_depth, braces_depth, is_empty}
use Rattle.ui_parse.specs.Reader.{Outcome, first, marked}
use Rattle.ui_parse.proofs.Outcomes.{take_mark, take_other, expect_mark}
use Rattle.ui_parse.proofs.Alike.{suffix_length, outcome_ends}
use Rattle.ui_syntax.specs.Types.{Listed, add, empty}
use Rattle.ui_syntax.proofs.CompleteTypesLists.{room_is}
use Rattle.ui_syntax.proofs.CompleteExprsLists.{listed_is}
use Rattle.ui_stmts.specs.Common.{Sized, sized}
use Rattle.ui_stmts.specs.Stmts.{NestedStmt, ended, behind_stmt, body_from, body, a_body}
use Rattle.ui_stmts.specs.Laws.{EndsAStmt}
use Rattle.ui_stmts.proofs.ByBudget.{StmtReadsTo, AreStmtsComplete, AreStmtsSteady}
use Rattle.ui_stmts.proofs.CompleteMaybe.{maybe_some, maybe_none}
use Rattle.ui_stmts.proofs.CompleteSimple.{stmt_positive}
use Rattle.ui_stmts.proofs.CompleteWords.{StmtCase, no_word, has_words, stmt_case, not_stmt, stmts_closed}

abbrev pub stmt_list : Stmts → List Stmt
stmt_list stmts_end = []
stmt_list (stmt_and s ss) = s ∷ stmt_list ss

pub stmts_of_list : (ss : Stmts) → stmts (stmt_list ss) ≡ ss
stmts_of_list stmts_end = refl
stmts_of_list (stmt_and s ss) = ap (stmt_and s) (stmts_of_list ss)

-- what was read before, and then these
abbrev with_stmts : Listed Stmt → Stmts → Listed Stmt
with_stmts l ss = record { items = l.items ++ stmt_list ss; depth = max l.depth (stmts_depth ss) }

none_more : (l : Listed Stmt) → l ≡ with_stmts l stmts_end
none_more l = listed_is l.items (l.items ++ []) l.depth (max l.depth 0) (sym (append-nil l.items)) (omega arith)

one_more : (l : Listed Stmt) (s : Stmt) (ss : Stmts) → with_stmts (add l s (stmt_depth s)) ss ≡ with_stmts l (stmt_and s ss)
one_more l s ss = listed_is (l.items ++ (s ∷ []) ++ stmt_list ss) (l.items ++ (s ∷ stmt_list ss)) (max (max l.depth (stmt_depth s)) (stmts_depth ss)) (max l.depth (max (stmt_depth s) (stmts_depth ss))) (append_assoc l.items (s ∷ []) (stmt_list ss)) (omega arith)

-- a statement is read, with its depth
pub stmt_is : {o : Outcome (Sized Stmt)} (t : Stmt) (rest : List Word) → StmtReadsTo o t rest → o ≡ Ok (sized t (stmt_depth t), rest)
stmt_is t rest r = r.is ∙ ap (λ (v : Sized Stmt). Ok (v, rest)) (same r.read t (stmt_depth t) r.tree r.depth)
  where
    same : (x : Sized Stmt) (t : Stmt) (k : ℕ) → x.of ≡ t → x.depth ≡ k → x ≡ sized t k
    same x t k e d = ap (λ v. sized v x.depth) e ∙ ap (λ v. sized t v) d

-- what is behind a statement with words
pub follows : (ts rest : List Word) → EndsStmt false ts rest → EndsAStmt ts
follows ts rest (inl m) = inl (rest, m)
follows ts rest (inr m) = inr m.1

module _ (room : ℕ) (inner : NestedStmt) (complete : AreStmtsComplete room inner) (steady : AreStmtsSteady inner) where
  -- what is left behind a statement is no longer than what was there
  pub shorter : (t : Sized Stmt) (ts rest : List Word) → inner.stmt ts ≡ Ok (t, rest) → length rest ≤ length ts
  shorter t ts rest e = suffix_length ts rest (outcome_ends ts (inner.stmt ts) (Some t) rest (steady.stmt.ends ts) e)

  abbrev From : ℕ → Listed Stmt → List Word → Listed Stmt → Spot → List Word → Type 0
  From n l ts all e rest = body_from room inner n l ts ≡ Ok (ended room inner all e, rest)

  -- before statements, their first is none
  empty_next : (n : ℕ) (l : Listed Stmt) (ts b : List Word) → Mark Semi ts b → 1 ≤ room → body_from room inner (suc n) l ts ≡ body_from room inner n (add l no_words 1) b
  unfolding body_from
  empty_next n l ts b m le =
      take_other (marked RBrace) _ _ ts (ap (first (marked RBrace)) m.is)
      ∙ rw (room_is 1 room le, maybe_none inner.stmt ts (complete.no_stmt ts (inl (b, m))), m.is) (take_mark Semi _ _ m.spot b)

  -- or has words
  words_next : (n : ℕ) (l : Listed Stmt) (s : Stmt) (ts a : List Word) → is_empty s ≡ false → SpellsStmt s ts a → FitsStmt s plain → stmt_depth s ≤ room → inner.stmt ts ≡ Ok (sized s (stmt_depth s), a)
      → body_from room inner (suc n) l ts ≡ behind_stmt room inner (body_from room inner n) l (Some (sized s (stmt_depth s))) a
  unfolding body_from
  words_next n l s ts a words sp f le e =
      take_other (marked RBrace) _ _ ts (not_stmt RBrace s ts a refl words sp f)
      ∙ rw (room_is 1 room (omega (arith, le, stmt_positive s)), maybe_some inner.stmt ts a (sized s (stmt_depth s)) e) refl

  -- one statement, and those behind it
  step_read : (n : ℕ) (s : Stmt) (ss : Stmts) (l : Listed Stmt) (ts b : List Word) (e : Spot) (rest : List Word) → length ts < suc n → SpellsStmts (stmt_and s ss) ts b → b ≡ mark RBrace e ∷ rest → FitsStmts (stmt_and s ss) → stmt_depth s ≤ room
      → ((l2 : Listed Stmt) (more : List Word) → SpellsStmts ss more b → length more < n → From n l2 more (with_stmts l2 ss) e rest) → From (suc n) l ts (with_stmts l (stmt_and s ss)) e rest
  step_read n s ss l ts b e rest lt sp close f le again = by_case s (stmt_case s) sp.2 sp.3 f.0 le
    where
      go_on : (s : Stmt) (more : List Word) → SpellsStmts ss more b → length more < n → From n (add l s (stmt_depth s)) more (with_stmts l (stmt_and s ss)) e rest
      go_on s more spelled less = again (add l s (stmt_depth s)) more spelled less ∙ ap (λ (v : Listed Stmt). Ok (ended room inner v e, rest)) (one_more l s ss)

      behind : (s : Stmt) → inner.stmt ts ≡ Ok (sized s (stmt_depth s), sp.0) → EndsStmt false sp.0 sp.1 → behind_stmt room inner (body_from room inner n) l (Some (sized s (stmt_depth s))) sp.0 ≡ Ok (ended room inner (with_stmts l (stmt_and s ss)) e, rest)
      behind s is (inl m) =
          ap (behind_stmt room inner (body_from room inner n) l (Some (sized s (stmt_depth s)))) m.is ∙ take_mark Semi _ _ m.spot sp.1
          ∙ go_on s sp.1 sp.4 (omega (arith, lt, shorter (sized s (stmt_depth s)) ts sp.0 is, ap length m.is))
      behind s is (inr m) =
          let at : sp.1 ≡ mark RBrace m.1.1.spot ∷ m.1.0 = sym m.0 ∙ m.1.1.is in
          let c = stmts_closed ss m.1.1.spot m.1.0 sp.1 b at sp.4 f.1 in
          let whole : sp.0 ≡ mark RBrace e ∷ rest = m.0 ∙ c.1 ∙ close in
          ap (behind_stmt room inner (body_from room inner n) l (Some (sized s (stmt_depth s)))) whole ∙ take_other (marked Semi) _ _ (mark RBrace e ∷ rest) refl
          ∙ rw (expect_mark RBrace e rest, c.0) (ap (λ (v : Listed Stmt). Ok (ended room inner v e, rest)) (none_more (add l s (stmt_depth s)) ∙ one_more l s stmts_end))

      by_case : (s : Stmt) → StmtCase s → SpellsStmt s ts sp.0 → EndsStmt (is_empty s) sp.0 sp.1 → FitsStmt s plain → stmt_depth s ≤ room → From (suc n) l ts (with_stmts l (stmt_and s ss)) e rest
      by_case _ no_word spelled ends g small =
          let m : Mark Semi ts sp.1 = subst (λ (v : List Word). Mark Semi v sp.1) (sym spelled) ends in
          empty_next n l ts sp.1 m small ∙ go_on no_words sp.1 sp.4 (omega (arith, lt, ap length m.is))
      by_case s (has_words words) spelled ends g small =
          let ends2 : EndsStmt false sp.0 sp.1 = subst (λ (v : Bool). EndsStmt v sp.0 sp.1) words ends in
          let is = stmt_is s sp.0 (complete.stmt ts sp.0 s spelled (record { fits = g; words = words; shallow = small }) (follows sp.0 sp.1 ends2)) in
          words_next n l s ts sp.0 words spelled g small is ∙ behind s is ends2

  from_read : (n : ℕ) (ss : Stmts) (l : Listed Stmt) (ts b : List Word) (e : Spot) (rest : List Word) → length ts < n → SpellsStmts ss ts b → b ≡ mark RBrace e ∷ rest → FitsStmts ss → stmts_depth ss ≤ room → From n l ts (with_stmts l ss) e rest
  unfolding body_from
  from_read zero ss l ts b e rest lt sp close f le = absurd (omega (arith, lt))
  from_read (suc n) stmts_end l ts b e rest lt sp close f le =
      ap (body_from room inner (suc n) l) (sp ∙ close) ∙ take_mark RBrace _ _ e rest ∙ ap (λ (v : Listed Stmt). Ok (ended room inner v e, rest)) (none_more l)
  from_read (suc n) (stmt_and s ss) l ts b e rest lt sp close f le =
      step_read n s ss l ts b e rest lt sp close f (omega (arith, le)) (λ l2 more spelled less. from_read n ss l2 more b e rest less spelled close f.1 (omega (arith, le)))

  -- behind the first brace
  pub body_read : (s : Spot) (ss : Stmts) (e : Spot) (ts b rest : List Word) → SpellsStmts ss ts b → b ≡ mark RBrace e ∷ rest → FitsStmts ss → stmts_depth ss ≤ room → body room inner s ts ≡ Ok (sized (braces s ss e) (stmts_depth ss), rest)
  unfolding body
  body_read s ss e ts b rest sp close f le =
      rw (from_read (suc (length ts)) ss empty ts b e rest (omega arith) sp close f le, stmts_of_list ss) (ap (λ (k : ℕ). Ok (sized (braces s ss e) k, rest)) (omega arith))

  pub a_body_read : (b : Braces) (ts rest : List Word) → SpellsBraces b ts rest → FitsBraces b → braces_depth b ≤ room → a_body room inner ts ≡ Ok (sized b (braces_depth b), rest)
  unfolding a_body
  a_body_read (braces s ss e) ts rest sp f le = ap (a_body room inner) sp.2 ∙ rw (expect_mark LBrace s sp.0) (body_read s ss e sp.0 sp.1 rest sp.3 sp.4 f le)
