-- Statements of `switch` are read, given the readers of statements below.
use Rattle.std.proofs.Common.{◌≡◌, ℕ, suc, ◌≤◌, max, true, false, List, Option, Some, None, Ok, refl, sym, ap, subst, ◌∙◌, arith}
use Rattle.std.specs.Prelude.{nat_le}
use Rattle.ui_base.specs.declared.value.Spot.{Spot}
use Rattle.ui_scan.specs.declared.kind.TokenKind.TheVariants.{LBrace, RBrace, Semi}
use Rattle.ui_tree.specs.Tree.{Tree, MaybeTree, absent, given}
use Rattle.ui_tree.specs.Stmt.{Stmt, switch, MaybeStmt, no_stmt, given_stmt, Clauses}
use Rattle.ui_grammar.specs.Word.{Word, Mark}
use Rattle.ui_grammar.specs.Spells.{Spells, SpellsMaybe}
use Rattle.ui_grammar.specs.Fits.{in_header, Fits, depth, maybe_depth}
use Rattle.ui_grammar.specs.Statement.{SpellsStmt, SpellsInit, SpellsClauses, FitsStmt, FitsInit, FitsMaybeIn, FitsClauses, stmt_depth, maybe_stmt_depth, clauses_depth}
use Rattle.ui_parse.specs.Reader.{and_then, first, take_by, marked}
use Rattle.ui_parse.proofs.Outcomes.{take_mark, take_other, expect_mark}
use Rattle.ui_syntax.specs.Cover.{Read}
use Rattle.ui_syntax.specs.Exprs.{of_tree}
use Rattle.ui_syntax.specs.Read.{expr}
use Rattle.ui_syntax.proofs.Places.{depth_positive}
use Rattle.ui_syntax.proofs.CompleteExprsTrees.{no_mark}
use Rattle.ui_syntax.proofs.CompleteTypesLists.{pick_same, room_is}
use Rattle.ui_stmts.specs.Common.{Sized, sized, maybe}
use Rattle.ui_stmts.specs.Simple.{head}
use Rattle.ui_stmts.specs.Stmts.{NestedStmt, Init, no_init, empty_init, init_of, alone_init, maybe_tree, tree_depth, switch_of, tagged, maybe_head, switch_stmt}
use Rattle.ui_stmts.proofs.ByBudget.{AreStmtsComplete, AreStmtsSteady}
use Rattle.ui_stmts.proofs.CompleteFirst.{NoExpr, no_expr_open}
use Rattle.ui_stmts.proofs.CompleteMaybe.{maybe_some, maybe_none}
use Rattle.ui_stmts.proofs.CompleteMarks.{head_semi, head_body}
use Rattle.ui_stmts.proofs.CompleteSimple.{SimpleCase, an_empty, an_expression, an_operation, simple_case, stmt_positive, head_alone, head_operation, head_none}
use Rattle.ui_stmts.proofs.CompleteClauses.{clauses_read}
use Rattle.ui_stmts.proofs.CompleteBranch.{operation_opens}
use Rattle.ui_stmts.proofs.CompleteFor.{MaybeReads, maybe_read}

-- clauses in braces
pub record SpellsCases (cs : Clauses) (ts rest : List Word) : Type 0 where
  pub inside : List Word
  pub end : List Word
  pub opens : Mark LBrace ts inside
  pub clauses : SpellsClauses cs inside end
  pub close : Mark RBrace end rest

module _ (room : ℕ) (inner : NestedStmt) (complete : AreStmtsComplete room inner) (steady : AreStmtsSteady inner) where
  abbrev whole : Spot → Init room inner → MaybeTree → Clauses → Sized Stmt
  whole s i e cs = sized (switch s i.of e cs) (suc (max (max i.depth (maybe_depth e)) (clauses_depth cs)))

  switch_by : (s : Spot) (i : Init room inner) (c : Option (Read Tree)) (e : MaybeTree) (cs : Clauses) (ts rest : List Word) → SpellsCases cs ts rest → FitsClauses cs → clauses_depth cs ≤ room → maybe_tree room inner c ≡ e → tree_depth room inner c ≡ maybe_depth e
      → switch_of room inner s i c ts ≡ Ok (whole s i e cs, rest)
  switch_by s i c e cs ts rest sp f le tree depth_is =
      ap (switch_of room inner s i c) sp.opens.is
      ∙ rw (expect_mark LBrace sp.opens.spot sp.inside, clauses_read room inner complete steady cs sp.inside sp.end rest sp.clauses sp.close f le, tree, depth_is) refl

  tagged_by : (s : Spot) (i : Init room inner) (e : MaybeTree) (cs : Clauses) (ts c rest : List Word) → MaybeReads room inner complete steady (maybe (expr room true) ts) e c → SpellsCases cs c rest → FitsClauses cs → clauses_depth cs ≤ room
      → tagged room inner s i ts ≡ Ok (whole s i e cs, rest)
  tagged_by s i e cs ts c rest r sp f le = rw r.is (switch_by s i r.read e cs c rest sp f le r.tree r.depth)

  no_expr_cases : (cs : Clauses) (ts rest : List Word) → SpellsCases cs ts rest → NoExpr ts
  no_expr_cases cs ts rest sp = subst NoExpr (sym sp.opens.is) (no_expr_open sp.opens.spot sp.inside)

  tagged_read : (s : Spot) (i : Init room inner) (e : MaybeTree) (cs : Clauses) (ts c rest : List Word) → SpellsMaybe e ts c → SpellsCases cs c rest → FitsMaybeIn e in_header → maybe_depth e ≤ room → FitsClauses cs → clauses_depth cs ≤ room
      → tagged room inner s i ts ≡ Ok (whole s i e cs, rest)
  tagged_read s i e cs ts c rest sp cases f le g le2 =
      tagged_by s i e cs ts c rest (maybe_read room inner complete steady e ts c sp f le (head_body c cases.inside cases.opens) (no_expr_cases cs c rest cases)) cases g le2

  -- ---- behind the keyword

  to_head : (s : Spot) (ts : List Word) → first (marked Semi) ts ≡ None → 1 ≤ room → switch_stmt room inner s ts ≡ and_then (maybe (head room false) ts) (λ h. maybe_head room inner h s)
  unfolding switch_stmt
  to_head s ts no_semi le = rw (room_is 1 room le) (take_other (marked Semi) _ _ ts no_semi)

  no_header : (s : Spot) (cs : Clauses) (ts rest : List Word) → SpellsCases cs ts rest → FitsClauses cs → clauses_depth cs ≤ room → switch_stmt room inner s ts ≡ Ok (whole s (no_init room inner) absent cs, rest)
  unfolding switch_stmt
  no_header s cs ts rest sp f le =
      let on = switch_by s (no_init room inner) None absent cs ts rest sp f le refl refl in
      pick_same (nat_le 1 room) (take_by (marked Semi) _ (λ ws. and_then (maybe (head room false) ws) (λ h. maybe_head room inner h s))) (switch_of room inner s (no_init room inner) None) ts _
      (take_other (marked Semi) _ _ ts (ap (first (marked Semi)) sp.opens.is) ∙ rw (maybe_none (head room false) ts (head_none room false ts (no_expr_cases cs ts rest sp))) on) on

  only_tag : (s : Spot) (e : Tree) (cs : Clauses) (ts c rest : List Word) → Spells e ts c → SpellsCases cs c rest → Fits e in_header → depth e ≤ room → FitsClauses cs → clauses_depth cs ≤ room → switch_stmt room inner s ts ≡ Ok (whole s (no_init room inner) (given e) cs, rest)
  only_tag s e cs ts c rest sp cases f le g le2 =
      let r = head_alone room false e ts c sp f le (head_body c cases.inside cases.opens) in
      let on = switch_by s (no_init room inner) (Some (of_tree e r.spot (depth e))) (given e) cs c rest cases g le2 refl refl in
      to_head s ts (no_mark Semi e in_header ts c refl sp f) (omega (arith, le, depth_positive e in_header f))
      ∙ rw (maybe_some (head room false) ts c _ r.is)
      (pick_same (nat_le (suc (depth e)) room) (take_by (marked Semi) _ (switch_of room inner s (no_init room inner) (Some (of_tree e r.spot (depth e))))) (switch_of room inner s (no_init room inner) (Some (of_tree e r.spot (depth e)))) c _
      (take_other (marked Semi) _ _ c (ap (first (marked Semi)) cases.opens.is) ∙ on) on)

  empty_first : (s : Spot) (ts m : List Word) → Mark Semi ts m → 1 ≤ room → switch_stmt room inner s ts ≡ tagged room inner s (empty_init room inner) m
  unfolding switch_stmt
  empty_first s ts m semi le = rw (room_is 1 room le, semi.is) (take_mark Semi _ _ semi.spot m)

  pub switch_read : (s : Spot) (init : MaybeStmt) (e : MaybeTree) (cs : Clauses) (ts m c rest : List Word) → SpellsInit init ts m → SpellsMaybe e m c → SpellsCases cs c rest → FitsInit init → FitsMaybeIn e in_header → FitsClauses cs → maybe_stmt_depth init ≤ room → maybe_depth e ≤ room → clauses_depth cs ≤ room
      → switch_stmt room inner s ts ≡ Ok (sized (switch s init e cs) (stmt_depth (switch s init e cs)), rest)
  switch_read s no_stmt absent cs ts m c rest init sp cases g f h le le2 le3 = ap (switch_stmt room inner s) (init ∙ sp) ∙ no_header s cs c rest cases h le3
  switch_read s no_stmt (given e) cs ts m c rest init sp cases g f h le le2 le3 = ap (switch_stmt room inner s) init ∙ only_tag s e cs m c rest sp cases f le2 h le3
  switch_read s (given_stmt i) e cs ts m c rest init sp cases g f h le le2 le3 = by_case i (simple_case i g.0) init.1 g.1 le
    where
      by_case : (i : Stmt) → SimpleCase i → SpellsStmt i ts init.0 → FitsStmt i in_header → stmt_depth i ≤ room → switch_stmt room inner s ts ≡ Ok (sized (switch s (given_stmt i) e cs) (stmt_depth (switch s (given_stmt i) e cs)), rest)
      by_case _ an_empty is k small =
          ap (switch_stmt room inner s) is ∙ empty_first s init.0 m init.2 small ∙ tagged_read s (empty_init room inner) e cs m c rest sp cases f le2 h le3
      by_case _ (an_expression x) is k small =
          let r = head_alone room false x ts init.0 is k (omega (arith, small)) (head_semi true init.0 m init.2) in
          to_head s ts (no_mark Semi x in_header ts init.0 refl is k) (omega (arith, small))
          ∙ rw (maybe_some (head room false) ts init.0 _ r.is, room_is (suc (depth x)) room small, init.2.is) (take_mark Semi _ _ init.2.spot m ∙ tagged_read s (alone_init room inner (of_tree x r.spot (depth x))) e cs m c rest sp cases f le2 h le3)
      by_case i (an_operation o) is k small =
          to_head s ts (operation_opens i ts init.0 o is k) (omega (arith, small, stmt_positive i))
          ∙ rw (maybe_some (head room false) ts init.0 _ (head_operation room false i ts init.0 o is k small (head_semi true init.0 m init.2)), init.2.is, expect_mark Semi init.2.spot m) (tagged_read s (init_of room inner (sized i (stmt_depth i))) e cs m c rest sp cases f le2 h le3)
