-- Statements of `for` are read, given the readers of statements below.
use Rattle.std.proofs.Common.{◌≡◌, ℕ, suc, ◌≤◌, max, true, false, List, ◌∷◌, Option, Some, None, Ok, refl, sym, ap, subst, ◌∙◌, arith}
use Rattle.std.specs.Prelude.{nat_le}
use Rattle.ui_base.specs.declared.value.Spot.{Spot}
use Rattle.ui_scan.specs.declared.kind.TokenKind.{TokenKind}
use Rattle.ui_scan.specs.declared.kind.TokenKind.TheVariants.{LBrace, Semi, Range}
use Rattle.ui_tree.specs.Tree.{Tree, Trees, trees_end, tree_and, MaybeTree, absent, given}
use Rattle.ui_tree.specs.Stmt.{Places, no_places, places, Stmt, empty as no_words, alone, loop, while_true, counting, ranging, Braces, braces}
use Rattle.ui_grammar.specs.Word.{Word, mark, Mark}
use Rattle.ui_grammar.specs.Spells.{Spells, SpellsMaybe, SpellsExprs}
use Rattle.ui_grammar.specs.Fits.{in_header, Fits, FitsTrees, depth, maybe_depth}
use Rattle.ui_grammar.specs.Statement.{SpellsStmt, SpellsPlaces, SpellsBraces, FitsStmt, FitsMaybeIn, FitsPlaces, FitsBraces, stmt_depth, places_depth, braces_depth, is_simple}
use Rattle.ui_parse.specs.Reader.{Outcome, and_then, first, take_by, marked}
use Rattle.ui_parse.proofs.Outcomes.{take_mark, take_other, expect_mark}
use Rattle.ui_syntax.specs.Cover.{Read}
use Rattle.ui_syntax.specs.Exprs.{of_tree}
use Rattle.ui_syntax.specs.Read.{expr}
use Rattle.ui_syntax.proofs.Places.{depth_positive}
use Rattle.ui_syntax.proofs.FirstWords.{tree_mark}
use Rattle.ui_syntax.proofs.CompleteExprsTrees.{no_mark}
use Rattle.ui_syntax.proofs.CompleteTypesLists.{pick_same, room_is}
use Rattle.ui_stmts.specs.Common.{Sized, sized, maybe}
use Rattle.ui_stmts.specs.Simple.{head, maybe_simple}
use Rattle.ui_stmts.specs.Stmts.{NestedStmt, maybe_tree, tree_depth, or_empty, counted, ranged, while_of, for_behind, for_header, for_stmt}
use Rattle.ui_stmts.proofs.ByBudget.{AreStmtsComplete, AreStmtsSteady}
use Rattle.ui_stmts.proofs.CompleteFirst.{NoExpr, no_expr_semi, no_expr_open, expr_none}
use Rattle.ui_stmts.proofs.CompleteMaybe.{maybe_some, maybe_none}
use Rattle.ui_stmts.proofs.CompleteLists.{expr_reads}
use Rattle.ui_stmts.proofs.CompleteMarks.{EndsHead, head_semi}
use Rattle.ui_stmts.proofs.CompleteSimple.{SimpleCase, an_empty, an_expression, an_operation, simple_case, stmt_positive, head_alone, head_operation, head_places, maybe_simple_some, maybe_simple_none}
use Rattle.ui_stmts.proofs.CompleteWords.{StmtCase, no_word, has_words, stmt_case, not_simple}
use Rattle.ui_stmts.proofs.CompleteBody.{body_read, a_body_read}
use Rattle.ui_stmts.proofs.CompleteBranch.{opens, body_ends, not_semi, operation_words}

-- a mark with which no expression begins
no_first_mark : (k : TokenKind) (es : Trees) (ts rest : List Word) → tree_mark false k ≡ false → SpellsExprs es ts rest → FitsTrees es in_header → first (marked k) ts ≡ None
no_first_mark k trees_end ts rest other s f = absurd s
no_first_mark k (tree_and e es) ts rest other s f = no_mark k e in_header ts s.0 other s.1 f.0

module _ (room : ℕ) (inner : NestedStmt) (complete : AreStmtsComplete room inner) (steady : AreStmtsSteady inner) where
  -- ---- parts that may be left out

  pub record MaybeReads (o : Outcome (Option (Read Tree))) (e : MaybeTree) (rest : List Word) : Type 0 where
    pub read : Option (Read Tree)
    pub is : o ≡ Ok (read, rest)
    pub tree : maybe_tree room inner read ≡ e
    pub depth : tree_depth room inner read ≡ maybe_depth e

  pub maybe_read : (e : MaybeTree) (ts rest : List Word) → SpellsMaybe e ts rest → FitsMaybeIn e in_header → maybe_depth e ≤ room → EndsHead true rest → NoExpr rest → MaybeReads (maybe (expr room true) ts) e rest
  maybe_read absent ts rest sp f le ends none_here =
      record { read = None; is = ap (maybe (expr room true)) sp ∙ maybe_none (expr room true) rest (expr_none room true rest none_here); tree = refl; depth = refl }
  maybe_read (given e) ts rest sp f le ends none_here =
      let r = expr_reads room true e ts rest sp f le ends.exprs.quiet in
      record { read = Some (of_tree e r.spot (depth e)); is = maybe_some (expr room true) ts rest _ r.is; tree = refl; depth = refl }

  record PostReads (o : Outcome (Option (Sized Stmt))) (t : Stmt) (rest : List Word) : Type 0 where
    read : Option (Sized Stmt)
    is : o ≡ Ok (read, rest)
    tree : or_empty room inner read ≡ sized t (stmt_depth t)

  no_expr_body : (b : Braces) (ts rest : List Word) → SpellsBraces b ts rest → NoExpr ts
  no_expr_body b ts rest sp = let o = opens b ts rest sp in subst NoExpr (sym o.1.is) (no_expr_open o.1.spot o.0)

  post_read : (t : Stmt) (b : Braces) (ts h rest : List Word) → is_simple t ≡ true → SpellsStmt t ts h → SpellsBraces b h rest → FitsStmt t in_header → stmt_depth t ≤ room → PostReads (maybe_simple room ts) t h
  post_read t b ts h rest simple sp body f le = by_case t (stmt_case t) simple sp f le
    where
      by_case : (t : Stmt) → StmtCase t → is_simple t ≡ true → SpellsStmt t ts h → FitsStmt t in_header → stmt_depth t ≤ room → PostReads (maybe_simple room ts) t h
      by_case _ no_word s spelled g small =
          record { read = None; is = ap (maybe_simple room) spelled ∙ maybe_simple_none room h (no_expr_body b h rest body); tree = refl }
      by_case t (has_words words) s spelled g small =
          record { read = Some (sized t (stmt_depth t)); is = maybe_simple_some room t ts h s words spelled g small (body_ends b h rest body); tree = refl }

  -- ---- [ Expr ] ";" Simple Block

  pub record SpellsCount (e : MaybeTree) (post : Stmt) (b : Braces) (ts rest : List Word) : Type 0 where
    pub behind_condition : List Word
    pub before_post : List Word
    pub behind_post : List Word
    pub condition : SpellsMaybe e ts behind_condition
    pub semicolon : Mark Semi behind_condition before_post
    pub last : SpellsStmt post before_post behind_post
    pub body : SpellsBraces b behind_post rest

  pub record FitsCount (e : MaybeTree) (post : Stmt) (b : Braces) : Type 0 where
    pub condition : FitsMaybeIn e in_header
    pub simple : is_simple post ≡ true
    pub last : FitsStmt post in_header
    pub body : FitsBraces b
    pub condition_depth : maybe_depth e ≤ room
    pub post_depth : stmt_depth post ≤ room
    pub body_depth : braces_depth b ≤ room

  counted_by : (s : Spot) (i : Sized Stmt) (e : MaybeTree) (post : Stmt) (b : Braces) (ts d g h rest : List Word) → MaybeReads (maybe (expr room true) ts) e d → Mark Semi d g → PostReads (maybe_simple room g) post h → SpellsBraces b h rest → FitsBraces b → braces_depth b ≤ room
      → counted room inner s i ts ≡ Ok (sized (counting s i.of e post b) (suc (max (max i.depth (maybe_depth e)) (max (stmt_depth post) (braces_depth b)))), rest)
  unfolding counted
  counted_by s i e post b ts d g h rest c m p body f le =
      rw (c.is, m.is, expect_mark Semi m.spot g, p.is, a_body_read room inner complete steady b h rest body f le, c.tree, c.depth, p.tree) refl

  counted_read : (s : Spot) (i : Sized Stmt) (e : MaybeTree) (post : Stmt) (b : Braces) (ts rest : List Word) → SpellsCount e post b ts rest → FitsCount e post b
      → counted room inner s i ts ≡ Ok (sized (counting s i.of e post b) (suc (max (max i.depth (maybe_depth e)) (max (stmt_depth post) (braces_depth b)))), rest)
  counted_read s i e post b ts rest sp f =
      counted_by s i e post b ts sp.behind_condition sp.before_post sp.behind_post rest
      (maybe_read e ts sp.behind_condition sp.condition f.condition f.condition_depth (head_semi true sp.behind_condition sp.before_post sp.semicolon) (subst NoExpr (sym sp.semicolon.is) (no_expr_semi sp.semicolon.spot sp.before_post)))
      sp.semicolon (post_read post b sp.before_post sp.behind_post rest f.simple sp.last sp.body f.last f.post_depth) sp.body f.body f.body_depth

  -- ---- behind the keyword

  behind_header : (s : Spot) (ts : List Word) → first (marked LBrace) ts ≡ None → 1 ≤ room → for_stmt room inner s ts ≡ for_header room inner s ts
  unfolding for_stmt
  behind_header s ts no_brace le = take_other (marked LBrace) _ _ ts no_brace ∙ rw (room_is 1 room le) refl

  pub loop_read : (s : Spot) (b : Braces) (ts rest : List Word) → SpellsBraces b ts rest → FitsBraces b → braces_depth b ≤ room → for_stmt room inner s ts ≡ Ok (sized (loop s b) (suc (braces_depth b)), rest)
  unfolding for_stmt
  loop_read s (braces x ss e) ts rest sp f le =
      ap (for_stmt room inner s) sp.2 ∙ take_mark LBrace _ _ x sp.0 ∙ rw (body_read room inner complete steady x ss e sp.0 sp.1 rest sp.3 sp.4 f le) refl

  -- a header that begins with an expression or with another simple statement
  to_head : (s : Spot) (ts : List Word) → first (marked LBrace) ts ≡ None → first (marked Range) ts ≡ None → first (marked Semi) ts ≡ None → 1 ≤ room → for_stmt room inner s ts ≡ and_then (head room true ts) (for_behind room inner s)
  to_head s ts no_brace no_range_here no_semi le = behind_header s ts no_brace le ∙ take_other (marked Range) _ _ ts no_range_here ∙ take_other (marked Semi) _ _ ts no_semi

  expr_to_head : (s : Spot) (e : Tree) (ts rest : List Word) → Spells e ts rest → Fits e in_header → 1 ≤ room → for_stmt room inner s ts ≡ and_then (head room true ts) (for_behind room inner s)
  expr_to_head s e ts rest sp f le = to_head s ts (no_mark LBrace e in_header ts rest refl sp f) (no_mark Range e in_header ts rest refl sp f) (no_mark Semi e in_header ts rest refl sp f) le

  pub while_read : (s : Spot) (e : Tree) (b : Braces) (ts c rest : List Word) → Spells e ts c → SpellsBraces b c rest → Fits e in_header → FitsBraces b → depth e ≤ room → braces_depth b ≤ room
      → for_stmt room inner s ts ≡ Ok (sized (while_true s e b) (suc (max (depth e) (braces_depth b))), rest)
  while_read s e b ts c rest sp body f g le le2 =
      let r = head_alone room true e ts c sp f le (body_ends b c rest body) in
      let on : while_of room inner s (of_tree e r.spot (depth e)) c ≡ Ok (sized (while_true s e b) (suc (max (depth e) (braces_depth b))), rest) = rw (a_body_read room inner complete steady b c rest body g le2) refl in
      expr_to_head s e ts c sp f (omega (arith, le, depth_positive e in_header f))
      ∙ rw r.is (pick_same (nat_le (suc (depth e)) room) (take_by (marked Semi) _ (while_of room inner s (of_tree e r.spot (depth e)))) (while_of room inner s (of_tree e r.spot (depth e))) c _ (take_other (marked Semi) _ _ c (not_semi b c rest body) ∙ on) on)

  pub counting_read : (s : Spot) (i : Stmt) (e : MaybeTree) (post : Stmt) (b : Braces) (ts m c rest : List Word) → is_simple i ≡ true → SpellsStmt i ts m → Mark Semi m c → SpellsCount e post b c rest → FitsStmt i in_header → stmt_depth i ≤ room → FitsCount e post b
      → for_stmt room inner s ts ≡ Ok (sized (counting s i e post b) (stmt_depth (counting s i e post b)), rest)
  counting_read s i e post b ts m c rest simple sp semi count f le g = by_case i (simple_case i simple) sp f le
    where
      by_case : (i : Stmt) → SimpleCase i → SpellsStmt i ts m → FitsStmt i in_header → stmt_depth i ≤ room → for_stmt room inner s ts ≡ Ok (sized (counting s i e post b) (stmt_depth (counting s i e post b)), rest)
      by_case _ an_empty is h small =
          ap (for_stmt room inner s) (is ∙ semi.is) ∙ behind_header s (mark Semi semi.spot ∷ c) refl small ∙ take_other (marked Range) _ _ (mark Semi semi.spot ∷ c) refl ∙ take_mark Semi _ _ semi.spot c
          ∙ counted_read s (sized no_words 1) e post b c rest count g
      by_case _ (an_expression x) is h small =
          let r = head_alone room true x ts m is h (omega (arith, small)) (head_semi true m c semi) in
          expr_to_head s x ts m is h (omega (arith, small))
          ∙ rw (r.is, room_is (suc (depth x)) room small, semi.is) (take_mark Semi _ _ semi.spot c ∙ counted_read s (sized (alone x) (suc (depth x))) e post b c rest count g)
      by_case i (an_operation o) is h small =
          let w = operation_words i o in
          to_head s ts (not_simple in_header refl LBrace i ts m refl w.1 w.0 is h) (not_simple in_header refl Range i ts m refl w.1 w.0 is h) (not_simple in_header refl Semi i ts m refl w.1 w.0 is h) (omega (arith, small, stmt_positive i))
          ∙ rw (head_operation room true i ts m o is h small (head_semi true m c semi), semi.is, expect_mark Semi semi.spot c) (counted_read s (sized i (stmt_depth i)) e post b c rest count g)

  -- Expr Block, behind "range"
  ranged_read : (s : Spot) (ps : Places) (e : Tree) (b : Braces) (ts c rest : List Word) → Spells e ts c → SpellsBraces b c rest → Fits e in_header → FitsBraces b → depth e ≤ room → braces_depth b ≤ room
      → ranged room inner s (sized ps (places_depth ps)) ts ≡ Ok (sized (ranging s ps e b) (stmt_depth (ranging s ps e b)), rest)
  unfolding ranged
  ranged_read s ps e b ts c rest sp body f g le le2 =
      rw (expr_reads room true e ts c sp f le (body_ends b c rest body).exprs.quiet).is (rw (a_body_read room inner complete steady b c rest body g le2) refl)

  pub ranging_read : (s : Spot) (ps : Places) (e : Tree) (b : Braces) (ts a m c rest : List Word) → SpellsPlaces ps ts a → Mark Range a m → Spells e m c → SpellsBraces b c rest → FitsPlaces ps → Fits e in_header → FitsBraces b → places_depth ps ≤ room → depth e ≤ room → braces_depth b ≤ room
      → for_stmt room inner s ts ≡ Ok (sized (ranging s ps e b) (stmt_depth (ranging s ps e b)), rest)
  ranging_read s no_places e b ts a m c rest ps r sp body h f g le le2 le3 =
      ap (for_stmt room inner s) (ps ∙ r.is) ∙ behind_header s (mark Range r.spot ∷ m) refl (omega (arith, le2, depth_positive e in_header f)) ∙ take_mark Range _ _ r.spot m
      ∙ ranged_read s no_places e b m c rest sp body f g le2 le3
  ranging_read s (places es defines) e b ts a m c rest ps r sp body h f g le le2 le3 =
      to_head s ts (no_first_mark LBrace es ts ps.0 refl ps.1 h) (no_first_mark Range es ts ps.0 refl ps.1 h) (no_first_mark Semi es ts ps.0 refl ps.1 h) (omega (arith, le))
      ∙ rw (head_places room es defines ts a m ps r h le) (ranged_read s (places es defines) e b m c rest sp body f g le2 le3)
