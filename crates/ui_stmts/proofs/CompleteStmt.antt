-- Statements are read, given the readers of statements below.
use Rattle.std.proofs.Common.{◌≡◌, inl, inr, ℕ, suc, ◌≤◌, true, false, List, [], ◌∷◌, None, Ok, Err, refl, sym, ap, subst, ◌∙◌, arith}
use Rattle.std.specs.Prelude.{nat_le}
use Rattle.ui_base.specs.declared.value.Spot.{Spot}
use Rattle.ui_scan.specs.declared.kind.TokenKind.{TokenKind}
use Rattle.ui_scan.specs.declared.kind.TokenKind.TheVariants.{LBrace, Const, Var, Return, Break, Continue, If, For, Switch}
use Rattle.ui_tree.specs.Tree.{Tree}
use Rattle.ui_tree.specs.Stmt.{MaybeTrees, no_trees, given_trees, Common, constants, variables, Stmt, empty, common, block, alone, assign, op_assign, define, increment, decrement, returning, breaking, continuing, branch, loop, while_true, counting, ranging, switch, MaybeStmt, Braces, braces}
use Rattle.ui_grammar.specs.Word.{Word, mark, spot_at}
use Rattle.ui_grammar.specs.Fits.{in_header, plain}
use Rattle.ui_grammar.specs.Statement.{SpellsStmt, SpellsMaybeExprs, FitsStmt, FitsMaybeTrees, stmt_depth, maybe_trees_depth, is_empty, is_simple}
use Rattle.ui_parse.specs.Reader.{first, tail, take_by, marked}
use Rattle.ui_parse.proofs.Outcomes.{take_mark, take_other}
use Rattle.ui_syntax.proofs.Places.{depth_positive}
use Rattle.ui_syntax.proofs.FirstWords.{tree_mark}
use Rattle.ui_syntax.proofs.CompleteTypesLists.{pick_same, room_is}
use Rattle.ui_syntax.proofs.CompleteExprsLists.{trees_of_list}
use Rattle.ui_stmts.specs.Common.{sized, exprs}
use Rattle.ui_stmts.specs.Simple.{simple}
use Rattle.ui_stmts.specs.Stmts.{NestedStmt, branch_stmt, for_stmt, switch_stmt, block_stmt, plain_stmt, stmt}
use Rattle.ui_stmts.specs.Laws.{EndsAStmt}
use Rattle.ui_stmts.proofs.ByBudget.{AreStmtsComplete, AreStmtsSteady}
use Rattle.ui_stmts.proofs.CompleteFirst.{NoExpr, no_expr_end, expr_none}
use Rattle.ui_stmts.proofs.CompleteMaybe.{maybe_some, maybe_none}
use Rattle.ui_stmts.proofs.CompleteLists.{listed, exprs_read}
use Rattle.ui_stmts.proofs.CompleteSpecs.{spec_end}
use Rattle.ui_stmts.proofs.CompleteValues.{ends_exprs, constants_read, variables_read}
use Rattle.ui_stmts.proofs.CompleteMarks.{head_end}
use Rattle.ui_stmts.proofs.CompleteSimple.{simple_read, simple_none}
use Rattle.ui_stmts.proofs.CompleteWords.{not_simple}
use Rattle.ui_stmts.proofs.CompleteBody.{body_read}
use Rattle.ui_stmts.proofs.CompleteBranch.{branch_read}
use Rattle.ui_stmts.proofs.CompleteFor.{loop_read, while_read, counting_read, ranging_read}
use Rattle.ui_stmts.proofs.CompleteSwitch.{switch_read}

-- no statement begins that begins with a keyword or a brace
record NoKeyword (ts : List Word) : Type 0 where
  no_brace : first (marked LBrace) ts ≡ None
  no_var : first (marked Var) ts ≡ None
  no_if : first (marked If) ts ≡ None
  no_return : first (marked Return) ts ≡ None
  no_break : first (marked Break) ts ≡ None
  no_continue : first (marked Continue) ts ≡ None
  no_for : first (marked For) ts ≡ None
  no_switch : first (marked Switch) ts ≡ None
  no_const : first (marked Const) ts ≡ None

simple_no_keyword : (t : Stmt) (ts rest : List Word) → is_simple t ≡ true → is_empty t ≡ false → SpellsStmt t ts rest → FitsStmt t plain → NoKeyword ts
simple_no_keyword t ts rest is words sp f = record {
  no_brace = without LBrace refl;
  no_var = without Var refl;
  no_if = without If refl;
  no_return = without Return refl;
  no_break = without Break refl;
  no_continue = without Continue refl;
  no_for = without For refl;
  no_switch = without Switch refl;
  no_const = without Const refl;
}
  where
    without : (k : TokenKind) → tree_mark false k ≡ false → first (marked k) ts ≡ None
    without k other = not_simple plain refl k t ts rest other is words sp f

end_no_keyword : (ts : List Word) → EndsAStmt ts → NoKeyword ts
end_no_keyword ts (inl m) = subst NoKeyword (sym m.1.is) (record { no_brace = refl; no_var = refl; no_if = refl; no_return = refl; no_break = refl; no_continue = refl; no_for = refl; no_switch = refl; no_const = refl })
end_no_keyword ts (inr m) = subst NoKeyword (sym m.1.is) (record { no_brace = refl; no_var = refl; no_if = refl; no_return = refl; no_break = refl; no_continue = refl; no_for = refl; no_switch = refl; no_const = refl })

-- what two lists of words that are the same begin with
first_spot : List Word → Spot → Spot
first_spot [] s = s
first_spot (w ∷ ws) s = spot_at w

words_same : (k : TokenKind) (s x : Spot) (ts us : List Word) → mark k s ∷ ts ≡ mark k x ∷ us → (s ≡ x) × (ts ≡ us)
unfolding first_spot
words_same k s x ts us e = (ap (λ (v : List Word). first_spot v s) e, ap tail e)

exprs_none : (room : ℕ) (ts : List Word) → NoExpr ts → exprs room false ts ≡ Err ts
unfolding exprs
exprs_none room ts n = rw (expr_none room false ts n) refl

module _ (room : ℕ) (inner : NestedStmt) (complete : AreStmtsComplete room inner) (steady : AreStmtsSteady inner) where
  abbrev Reads : Stmt → List Word → List Word → Type 0
  Reads t ts rest = stmt room inner ts ≡ Ok (sized t (stmt_depth t), rest)

  to_plain : (ts : List Word) → first (marked LBrace) ts ≡ None → first (marked Var) ts ≡ None → first (marked If) ts ≡ None → stmt room inner ts ≡ plain_stmt room inner ts
  unfolding stmt
  to_plain ts no_brace no_var no_if =
      take_other (marked LBrace) _ _ ts no_brace ∙ take_other (marked Var) _ _ ts no_var
      ∙ pick_same (nat_le 1 room) (take_by (marked If) (λ s. branch_stmt room inner s) (plain_stmt room inner)) (plain_stmt room inner) ts _ (take_other (marked If) _ _ ts no_if) refl

  to_simple : (ts : List Word) → NoKeyword ts → stmt room inner ts ≡ simple room false ts
  to_simple ts n =
      to_plain ts n.no_brace n.no_var n.no_if
      ∙ take_other (marked Return) _ _ ts n.no_return ∙ take_other (marked Break) _ _ ts n.no_break ∙ take_other (marked Continue) _ _ ts n.no_continue
      ∙ take_other (marked For) _ _ ts n.no_for ∙ take_other (marked Switch) _ _ ts n.no_switch ∙ take_other (marked Const) _ _ ts n.no_const

  -- ---- by their first words

  pub block_read : (s : Spot) (b : Braces) (ts rest : List Word) → SpellsStmt (block b) (mark LBrace s ∷ ts) rest → FitsStmt (block b) plain → stmt_depth (block b) ≤ suc room → block_stmt room inner s ts ≡ Ok (sized (block b) (stmt_depth (block b)), rest)
  unfolding block_stmt
  block_read s (braces x ss e) ts rest sp f le =
      let same = words_same LBrace s x ts sp.0 sp.2 in
      rw (same.0, same.1) (rw (body_read room inner complete steady x ss e sp.0 sp.1 rest sp.3 sp.4 f (omega (arith, le))) refl)

  pub branch_is_read : (s x : Spot) (init : MaybeStmt) (e : Tree) (b : Braces) (other : MaybeStmt) (ts rest : List Word) → SpellsStmt (branch x init e b other) (mark If s ∷ ts) rest → FitsStmt (branch x init e b other) plain → stmt_depth (branch x init e b other) ≤ suc room → EndsAStmt rest
      → branch_stmt room inner s ts ≡ Ok (sized (branch x init e b other) (stmt_depth (branch x init e b other)), rest)
  branch_is_read s x init e b other ts rest sp f le ends =
      let same = words_same If s x ts sp.0 sp.4 in
      rw (same.0, same.1) (branch_read room inner complete steady x init e b other sp.0 sp.1 sp.2 sp.3 rest sp.5 sp.6 sp.7 sp.8 f.0 (omega (arith, le))
      (record { condition = f.1; body = f.2; others = f.3; condition_depth = omega (arith, le); body_depth = omega (arith, le); other_depth = omega (arith, le) }) ends)

  return_read : (s : Spot) (es : MaybeTrees) (ts rest : List Word) → SpellsMaybeExprs es ts rest → FitsMaybeTrees es → maybe_trees_depth es ≤ room → EndsAStmt rest → Reads (returning s es) (mark Return s ∷ ts) rest
  return_read s no_trees ts rest sp f le ends =
      to_plain (mark Return s ∷ ts) refl refl refl ∙ take_mark Return _ _ s ts
      ∙ rw (sp, maybe_none (exprs room false) rest (exprs_none room rest (no_expr_end rest ends))) refl
  return_read s (given_trees es) ts rest sp f le ends =
      to_plain (mark Return s ∷ ts) refl refl refl ∙ take_mark Return _ _ s ts
      ∙ rw (maybe_some (exprs room false) ts rest (listed es) (exprs_read room false es ts rest sp f le (ends_exprs rest (spec_end rest ends))), trees_of_list es) refl

  for_is : (s : Spot) (ts : List Word) → stmt room inner (mark For s ∷ ts) ≡ for_stmt room inner s ts
  for_is s ts =
      to_plain (mark For s ∷ ts) refl refl refl ∙ take_other (marked Return) _ _ (mark For s ∷ ts) refl ∙ take_other (marked Break) _ _ (mark For s ∷ ts) refl ∙ take_other (marked Continue) _ _ (mark For s ∷ ts) refl ∙ take_mark For _ _ s ts

  switch_is : (s : Spot) (ts : List Word) → stmt room inner (mark Switch s ∷ ts) ≡ switch_stmt room inner s ts
  switch_is s ts =
      to_plain (mark Switch s ∷ ts) refl refl refl ∙ take_other (marked Return) _ _ (mark Switch s ∷ ts) refl ∙ take_other (marked Break) _ _ (mark Switch s ∷ ts) refl ∙ take_other (marked Continue) _ _ (mark Switch s ∷ ts) refl
      ∙ take_other (marked For) _ _ (mark Switch s ∷ ts) refl ∙ take_mark Switch _ _ s ts

  common_read : (c : Common) (ts rest : List Word) → SpellsStmt (common c) ts rest → FitsStmt (common c) plain → stmt_depth (common c) ≤ suc room → EndsAStmt rest → Reads (common c) ts rest
  unfolding stmt
  common_read (constants s vs) ts rest sp f le ends =
      ap (stmt room inner) sp.1 ∙ to_plain (mark Const s ∷ sp.0) refl refl refl
      ∙ take_other (marked Return) _ _ (mark Const s ∷ sp.0) refl ∙ take_other (marked Break) _ _ (mark Const s ∷ sp.0) refl ∙ take_other (marked Continue) _ _ (mark Const s ∷ sp.0) refl
      ∙ take_other (marked For) _ _ (mark Const s ∷ sp.0) refl ∙ take_other (marked Switch) _ _ (mark Const s ∷ sp.0) refl ∙ take_mark Const _ _ s sp.0
      ∙ rw (constants_read room s vs sp.0 rest sp.2 f (omega (arith, le)) (spec_end rest ends)) refl
  common_read (variables s vs) ts rest sp f le ends =
      ap (stmt room inner) sp.1 ∙ take_other (marked LBrace) _ _ (mark Var s ∷ sp.0) refl ∙ take_mark Var _ _ s sp.0
      ∙ rw (variables_read room s vs sp.0 rest sp.2 f (omega (arith, le)) (spec_end rest ends)) refl

  simple_stmt : (t : Stmt) (ts rest : List Word) → is_simple t ≡ true → is_empty t ≡ false → SpellsStmt t ts rest → FitsStmt t plain → stmt_depth t ≤ suc room → EndsAStmt rest → Reads t ts rest
  simple_stmt t ts rest is words sp f le ends = to_simple ts (simple_no_keyword t ts rest is words sp f) ∙ simple_read room false t ts rest is words sp f le (head_end false rest ends)

  pub stmt_read : (t : Stmt) (ts rest : List Word) → is_empty t ≡ false → SpellsStmt t ts rest → FitsStmt t plain → stmt_depth t ≤ suc room → EndsAStmt rest → Reads t ts rest
  unfolding stmt
  stmt_read empty ts rest words sp f le ends = absurd cc
  stmt_read (common c) ts rest words sp f le ends = common_read c ts rest sp f le ends
  stmt_read (block (braces x ss e)) ts rest words sp f le ends =
      ap (stmt room inner) sp.2 ∙ take_mark LBrace _ _ x sp.0
      ∙ block_read x (braces x ss e) sp.0 rest (sp.0, sp.1, refl, sp.3, sp.4) f le
  stmt_read (returning s es) ts rest words sp f le ends = ap (stmt room inner) sp.1 ∙ return_read s es sp.0 rest sp.2 f (omega (arith, le)) ends
  stmt_read (breaking s) ts rest words sp f le ends =
      ap (stmt room inner) sp ∙ to_plain (mark Break s ∷ rest) refl refl refl ∙ take_other (marked Return) _ _ (mark Break s ∷ rest) refl ∙ take_mark Break _ _ s rest
  stmt_read (continuing s) ts rest words sp f le ends =
      ap (stmt room inner) sp ∙ to_plain (mark Continue s ∷ rest) refl refl refl ∙ take_other (marked Return) _ _ (mark Continue s ∷ rest) refl ∙ take_other (marked Break) _ _ (mark Continue s ∷ rest) refl ∙ take_mark Continue _ _ s rest
  stmt_read (branch s i e b o) ts rest words sp f le ends =
      ap (stmt room inner) sp.4 ∙ take_other (marked LBrace) _ _ (mark If s ∷ sp.0) refl ∙ take_other (marked Var) _ _ (mark If s ∷ sp.0) refl
      ∙ rw (room_is 1 room (omega (arith, le, depth_positive e in_header f.1))) (take_mark If _ _ s sp.0
      ∙ branch_is_read s s i e b o sp.0 rest (sp.0, sp.1, sp.2, sp.3, refl, sp.5, sp.6, sp.7, sp.8) f le ends)
  stmt_read (loop s b) ts rest words sp f le ends = ap (stmt room inner) sp.1 ∙ for_is s sp.0 ∙ loop_read room inner complete steady s b sp.0 rest sp.2 f (omega (arith, le))
  stmt_read (while_true s e b) ts rest words sp f le ends =
      ap (stmt room inner) sp.2 ∙ for_is s sp.0 ∙ while_read room inner complete steady s e b sp.0 sp.1 rest sp.3 sp.4 f.0 f.1 (omega (arith, le)) (omega (arith, le))
  stmt_read (counting s i e p b) ts rest words sp f le ends =
      ap (stmt room inner) sp.6 ∙ for_is s sp.0
      ∙ counting_read room inner complete steady s i e p b sp.0 sp.1 sp.2 rest f.0 sp.7 sp.8
      (record { behind_condition = sp.3; before_post = sp.4; behind_post = sp.5; condition = sp.9; semicolon = sp.10; last = sp.11; body = sp.12 }) f.1 (omega (arith, le))
      (record { condition = f.2; simple = f.3; last = f.4; body = f.5; condition_depth = omega (arith, le); post_depth = omega (arith, le); body_depth = omega (arith, le) })
  stmt_read (ranging s ps e b) ts rest words sp f le ends =
      ap (stmt room inner) sp.4 ∙ for_is s sp.0
      ∙ ranging_read room inner complete steady s ps e b sp.0 sp.1 sp.2 sp.3 rest sp.5 sp.6 sp.7 sp.8 f.0 f.1 f.2 (omega (arith, le)) (omega (arith, le)) (omega (arith, le))
  stmt_read (switch s i e cs) ts rest words sp f le ends =
      ap (stmt room inner) sp.5 ∙ switch_is s sp.0
      ∙ switch_read room inner complete steady s i e cs sp.0 sp.1 sp.2 rest sp.6 sp.7 (record { inside = sp.3; end = sp.4; opens = sp.8; clauses = sp.9; close = sp.10 }) f.0 f.1 f.2 (omega (arith, le)) (omega (arith, le)) (omega (arith, le))
  stmt_read (alone e) ts rest words sp f le ends = simple_stmt (alone e) ts rest refl refl sp f le ends
  stmt_read (assign s l r) ts rest words sp f le ends = simple_stmt (assign s l r) ts rest refl refl sp f le ends
  stmt_read (op_assign s l o r) ts rest words sp f le ends = simple_stmt (op_assign s l o r) ts rest refl refl sp f le ends
  stmt_read (define s ns es) ts rest words sp f le ends = simple_stmt (define s ns es) ts rest refl refl sp f le ends
  stmt_read (increment s e) ts rest words sp f le ends = simple_stmt (increment s e) ts rest refl refl sp f le ends
  stmt_read (decrement s e) ts rest words sp f le ends = simple_stmt (decrement s e) ts rest refl refl sp f le ends

  -- and none where a statement ends
  pub stmt_none : (ts : List Word) → EndsAStmt ts → stmt room inner ts ≡ Err ts
  stmt_none ts ends = to_simple ts (end_no_keyword ts ends) ∙ simple_none room false ts (no_expr_end ts ends)
