-- Statements of `if` are read, given the readers of statements below.
use Rattle.std.proofs.Common.{◌≡◌, inl, inr, ℕ, suc, ◌≤◌, max, true, false, List, ◌∷◌, None, Ok, refl, ap, subst, ◌∙◌, arith}
use Rattle.std.specs.Prelude.{nat_le}
use Rattle.ui_base.specs.declared.value.Spot.{Spot}
use Rattle.ui_scan.specs.declared.kind.TokenKind.TheVariants.{LBrace, Semi, If, Else}
use Rattle.ui_tree.specs.Tree.{Tree}
use Rattle.ui_tree.specs.Stmt.{Stmt, block, assign, op_assign, define, increment, decrement, branch, MaybeStmt, no_stmt, given_stmt, Braces, braces}
use Rattle.ui_grammar.specs.Word.{Word, mark, Mark}
use Rattle.ui_grammar.specs.Spells.{Spells}
use Rattle.ui_grammar.specs.Fits.{in_header, plain, Fits, depth}
use Rattle.ui_grammar.specs.Statement.{SpellsStmt, SpellsInit, SpellsElse, SpellsBraces, FitsStmt, FitsInit, FitsElse, FitsBraces, stmt_depth, maybe_stmt_depth, braces_depth, is_empty, is_simple, is_alternative}
use Rattle.ui_parse.specs.Reader.{first, take_by, marked}
use Rattle.ui_parse.proofs.Outcomes.{take_mark, take_other, expect_mark}
use Rattle.ui_syntax.specs.Cover.{Read}
use Rattle.ui_syntax.specs.Exprs.{of_tree}
use Rattle.ui_syntax.proofs.Places.{depth_positive}
use Rattle.ui_syntax.proofs.CompleteExprsTrees.{no_mark}
use Rattle.ui_syntax.proofs.CompleteTypesLists.{pick_same, room_is}
use Rattle.ui_stmts.specs.Common.{Sized, sized}
use Rattle.ui_stmts.specs.Stmts.{NestedStmt, Init, no_init, empty_init, init_of, alone_init, branch_of, other_block, other_branch, branches, condition, branch_stmt}
use Rattle.ui_stmts.specs.Laws.{FitsBudget, EndsAStmt}
use Rattle.ui_stmts.proofs.ByBudget.{AreStmtsComplete, AreStmtsSteady}
use Rattle.ui_stmts.proofs.CompleteLists.{expr_reads}
use Rattle.ui_stmts.proofs.CompleteMarks.{EndsHead, head_semi, head_body}
use Rattle.ui_stmts.proofs.CompleteSimple.{SimpleCase, an_empty, an_expression, an_operation, simple_case, is_operation, head_alone, head_operation}
use Rattle.ui_stmts.proofs.CompleteWords.{not_simple}
use Rattle.ui_stmts.proofs.CompleteBody.{stmt_is, a_body_read}

-- a body opens with its brace
pub opens : (b : Braces) (ts rest : List Word) → SpellsBraces b ts rest → (a : List Word) × Mark LBrace ts a
opens (braces s ss e) ts rest sp = (sp.0, record { spot = s; is = sp.2 })

pub body_ends : (b : Braces) (ts rest : List Word) → SpellsBraces b ts rest → EndsHead true ts
body_ends b ts rest sp = let o = opens b ts rest sp in head_body ts o.0 o.1

pub not_semi : (b : Braces) (ts rest : List Word) → SpellsBraces b ts rest → first (marked Semi) ts ≡ None
not_semi b ts rest sp = ap (first (marked Semi)) (opens b ts rest sp).1.is

no_else : (ts : List Word) → EndsAStmt ts → first (marked Else) ts ≡ None
no_else ts (inl m) = ap (first (marked Else)) m.1.is
no_else ts (inr m) = ap (first (marked Else)) m.1.is

pub operation_words : (t : Stmt) → is_operation t ≡ true → (is_empty t ≡ false) × (is_simple t ≡ true)
operation_words t o = by_case t o
  where
    by_case : (t : Stmt) → is_operation t ≡ true → (is_empty t ≡ false) × (is_simple t ≡ true)
    by_case (assign s l r) o = (refl, refl)
    by_case (op_assign s l op r) o = (refl, refl)
    by_case (define s ns es) o = (refl, refl)
    by_case (increment s e) o = (refl, refl)
    by_case (decrement s e) o = (refl, refl)
    by_case _ o = absurd cc

pub operation_opens : (t : Stmt) (ts rest : List Word) → is_operation t ≡ true → SpellsStmt t ts rest → FitsStmt t in_header → first (marked Semi) ts ≡ None
operation_opens t ts rest o sp f = let w = operation_words t o in not_simple in_header refl Semi t ts rest refl w.1 w.0 sp f

module _ (room : ℕ) (inner : NestedStmt) (complete : AreStmtsComplete room inner) (steady : AreStmtsSteady inner) where
  -- ---- behind the condition

  block_other : (make : MaybeStmt → ℕ → Sized Stmt) (s : Spot) (o : Stmt) (ts rest : List Word) → SpellsStmt o (mark LBrace s ∷ ts) rest → FitsBudget room o → is_alternative o ≡ true → EndsAStmt rest
      → other_block room inner make (mark LBrace s ∷ ts) ≡ Ok (make (given_stmt o) (stmt_depth o), rest)
  block_other make s o ts rest sp f alt ends = rw (expect_mark LBrace s ts, stmt_is o rest (complete.block s ts rest o sp f alt ends)) refl

  other_read : (make : MaybeStmt → ℕ → Sized Stmt) (o : Stmt) (ts rest : List Word) → SpellsStmt o ts rest → FitsStmt o plain → stmt_depth o ≤ room → is_alternative o ≡ true → EndsAStmt rest
      → other_branch room inner make ts ≡ Ok (make (given_stmt o) (stmt_depth o), rest)
  other_read make (block (braces x ss e)) ts rest sp f le alt ends =
      let b = block_other make x (block (braces x ss e)) sp.0 rest (subst (λ (v : List Word). SpellsStmt (block (braces x ss e)) v rest) sp.2 sp) (record { fits = f; words = refl; shallow = le }) refl ends in
      ap (other_branch room inner make) sp.2
      ∙ pick_same (nat_le 2 room) (take_by (marked If) _ (other_block room inner make)) (other_block room inner make) (mark LBrace x ∷ sp.0) _ (take_other (marked If) _ _ (mark LBrace x ∷ sp.0) refl ∙ b) b
  other_read make (branch x i e b o) ts rest sp f le alt ends =
      let r = complete.branch x sp.0 rest (branch x i e b o) (subst (λ (v : List Word). SpellsStmt (branch x i e b o) v rest) sp.4 sp) (record { fits = f; words = refl; shallow = le }) refl ends in
      ap (other_branch room inner make) sp.4
      ∙ rw (room_is 2 room (omega (arith, le, depth_positive e in_header f.1))) (take_mark If _ _ x sp.0 ∙ rw (stmt_is (branch x i e b o) rest r) refl)
  other_read make _ ts rest sp f le alt ends = absurd cc

  pub branches_read : (s : Spot) (i : Init room inner) (c : Read Tree) (b : Braces) (other : MaybeStmt) (ts m rest : List Word) → SpellsBraces b ts m → SpellsElse other m rest → FitsBraces b → FitsElse other → braces_depth b ≤ room → maybe_stmt_depth other ≤ room → EndsAStmt rest
      → branches room inner s i c ts ≡ Ok (branch_of room inner s i c (sized b (braces_depth b)) other (maybe_stmt_depth other), rest)
  branches_read s i c b no_stmt ts m rest sp other f g le le2 ends =
      rw (a_body_read room inner complete steady b ts m sp f le, other) (take_other (marked Else) _ _ rest (no_else rest ends))
  branches_read s i c b (given_stmt o) ts m rest sp other f g le le2 ends =
      rw (a_body_read room inner complete steady b ts m sp f le, other.1.is) (take_mark Else _ _ other.1.spot other.0
      ∙ other_read (branch_of room inner s i c (sized b (braces_depth b))) o other.0 rest other.2 g.1 le2 g.0 ends)

  -- ---- from the condition on

  pub record FitsBranch (e : Tree) (b : Braces) (other : MaybeStmt) : Type 0 where
    pub condition : Fits e in_header
    pub body : FitsBraces b
    pub others : FitsElse other
    pub condition_depth : depth e ≤ room
    pub body_depth : braces_depth b ≤ room
    pub other_depth : maybe_stmt_depth other ≤ room

  abbrev whole : Spot → Init room inner → Tree → Braces → MaybeStmt → Sized Stmt
  whole s i e b other = sized (branch s i.of e b other) (suc (max (max i.depth (depth e)) (max (braces_depth b) (maybe_stmt_depth other))))

  condition_read : (s : Spot) (i : Init room inner) (e : Tree) (b : Braces) (other : MaybeStmt) (ts c d rest : List Word) → Spells e ts c → SpellsBraces b c d → SpellsElse other d rest → FitsBranch e b other → EndsAStmt rest
      → condition room inner s i ts ≡ Ok (whole s i e b other, rest)
  condition_read s i e b other ts c d rest sp body others f ends =
      let r = expr_reads room true e ts c sp f.condition f.condition_depth (body_ends b c d body).exprs.quiet in
      rw r.is (branches_read s i (of_tree e r.spot (depth e)) b other c d rest body others f.body f.others f.body_depth f.other_depth ends)

  -- behind the keyword
  pub branch_read : (s : Spot) (init : MaybeStmt) (e : Tree) (b : Braces) (other : MaybeStmt) (ts m c d rest : List Word) → SpellsInit init ts m → Spells e m c → SpellsBraces b c d → SpellsElse other d rest → FitsInit init → maybe_stmt_depth init ≤ room → FitsBranch e b other → EndsAStmt rest
      → branch_stmt room inner s ts ≡ Ok (sized (branch s init e b other) (stmt_depth (branch s init e b other)), rest)
  unfolding branch_stmt
  branch_read s no_stmt e b other ts m c d rest init sp body others g small f ends =
      let r = head_alone room false e m c sp f.condition f.condition_depth (body_ends b c d body) in
      let on = branches_read s (no_init room inner) (of_tree e r.spot (depth e)) b other c d rest body others f.body f.others f.body_depth f.other_depth ends in
      ap (branch_stmt room inner s) init ∙ take_other (marked Semi) _ _ m (no_mark Semi e in_header m c refl sp f.condition)
      ∙ rw r.is (pick_same (nat_le (suc (depth e)) room) (take_by (marked Semi) _ (branches room inner s (no_init room inner) (of_tree e r.spot (depth e)))) (branches room inner s (no_init room inner) (of_tree e r.spot (depth e))) c _ (take_other (marked Semi) _ _ c (not_semi b c d body) ∙ on) on)
  branch_read s (given_stmt i) e b other ts m c d rest init sp body others g small f ends = by_case i (simple_case i g.0) init.1 g.1 small
    where
      by_case : (i : Stmt) → SimpleCase i → SpellsStmt i ts init.0 → FitsStmt i in_header → stmt_depth i ≤ room → branch_stmt room inner s ts ≡ Ok (sized (branch s (given_stmt i) e b other) (stmt_depth (branch s (given_stmt i) e b other)), rest)
      by_case _ an_empty is h le =
          ap (branch_stmt room inner s) (is ∙ init.2.is) ∙ take_mark Semi _ _ init.2.spot m ∙ condition_read s (empty_init room inner) e b other m c d rest sp body others f ends
      by_case _ (an_expression x) is h le =
          let r = head_alone room false x ts init.0 is h (omega (arith, le)) (head_semi true init.0 m init.2) in
          take_other (marked Semi) _ _ ts (no_mark Semi x in_header ts init.0 refl is h)
          ∙ rw (r.is, room_is (suc (depth x)) room le, init.2.is) (take_mark Semi _ _ init.2.spot m ∙ condition_read s (alone_init room inner (of_tree x r.spot (depth x))) e b other m c d rest sp body others f ends)
      by_case i (an_operation o) is h le =
          take_other (marked Semi) _ _ ts (operation_opens i ts init.0 o is h)
          ∙ rw (head_operation room false i ts init.0 o is h le (head_semi true init.0 m init.2), init.2.is, expect_mark Semi init.2.spot m) (condition_read s (init_of room inner (sized i (stmt_depth i))) e b other m c d rest sp body others f ends)
