-- What begins a header or is a simple statement is read: behind its first expression.
use Rattle.std.proofs.Common.{◌≡◌, ℕ, suc, ◌≤◌, max, Bool, false, List, [], ◌∷◌, None, Ok, refl, sym, ap, subst, ◌∙◌, arith}
use Rattle.ui_base.specs.declared.value.Spot.{Spot}
use Rattle.ui_base.specs.declared.kind.BinOp.{BinOp}
use Rattle.ui_scan.specs.declared.kind.TokenKind.TheVariants.{Comma, Assign, Inc, Dec, Range}
use Rattle.ui_tree.specs.Tree.{Tree, Trees, trees_end, tree_and}
use Rattle.ui_tree.specs.Stmt.{Places, places, Stmt, assign, op_assign, increment, decrement}
use Rattle.ui_tree.specs.View.{trees}
use Rattle.ui_grammar.specs.Word.{Word, mark, Mark, Begins}
use Rattle.ui_grammar.specs.Operator.{assign_mark_of}
use Rattle.ui_grammar.specs.Spells.{Spells, SpellsExprs}
use Rattle.ui_grammar.specs.Fits.{Place, Fits, FitsTrees, depth, trees_depth}
use Rattle.ui_grammar.specs.Statement.{MarkOfAssign}
use Rattle.ui_parse.specs.Reader.{Outcome, Reader, and_then, first, take_by, marked}
use Rattle.ui_parse.proofs.Outcomes.{take_passes, take_mark, take_other}
use Rattle.ui_syntax.specs.Types.{Listed, only}
use Rattle.ui_syntax.specs.Exprs.{of_tree}
use Rattle.ui_syntax.specs.Read.{place_of, expr, place_at}
use Rattle.ui_syntax.proofs.ByBudget.{Quiet}
use Rattle.ui_syntax.proofs.Quiet.{stop_comma, stop_mark, quiet_stop}
use Rattle.ui_syntax.proofs.FirstWords.{same_spot}
use Rattle.ui_syntax.proofs.CompleteExprsTrees.{no_mark}
use Rattle.ui_syntax.proofs.CompleteTypesLists.{pick_same, room_is}
use Rattle.ui_syntax.proofs.CompleteExprsLists.{tree_list, trees_of_list, listed_is}
use Rattle.ui_stmts.specs.Common.{sized}
use Rattle.ui_stmts.specs.Simple.{an_assignment, Head, statement, assigned, or_range, assignment, behind_first, head_behind}
use Rattle.ui_stmts.proofs.CompleteLists.{EndsExprs, listed, expr_reads, first_reads, more_read, exprs_read}
use Rattle.ui_stmts.proofs.CompleteMarks.{ends_assign, quiet_inc, quiet_dec, op_mark}

pub same_statement : (t u : Stmt) (j k : ℕ) → t ≡ u → j ≡ k → statement (sized t j) ≡ statement (sized u k)
same_statement t u j k e d = rw (e, d) refl

pub no_range : (es : Trees) (p : Place) (ts rest : List Word) → SpellsExprs es ts rest → FitsTrees es p → first (marked Range) ts ≡ None
no_range trees_end p ts rest s f = absurd s
no_range (tree_and e es) p ts rest s f = no_mark Range e p ts s.0 refl s.1 f.0

module _ (start room : ℕ) (header ranged : Bool) (wide : room ≤ start) where
  abbrev place : Place
  place = place_at (place_of header)

  -- an expression within the start, and what is behind it
  abbrev pub front : Reader Head
  front ts = and_then (expr start header ts) (head_behind room header ranged)

  expr_at : (budget : ℕ) (s : Spot) (e : Tree) (ts rest : List Word) → Begins s ts → Spells e ts rest → Fits e place → depth e ≤ budget → Quiet (place_of header) 1 rest → expr budget header ts ≡ Ok (of_tree e s (depth e), rest)
  expr_at budget s e ts rest b sp f le q =
      let r = expr_reads budget header e ts rest sp f le q in
      r.is ∙ ap (λ (x : Spot). Ok (of_tree e x (depth e), rest)) (same_spot r.spot s ts r.begins b)

  pub first_at : (s : Spot) (e : Tree) (ts a : List Word) → Begins s ts → Spells e ts a → Fits e place → depth e ≤ room → Quiet (place_of header) 1 a → front ts ≡ behind_first room header ranged (of_tree e s (depth e)) a
  unfolding head_behind
  first_at s e ts a b sp f le q = rw (expr_at start s e ts a b sp f (omega (arith, le, wide)) q, room_is (depth e) room le) refl

  pub many_at : (s : Spot) (e g : Tree) (es : Trees) (ts a : List Word) → Begins s ts → SpellsExprs (tree_and e (tree_and g es)) ts a → FitsTrees (tree_and e (tree_and g es)) place → trees_depth (tree_and e (tree_and g es)) ≤ room → EndsExprs header a
      → front ts ≡ assignment room header ranged s (listed (tree_and e (tree_and g es))) a
  many_at s e g es ts a b sp f le ends =
      let quiet : Quiet (place_of header) 1 sp.0 = quiet_stop (place_of header) 1 sp.0 (stop_mark Comma sp.0 sp.2.0 stop_comma sp.2.2) in
      let second = first_reads room header g es sp.2.0 sp.2.1 a sp.2.3 sp.2.4 f.1.0 (omega (arith, le)) ends in
      first_at s e ts sp.0 b sp.1 f.0 (omega (arith, le)) quiet
      ∙ ap (behind_first room header ranged (of_tree e s (depth e))) sp.2.2.is ∙ take_mark Comma _ _ sp.2.2.spot sp.2.0
      ∙ rw second.is (rw (more_read room header es (record { items = e ∷ g ∷ []; depth = max (depth e) (depth g) }) sp.2.1 a sp.2.4 f.1.1 (omega (arith, le)) ends)
      (ap (λ (l : Listed Tree). assignment room header ranged s l a) (listed_is (e ∷ g ∷ tree_list es) (e ∷ g ∷ tree_list es) (max (max (depth e) (depth g)) (trees_depth es)) (max (depth e) (max (depth g) (trees_depth es))) refl (omega arith))))

  -- ---- "="

  pub or_other : (ps : Places) (k : ℕ) (other : Reader Head) (ts : List Word) (o : Outcome Head) → first (marked Range) ts ≡ None → other ts ≡ o → or_range room header ranged ps k other ts ≡ o
  or_other ps k other ts o other_word e = pick_same ranged (take_by (marked Range) _ other) other ts o (take_other (marked Range) _ other ts other_word ∙ e) e

  -- the places, however they are read
  assigned_at : (s : Spot) (l : Listed Tree) (ls r : Trees) (ts rest : List Word) → trees l.items ≡ ls → l.depth ≡ trees_depth ls → SpellsExprs r ts rest → FitsTrees r place → trees_depth r ≤ room → EndsExprs header rest
      → or_range room header ranged (places (trees l.items) false) l.depth (assigned room header ranged s l) ts ≡ Ok (statement (sized (assign s ls r) (suc (max (trees_depth ls) (trees_depth r)))), rest)
  assigned_at s l ls r ts rest e d sp f le ends =
      or_other (places (trees l.items) false) l.depth (assigned room header ranged s l) ts _ (no_range r place ts rest sp f)
      (rw (exprs_read room header r ts rest sp f le ends) (ap (λ (h : Head). Ok (h, rest)) (same_statement _ _ _ _ (rw (e, trees_of_list r) refl) (rw d refl))))

  pub assign_read : (s : Spot) (l r : Trees) (ts a b rest : List Word) → Begins s ts → SpellsExprs l ts a → Mark Assign a b → SpellsExprs r b rest → FitsTrees l place → FitsTrees r place → trees_depth l ≤ room → trees_depth r ≤ room → EndsExprs header rest
      → front ts ≡ Ok (statement (sized (assign s l r) (suc (max (trees_depth l) (trees_depth r)))), rest)
  assign_read s trees_end r ts a b rest at sp m sr f g le le2 ends = absurd sp
  assign_read s (tree_and e trees_end) r ts a b rest at sp m sr f g le le2 ends =
      first_at s e ts sp.0 at sp.1 f.0 (omega (arith, le)) (subst (Quiet (place_of header) 1) (sym sp.2) (ends_assign header a b m).quiet)
      ∙ ap (behind_first room header ranged (of_tree e s (depth e))) (sp.2 ∙ m.is)
      ∙ take_other (marked Comma) _ _ (mark Assign m.spot ∷ b) refl ∙ take_mark Assign _ _ m.spot b
      ∙ assigned_at s (only e (depth e)) (tree_and e trees_end) r b rest refl (omega arith) sr g le2 ends
  assign_read s (tree_and e (tree_and h es)) r ts a b rest at sp m sr f g le le2 ends =
      many_at s e h es ts a at sp f le (ends_assign header a b m)
      ∙ ap (assignment room header ranged s (listed (tree_and e (tree_and h es)))) m.is ∙ take_mark Assign _ _ m.spot b
      ∙ assigned_at s (listed (tree_and e (tree_and h es))) (tree_and e (tree_and h es)) r b rest (trees_of_list (tree_and e (tree_and h es))) refl sr g le2 ends

  -- ---- an operator with "=", "++" and "--"

  pub op_assign_read : (s : Spot) (l : Tree) (o : BinOp) (r : Tree) (ts a b rest : List Word) → Begins s ts → Spells l ts a → MarkOfAssign (assign_mark_of o) a b → Spells r b rest → Fits l place → Fits r place → depth l ≤ room → depth r ≤ room → Quiet (place_of header) 1 rest
      → front ts ≡ Ok (statement (sized (op_assign s l o r) (suc (max (depth l) (depth r)))), rest)
  op_assign_read s l o r ts a b rest at sp m sr f g le le2 q =
      let k = op_mark header o a b m in
      first_at s l ts a at sp f le (subst (Quiet (place_of header) 1) (sym k.is) k.quiet)
      ∙ ap (behind_first room header ranged (of_tree l s (depth l))) k.is
      ∙ take_other (marked Comma) _ _ (k.word ∷ b) k.no_comma ∙ take_other (marked Assign) _ _ (k.word ∷ b) k.no_assign ∙ take_passes an_assignment _ _ k.word b o k.operator
      ∙ rw (expr_reads room header r b rest sr g le2 q).is refl

  pub increment_read : (s : Spot) (e : Tree) (ts a rest : List Word) → Begins s ts → Spells e ts a → Mark Inc a rest → Fits e place → depth e ≤ room → front ts ≡ Ok (statement (sized (increment s e) (suc (depth e))), rest)
  increment_read s e ts a rest at sp m f le =
      first_at s e ts a at sp f le (quiet_inc header a rest m) ∙ ap (behind_first room header ranged (of_tree e s (depth e))) m.is
      ∙ take_other (marked Comma) _ _ (mark Inc m.spot ∷ rest) refl ∙ take_other (marked Assign) _ _ (mark Inc m.spot ∷ rest) refl ∙ take_other an_assignment _ _ (mark Inc m.spot ∷ rest) refl ∙ take_mark Inc _ _ m.spot rest

  pub decrement_read : (s : Spot) (e : Tree) (ts a rest : List Word) → Begins s ts → Spells e ts a → Mark Dec a rest → Fits e place → depth e ≤ room → front ts ≡ Ok (statement (sized (decrement s e) (suc (depth e))), rest)
  decrement_read s e ts a rest at sp m f le =
      first_at s e ts a at sp f le (quiet_dec header a rest m) ∙ ap (behind_first room header ranged (of_tree e s (depth e))) m.is
      ∙ take_other (marked Comma) _ _ (mark Dec m.spot ∷ rest) refl ∙ take_other (marked Assign) _ _ (mark Dec m.spot ∷ rest) refl ∙ take_other an_assignment _ _ (mark Dec m.spot ∷ rest) refl
      ∙ take_other (marked Inc) _ _ (mark Dec m.spot ∷ rest) refl ∙ take_mark Dec _ _ m.spot rest
