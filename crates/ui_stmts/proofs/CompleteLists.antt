-- Lists of expressions and of names are read, before words that do not go on.
use Rattle.std.proofs.Common.{◌≡◌, ℕ, ◌≤◌, Bool, List, [], ◌∷◌, ◌++◌, None, Ok, refl, sym, ap, subst, ◌∙◌, append_assoc, arith}
use Rattle.std.proofs.lemmas.List.{append-nil}
use Rattle.ui_base.specs.declared.value.Spot.{Spot}
use Rattle.ui_scan.specs.declared.kind.TokenKind.TheVariants.{Comma}
use Rattle.ui_tree.specs.declared.part.Placed.{Placed}
use Rattle.ui_tree.specs.Tree.{Tree, Trees, trees_end, tree_and}
use Rattle.ui_grammar.specs.Word.{Word, ident, Begins, Names, NamesTail}
use Rattle.ui_grammar.specs.Spells.{Spells, SpellsMore, SpellsExprs}
use Rattle.ui_grammar.specs.Fits.{Fits, FitsTrees, depth, trees_depth}
use Rattle.ui_parse.specs.Reader.{first, marked, chain}
use Rattle.ui_parse.proofs.Outcomes.{expect_name_ident}
use Rattle.ui_parse.proofs.TurnLaws.{chain_end, chain_next}
use Rattle.ui_syntax.specs.Types.{Listed, add, only}
use Rattle.ui_syntax.specs.Exprs.{of_tree}
use Rattle.ui_syntax.specs.Read.{place_of, expr, place_at}
use Rattle.ui_syntax.proofs.ByBudget.{Quiet}
use Rattle.ui_syntax.proofs.Quiet.{stop_comma, stop_mark, quiet_stop}
use Rattle.ui_syntax.proofs.Complete.{expr_complete}
use Rattle.ui_syntax.proofs.CompleteExprsTrees.{read_as}
use Rattle.ui_syntax.proofs.CompleteExprsLists.{tree_list, with_trees, trees_none, trees_more}
use Rattle.ui_stmts.specs.Common.{one_expr_more, exprs_from, exprs, one_more, names}
use Rattle.ui_stmts.proofs.SteadyStmts.{steady_one_expr_more, steady_one_more}

-- behind a list of expressions
pub record EndsExprs (header : Bool) (ts : List Word) : Type 0 where
  pub quiet : Quiet (place_of header) 1 ts
  pub no_comma : first (marked Comma) ts ≡ None

abbrev pub listed : Trees → Listed Tree
listed es = record { items = tree_list es; depth = trees_depth es }

-- an expression, with its spot
pub record ExprReads (budget : ℕ) (header : Bool) (e : Tree) (ts rest : List Word) : Type 0 where
  pub spot : Spot
  pub begins : Begins spot ts
  pub is : expr budget header ts ≡ Ok (of_tree e spot (depth e), rest)

module _ (budget : ℕ) (header : Bool) where
  pub expr_reads : (e : Tree) (ts rest : List Word) → Spells e ts rest → Fits e (place_at (place_of header)) → depth e ≤ budget → Quiet (place_of header) 1 rest → ExprReads budget header e ts rest
  expr_reads e ts rest s f le q =
      let r = expr_complete budget header ts rest e s f le q in
      record { spot = r.read.spot; begins = r.begins; is = read_as r }

  more_quiet : (es : Trees) (ts rest : List Word) → SpellsMore es ts rest → EndsExprs header rest → Quiet (place_of header) 1 ts
  more_quiet trees_end ts rest s ends = subst (Quiet (place_of header) 1) (sym s) ends.quiet
  more_quiet (tree_and e es) ts rest s ends = quiet_stop (place_of header) 1 ts (stop_mark Comma ts s.0 stop_comma s.2)

  one_read : (l : Listed Tree) (e : Tree) (ts rest : List Word) → Spells e ts rest → Fits e (place_at (place_of header)) → depth e ≤ budget → Quiet (place_of header) 1 rest → one_expr_more budget header l ts ≡ Ok (add l e (depth e), rest)
  one_read l e ts rest s f le q = rw (expr_reads e ts rest s f le q).is refl

  -- behind a first expression
  pub more_read : (es : Trees) (l : Listed Tree) (ts rest : List Word) → SpellsMore es ts rest → FitsTrees es (place_at (place_of header)) → trees_depth es ≤ budget → EndsExprs header rest → exprs_from budget header l ts ≡ Ok (with_trees l es, rest)
  more_read trees_end l ts rest s f le ends =
      ap (exprs_from budget header l) s ∙ chain_end Comma (one_expr_more budget header) (steady_one_expr_more budget header) l rest ends.no_comma
      ∙ ap (λ (v : Listed Tree). Ok (v, rest)) (trees_none l)
  more_read (tree_and e es) l ts rest s f le ends =
      ap (exprs_from budget header l) s.2.is
      ∙ chain_next Comma (one_expr_more budget header) (steady_one_expr_more budget header) l s.2.spot s.0 (add l e (depth e)) s.1 (one_read l e s.0 s.1 s.3 f.0 (omega (arith, le)) (more_quiet es s.1 rest s.4 ends))
      ∙ more_read es (add l e (depth e)) s.1 rest s.4 f.1 (omega (arith, le)) ends
      ∙ ap (λ (v : Listed Tree). Ok (v, rest)) (trees_more l e es)

  -- a first expression before others
  pub first_reads : (e : Tree) (es : Trees) (ts a rest : List Word) → Spells e ts a → SpellsMore es a rest → Fits e (place_at (place_of header)) → depth e ≤ budget → EndsExprs header rest → ExprReads budget header e ts a
  first_reads e es ts a rest s more f le ends = expr_reads e ts a s f le (more_quiet es a rest more ends)

  pub exprs_read : (es : Trees) (ts rest : List Word) → SpellsExprs es ts rest → FitsTrees es (place_at (place_of header)) → trees_depth es ≤ budget → EndsExprs header rest → exprs budget header ts ≡ Ok (listed es, rest)
  unfolding exprs
  exprs_read trees_end ts rest s f le ends = absurd s
  exprs_read (tree_and e es) ts rest s f le ends =
      let r = first_reads e es ts s.0 rest s.1 s.2 f.0 (omega (arith, le)) ends in
      rw r.is (more_read es (only e (depth e)) s.0 rest s.2 f.1 (omega (arith, le)) ends)

-- ---- names

name_more : (ns : List Placed) (p : Placed) (rest : List Word) → one_more ns (ident p ∷ rest) ≡ Ok (ns ++ (p ∷ []), rest)
name_more ns p rest = rw (expect_name_ident p rest) refl

names_tail : (ps ns : List Placed) (ts rest : List Word) → NamesTail ps ts rest → first (marked Comma) rest ≡ None → chain Comma one_more ns ts ≡ Ok (ns ++ ps, rest)
names_tail [] ns ts rest s no_comma =
    ap (chain Comma one_more ns) s ∙ chain_end Comma one_more steady_one_more ns rest no_comma ∙ ap (λ (v : List Placed). Ok (v, rest)) (sym (append-nil ns))
names_tail (p ∷ ps) ns ts rest s no_comma =
    ap (chain Comma one_more ns) s.2.is
    ∙ chain_next Comma one_more steady_one_more ns s.2.spot s.0 (ns ++ (p ∷ [])) s.1 (ap (one_more ns) s.3 ∙ name_more ns p s.1)
    ∙ names_tail ps (ns ++ (p ∷ [])) s.1 rest s.4 no_comma
    ∙ ap (λ (v : List Placed). Ok (v, rest)) (append_assoc ns (p ∷ []) ps)

pub names_read : (ns : List Placed) (ts rest : List Word) → Names ns ts rest → first (marked Comma) rest ≡ None → names ts ≡ Ok (ns, rest)
unfolding names
names_read [] ts rest s no_comma = absurd s
names_read (p ∷ ps) ts rest s no_comma =
    ap names s.1 ∙ rw (expect_name_ident p s.0) (names_tail ps (p ∷ []) s.0 rest s.2 no_comma)
