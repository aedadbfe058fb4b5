-- What begins a header or is a simple statement is read: definitions, places of a range, and expressions alone.
use Rattle.std.proofs.Common.{◌≡◌, ℕ, suc, ◌≤◌, Bool, true, false, List, [], ◌∷◌, Option, Some, None, Ok, refl, ap, subst, ◌∙◌, arith}
use Rattle.std.specs.Prelude.{nat_le}
use Rattle.ui_base.specs.declared.value.Spot.{Spot}
use Rattle.ui_scan.specs.declared.kind.TokenKind.TheVariants.{Comma, Assign, Define, Inc, Dec, Range}
use Rattle.ui_tree.specs.declared.part.Placed.{Placed}
use Rattle.ui_tree.specs.Tree.{Tree, name, Trees, trees_end, tree_and}
use Rattle.ui_tree.specs.Stmt.{Places, places, define}
use Rattle.ui_tree.specs.View.{trees}
use Rattle.ui_grammar.specs.Word.{Word, ident, mark, Mark, Begins, Names, NamesTail}
use Rattle.ui_grammar.specs.Spells.{Spells, SpellsMore, SpellsExprs}
use Rattle.ui_grammar.specs.Fits.{Place, Fits, FitsTrees, depth, trees_depth}
use Rattle.ui_grammar.specs.Statement.{SpellsPlaces}
use Rattle.ui_parse.specs.Reader.{pure, take_by, marked}
use Rattle.ui_parse.proofs.Outcomes.{take_mark, take_other, expect_mark}
use Rattle.ui_syntax.specs.Cover.{Read}
use Rattle.ui_syntax.specs.Types.{Listed}
use Rattle.ui_syntax.specs.Exprs.{of_tree}
use Rattle.ui_syntax.specs.Read.{place_of, place_at}
use Rattle.ui_syntax.proofs.FirstWords.{begins_spelled}
use Rattle.ui_syntax.proofs.CompleteTypesLists.{pick_same}
use Rattle.ui_syntax.proofs.CompleteExprsLists.{tree_list, trees_of_list}
use Rattle.ui_stmts.specs.Common.{sized}
use Rattle.ui_stmts.specs.Simple.{an_assignment, names_in, Head, expression, statement, range_over, defined, or_range, defined_by, assignment, define_or, behind_first, head_behind}
use Rattle.ui_stmts.proofs.CompleteLists.{EndsExprs, listed, expr_reads, exprs_read}
use Rattle.ui_stmts.proofs.CompleteMarks.{ends_assign, ends_define, EndsHead}
use Rattle.ui_stmts.proofs.CompleteFronts.{same_statement, no_range, front, first_at, many_at, or_other}

-- ---- names as expressions

abbrev pub name_trees : List Placed → Trees
name_trees [] = trees_end
name_trees (p ∷ ps) = tree_and (name p) (name_trees ps)

more_names : (ps : List Placed) (ts rest : List Word) → NamesTail ps ts rest → SpellsMore (name_trees ps) ts rest
more_names [] ts rest s = s
more_names (p ∷ ps) ts rest s = (s.0, s.1, s.2, s.3, more_names ps s.1 rest s.4)

names_fit : (ps : List Placed) (p : Place) → FitsTrees (name_trees ps) p
names_fit [] p = tt
names_fit (n ∷ ps) p = (tt, names_fit ps p)

names_small : (ps : List Placed) → trees_depth (name_trees ps) ≤ 1
names_small [] = omega arith
names_small (p ∷ ps) = omega (arith, names_small ps)

names_there : (ps : List Placed) → names_in (tree_list (name_trees ps)) ≡ Some ps
names_there [] = refl
names_there (p ∷ ps) = rw (names_there ps) refl

module _ (start room : ℕ) (header ranged : Bool) (wide : room ≤ start) where
  abbrev place : Place
  place = place_at (place_of header)

  -- up to what names or other trees begin
  define_first : (s : Spot) (e : Tree) (ts a b : List Word) → Begins s ts → Spells e ts a → Fits e place → depth e ≤ room
      → (m : Mark Define a b) → front start room header ranged wide ts ≡ define_or room header ranged (of_tree e s (depth e)) (names_in (e ∷ [])) (mark Define m.spot ∷ b)
  define_first s e ts a b at sp f le m =
      first_at start room header ranged wide s e ts a at sp f le (ends_define header a b m).quiet ∙ ap (behind_first room header ranged (of_tree e s (depth e))) m.is
      ∙ take_other (marked Comma) _ _ (mark Define m.spot ∷ b) refl ∙ take_other (marked Assign) _ _ (mark Define m.spot ∷ b) refl ∙ take_other an_assignment _ _ (mark Define m.spot ∷ b) refl
      ∙ take_other (marked Inc) _ _ (mark Define m.spot ∷ b) refl ∙ take_other (marked Dec) _ _ (mark Define m.spot ∷ b) refl

  define_many : (s : Spot) (e g : Tree) (es : Trees) (ts a b : List Word) → Begins s ts → SpellsExprs (tree_and e (tree_and g es)) ts a → FitsTrees (tree_and e (tree_and g es)) place → trees_depth (tree_and e (tree_and g es)) ≤ room
      → (m : Mark Define a b) → front start room header ranged wide ts ≡ defined_by room header ranged s (listed (tree_and e (tree_and g es))) (names_in (e ∷ g ∷ tree_list es)) (mark Define m.spot ∷ b)
  define_many s e g es ts a b at sp f le m =
      many_at start room header ranged wide s e g es ts a at sp f le (ends_define header a b m)
      ∙ ap (assignment room header ranged s (listed (tree_and e (tree_and g es)))) m.is ∙ take_other (marked Assign) _ _ (mark Define m.spot ∷ b) refl

  -- ---- definitions

  defined_at : (s : Spot) (ns : List Placed) (ps : Places) (k : ℕ) (es : Trees) (ts rest : List Word) → SpellsExprs es ts rest → FitsTrees es place → trees_depth es ≤ room → EndsExprs header rest
      → or_range room header ranged ps k (defined room header ranged s ns) ts ≡ Ok (statement (sized (define s ns es) (suc (trees_depth es))), rest)
  defined_at s ns ps k es ts rest sp f le ends =
      or_other start room header ranged wide ps k (defined room header ranged s ns) ts _ (no_range es place ts rest sp f)
      (rw (exprs_read room header es ts rest sp f le ends) (ap (λ (h : Head). Ok (h, rest)) (same_statement _ _ _ _ (ap (define s ns) (trees_of_list es)) refl)))

  pub define_read : (s : Spot) (ns : List Placed) (es : Trees) (ts a b rest : List Word) → Begins s ts → Names ns ts a → Mark Define a b → SpellsExprs es b rest → FitsTrees es place → trees_depth es ≤ room → 1 ≤ room → EndsExprs header rest
      → front start room header ranged wide ts ≡ Ok (statement (sized (define s ns es) (suc (trees_depth es))), rest)
  define_read s [] es ts a b rest at n m sp f le le2 ends = absurd n
  define_read s (p ∷ []) es ts a b rest at n m sp f le le2 ends =
      define_first s (name p) ts a b at (n.1 ∙ ap (λ (v : List Word). ident p ∷ v) n.2) tt le2 m
      ∙ take_mark Define _ _ m.spot b ∙ defined_at s (p ∷ []) _ _ es b rest sp f le ends
  define_read s (p ∷ (q ∷ ps)) es ts a b rest at n m sp f le le2 ends =
      define_many s (name p) (name q) (name_trees ps) ts a b at (n.0, n.1, more_names (q ∷ ps) n.0 a n.2) (names_fit (p ∷ (q ∷ ps)) place) (omega (arith, names_small (p ∷ (q ∷ ps)), le2)) m
      ∙ ap (λ (v : Option (List Placed)). defined_by room header ranged s (listed (name_trees (p ∷ (q ∷ ps)))) v (mark Define m.spot ∷ b)) (names_there (p ∷ (q ∷ ps)))
      ∙ take_mark Define _ _ m.spot b ∙ defined_at s (p ∷ (q ∷ ps)) _ _ es b rest sp f le ends

  -- ---- an expression alone

  define_or_end : (x : Read Tree) (m : Option (List Placed)) (ts : List Word) → EndsHead header ts → define_or room header ranged x m ts ≡ Ok (expression x, ts)
  define_or_end x None ts ends = pick_same ranged (take_by (marked Define) _ (pure (expression x))) (pure (expression x)) ts (Ok (expression x, ts)) (take_other (marked Define) _ _ ts ends.no_define) refl
  define_or_end x (Some ns) ts ends = take_other (marked Define) _ _ ts ends.no_define

  behind_end : (x : Read Tree) (ts : List Word) → EndsHead header ts → behind_first room header ranged x ts ≡ Ok (expression x, ts)
  behind_end x ts ends =
      take_other (marked Comma) _ _ ts ends.exprs.no_comma ∙ take_other (marked Assign) _ _ ts ends.no_assign ∙ take_other an_assignment _ _ ts ends.no_assignment
      ∙ take_other (marked Inc) _ _ ts ends.no_inc ∙ take_other (marked Dec) _ _ ts ends.no_dec ∙ define_or_end x (names_in (x.tree ∷ [])) ts ends

  pub record AloneReads (e : Tree) (ts rest : List Word) : Type 0 where
    pub spot : Spot
    pub is : front start room header ranged wide ts ≡ Ok (expression (of_tree e spot (depth e)), rest)

  pub alone_read : (e : Tree) (ts rest : List Word) → Spells e ts rest → Fits e place → depth e ≤ start → EndsHead header rest → AloneReads e ts rest
  unfolding head_behind
  alone_read e ts rest sp f le ends =
      let r = expr_reads start header e ts rest sp f le ends.exprs.quiet in
      let x = of_tree e r.spot (depth e) in
      record { spot = r.spot; is = rw r.is (pick_same (nat_le (depth e) room) (behind_first room header ranged x) (pure (expression x)) rest (Ok (expression x, rest)) (behind_end x rest ends) refl) }

-- ---- places of a range

module _ (start room : ℕ) (wide : room ≤ start) where
  abbrev over : Trees → Bool → Head
  over es defines = range_over (sized (places es defines) (suc (trees_depth es)))

  same_over : (xs es : Trees) (defines : Bool) (j : ℕ) → xs ≡ es → j ≡ trees_depth es → range_over (sized (places xs defines) (suc j)) ≡ over es defines
  same_over xs es defines j e d = rw (e, d) refl

  define_or_range : (x : Read Tree) (m : Option (List Placed)) (y z : Spot) (rest : List Word) → define_or room true true x m (mark Define y ∷ (mark Range z ∷ rest)) ≡ Ok (range_over (sized (places (tree_and x.tree trees_end) true) (suc x.depth)), rest)
  define_or_range x None y z rest = take_mark Define _ _ y (mark Range z ∷ rest) ∙ rw (expect_mark Range z rest) refl
  define_or_range x (Some ns) y z rest = take_mark Define _ _ y (mark Range z ∷ rest) ∙ take_mark Range _ _ z rest

  defined_by_range : (s : Spot) (l : Listed Tree) (m : Option (List Placed)) (y z : Spot) (rest : List Word) → defined_by room true true s l m (mark Define y ∷ (mark Range z ∷ rest)) ≡ Ok (range_over (sized (places (trees l.items) true) (suc l.depth)), rest)
  defined_by_range s l None y z rest = take_mark Define _ _ y (mark Range z ∷ rest) ∙ rw (expect_mark Range z rest) refl
  defined_by_range s l (Some ns) y z rest = take_mark Define _ _ y (mark Range z ∷ rest) ∙ take_mark Range _ _ z rest

  defines_read : (es : Trees) (ts a b rest : List Word) → SpellsExprs es ts a → Mark Define a b → Mark Range b rest → FitsTrees es (place_at (place_of true)) → trees_depth es ≤ room → front start room true true wide ts ≡ Ok (over es true, rest)
  defines_read trees_end ts a b rest sp m n f le = absurd sp
  defines_read (tree_and e trees_end) ts a b rest sp m n f le =
      let at = begins_spelled e ts sp.0 sp.1 in
      define_first start room true true wide at.0 e ts a b at.1 (subst (Spells e ts) sp.2 sp.1) f.0 (omega (arith, le)) m
      ∙ ap (λ (v : List Word). define_or room true true (of_tree e at.0 (depth e)) (names_in (e ∷ [])) (mark Define m.spot ∷ v)) n.is
      ∙ define_or_range (of_tree e at.0 (depth e)) (names_in (e ∷ [])) m.spot n.spot rest
      ∙ ap (λ (h : Head). Ok (h, rest)) (same_over (tree_and e trees_end) (tree_and e trees_end) true (depth e) refl (omega arith))
  defines_read (tree_and e (tree_and g es)) ts a b rest sp m n f le =
      let at = begins_spelled e ts sp.0 sp.1 in
      define_many start room true true wide at.0 e g es ts a b at.1 sp f le m
      ∙ ap (λ (v : List Word). defined_by room true true at.0 (listed (tree_and e (tree_and g es))) (names_in (e ∷ g ∷ tree_list es)) (mark Define m.spot ∷ v)) n.is
      ∙ defined_by_range at.0 (listed (tree_and e (tree_and g es))) (names_in (e ∷ g ∷ tree_list es)) m.spot n.spot rest
      ∙ ap (λ (h : Head). Ok (h, rest)) (same_over _ (tree_and e (tree_and g es)) true _ (trees_of_list (tree_and e (tree_and g es))) refl)

  assigns_read : (es : Trees) (ts a b rest : List Word) → SpellsExprs es ts a → Mark Assign a b → Mark Range b rest → FitsTrees es (place_at (place_of true)) → trees_depth es ≤ room → front start room true true wide ts ≡ Ok (over es false, rest)
  assigns_read trees_end ts a b rest sp m n f le = absurd sp
  assigns_read (tree_and e trees_end) ts a b rest sp m n f le =
      let at = begins_spelled e ts sp.0 sp.1 in
      first_at start room true true wide at.0 e ts a at.1 (subst (Spells e ts) sp.2 sp.1) f.0 (omega (arith, le)) (ends_assign true a b m).quiet
      ∙ ap (behind_first room true true (of_tree e at.0 (depth e))) (m.is ∙ ap (λ (v : List Word). mark Assign m.spot ∷ v) n.is)
      ∙ take_other (marked Comma) _ _ (mark Assign m.spot ∷ (mark Range n.spot ∷ rest)) refl ∙ take_mark Assign _ _ m.spot (mark Range n.spot ∷ rest) ∙ take_mark Range _ _ n.spot rest
      ∙ ap (λ (h : Head). Ok (h, rest)) (same_over (tree_and e trees_end) (tree_and e trees_end) false (depth e) refl (omega arith))
  assigns_read (tree_and e (tree_and g es)) ts a b rest sp m n f le =
      let at = begins_spelled e ts sp.0 sp.1 in
      many_at start room true true wide at.0 e g es ts a at.1 sp f le (ends_assign true a b m)
      ∙ ap (assignment room true true at.0 (listed (tree_and e (tree_and g es)))) (m.is ∙ ap (λ (v : List Word). mark Assign m.spot ∷ v) n.is)
      ∙ take_mark Assign _ _ m.spot (mark Range n.spot ∷ rest) ∙ take_mark Range _ _ n.spot rest
      ∙ ap (λ (h : Head). Ok (h, rest)) (same_over _ (tree_and e (tree_and g es)) false _ (trees_of_list (tree_and e (tree_and g es))) refl)

  pub places_read : (es : Trees) (defines : Bool) (ts a rest : List Word) → SpellsPlaces (places es defines) ts a → Mark Range a rest → FitsTrees es (place_at (place_of true)) → trees_depth es ≤ room → front start room true true wide ts ≡ Ok (over es defines, rest)
  places_read es true ts a rest sp n f le = defines_read es ts sp.0 a rest sp.1 sp.2 n f le
  places_read es false ts a rest sp n f le = assigns_read es ts sp.0 a rest sp.1 sp.2 n f le
