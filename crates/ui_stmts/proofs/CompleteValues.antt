-- Constants and variables are read.
use Rattle.std.proofs.Common.{◌≡◌, ℕ, ◌≤◌, max, false, List, [], ◌∷◌, Some, None, Ok, refl, sym, ap, subst, ◌∙◌, arith}
use Rattle.std.specs.Prelude.{nat_le}
use Rattle.ui_base.specs.declared.value.Spot.{Spot}
use Rattle.ui_scan.specs.declared.kind.TokenKind.TheVariants.{LParen, RParen, Comma, Assign}
use Rattle.ui_tree.specs.declared.part.Placed.{Placed}
use Rattle.ui_tree.specs.Tree.{TypeTree, MaybeType, no_type, given_type, Trees, trees_end, tree_and}
use Rattle.ui_tree.specs.declared.part.Specs.{Specs}
use Rattle.ui_tree.specs.Stmt.{MaybeTrees, no_trees, given_trees, ValueGroup, constants, variables}
use Rattle.ui_tree.specs.View.{trees}
use Rattle.ui_grammar.specs.Word.{Word, mark, Mark, Names}
use Rattle.ui_grammar.specs.Spells.{SpellsType, SpellsExprs}
use Rattle.ui_grammar.specs.Fits.{Place, plain, plain_type, FitsType, FitsTrees, FitsMaybeType, type_depth, trees_depth}
use Rattle.ui_grammar.specs.Statement.{SpellsSpecs, SpellsConstantValue, SpellsVariableValue, SpellsConstant, SpellsVariable, FitsSpecs, FitsMaybeTrees, FitsValue, value_depth, specs_depth}
use Rattle.ui_parse.specs.Reader.{Reader, and_then, pure, first, take_by, marked}
use Rattle.ui_parse.proofs.Outcomes.{take_mark, take_other, expect_mark}
use Rattle.ui_syntax.specs.declared.site.TypeSite.TheVariants as at
use Rattle.ui_syntax.specs.Types.{of_type}
use Rattle.ui_syntax.specs.Read.{readers}
use Rattle.ui_syntax.proofs.ByBudget.{NoType, QuietType, TypeReadsTo}
use Rattle.ui_syntax.proofs.Quiet.{quiet_stop, no_type_stop, quiet_type_stop}
use Rattle.ui_syntax.proofs.Places.{type_positive, depth_positive}
use Rattle.ui_syntax.proofs.Complete.{readers_complete}
use Rattle.ui_syntax.proofs.CompleteExprsTrees.{no_mark_of_type, type_read_as}
use Rattle.ui_syntax.proofs.CompleteTypesLists.{pick_same, room_is}
use Rattle.ui_syntax.proofs.CompleteExprsLists.{trees_of_list}
use Rattle.ui_stmts.specs.Common.{Sized, sized, value_of, values, constant_behind, constant, variable, constant_decl, variable_decl}
use Rattle.ui_stmts.proofs.SteadyStmts.{steady_constant, steady_variable}
use Rattle.ui_stmts.proofs.CompleteLists.{EndsExprs, listed, exprs_read, names_read}
use Rattle.ui_stmts.proofs.CompleteSpecs.{EndsSpec, specs_read}

-- ---- parts

pub exprs_positive : (es : Trees) (p : Place) (ts rest : List Word) → SpellsExprs es ts rest → FitsTrees es p → 1 ≤ trees_depth es
exprs_positive trees_end p ts rest s f = absurd s
exprs_positive (tree_and e es) p ts rest s f = omega (arith, depth_positive e p f.0)

no_type_assign : (x : Spot) (ws : List Word) → NoType (mark Assign x ∷ ws)
no_type_assign x ws = record { no_name = refl; no_func = refl; no_struct = refl; no_interface = refl; no_bracket = refl; no_map = refl; no_pointer = refl; no_paren = refl }

quiet_assign : (t : TypeTree) (ts rest : List Word) → Mark Assign ts rest → QuietType t ts
quiet_assign t ts rest m = subst (QuietType t) (sym m.is) (record { no_dot = refl; no_bracket = refl; no_result = λ _. no_type_assign m.spot rest })

assign_no_comma : (ts rest : List Word) → Mark Assign ts rest → first (marked Comma) ts ≡ None
assign_no_comma ts rest m = ap (first (marked Comma)) m.is

pub ends_exprs : (ts : List Word) → EndsSpec ts → EndsExprs false ts
ends_exprs ts ends = record { quiet = quiet_stop _ 1 ts ends.stop; no_comma = ends.no_comma }

abbrev group : List Placed → MaybeType → MaybeTrees → ValueGroup
group ns o vs = record { names = ns; of = o; values = vs }

-- a group is read, with its depth
abbrev Reads : Reader (Sized ValueGroup) → ValueGroup → List Word → List Word → Type 0
Reads p v ts rest = p ts ≡ Ok (sized v (value_depth v), rest)

same_group : (v w : ValueGroup) (j k : ℕ) → v ≡ w → j ≡ k → ◌≡◌ {A = Sized ValueGroup} (sized v j) (sized w k)
same_group v w j k e d = rw (e, d) refl

of_list : (ns : List Placed) (o : MaybeType) (es : Trees) → group ns o (given_trees (trees (listed es).items)) ≡ group ns o (given_trees es)
of_list ns o es = ap (λ (v : Trees). group ns o (given_trees v)) (trees_of_list es)

module _ (budget : ℕ) where
  values_alone : (ns : List Placed) (es : Trees) (ts rest : List Word) → SpellsExprs es ts rest → FitsTrees es plain → trees_depth es ≤ budget → EndsSpec rest → Reads (values budget ns None) (group ns no_type (given_trees es)) ts rest
  values_alone ns es ts rest s f le ends =
      rw (exprs_read budget false es ts rest s f le (ends_exprs rest ends))
      (ap (λ (v : Sized ValueGroup). Ok (v, rest)) (same_group _ _ (trees_depth es) (max 0 (trees_depth es)) (of_list ns no_type es) (omega arith)))

  values_typed : (ns : List Placed) (t : TypeTree) (x : Spot) (es : Trees) (ts rest : List Word) → SpellsExprs es ts rest → FitsTrees es plain → trees_depth es ≤ budget → EndsSpec rest
      → Reads (values budget ns (Some (of_type t x (type_depth t)))) (group ns (given_type t) (given_trees es)) ts rest
  values_typed ns t x es ts rest s f le ends =
      rw (exprs_read budget false es ts rest s f le (ends_exprs rest ends))
      (ap (λ (v : Sized ValueGroup). Ok (v, rest)) (same_group _ _ (max (type_depth t) (trees_depth es)) (max (type_depth t) (trees_depth es)) (of_list ns (given_type t) es) refl))

  type_reads : (t : TypeTree) (ts rest : List Word) → SpellsType t ts rest → FitsType t plain_type → type_depth t ≤ budget → QuietType t rest → TypeReadsTo ((readers budget).maybe_type at.Plain ts) t ts rest
  type_reads t ts rest s f le q = (readers_complete budget).own.type at.Plain ts rest t s (f, le) q

  -- ---- constants

  constant_reads : (ns : List Placed) (o : MaybeType) (vs : MaybeTrees) (ts a rest : List Word) → Names ns ts a → SpellsConstantValue o vs a rest → FitsMaybeType o plain_type → FitsMaybeTrees vs → value_depth (group ns o vs) ≤ budget → EndsSpec rest
      → Reads (constant budget) (group ns o vs) ts rest
  unfolding constant
  constant_reads ns no_type no_trees ts a rest n s f g le ends =
      rw (names_read ns ts a n (subst (λ (v : List Word). first (marked Comma) v ≡ None) (sym s) ends.no_comma), s)
      (pick_same (nat_le 1 budget) (take_by (marked Assign) (λ _. values budget ns None) (λ v. and_then ((readers budget).maybe_type at.Plain v) (constant_behind budget ns))) (pure (value_of ns None None)) rest (Ok (value_of ns None None, rest))
      (take_other (marked Assign) _ _ rest ends.no_assign ∙ rw ((readers_complete budget).own.no_type rest (no_type_stop rest ends.stop)) refl) refl)
  constant_reads ns (given_type t) no_trees ts a rest n s f g le ends = absurd s
  constant_reads ns no_type (given_trees es) ts a rest n s f g le ends =
      let eq : a ≡ mark Assign s.3.spot ∷ s.1 = s.2 ∙ s.3.is in
      rw (names_read ns ts a n (ap (first (marked Comma)) eq), room_is 1 budget (omega (arith, exprs_positive es plain s.1 rest s.4 g, le)), eq)
      (take_mark Assign _ _ s.3.spot s.1 ∙ values_alone ns es s.1 rest s.4 g (omega (arith, le)) ends)
  constant_reads ns (given_type t) (given_trees es) ts a rest n s f g le ends =
      let r = type_reads t a s.0 s.2 f (omega (arith, le)) (quiet_assign t s.0 s.1 s.3) in
      rw (names_read ns ts a n (no_mark_of_type Comma t a s.0 refl s.2 f), room_is 1 budget (omega (arith, type_positive t f, le)))
      (take_other (marked Assign) _ _ a (no_mark_of_type Assign t a s.0 refl s.2 f)
      ∙ rw (type_read_as r, s.3.is, expect_mark) (values_typed ns t r.read.spot es s.1 rest s.4 g (omega (arith, le)) ends))

  -- ---- variables

  variable_reads : (ns : List Placed) (o : MaybeType) (vs : MaybeTrees) (ts a rest : List Word) → Names ns ts a → SpellsVariableValue o vs a rest → FitsMaybeType o plain_type → FitsMaybeTrees vs → value_depth (group ns o vs) ≤ budget → EndsSpec rest
      → Reads (variable budget) (group ns o vs) ts rest
  unfolding variable
  variable_reads ns no_type no_trees ts a rest n s f g le ends = absurd s
  variable_reads ns (given_type t) no_trees ts a rest n s f g le ends =
      let r = type_reads t a rest s f (omega (arith, le)) (quiet_type_stop t rest ends.stop) in
      rw (room_is 1 budget (omega (arith, type_positive t f, le)), names_read ns ts a n (no_mark_of_type Comma t a rest refl s f))
      (take_other (marked Assign) _ _ a (no_mark_of_type Assign t a rest refl s f)
      ∙ rw (type_read_as r) (take_other (marked Assign) _ _ rest ends.no_assign ∙ ap (λ (v : Sized ValueGroup). Ok (v, rest)) (same_group _ _ (type_depth t) (max (type_depth t) 0) refl (omega arith))))
  variable_reads ns no_type (given_trees es) ts a rest n s f g le ends =
      let eq : a ≡ mark Assign s.3.spot ∷ s.1 = s.2 ∙ s.3.is in
      rw (room_is 1 budget (omega (arith, exprs_positive es plain s.1 rest s.4 g, le)), names_read ns ts a n (ap (first (marked Comma)) eq), eq)
      (take_mark Assign _ _ s.3.spot s.1 ∙ values_alone ns es s.1 rest s.4 g (omega (arith, le)) ends)
  variable_reads ns (given_type t) (given_trees es) ts a rest n s f g le ends =
      let r = type_reads t a s.0 s.2 f (omega (arith, le)) (quiet_assign t s.0 s.1 s.3) in
      rw (room_is 1 budget (omega (arith, type_positive t f, le)), names_read ns ts a n (no_mark_of_type Comma t a s.0 refl s.2 f))
      (take_other (marked Assign) _ _ a (no_mark_of_type Assign t a s.0 refl s.2 f)
      ∙ rw (type_read_as r, s.3.is) (take_mark Assign _ _ s.3.spot s.1 ∙ values_typed ns t r.read.spot es s.1 rest s.4 g (omega (arith, le)) ends))

-- ---- behind the keyword

name_opens : (ns : List Placed) (ts rest : List Word) → Names ns ts rest → (first (marked LParen) ts ≡ None) × (first (marked RParen) ts ≡ None)
name_opens [] ts rest n = absurd n
name_opens (p ∷ ps) ts rest n = (ap (first (marked LParen)) n.1, ap (first (marked RParen)) n.1)

pub constants_read : (budget : ℕ) (x : Spot) (vs : Specs ValueGroup) (ts rest : List Word) → SpellsSpecs SpellsConstant vs ts rest → FitsSpecs FitsValue vs → specs_depth value_depth vs ≤ budget → EndsSpec rest
    → constant_decl budget x ts ≡ Ok (sized (constants x vs) (specs_depth value_depth vs), rest)
unfolding constant_decl
constants_read budget x vs ts rest s f le ends =
    rw (specs_read SpellsConstant FitsValue value_depth budget (constant budget) (steady_constant budget) (λ v ws more p. name_opens v.names ws p.0 p.1)
    (λ v ws more p g small behind. constant_reads budget v.names v.of v.values ws p.0 more p.1 p.2 g.0 g.1 small behind) vs ts rest s f le ends) refl

pub variables_read : (budget : ℕ) (x : Spot) (vs : Specs ValueGroup) (ts rest : List Word) → SpellsSpecs SpellsVariable vs ts rest → FitsSpecs FitsValue vs → specs_depth value_depth vs ≤ budget → EndsSpec rest
    → variable_decl budget x ts ≡ Ok (sized (variables x vs) (specs_depth value_depth vs), rest)
unfolding variable_decl
variables_read budget x vs ts rest s f le ends =
    rw (specs_read SpellsVariable FitsValue value_depth budget (variable budget) (steady_variable budget) (λ v ws more p. name_opens v.names ws p.0 p.1)
    (λ v ws more p g small behind. variable_reads budget v.names v.of v.values ws p.0 more p.1 p.2 g.0 g.1 small behind) vs ts rest s f le ends) refl
