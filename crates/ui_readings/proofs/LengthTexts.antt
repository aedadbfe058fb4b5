-- Type parameters whose words are an array's length too: the expression, and that there is none elsewhere.
use Rattle.std.proofs.Common.{◌≡◌, inl, ◌≤◌, ℕ, Bool, true, false, List, [], ◌∷◌, refl, sym, ap, subst, ◌∙◌, arith}
use Rattle.std.specs.Prelude.{◌&&◌}
use Rattle.std.proofs.lemmas.Bool.{and_parts}
use Rattle.ui_base.specs.declared.value.Spot.{Spot}
use Rattle.ui_base.specs.declared.kind.BinOp.TheVariants as op
use Rattle.ui_scan.specs.declared.kind.TokenKind.TheVariants.{LParen, RParen, RBracket, Comma}
use Rattle.ui_tree.specs.declared.part.Placed.{Placed}
use Rattle.ui_tree.specs.Tree.{TypeTree, parenthesized, pointer, array, union, Types, types_end, type_and, Groups, groups_end, group_and, Tree, name, index, call, type_arg, binary, trees_end, tree_and}
use Rattle.ui_grammar.specs.Word.{Word, ident, Mark, Begins}
use Rattle.ui_grammar.specs.Both.{one_name, no_groups, is_expression, continues, all_expressions, bound_continues, is_length}
use Rattle.ui_grammar.specs.Spells.{SpellsType, SpellsTermsTail, SpellsGroups, SpellsGroupsTail, Spells}
use Rattle.ui_grammar.specs.Fits.{plain, argument, plain_type, term, level, Fits, FitsType, FitsTypes}
use Rattle.ui_grammar.specs.Declaration.{SpellsTypeParams, FitsTypeParams}
use Rattle.ui_syntax.proofs.Places.{TermCase, one_type, with_tilde, term_case, fits_argument}
use Rattle.ui_syntax.proofs.Covers.{tree_of_type}
use Rattle.ui_stmts.proofs.NoBoth.{no_both}
use Rattle.ui_readings.specs.Lengths.{SpellsMoreParams, SpellsParams, IsLengthText, LengthsAreExpressions}

clash : {X : Type 0} → false ≡ true → X
clash e = absurd cc

-- an expression over these words that binds as tightly, or more so
record IsTree (least : ℕ) (ts rest : List Word) : Type 0 where
  tree : Tree
  spells : Spells tree ts rest
  fits : Fits tree plain
  tight : least ≤ level tree

-- a type in parentheses as an argument
record IsArgument (ts rest : List Word) : Type 0 where
  tree : Tree
  spells : Spells tree ts rest
  fits : Fits tree argument

argument_of : (t : TypeTree) (ts rest : List Word) (b : Bool) → is_expression t ≡ b → SpellsType t ts rest → FitsType t plain_type → IsArgument ts rest
argument_of t ts rest true e s f =
    let x = tree_of_type t ts rest e s f in
    record { tree = x.0; spells = x.1; fits = fits_argument x.0 x.2 }
argument_of t ts rest false e s f = record { tree = type_arg t; spells = s; fits = (refl, e, f) }

-- what begins at a spot, with what its text goes on with
module _ (spot : Spot) (ts : List Word) (begins : Begins spot ts) where
  called : (e : Tree) (a b c rest : List Word) → level e ≡ 7 → Fits e plain → Spells e ts a → Mark LParen a b → IsArgument b c → Mark RParen c rest → IsTree 5 ts rest
  called e a b c rest tight f s open_ arg close = record {
    tree = call spot e (tree_and arg.tree trees_end) false;
    spells = (a, b, begins, s, open_, (c, arg.spells, (c, refl, inl close)));
    fits = (tight, f, (arg.fits, tt));
    tight = omega arith;
  }

  continued : (t : TypeTree) (e : Tree) (a rest : List Word) → continues t ≡ true → level e ≡ 7 → Fits e plain → Spells e ts a → SpellsType t a rest → FitsType t plain_type → IsTree 5 ts rest
  continued (parenthesized x t) e a rest more tight f s h g =
      called e a h.0 h.1 rest tight f s (record { spot = x; is = h.2 }) (argument_of t h.0 h.1 (is_expression t) refl h.3 g.1) h.4
  continued (pointer x t) e a rest more tight f s h g =
      let y = tree_of_type t h.0 rest more h.2 g.1 in
      record {
        tree = binary spot op.Mul e y.0;
        spells = (a, h.0, begins, s, record { spot = x; is = h.1 }, y.1);
        fits = (omega (arith, tight), omega (arith, y.6), f, y.2);
        tight = omega arith;
      }
  continued (array x i t) e a rest more tight f s h g =
      continued t (index spot e i) h.2 rest more refl (tight, f, g.1) (a, h.0, h.1, begins, s, record { spot = x; is = h.3 }, h.4, h.5) h.6 g.2
  continued _ e a rest more tight f s h g = absurd cc

  -- further terms of a union
  with_terms : (us : Types) (e : Tree) (a rest : List Word) → all_expressions us ≡ true → 4 ≤ level e → Fits e plain → Spells e ts a → SpellsTermsTail us a rest → FitsTypes us term → IsLengthText ts rest
  with_terms types_end e a rest more tight f s h g = record { tree = e; spells = subst (Spells e ts) h s; fits = f }
  with_terms (type_and t us) e a rest more tight f s h g =
      let both = and_parts (is_expression t) (all_expressions us) more in
      by_term (λ e2 b tight2 f2 s2 h2. with_terms us e2 b rest both.1 tight2 f2 s2 h2 g.1) both.0 (term_case t g.0)
    where
      by_term : ((e2 : Tree) (b : List Word) → 4 ≤ level e2 → Fits e2 plain → Spells e2 ts b → SpellsTermsTail us b rest → IsLengthText ts rest)
          → is_expression t ≡ true → TermCase t → IsLengthText ts rest
      by_term go is (with_tilde x u same k) = clash (subst (λ (v : TypeTree). is_expression v ≡ true) same is)
      by_term go is (one_type k) =
          let y = tree_of_type t h.0 h.1 is h.3 k in
          go (binary spot op.Or e y.0) h.1 (omega arith) (tight, omega (arith, y.6), f, y.2) (a, h.0, begins, s, h.2, y.1) h.4

  bound_of : (t : TypeTree) (us : Types) (e : Tree) (a b rest : List Word) → continues t ≡ true → all_expressions us ≡ true → level e ≡ 7 → Fits e plain → Spells e ts a
      → SpellsType t a b → TermCase t → SpellsTermsTail us b rest → FitsTypes us term → IsLengthText ts rest
  bound_of t us e a b rest first others tight f s h (with_tilde x u same k) more g = clash (subst (λ (v : TypeTree). continues v ≡ true) same first)
  bound_of t us e a b rest first others tight f s h (one_type k) more g =
      let y = continued t e a b first tight f s h k in
      with_terms us y.tree b rest others (omega (arith, y.tight)) y.fits y.spells more g

-- the parts of the test
length_parts : (a b c : Bool) → (a && (b && c)) ≡ true → (a ≡ true) × (b ≡ true) × (c ≡ true)
length_parts a b c e =
    let both = and_parts a (b && c) e in
    let others = and_parts b c both.1 in
    (both.0, others.0, others.1)

spelled_at : (ns : List Placed) (t : TypeTree) (gs : Groups) (ts rest : List Word) → one_name ns ≡ true → no_groups gs ≡ true → bound_continues t ≡ true
    → SpellsParams (group_and ns t gs) ts rest → FitsTypeParams (group_and ns t gs) → IsLengthText ts rest
spelled_at (p ∷ []) (union x (type_and t us)) groups_end ts rest one last more s f =
    let both = and_parts (continues t) (all_expressions us) more in
    let label = s.2 in
    let first = s.3.1 in
    let terms = f.1.0.1 in
    bound_of p.spot ts (subst (Begins p.spot) (sym label.1) refl) t us (name p) s.0 first.0 rest both.0 both.1 refl tt
    (label.1 ∙ ap (λ (v : List Word). ident p ∷ v) label.2) first.1 (term_case t terms.0) (subst (SpellsTermsTail us first.0) s.4 first.2) terms.1
spelled_at _ _ _ ts rest one last more s f = absurd cc

-- the words of a length spell an expression
spelled : (gs : Groups) (ts rest : List Word) → is_length gs ≡ true → SpellsParams gs ts rest → FitsTypeParams gs → IsLengthText ts rest
spelled groups_end ts rest is s f = absurd s
spelled (group_and ns t gs) ts rest is s f =
    let parts = length_parts (one_name ns) (no_groups gs) (bound_continues t) is in
    spelled_at ns t gs ts rest parts.0 parts.1 parts.2 s f

-- with the bracket behind them
more_with_bracket : (gs : Groups) (ts rest after : List Word) → SpellsMoreParams gs ts rest → Mark RBracket rest after → SpellsGroupsTail Comma RBracket gs ts after
more_with_bracket groups_end ts rest after s close = inl (subst (λ (v : List Word). Mark RBracket v after) (sym s) close)
more_with_bracket (group_and ns t gs) ts rest after s close = (s.0, s.1, s.2, s.3, s.4, s.5, more_with_bracket gs s.2 rest after s.6 close)

with_bracket : (gs : Groups) (ts rest after : List Word) → SpellsParams gs ts rest → Mark RBracket rest after → SpellsGroups Comma RBracket gs ts after
with_bracket groups_end ts rest after s close = absurd s
with_bracket (group_and ns t gs) ts rest after s close = (s.0, s.1, s.2, s.3, more_with_bracket gs s.1 rest after s.4 close)

-- elsewhere there is none
taken : (gs : Groups) (ts rest after : List Word) (b : Bool) → is_length gs ≡ b → SpellsParams gs ts rest → FitsTypeParams gs → Mark RBracket rest after → IsLengthText ts rest → b ≡ true
taken gs ts rest after true is s f close e = refl
taken groups_end ts rest after false is s f close e = absurd s
taken (group_and ns t gs) ts rest after false is s f close e =
    absurd (no_both e.tree (group_and ns t gs) ts rest after after e.spells close e.fits
    (subst (λ b. SpellsTypeParams b (group_and ns t gs) ts after) (sym is) (with_bracket (group_and ns t gs) ts rest after s close)) f)

pub lengths_are_expressions : LengthsAreExpressions
lengths_are_expressions gs ts rest after s f close = ((λ is. spelled gs ts rest is s f), (λ e. taken gs ts rest after (is_length gs) refl s f close e))
