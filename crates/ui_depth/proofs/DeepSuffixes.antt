-- What follows an operand, beside what follows it within greater budgets.
use Rattle.std.proofs.Common.{◌≡◌, ℕ, zero, suc, ◌+◌, ◌-◌, ◌≤◌, Bool, true, false, cond, List, ◌∷◌, Option, Some, None, Ok, refl, sym, ap, subst, ◌∙◌, arith}
use Rattle.std.specs.Prelude.{◌&&◌, not, nat_le}
use Rattle.std.proofs.lemmas.Bool.{le-leb, lt-leb, leb-true, leb-false}
use Rattle.ui_scan.specs.declared.kind.TokenKind.TheVariants.{LParen, RParen, LBracket, RBracket, LBrace, Comma, Period, Colon, Ellipsis}
use Rattle.ui_tree.specs.Tree.{TypeTree, Tree, MaybeTree, absent, given}
use Rattle.ui_grammar.specs.Word.{Word}
use Rattle.ui_parse.specs.Reader.{Reader, and_then, ◌>>=◌, pure, take_by, marked, named as a_name}
use Rattle.ui_parse.proofs.Outcomes.{holds_at, marked_is}
use Rattle.ui_parse.proofs.Alike.{Ends, ends_bind}
use Rattle.ui_parse.proofs.Steady.{Steady, steady_eat, steady_expect}
use Rattle.ui_syntax.specs.declared.site.Site.{Site}
use Rattle.ui_syntax.specs.declared.site.Site.TheVariants.{Plain, Argument}
use Rattle.ui_syntax.specs.Cover.{Read, only_type, as_type, if_named}
use Rattle.ui_syntax.specs.Types.{Nested, of_type, any_end, one_more, a_type}
use Rattle.ui_syntax.specs.Exprs.{is_some, is_header, Arguments, no_arguments, call_ending, literal_of, asserted, selected, third_bound, second_bound, bounds, instance_behind, behind_index, indexed, argument, called, literal_or, one_suffix, suffixes, primary}
use Rattle.ui_syntax.specs.Read.{readers}
use Rattle.ui_syntax.proofs.SteadyExprs.{steady_suffixes}
use Rattle.ui_syntax.proofs.Steady.{readers_steady}
use Rattle.ui_depth.proofs.Deeper.{StopsAt, reads, faults, Deeper, alike, deeper_as, same_here, Deepens, Never, deeper_then, deep_bind, deep_bind_at, deep_same, deep_pure, deep_refuse, deeper_take, deep_take, deeper_ahead, cond_on, cond_off, stops_then, halt_take, halt_expect, halt_eat}
use Rattle.ui_depth.proofs.Goes.{goes, no_goes, no_goes_type}
use Rattle.ui_depth.proofs.Lists.{deep_parts, more_parts_stops}
use Rattle.ui_depth.proofs.Budgets.{above, above_is, ExprStop, AnyStop, AreDeeper}
use Rattle.ui_depth.proofs.DeepParams.{deep_a_type, deep_more_args, deep_args_behind}
use Rattle.ui_depth.proofs.Depths.{Each, Within, Grown, literal_grows, selected_grows, indexed_grows, called_grows, operand_within}
use Rattle.ui_depth.proofs.DeepOperands.{deep_operand, deep_literal_of}

module _ (d : ℕ) (is : AreDeeper d) where
  -- ---- one suffix, which ends with a name or a bracket of its own

  deep_asserted : (f : Read Tree) → Deepens Never (asserted d (readers d) f) (λ e. asserted (above d e) (readers (above d e)) f)
  deep_asserted f = deep_bind {D = Never} (deep_same (steady_expect LParen))
      (λ _. deep_bind (deep_a_type d is) (λ t. deep_bind {D = Never} (deep_same (steady_expect RParen)) (λ _. deep_pure _) (λ a w r h. absurd h)) (λ t w r g. halt_expect RParen _ (no_goes_type RParen w g refl)))
      (λ a w r h. absurd h)

  deep_selected : (f : Read Tree) → Deepens Never (selected d (readers d) f) (λ e. selected (above d e) (readers (above d e)) f)
  unfolding selected
  deep_selected f = deep_take a_name (λ p. deep_pure _) (deep_asserted f)

  deep_third_bound : (f : Read Tree) (low : MaybeTree) (i : ℕ) (h : Read Tree) → Deepens Never (third_bound d (readers d) f low i h) (λ e. third_bound (above d e) (readers (above d e)) f low i h)
  deep_third_bound f low i h = deep_bind (is.level Plain 1) (λ m. deep_bind {D = Never} (deep_same (steady_expect RBracket)) (λ _. deep_pure _) (λ a w r h. absurd h)) (λ m w r g. halt_expect RBracket _ (no_goes RBracket w g.word refl))

  deep_second_bound : (f : Read Tree) (low : MaybeTree) (i : ℕ) (h : Read Tree) → Deepens Never (second_bound d (readers d) f low i h) (λ e. second_bound (above d e) (readers (above d e)) f low i h)
  deep_second_bound f low i h = deep_take (marked Colon) (λ _. deep_third_bound f low i h) (deep_bind {D = Never} (deep_same (steady_expect RBracket)) (λ _. deep_pure _) (λ a w r h. absurd h))

  deep_bounds : (f : Read Tree) (low : MaybeTree) (i : ℕ) → Deepens Never (bounds d (readers d) f low i) (λ e. bounds (above d e) (readers (above d e)) f low i)
  unfolding bounds
  deep_bounds f low i = deep_take (marked RBracket) (λ _. deep_pure _)
      (deep_bind (is.level Plain 1) (deep_second_bound f low i) (λ h w r g. halt_take (marked Colon) _ _ (no_goes Colon w g.word refl) (halt_expect RBracket _ (no_goes RBracket w g.word refl))))

  deep_instance_behind : (f : Read Tree) (k : ℕ) (x : Option TypeTree) → Deepens Never (instance_behind d (readers d) f k x) (λ e. instance_behind (above d e) (readers (above d e)) f k x)
  deep_instance_behind f k None = deep_refuse
  deep_instance_behind f k (Some t) = deep_take (marked Comma)
      (λ _. deep_bind (deep_args_behind (a_type d (readers d)) (λ e. a_type (above d e) (readers (above d e))) (deep_a_type d is) _) (λ us. deep_pure _) (λ us w r h. absurd h)) deep_refuse

  deep_behind_index : (f x : Read Tree) (t : Option TypeTree) → Deepens Never (behind_index d (readers d) f x t) (λ e. behind_index (above d e) (readers (above d e)) f x t)
  deep_behind_index f x (Some t) = deep_bind (deep_more_args (a_type d (readers d)) (λ e. a_type (above d e) (readers (above d e))) (deep_a_type d is) _) (λ us. deep_pure _) (λ us w r h. absurd h)
  deep_behind_index f x None = deep_take (marked Colon) (λ _. deep_bounds f (given x.tree) x.depth) (deep_take (marked RBracket) (λ _. deep_pure _) (deep_instance_behind f x.depth (as_type x.tree)))

  instance_stops : (f : Read Tree) (k : ℕ) (x : Option TypeTree) (w : Word) (r : List Word) → goes w ≡ true → StopsAt Never (instance_behind d (readers d) f k x (w ∷ r)) w r
  instance_stops f k None w r g = faults refl
  instance_stops f k (Some t) w r g = halt_take (marked Comma) _ _ (no_goes Comma w g refl) (faults refl)

  index_stops : (f x : Read Tree) (t : Option TypeTree) (w : Word) (r : List Word) → goes w ≡ true → StopsAt Never (behind_index d (readers d) f x t (w ∷ r)) w r
  index_stops f x (Some t) w r g = stops_then _ _ w r (more_parts_stops Comma RBracket any_end (one_more (a_type d (readers d))) {D = Never} _ w r (no_goes Comma w g refl) (no_goes RBracket w g refl)) (λ us _ h. absurd h)
  index_stops f x None w r g = halt_take (marked Colon) _ _ (no_goes Colon w g refl) (halt_take (marked RBracket) _ _ (no_goes RBracket w g refl) (instance_stops f x.depth (as_type x.tree) w r g))

  deep_indexed : (f : Read Tree) → Deepens Never (indexed d (readers d) f) (λ e. indexed (above d e) (readers (above d e)) f)
  unfolding indexed
  deep_indexed f = deep_take (marked Colon) (λ _. deep_bounds f absent 0)
      (deep_bind (is.level Argument 1) (λ x. deep_behind_index f x (only_type x.tree)) (λ x w r g. index_stops f x (only_type x.tree) w r g.word))

  deep_argument : (l : Arguments) → Deepens AnyStop (argument d (readers d) l) (λ e. argument (above d e) (readers (above d e)) l)
  unfolding argument
  deep_argument l = deep_bind (is.level Argument 1) (λ x. deep_bind {D = Never} (deep_same (steady_eat Ellipsis)) (λ s. deep_pure _) (λ a w r h. absurd h))
      (λ x w r g. halt_eat Ellipsis _ (no_goes Ellipsis w g.word refl) (reads _ refl g.word))

  deep_called : (f : Read Tree) → Deepens Never (called d (readers d) f) (λ e. called (above d e) (readers (above d e)) f)
  unfolding called
  deep_called f = deep_bind
      (deep_parts Comma RParen call_ending (argument d (readers d)) (λ e. argument (above d e) (readers (above d e))) AnyStop Never deep_argument (λ l w g. no_goes Comma w g refl) (λ l w g. no_goes RParen w g refl) no_arguments)
      (λ l. deep_pure _) (λ l w r h. absurd h)

  -- ---- suffixes, one after the other

  -- the next one is read as deep as it gets
  abbrev Again : (Read Tree → Reader (Read Tree)) → (ℕ → Read Tree → Reader (Read Tree)) → Read Tree → Type 0
  Again again agains f = (x : Read Tree) (ws : List Word) → Grown d f x → Deeper (ExprStop (suc d)) (again x ws) (λ e. agains e x ws)

  module _ (again : Read Tree → Reader (Read Tree)) (agains : ℕ → Read Tree → Reader (Read Tree)) (steady : (e : ℕ) (x : Read Tree) → Steady (agains e x)) where
    -- where there is room for one more
    again_then : (f : Read Tree) (p : Reader (Read Tree)) (q : ℕ → Reader (Read Tree)) → Deepens Never p q → ((ws : List Word) → Each (Grown d f) (p ws)) → Again again agains f
        → (ws : List Word) → Deeper (ExprStop (suc d)) (and_then (p ws) again) (λ e. and_then (q e ws) (agains e))
    again_then f p q h grows on ws = deeper_then again agains (h.at ws) (λ x u e. on x u (holds_at (grows ws) e).holds) (λ x w r _ bad. absurd bad) (λ e x u. (steady e x).ends u)

    literal_deeper : (site : Site) (f : Read Tree) (t : Option TypeTree) → f.depth ≤ d → Again again agains f → (ws : List Word)
        → Deeper (ExprStop (suc d)) (literal_or d (readers d) again site f t ws) (λ e. literal_or (above d e) (readers (above d e)) (agains e) site f t ws)
    literal_deeper site f None le on ws = same_here _
    literal_deeper site f (Some t) le on ws = by_header (is_header site)
      where
        by_header : (b : Bool) → Deeper (ExprStop (suc d)) (cond b (pure f) (take_by (marked LBrace) (λ _. literal_of d (readers d) (of_type t f.spot f.depth) >>= again) (pure f)) ws)
            (λ e. cond b (pure f) (take_by (marked LBrace) (λ _. literal_of (above d e) (readers (above d e)) (of_type t f.spot f.depth) >>= agains e) (pure f)) ws)
        by_header true = same_here _
        by_header false = deeper_take (marked LBrace) _ _ _ _ ws
            (λ s w rest _ _. again_then f (literal_of d (readers d) (of_type t f.spot f.depth)) (λ e. literal_of (above d e) (readers (above d e)) (of_type t f.spot f.depth)) (deep_literal_of d is (of_type t f.spot f.depth)) (literal_grows d f le t f.spot) on rest)
            (λ _. same_here _)

    suffix_deeper : (site : Site) (f : Read Tree) → f.depth ≤ d → Again again agains f → (ws : List Word)
        → Deeper (ExprStop (suc d)) (one_suffix d (readers d) again site f ws) (λ e. one_suffix (above d e) (readers (above d e)) (agains e) site f ws)
    suffix_deeper site f le on ws =
        deeper_take (marked Period) _ _ _ _ ws (λ s w rest _ _. again_then f (selected d (readers d) f) (λ e. selected (above d e) (readers (above d e)) f) (deep_selected f) (selected_grows d f le) on rest)
        (λ _. deeper_take (marked LBracket) _ _ _ _ ws (λ s w rest _ _. again_then f (indexed d (readers d) f) (λ e. indexed (above d e) (readers (above d e)) f) (deep_indexed f) (indexed_grows d f le) on rest)
        (λ _. deeper_take (marked LParen) _ _ _ _ ws (λ s w rest _ _. again_then f (called d (readers d) f) (λ e. called (above d e) (readers (above d e)) f) (deep_called f) (called_grows d f le) on rest)
        (λ _. literal_deeper site f (if_named (as_type f.tree)) le on ws)))

    -- where there is none, greater budgets take what the budget stops before
    then_ends : (q : Reader (Read Tree)) (e : ℕ) (u : List Word) → Ends u (q u) → Ends u (and_then (q u) (agains e))
    then_ends q e u h = ends_bind u (q u) (agains e) h (λ a v. (steady e a).ends v)

    full_stop : (f : Read Tree) (ws : List Word) (w : Word) (rest : List Word) → suc d ≤ f.depth → ws ≡ w ∷ rest → goes w ≡ true → StopsAt (ExprStop (suc d)) (pure f ws) w rest
    full_stop f ws w rest le e g = reads f (ap (λ (v : List Word). Ok (f, v)) e) (record { full = λ _. le; word = g })

    literal_ahead : (site : Site) (f : Read Tree) (t : Option TypeTree) → suc d ≤ f.depth → (ws : List Word)
        → Deeper (ExprStop (suc d)) (pure f ws) (λ e. literal_or (above d e) (readers (above d e)) (agains e) site f t ws)
    literal_ahead site f None le ws = same_here _
    literal_ahead site f (Some t) le ws = by_header (is_header site)
      where
        by_header : (b : Bool) → Deeper (ExprStop (suc d)) (pure f ws) (λ e. cond b (pure f) (take_by (marked LBrace) (λ _. literal_of (above d e) (readers (above d e)) (of_type t f.spot f.depth) >>= agains e) (pure f)) ws)
        by_header true = same_here _
        by_header false = deeper_ahead (marked LBrace) (pure f) _ _ ws (λ s w rest e h. full_stop f ws w rest le e (ap goes (marked_is LBrace w s h)))
            (λ e s u. then_ends (literal_of (above d e) (readers (above d e)) (of_type t f.spot f.depth)) e u ((deep_literal_of d is (of_type t f.spot f.depth)).ends e u)) (same_here _)

    suffix_ahead : (site : Site) (f : Read Tree) → suc d ≤ f.depth → (ws : List Word) → Deeper (ExprStop (suc d)) (pure f ws) (λ e. one_suffix (above d e) (readers (above d e)) (agains e) site f ws)
    suffix_ahead site f le ws =
        deeper_ahead (marked Period) (pure f) _ _ ws (λ s w rest e h. full_stop f ws w rest le e (ap goes (marked_is Period w s h))) (λ e s u. then_ends (selected (above d e) (readers (above d e)) f) e u ((deep_selected f).ends e u))
        (deeper_ahead (marked LBracket) (pure f) _ _ ws (λ s w rest e h. full_stop f ws w rest le e (ap goes (marked_is LBracket w s h))) (λ e s u. then_ends (indexed (above d e) (readers (above d e)) f) e u ((deep_indexed f).ends e u))
        (deeper_ahead (marked LParen) (pure f) _ _ ws (λ s w rest e h. full_stop f ws w rest le e (ap goes (marked_is LParen w s h))) (λ e s u. then_ends (called (above d e) (readers (above d e)) f) e u ((deep_called f).ends e u))
        (literal_ahead site f (if_named (as_type f.tree)) le ws)))

-- ---- the loop

module _ (room : ℕ) (inner : Nested) (site : Site) where
  suffixes_alone : (n : ℕ) (f : Read Tree) (t : TypeTree) (ws : List Word) → only_type f.tree ≡ Some t → suffixes room inner site n f ws ≡ Ok (f, ws)
  unfolding suffixes
  suffixes_alone zero f t ws e = refl
  suffixes_alone (suc n) f t ws e = cond_off (not (is_some (only_type f.tree)) && nat_le f.depth room) _ (pure f) ws (ap (λ (o : Option TypeTree). not (is_some o) && nat_le f.depth room) e)

  goes_by : (f : Read Tree) (b : Bool) → only_type f.tree ≡ None → nat_le f.depth room ≡ b → (not (is_some (only_type f.tree)) && nat_le f.depth room) ≡ b
  goes_by f b e h = ap (λ (o : Option TypeTree). not (is_some o) && nat_le f.depth room) e ∙ h

  suffixes_more : (n : ℕ) (f : Read Tree) (ws : List Word) → only_type f.tree ≡ None → f.depth ≤ room → 1 ≤ n → suffixes room inner site n f ws ≡ one_suffix room inner (suffixes room inner site (n - 1)) site f ws
  unfolding suffixes
  suffixes_more zero f ws e le positive = absurd (omega (arith, positive))
  suffixes_more (suc n) f ws e le positive =
      cond_on (not (is_some (only_type f.tree)) && nat_le f.depth room) _ (pure f) ws (goes_by f true e (le-leb _ _ le)) ∙ ap (λ (k : ℕ). one_suffix room inner (suffixes room inner site k) site f ws) less
    where
      less : n ≡ suc n - 1
      less = omega arith

  suffixes_full : (n : ℕ) (f : Read Tree) (ws : List Word) → only_type f.tree ≡ None → nat_le f.depth room ≡ false → suffixes room inner site n f ws ≡ Ok (f, ws)
  unfolding suffixes
  suffixes_full zero f ws e off = refl
  suffixes_full (suc n) f ws e off = cond_off (not (is_some (only_type f.tree)) && nat_le f.depth room) _ (pure f) ws (goes_by f false e off)

module _ (d : ℕ) (is : AreDeeper d) (site : Site) where
  suffixes_stop_by : (n : ℕ) (f : Read Tree) (w : Word) (r : List Word) (o : Option TypeTree) → only_type f.tree ≡ o → ExprStop (suc d) f w → StopsAt (ExprStop (suc d)) (suffixes d (readers d) site n f (w ∷ r)) w r
  suffixes_stop_by n f w r (Some t) e h = reads f (suffixes_alone d (readers d) site n f t (w ∷ r) e) h
  suffixes_stop_by n f w r None e h = reads f (suffixes_full d (readers d) site n f (w ∷ r) e (lt-leb _ _ (h.full e))) h

  abbrev Loop : ℕ → (ℕ → ℕ) → Read Tree → List Word → Type 0
  Loop n ns f ws = Deeper (ExprStop (suc d)) (suffixes d (readers d) site n f ws) (λ e. suffixes (above d e) (readers (above d e)) site (ns e) f ws)

  loop_room : (n : ℕ) (ns : ℕ → ℕ) (f : Read Tree) (ws : List Word) (b : Bool) → nat_le f.depth d ≡ b → only_type f.tree ≡ None → f.depth ≤ suc d → 1 ≤ n → ((e : ℕ) → 1 ≤ ns e)
      → Again d is (suffixes d (readers d) site (n - 1)) (λ e. suffixes (above d e) (readers (above d e)) site (ns e - 1)) f → Loop n ns f ws
  loop_room n ns f ws true h e le positive positives on =
      deeper_as (suffix_deeper d is (suffixes d (readers d) site (n - 1)) (λ e. suffixes (above d e) (readers (above d e)) site (ns e - 1)) (λ e x. steady_suffixes (above d e) (readers (above d e)) (readers_steady (above d e)) site (ns e - 1) x) site f (leb-true _ _ h) on ws)
      (suffixes_more d (readers d) site n f ws e (leb-true _ _ h) positive) (λ i. suffixes_more (above d i) (readers (above d i)) site (ns i) f ws e (omega (arith, above_is d i, le)) (positives i))
  loop_room n ns f ws false h e le positive positives on =
      deeper_as (suffix_ahead d is (suffixes d (readers d) site (n - 1)) (λ e. suffixes (above d e) (readers (above d e)) site (ns e - 1)) (λ e x. steady_suffixes (above d e) (readers (above d e)) (readers_steady (above d e)) site (ns e - 1) x) site f (omega (arith, leb-false _ _ h)) ws)
      (suffixes_full d (readers d) site n f ws e h) (λ i. suffixes_more (above d i) (readers (above d i)) site (ns i) f ws e (omega (arith, above_is d i, le)) (positives i))

  -- The number of turns that are left serves for the depth that is left.
  loop_by : (n : ℕ) (ns : ℕ → ℕ) (f : Read Tree) (ws : List Word) (o : Option TypeTree) → only_type f.tree ≡ o → Within (suc d) f → suc (suc d) ≤ n + f.depth → ((e : ℕ) → suc (suc (above d e)) ≤ ns e + f.depth)
      → (only_type f.tree ≡ None → Again d is (suffixes d (readers d) site (n - 1)) (λ e. suffixes (above d e) (readers (above d e)) site (ns e - 1)) f) → Loop n ns f ws
  loop_by n ns f ws (Some t) e within fuel fuels on = alike (λ i. suffixes_alone (above d i) (readers (above d i)) site (ns i) f t ws e ∙ sym (suffixes_alone d (readers d) site n f t ws e))
  loop_by n ns f ws None e within fuel fuels on =
      loop_room n ns f ws (nat_le f.depth d) refl e (within e) (omega (arith, within e, fuel)) (λ i. omega (arith, within e, fuels i, above_is d i)) (on e)

  loop : (n : ℕ) (ns : ℕ → ℕ) (f : Read Tree) (ws : List Word) → Within (suc d) f → suc (suc d) ≤ n + f.depth → ((e : ℕ) → suc (suc (above d e)) ≤ ns e + f.depth) → Loop n ns f ws
  loop zero ns f ws within fuel fuels = loop_by zero ns f ws (only_type f.tree) refl within fuel fuels (λ e. absurd (omega (arith, within e, fuel)))
  loop (suc n) ns f ws within fuel fuels = loop_by (suc n) ns f ws (only_type f.tree) refl within fuel fuels
      (λ e x us grown. subst (λ (k : ℕ). Deeper (ExprStop (suc d)) (suffixes d (readers d) site k x us) (λ i. suffixes (above d i) (readers (above d i)) site (ns i - 1) x us)) (less n)
      (loop n (λ i. ns i - 1) x us (λ _. grown.1) (omega (arith, fuel, grown.0)) (λ i. omega (arith, within e, fuels i, above_is d i, grown.0))))
    where
      less : (k : ℕ) → k ≡ suc k - 1
      less k = omega arith

  pub deep_primary : Deepens (ExprStop (suc d)) (primary d (readers d) site) (λ e. primary (above d e) (readers (above d e)) site)
  unfolding primary
  deep_primary = deep_bind_at (deep_operand d is site)
      (λ ws f u e. loop (suc (suc d)) (λ i. suc (suc (above d i))) f u (holds_at (operand_within d site ws) e).holds (omega arith) (λ i. omega arith))
      (λ ws f w r _ h. suffixes_stop_by (suc (suc d)) f w r (only_type f.tree) refl h)
      (λ e f u. (steady_suffixes (above d e) (readers (above d e)) (readers_steady (above d e)) site (suc (suc (above d e))) f).ends u)
