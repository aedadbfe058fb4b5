-- Parameters and results beside those of greater budgets.
use Rattle.std.proofs.Common.{◌≡◌, ℕ, zero, suc, ◌<◌, ◌≤◌, max, Bool, true, false, cond, List, ◌∷◌, Option, Some, None, Ok, Err, refl, sym, ap, subst, ◌∙◌, arith}
use Rattle.std.specs.Prelude.{nat_le}
use Rattle.std.proofs.lemmas.Bool.{leb-false}
use Rattle.ui_base.specs.declared.value.Spot.{Spot}
use Rattle.ui_scan.specs.declared.kind.TokenKind.TheVariants.{LParen, RParen, LBracket, RBracket, Comma, Period}
use Rattle.ui_tree.specs.declared.part.Placed.{Placed}
use Rattle.ui_tree.specs.declared.part.Group.{Group}
use Rattle.ui_tree.specs.Tree.{TypeTree, listed, MaybeType, no_type, given_type, Tree}
use Rattle.ui_tree.specs.View.{groups, kept}
use Rattle.ui_grammar.specs.Word.{Word, mark}
use Rattle.ui_grammar.specs.Fits.{name_depth}
use Rattle.ui_parse.specs.Reader.{Outcome, Reader, and_then, ◌>>=◌, pure, refuse, first, taken, take_by, marked, named as a_name}
use Rattle.ui_parse.proofs.Outcomes.{holds_at, marked_is}
use Rattle.ui_parse.proofs.Alike.{Ends, ends_bind}
use Rattle.ui_parse.proofs.Steady.{take_same, steady_pure, steady_expect, steady_expect_name}
use Rattle.ui_syntax.specs.declared.site.Site.TheVariants as site
use Rattle.ui_syntax.specs.declared.site.TypeSite.TheVariants as at
use Rattle.ui_syntax.specs.declared.site.Style.{Style}
use Rattle.ui_syntax.specs.declared.site.Style.TheVariants.{Open, Bare, Named}
use Rattle.ui_syntax.specs.Cover.{Read, only_type, as_type}
use Rattle.ui_syntax.specs.Types.{Nested, Listed, any_end, one_more, more_args, args_behind, all_args, maybe_args, named_type, Params, add_maybe, params_ending, result_of, add_argument, add_array, behind_bracket, close_bracket, behind_cover, bracketed, maybe_named, qualified, open_name, bare_param, param_by, param, params, Results, results, signature, plain_type, operand_type, maybe_type, a_type, a_lower_type}
use Rattle.ui_syntax.specs.Read.{readers}
use Rattle.ui_syntax.proofs.Sound.{readers_sound}
use Rattle.ui_syntax.proofs.Complete.{readers_complete}
use Rattle.ui_depth.proofs.Deeper.{StopsAt, reads, faults, Deepens, Never, deeper_then, deep_bind, deep_same, deep_pure, deep_refuse, deep_room, deeper_take, deep_take, take_ends, deep_ahead, deep_refuse_then, same_here, halt_take, halt_expect, deeper_as}
use Rattle.ui_depth.proofs.Goes.{goes_type, goes, begins_goes, type_goes, no_goes, no_goes_type, begins_bare}
use Rattle.ui_depth.proofs.Lists.{deep_parts, deep_more_parts, more_parts_stops}
use Rattle.ui_depth.proofs.Budgets.{above, room_for, TypeStop, MaybeStop, AnyStop, AreDeeper, deep_there}

-- ---- lists of types

abbrev pub ListStop : {T : Type 0} → Listed T → Word → Type 0
ListStop l w = goes_type w ≡ true

module _ (type : Reader (Read TypeTree)) (types : ℕ → Reader (Read TypeTree)) (type_is : Deepens TypeStop type types) where
  pub deep_one_more : (l : Listed TypeTree) → Deepens ListStop (one_more type l) (λ e. one_more (types e) l)
  deep_one_more l = deep_bind type_is (λ t. deep_pure _) (λ t w r g. reads _ refl g)

  pub deep_more_args : (l : Listed TypeTree) → Deepens Never (more_args type l) (λ e. more_args (types e) l)
  deep_more_args l = deep_more_parts Comma RBracket any_end (one_more type) (λ e. one_more (types e)) ListStop Never deep_one_more (λ s w g. no_goes_type Comma w g refl) (λ s w g. no_goes_type RBracket w g refl) l

  pub deep_args_behind : (l : Listed TypeTree) → Deepens Never (args_behind type l) (λ e. args_behind (types e) l)
  deep_args_behind l = deep_parts Comma RBracket any_end (one_more type) (λ e. one_more (types e)) ListStop Never deep_one_more (λ s w g. no_goes_type Comma w g refl) (λ s w g. no_goes_type RBracket w g refl) l

  deep_all_args : Deepens Never (all_args type) (λ e. all_args (types e))
  deep_all_args = deep_bind type_is (λ t. deep_more_args _) (λ t w r g. more_parts_stops Comma RBracket any_end (one_more type) _ w r (no_goes_type Comma w g refl) (no_goes_type RBracket w g refl))

  bracket_goes : (s : Spot) (w : Word) → marked LBracket w ≡ Some s → goes_type w ≡ true
  bracket_goes s w e = ap goes_type (marked_is LBracket w s e)

  period_goes : (s : Spot) (w : Word) → marked Period w ≡ Some s → goes_type w ≡ true
  period_goes s w e = ap goes_type (marked_is Period w s e)

  name_depth_le : (m : Option Placed) → suc (name_depth m) ≤ 3
  name_depth_le None = omega arith
  name_depth_le (Some p) = omega arith

  pub deep_maybe_args : (room : ℕ) (rooms : ℕ → ℕ) (p : Placed) (m : Option Placed) → ((k e : ℕ) → k ≤ 3 → nat_le k (rooms e) ≡ true) → Deepens TypeStop (maybe_args room type p m) (λ e. maybe_args (rooms e) (types e) p m)
  deep_maybe_args room rooms p m wide =
      let with_args : (s : Spot) → Deepens TypeStop _ (λ e. _) = λ s. deep_bind deep_all_args (λ us. deep_pure _) (λ us w r h. absurd h) in
      deep_room (nat_le (suc (name_depth m)) room) (λ e. nat_le (suc (name_depth m)) (rooms e)) _ (λ e. wide (suc (name_depth m)) e (name_depth_le m))
      (λ _. deep_take (marked LBracket) with_args (deep_pure _))
      (λ _. deep_ahead (marked LBracket) (λ s w r e. reads _ refl (bracket_goes s w e)) (λ e s u. (with_args s).ends e u) (deep_pure _))

  args_stop : (b : Bool) (on : Spot → Reader (Read TypeTree)) (t : Read TypeTree) (w : Word) (r : List Word) → marked LBracket w ≡ None → goes_type w ≡ true → StopsAt TypeStop (cond b (take_by (marked LBracket) on (pure t)) (pure t) (w ∷ r)) w r
  args_stop true on t w r none g = halt_take (marked LBracket) on (pure t) none (reads t refl g)
  args_stop false on t w r none g = reads t refl g

  pub deep_named_type : (room : ℕ) (rooms : ℕ → ℕ) (p : Placed) → ((k e : ℕ) → k ≤ 3 → nat_le k (rooms e) ≡ true) → Deepens TypeStop (named_type room type p) (λ e. named_type (rooms e) (types e) p)
  unfolding named_type
  deep_named_type room rooms p wide =
      let with_member : (s : Spot) → Deepens TypeStop _ (λ e. _) = λ s. deep_bind {D = Never} (deep_same steady_expect_name) (λ m. deep_maybe_args room rooms p (Some m) wide) (λ m w r h. absurd h) in
      deep_room (nat_le 2 room) (λ e. nat_le 2 (rooms e)) _ (λ e. wide 2 e (omega arith))
      (λ _. deep_take (marked Period) with_member (deep_maybe_args room rooms p None wide))
      (λ off. deep_ahead (marked Period) (λ s w r e. args_stop (nat_le 2 room) _ _ w r (ap (marked LBracket) (marked_is Period w s e)) (period_goes s w e)) (λ e s u. (with_member s).ends e u) (deep_maybe_args room rooms p None wide))

-- ---- types that are not there

-- no type begins with a period
period_none : (d : ℕ) (s : Spot) (r : List Word) → (readers d).maybe_type at.Plain (mark Period s ∷ r) ≡ Ok (None, mark Period s ∷ r)
period_none d s r = (readers_complete d).own.no_type (mark Period s ∷ r)
    (record { no_name = refl; no_func = refl; no_struct = refl; no_interface = refl; no_bracket = refl; no_map = refl; no_pointer = refl; no_paren = refl })

-- nor with a bracket, where it had one level
bracket_none : (d : ℕ) (s : Spot) (r : List Word) → d < 2 → (readers d).maybe_type at.Plain (mark LBracket s ∷ r) ≡ Ok (None, mark LBracket s ∷ r)
unfolding readers maybe_type plain_type operand_type take_by
bracket_none zero s r lt = refl
bracket_none (suc zero) s r lt = refl
bracket_none (suc (suc d)) s r lt = absurd (omega arith)

-- none is read where nothing is taken
none_here : (d : ℕ) (ws : List Word) (u : List Word) → (readers d).maybe_type at.Plain ws ≡ Ok (None, u) → ws ≡ u
none_here d ws u e = (holds_at ((readers_sound d).own.type at.Plain ws) e).holds

module _ (d : ℕ) (is : AreDeeper d) where
  pub deep_a_type : Deepens TypeStop (a_type d (readers d)) (λ e. a_type (above d e) (readers (above d e)))
  deep_a_type = deep_there at.Plain (is.maybe_type at.Plain)

  pub deep_a_lower_type : Deepens TypeStop (a_lower_type d (readers d)) (λ e. a_lower_type (above d e) (readers (above d e)))
  deep_a_lower_type = deep_there at.Plain (is.lower_maybe_type at.Plain)

  -- ---- parameters

  deep_add_argument : (ps : Params) (p : Placed) (x : Option TypeTree) (k : ℕ) → Deepens AnyStop (add_argument d (readers d) ps p x k) (λ e. add_argument (above d e) (readers (above d e)) ps p x k)
  deep_add_argument ps p None k = deep_refuse
  deep_add_argument ps p (Some t) k = deep_pure _

  add_argument_stops : (ps : Params) (p : Placed) (x : Option TypeTree) (k : ℕ) (w : Word) (r : List Word) → goes w ≡ true → StopsAt AnyStop (add_argument d (readers d) ps p x k (w ∷ r)) w r
  add_argument_stops ps p None k w r g = faults refl
  add_argument_stops ps p (Some t) k w r g = reads _ refl g

  deep_add_array : (ps : Params) (p : Placed) (s : Spot) (x : Read Tree) (t : Option (Read TypeTree)) → Deepens AnyStop (add_array d (readers d) ps p s x t) (λ e. add_array (above d e) (readers (above d e)) ps p s x t)
  deep_add_array ps p s x None = deep_add_argument ps p (as_type x.tree) x.depth
  deep_add_array ps p s x (Some t) = deep_pure _

  add_array_stops : (ps : Params) (p : Placed) (s : Spot) (x : Read Tree) (t : Option (Read TypeTree)) (w : Word) (r : List Word) → MaybeStop at.Plain t w → StopsAt AnyStop (add_array d (readers d) ps p s x t (w ∷ r)) w r
  add_array_stops ps p s x None w r g = add_argument_stops ps p (as_type x.tree) x.depth w r (begins_goes w g)
  add_array_stops ps p s x (Some t) w r g = reads _ refl (type_goes w g)

  deep_behind_bracket : (ps : Params) (p : Placed) (s : Spot) (x : Read Tree) (t : Option TypeTree) → Deepens AnyStop (behind_bracket d (readers d) ps p s x t) (λ e. behind_bracket (above d e) (readers (above d e)) ps p s x t)
  deep_behind_bracket ps p s x None = deep_bind (is.lower_maybe_type at.Plain) (λ t. deep_add_array ps p s x t) (λ t w r g. add_array_stops ps p s x t w r g)
  deep_behind_bracket ps p s x (Some t) = deep_pure _

  deep_close_bracket : (ps : Params) (p : Placed) (s : Spot) (x : Read Tree) → Deepens AnyStop (close_bracket d (readers d) ps p s x) (λ e. close_bracket (above d e) (readers (above d e)) ps p s x)
  deep_close_bracket ps p s x = deep_bind {D = Never} (deep_same (steady_expect RBracket)) (λ _. deep_behind_bracket ps p s x (only_type x.tree)) (λ a w r h. absurd h)

  deep_behind_cover : (ps : Params) (p : Placed) (s : Spot) (x : Read Tree) (t : Option TypeTree) → Deepens AnyStop (behind_cover d (readers d) ps p s x t) (λ e. behind_cover (above d e) (readers (above d e)) ps p s x t)
  deep_behind_cover ps p s x None = deep_close_bracket ps p s x
  deep_behind_cover ps p s x (Some t) = deep_take (marked Comma)
      (λ _. deep_bind (deep_args_behind (a_lower_type d (readers d)) (λ e. a_lower_type (above d e) (readers (above d e))) deep_a_lower_type _) (λ us. deep_pure _) (λ us w r h. absurd h)) (deep_close_bracket ps p s x)

  behind_cover_stops : (ps : Params) (p : Placed) (s : Spot) (x : Read Tree) (t : Option TypeTree) (w : Word) (r : List Word) → goes w ≡ true → StopsAt AnyStop (behind_cover d (readers d) ps p s x t (w ∷ r)) w r
  behind_cover_stops ps p s x None w r g = halt_expect RBracket _ (no_goes RBracket w g refl)
  behind_cover_stops ps p s x (Some t) w r g = halt_take (marked Comma) _ _ (no_goes Comma w g refl) (halt_expect RBracket _ (no_goes RBracket w g refl))

  deep_bracketed : (ps : Params) (p : Placed) (s : Spot) → Deepens AnyStop (bracketed d (readers d) ps p s) (λ e. bracketed (above d e) (readers (above d e)) ps p s)
  unfolding bracketed
  deep_bracketed ps p s = deep_take (marked RBracket) (λ _. deep_bind deep_a_lower_type (λ t. deep_pure _) (λ t w r g. reads _ refl (type_goes w g)))
      (deep_bind (is.lower_level site.Argument 1) (λ x. deep_behind_cover ps p s x (as_type x.tree)) (λ x w r g. behind_cover_stops ps p s x (as_type x.tree) w r g))

  maybe_named_stops : (ps : Params) (p : Placed) (t : Option (Read TypeTree)) (w : Word) (r : List Word) → MaybeStop at.Plain t w → goes w ≡ true
  maybe_named_stops ps p None w r g = begins_goes w g
  maybe_named_stops ps p (Some t) w r g = type_goes w g

  deep_maybe_named : (ps : Params) (p : Placed) → Deepens AnyStop (maybe_named d (readers d) ps p) (λ e. maybe_named (above d e) (readers (above d e)) ps p)
  deep_maybe_named ps p = deep_bind (is.maybe_type at.Plain) (λ t. deep_pure _) (λ t w r g. reads _ refl (maybe_named_stops ps p t w r g))

  deep_qualified : (ps : Params) (p : Placed) → Deepens AnyStop (qualified d (readers d) ps p) (λ e. qualified (above d e) (readers (above d e)) ps p)
  deep_qualified ps p = deep_bind {D = Never} (deep_same steady_expect_name)
      (λ m. deep_bind (deep_maybe_args (a_lower_type d (readers d)) (λ e. a_lower_type (above d e) (readers (above d e))) deep_a_lower_type d (above d) p (Some m) (λ k e le. room_for k d e (omega (arith, le))))
      (λ t. deep_pure _) (λ t w r g. reads _ refl (type_goes w g)))
      (λ m w r h. absurd h)

  -- where no type is read there, the name alone is
  name_alone : (ps : Params) (p : Placed) (w v : Word) (r : List Word) → w ≡ v → (readers d).maybe_type at.Plain (v ∷ r) ≡ Ok (None, v ∷ r) → goes v ≡ true → StopsAt AnyStop (maybe_named d (readers d) ps p (w ∷ r)) w r
  name_alone ps p w v r e none g = subst (λ (u : Word). StopsAt AnyStop (maybe_named d (readers d) ps p (u ∷ r)) u r) (sym e) (reads (add_maybe ps p None) (ap (λ (o : Outcome (Option (Read TypeTree))). and_then o (λ t. pure (add_maybe ps p t))) none) g)

  deep_open_name : (ps : Params) (p : Placed) → Deepens AnyStop (open_name d (readers d) ps p) (λ e. open_name (above d e) (readers (above d e)) ps p)
  unfolding open_name
  deep_open_name ps p = deep_room (nat_le 2 d) (λ e. nat_le 2 (above d e)) _ (λ e. room_for 2 d e (omega arith))
      (λ _. deep_take (marked Period) (λ _. deep_qualified ps p) (deep_take (marked LBracket) (λ s. deep_bracketed ps p s) (deep_maybe_named ps p)))
      (λ off. deep_ahead (marked Period) (λ s w r e. name_alone ps p w (mark Period s) r (marked_is Period w s e) (period_none d s r) refl) (λ e _ u. (deep_qualified ps p).ends e u)
      (deep_ahead (marked LBracket) (λ s w r e. name_alone ps p w (mark LBracket s) r (marked_is LBracket w s e) (bracket_none d s r (leb-false _ _ off)) refl) (λ e s u. (deep_bracketed ps p s).ends e u) (deep_maybe_named ps p)))

  deep_bare_param : (ps : Params) → Deepens AnyStop (bare_param d (readers d) ps) (λ e. bare_param (above d e) (readers (above d e)) ps)
  deep_bare_param ps = deep_bind deep_a_type (λ t. deep_pure _) (λ t w r g. reads _ refl (type_goes w g))

  deep_param_by : (b : Style) (ps : Params) → Deepens AnyStop (param_by d (readers d) b ps) (λ e. param_by (above d e) (readers (above d e)) b ps)
  deep_param_by Open ps = deep_take a_name (deep_open_name ps) (deep_bare_param ps)
  deep_param_by Bare ps = deep_bare_param ps
  deep_param_by Named ps = deep_take a_name (deep_maybe_named ps) deep_refuse

  -- where there is no room for one
  module _ (type_is : Deepens TypeStop refuse (λ e. a_type (above d e) (readers (above d e)))) where
    param_ahead : (b : Style) (ps : Params) → Deepens AnyStop refuse (λ e. param_by (above d e) (readers (above d e)) b ps)
    param_ahead Open ps = deep_ahead a_name (λ p w r e. faults refl) (λ e p u. (deep_open_name ps p).ends e u) (deep_refuse_then type_is (λ e t u. (steady_pure _).ends u))
    param_ahead Bare ps = deep_refuse_then type_is (λ e t u. (steady_pure _).ends u)
    param_ahead Named ps = deep_ahead a_name (λ p w r e. faults refl) (λ e p u. (deep_maybe_named ps p).ends e u) deep_refuse

pub type_ahead : (d : ℕ) → AreDeeper d → d < 1 → Deepens TypeStop refuse (λ e. a_type (above d e) (readers (above d e)))
unfolding readers
type_ahead zero is lt = deep_a_type zero is
type_ahead (suc d) is lt = absurd (omega arith)

-- ---- signatures

then_taken : {A B C : Type 0} (x : Option C) (on : C → Reader A) (other : Reader A) (f : A → Reader B) (ws : List Word) → and_then (taken x on other ws) f ≡ taken x (λ c. on c >>= f) (other >>= f) ws
then_taken None on other f ws = refl
then_taken (Some c) on other f ws = refl

pub then_take : {A B C : Type 0} (test : Word → Option C) (on : C → Reader A) (other : Reader A) (f : A → Reader B) (ws : List Word) → and_then (take_by test on other ws) f ≡ take_by test (λ c. on c >>= f) (other >>= f) ws
unfolding take_by
then_take test on other f ws = then_taken (first test ws) on other f ws

pub take_each : {A B : Type 0} (test : Word → Option B) (on on' : B → Reader A) (other other' : Reader A) (ws : List Word) → ((b : B) (u : List Word) → on b u ≡ on' b u) → other ws ≡ other' ws → take_by test on other ws ≡ take_by test on' other' ws
take_each test on on' other other' ws same others = take_same test on on' other other' ws (λ b u _. same b u) others

pub then_each : {A B : Type 0} (o : Outcome A) (f g : A → Reader B) → ((a : A) (u : List Word) → f a u ≡ g a u) → and_then o f ≡ and_then o g
then_each (Ok p) f g e = e p.0 p.1
then_each (Err u) f g e = refl

pub then_then : {A B C : Type 0} (o : Outcome A) (f : A → Reader B) (g : B → Reader C) → and_then (and_then o f) g ≡ and_then o (λ a. f a >>= g)
then_then (Ok p) f g = refl
then_then (Err u) f g = refl

-- what is made of parameters and results
abbrev pub Make : Type 0
Make = List (Group TypeTree) → MaybeType → ℕ → Read TypeTree

module _ (room : ℕ) (inner : Nested) where
  -- behind the parameters, in one: results, and what is made
  abbrev listed_results : Make → Listed (Group TypeTree) → Spot → Reader (Read TypeTree)
  listed_results make gs s = params room inner >>= (λ hs. pure (make gs.items (given_type (listed s (groups kept hs.items))) (suc (max gs.depth hs.depth))))

  abbrev make_maybe : Make → Listed (Group TypeTree) → Option (Read TypeTree) → Read TypeTree
  make_maybe make gs None = make gs.items no_type (suc (max gs.depth 0))
  make_maybe make gs (Some t) = make gs.items (given_type t.tree) (suc (max gs.depth t.depth))

  abbrev results_then : Make → Listed (Group TypeTree) → Reader (Read TypeTree)
  results_then make gs = take_by (marked LParen) (listed_results make gs) (inner.maybe_type at.Plain >>= (λ t. pure (make_maybe make gs t)))

  abbrev flat_signature : Make → Reader (Read TypeTree)
  flat_signature make = params room inner >>= results_then make

  made : Make → Listed (Group TypeTree) → Results room inner → Reader (Read TypeTree)
  made make gs r = pure (make gs.items r.of (suc (max gs.depth r.depth)))

  maybe_made : (make : Make) (gs : Listed (Group TypeTree)) (t : Option (Read TypeTree)) (u : List Word) → made make gs (result_of room inner t) u ≡ pure (make_maybe make gs t) u
  unfolding made
  maybe_made make gs None u = refl
  maybe_made make gs (Some t) u = refl

  results_flat : (make : Make) (gs : Listed (Group TypeTree)) (ws : List Word) → and_then (results room inner ws) (λ r. pure (make gs.items r.of (suc (max gs.depth r.depth)))) ≡ results_then make gs ws
  unfolding results made
  results_flat make gs ws = then_take (marked LParen) _ _ (made make gs) ws
      ∙ take_each (marked LParen) _ _ _ _ ws (λ s u. then_then (params room inner u) _ (made make gs)) (then_then (inner.maybe_type at.Plain ws) _ (made make gs) ∙ then_each (inner.maybe_type at.Plain ws) _ _ (maybe_made make gs))

  signature_flat : (make : Make) (ws : List Word) → signature room inner make ws ≡ flat_signature make ws
  unfolding signature
  signature_flat make ws = then_each (params room inner ws) _ (results_then make) (results_flat make)

module _ (d : ℕ) (is : AreDeeper d) where
  deep_param : (ps : Params) → Deepens AnyStop (param d (readers d) ps) (λ e. param (above d e) (readers (above d e)) ps)
  unfolding param
  deep_param ps = deep_room (nat_le 1 d) (λ e. nat_le 1 (above d e)) _ (λ e. room_for 1 d e (omega arith)) (λ _. deep_param_by d is ps.style ps) (λ off. param_ahead d is (type_ahead d is (leb-false _ _ off)) ps.style ps)

  pub deep_params : Deepens Never (params d (readers d)) (λ e. params (above d e) (readers (above d e)))
  unfolding params
  deep_params = deep_bind
      (deep_parts Comma RParen params_ending (param d (readers d)) (λ e. param (above d e) (readers (above d e))) AnyStop Never deep_param (λ s w g. no_goes Comma w g refl) (λ s w g. no_goes RParen w g refl) _)
      (λ ps. deep_pure _) (λ ps w r h. absurd h)

  -- behind the parameters no parenthesis is left for results that are too deep
  results_stop : (make : Make) (gs : Listed (Group TypeTree)) (ws : List Word) (t : Option (Read TypeTree)) (w : Word) (r : List Word) → first (marked LParen) ws ≡ None → (readers d).maybe_type at.Plain ws ≡ Ok (t, w ∷ r) → MaybeStop at.Plain t w → goes_type w ≡ true
  results_stop make gs ws None w r none e g = begins_bare w g (ap (first (marked LParen)) (sym (none_here d ws (w ∷ r) e)) ∙ none)
  results_stop make gs ws (Some t) w r none e g = g

  deep_results : (make : Make) (gs : Listed (Group TypeTree)) → Deepens TypeStop (results_then d (readers d) make gs) (λ e. results_then (above d e) (readers (above d e)) make gs)
  deep_results make gs =
      let lists : (s : Spot) → Deepens TypeStop (listed_results d (readers d) make gs s) (λ e. listed_results (above d e) (readers (above d e)) make gs s) = λ s. deep_bind deep_params (λ hs. deep_pure _) (λ hs w r h. absurd h) in
      record {
        at = λ ws. deeper_take (marked LParen) _ _ _ _ ws (λ s w rest _ _. (lists s).at rest)
            (λ none. deeper_then _ _ ((is.maybe_type at.Plain).at ws) (λ t u _. same_here _) (λ t w r e g. reads _ refl (results_stop make gs ws t w r none e g)) (λ e t u. (steady_pure _).ends u));
        ends = λ e ws. take_ends (marked LParen) _ _ ws (λ s u. (lists s).ends e u) (ends_bind ws _ _ ((is.maybe_type at.Plain).ends e ws) (λ t u. (steady_pure _).ends u));
      }

  pub deep_signature : (make : Make) → Deepens TypeStop (signature d (readers d) make) (λ e. signature (above d e) (readers (above d e)) make)
  deep_signature make =
      let flat : Deepens TypeStop (flat_signature d (readers d) make) (λ e. flat_signature (above d e) (readers (above d e)) make) = deep_bind deep_params (deep_results make) (λ gs w r h. absurd h) in
      record {
        at = λ ws. deeper_as (flat.at ws) (signature_flat d (readers d) make ws) (λ e. signature_flat (above d e) (readers (above d e)) make ws);
        ends = λ e ws. subst (Ends ws) (sym (signature_flat (above d e) (readers (above d e)) make ws)) (flat.ends e ws);
      }
