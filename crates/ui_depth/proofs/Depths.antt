-- How deep what is read is, within a budget; each suffix of an operand makes it deeper.
use Rattle.std.proofs.Common.{◌≡◌, ℕ, zero, suc, ◌≤◌, List, length, Option, Some, None, Ok, Err, refl, arith}
use Rattle.std.specs.Prelude.{nat_le}
use Rattle.ui_base.specs.declared.value.Spot.{Spot}
use Rattle.ui_scan.specs.declared.kind.TokenKind.{TokenKind}
use Rattle.ui_scan.specs.declared.kind.TokenKind.TheVariants.{LParen, RParen, RBracket, Comma, Colon, Ellipsis}
use Rattle.ui_tree.specs.Tree.{TypeTree, Tree, MaybeTree, absent, given}
use Rattle.ui_grammar.specs.Word.{Word}
use Rattle.ui_parse.specs.Reader.{Outcome, Reader, and_then, pure, refuse, take_by, marked, eat, expect, Ending, closing, behind, parts_from, parts, more_parts}
use Rattle.ui_parse.proofs.Outcomes.{Holds, good, bad, bind, mono, choose, taken_holds, name_holds}
use Rattle.ui_syntax.specs.declared.site.Site.{Site}
use Rattle.ui_syntax.specs.declared.site.Site.TheVariants.{Header, Plain, Wrapped, Argument}
use Rattle.ui_syntax.specs.declared.site.TypeSite.{TypeSite}
use Rattle.ui_syntax.specs.declared.site.TypeSite.TheVariants as at
use Rattle.ui_syntax.specs.Cover.{Read, only_type, as_type}
use Rattle.ui_syntax.specs.Types.{Listed, add, only, any_end, one_more, more_args, args_behind, of_type, a_type, maybe_type}
use Rattle.ui_syntax.specs.Exprs.{Arguments, no_arguments, call_ending, an_expr, literal_of, selected, third_bound, second_bound, bounds, instance_behind, behind_index, indexed, argument, called, operand, unary_expr, primary, prefixed, prefixed_by, prefix_site, Prefix, a_prefix}
use Rattle.ui_syntax.specs.Read.{readers}
use Rattle.ui_syntax.proofs.ByBudget.{Stops, TypeForm, IsMaybeRead}
use Rattle.ui_syntax.proofs.Sound.{readers_sound}
use Rattle.ui_syntax.proofs.SteadyTypes.{steady_a_type}
use Rattle.ui_syntax.proofs.SteadyExprs.{steady_argument}
use Rattle.ui_syntax.proofs.Steady.{readers_steady}
use Rattle.ui_syntax.proofs.SoundExprsForms.{IsCoverRead, IsCover, cover_is, cover_of}
use Rattle.ui_syntax.proofs.SoundExprsInner.{type_read}
use Rattle.ui_syntax.proofs.SoundExprsEnclosed.{operand_sound}
use Rattle.ui_syntax.proofs.SoundExprsSuffixes.{primary_sound}

-- whatever the words that are left
abbrev pub Each : {A : Type 0} → (A → Type 0) → Outcome A → Type 0
Each P o = Holds (λ a r. P a) (λ r. Unit {0}) o

pub any_value : {A : Type 0} (o : Outcome A) → Each (λ a. Unit {0}) o
any_value (Ok p) = good tt
any_value (Err r) = bad tt

-- what comes of any first value
after_any : {A B : Type 0} {P : B → Type 0} (o : Outcome A) (f : A → Reader B) → ((a : A) (u : List Word) → Each P (f a u)) → Each P (and_then o f)
after_any o f on = bind (any_value o) (λ a r _. on a r) (λ r h. h)

after_each : {A B : Type 0} {P : A → Type 0} {Q : B → Type 0} (o : Outcome A) (f : A → Reader B) → Each P o → ((a : A) (u : List Word) → P a → Each Q (f a u)) → Each Q (and_then o f)
after_each o f h on = bind h (λ a r p. on a r p) (λ r h. h)

taken_each : {A B : Type 0} {P : A → Type 0} (test : Word → Option B) (on : B → Reader A) (other : Reader A) (ws : List Word) → ((b : B) (u : List Word) → Each P (on b u)) → Each P (other ws) → Each P (take_by test on other ws)
taken_each test on other ws on_is other_is = taken_holds test on other ws (λ b w rest _ _. on_is b rest) (λ _. other_is)

-- ---- lists whose steps keep what holds of the state

module _ {S : Type 0} (separator close : TokenKind) (ending : Ending S) (step : S → Reader S) (P : S → Type 0) (kept : (s : S) (ws : List Word) → P s → Each P (step s ws)) where
  closing_keeps : (s : S) (ws : List Word) → P s → Each P (closing separator close ending step s ws)
  closing_keeps s ws h = choose (ending.may s) (λ u. and_then (expect close u) (λ _. pure s)) refuse ws (λ _. after_any (expect close ws) (λ _. pure s) (λ _ u. good h)) (λ _. bad tt)

  behind_keeps : (again : S → Reader S) → ((s : S) (ws : List Word) → P s → Each P (again s ws)) → (s : S) (ws : List Word) → P s → Each P (behind separator close ending step again s ws)
  behind_keeps again again_is s ws h = choose (ending.must s) (λ u. and_then (eat separator u) (λ _. closing separator close ending step s)) (take_by (marked separator) (λ _. again s) (closing separator close ending step s)) ws
      (λ _. after_any (eat separator ws) (λ _. closing separator close ending step s) (λ _ u. closing_keeps s u h))
      (λ _. taken_each (marked separator) (λ _. again s) (closing separator close ending step s) ws (λ _ u. again_is s u h) (closing_keeps s ws h))

  parts_from_keep : (n : ℕ) (s : S) (ws : List Word) → P s → Each P (parts_from separator close ending step n s ws)
  unfolding parts_from
  parts_from_keep zero s ws h = bad tt
  parts_from_keep (suc n) s ws h =
      let go = after_each (step s ws) (behind separator close ending step (parts_from separator close ending step n)) (kept s ws h) (λ s2 u h2. behind_keeps (parts_from separator close ending step n) (parts_from_keep n) s2 u h2) in
      choose (ending.may s) (take_by (marked close) (λ _. pure s) (λ u. and_then (step s u) (behind separator close ending step (parts_from separator close ending step n)))) (λ u. and_then (step s u) (behind separator close ending step (parts_from separator close ending step n))) ws
      (λ _. taken_each (marked close) (λ _. pure s) _ ws (λ _ u. good h) go) (λ _. go)

  pub parts_keep : (s : S) (ws : List Word) → P s → Each P (parts separator close ending step s ws)
  unfolding parts
  parts_keep s ws h = parts_from_keep (suc (length ws)) s ws h

  pub more_parts_keep : (s : S) (ws : List Word) → P s → Each P (more_parts separator close ending step s ws)
  unfolding more_parts
  more_parts_keep s ws h = behind_keeps (parts separator close ending step) parts_keep s ws h

-- ---- types and expressions

cover_depth_by : (s : Site) (b least : ℕ) (ts : List Word) (x : Read Tree) (rest : List Word) (o : Option TypeTree) → IsCover s b least ts x rest o → x.depth ≤ b
cover_depth_by s b least ts x rest None h = omega (arith, h.sized, h.fits.shallow)
cover_depth_by Header b least ts x rest (Some t) h = absurd h.fits.room
cover_depth_by Plain b least ts x rest (Some t) h = absurd h.fits.room
cover_depth_by Wrapped b least ts x rest (Some t) h = omega (arith, h.sized, h.fits.room)
cover_depth_by Argument b least ts x rest (Some t) h = omega (arith, h.sized, h.fits.room)

pub expr_depth : (d : ℕ) (s : Site) (least : ℕ) (ws : List Word) → least ≤ 6 → Each (λ x. x.depth ≤ d) ((readers d).level s least ws)
expr_depth d s least ws le = mono ((readers_sound d).own.expr s least ws le) (λ x r h. cover_depth_by s d least ws x r (only_type x.tree) (cover_is s d least ws x r (only_type x.tree) refl (cover_of h))) (λ r _. tt)

pub type_depth_of : (d : ℕ) (ws : List Word) → Each (λ t. t.depth ≤ d) (a_type d (readers d) ws)
type_depth_of d ws = mono (type_read d (readers d) (readers_sound d).own ws) (λ t r h. omega (arith, h.sized, h.fits.1)) (λ r _. tt)

abbrev pub MaybeWithin : ℕ → Option (Read TypeTree) → Type 0
MaybeWithin b None = Unit {0}
MaybeWithin b (Some t) = t.depth ≤ b

maybe_within : (p : TypeSite) (b : ℕ) (ts : List Word) (x : Option (Read TypeTree)) (rest : List Word) → IsMaybeRead p b ts x rest → MaybeWithin b x
maybe_within p b ts None rest h = tt
maybe_within at.Plain b ts (Some t) rest h = omega (arith, h.sized, h.fits.1)
maybe_within at.Element b ts (Some t) rest h = omega (arith, h.sized, h.fits.1)
maybe_within at.Operand b ts (Some t) rest h = omega (arith, h.sized, h.fits.1)
maybe_within at.Argument b ts (Some t) rest h = omega (arith, h.sized, h.fits.1)

pub lower_type_depth : (d : ℕ) (p : TypeSite) (ws : List Word) → Each (MaybeWithin d) ((readers d).maybe_type p ws)
lower_type_depth d p ws = mono ((readers_sound d).own.type p ws) (λ x r h. maybe_within p d ws x r h) (λ r _. tt)

pub own_type_depth : (d : ℕ) (p : TypeSite) (ws : List Word) → Each (MaybeWithin (suc d)) (maybe_type d (readers d) p ws)
unfolding readers
own_type_depth d p ws = lower_type_depth (suc d) p ws

-- ---- what follows an operand

module _ (d : ℕ) where
  type_kept : (l : Listed TypeTree) (ws : List Word) → l.depth ≤ d → Each (λ l. l.depth ≤ d) (one_more (a_type d (readers d)) l ws)
  type_kept l ws le = after_each (a_type d (readers d) ws) (λ t. pure (add l t.tree t.depth)) (type_depth_of d ws) (λ t u h. good (omega (arith, le, h)))

  args_depth : (k : ℕ) (t : TypeTree) (ws : List Word) → k ≤ d → Each (λ l. l.depth ≤ d) (more_args (a_type d (readers d)) (only t k) ws)
  args_depth k t ws le = more_parts_keep Comma RBracket any_end (one_more (a_type d (readers d))) (λ l. l.depth ≤ d) type_kept (only t k) ws le

  behind_depth : (k : ℕ) (t : TypeTree) (ws : List Word) → k ≤ d → Each (λ l. l.depth ≤ d) (args_behind (a_type d (readers d)) (only t k) ws)
  behind_depth k t ws le = parts_keep Comma RBracket any_end (one_more (a_type d (readers d))) (λ l. l.depth ≤ d) type_kept (only t k) ws le

  argument_kept : (l : Arguments) (ws : List Word) → l.depth ≤ d → Each (λ l. l.depth ≤ d) (argument d (readers d) l ws)
  unfolding argument
  argument_kept l ws le = after_each ((readers d).level Argument 1 ws) _ (expr_depth d Argument 1 ws (omega arith)) (λ x u h. after_any (eat Ellipsis u) _ (λ s v. good (omega (arith, le, h))))

  -- what is made of the operand is deeper, by what the budget has room for
  abbrev pub Grown : Read Tree → Read Tree → Type 0
  Grown f x = suc f.depth ≤ x.depth × x.depth ≤ suc d

  module _ (f : Read Tree) (within : f.depth ≤ d) where
    pub literal_grows : (t : TypeTree) (s : Spot) (ws : List Word) → Each (Grown f) (literal_of d (readers d) (of_type t s f.depth) ws)
    literal_grows t s ws = bind ((readers_sound d).braces ws) (λ es r h. good (omega (arith, h.shallow, within), omega (arith, h.shallow, within))) (λ r _. tt)

    pub selected_grows : (ws : List Word) → Each (Grown f) (selected d (readers d) f ws)
    unfolding selected
    selected_grows ws = name_holds _ _ ws (λ p rest _. good (omega (arith, within), omega (arith, within)))
        (λ _. after_any (expect LParen ws) _ (λ _ u. after_each (a_type d (readers d) u) _ (type_depth_of d u) (λ t v le. after_any (expect RParen v) _ (λ _ r. good (omega (arith, within, le), omega (arith, within, le))))))

    plain_depth : (ws : List Word) → Each (λ x. x.depth ≤ d) (an_expr d (readers d) ws)
    plain_depth ws = expr_depth d Plain 1 ws (omega arith)

    third_grows : (low : MaybeTree) (i : ℕ) (h : Read Tree) (ws : List Word) → i ≤ d → h.depth ≤ d → Each (Grown f) (third_bound d (readers d) f low i h ws)
    third_grows low i h ws le le2 = after_each (an_expr d (readers d) ws) _ (plain_depth ws) (λ m u le3. after_any (expect RBracket u) _ (λ _ r. good (omega (arith, within, le, le2, le3), omega (arith, within, le, le2, le3))))

    second_grows : (low : MaybeTree) (i : ℕ) (h : Read Tree) (ws : List Word) → i ≤ d → h.depth ≤ d → Each (Grown f) (second_bound d (readers d) f low i h ws)
    second_grows low i h ws le le2 = taken_each (marked Colon) _ _ ws (λ _ u. third_grows low i h u le le2) (after_any (expect RBracket ws) _ (λ _ r. good (omega (arith, within, le, le2), omega (arith, within, le, le2))))

    bounds_grow : (low : MaybeTree) (i : ℕ) (ws : List Word) → i ≤ d → Each (Grown f) (bounds d (readers d) f low i ws)
    unfolding bounds
    bounds_grow low i ws le = taken_each (marked RBracket) _ _ ws (λ _ u. good (omega (arith, within, le), omega (arith, within, le)))
        (after_each (an_expr d (readers d) ws) _ (plain_depth ws) (λ h u le2. second_grows low i h u le le2))

    instance_grows : (k : ℕ) (x : Option TypeTree) (ws : List Word) → k ≤ d → Each (Grown f) (instance_behind d (readers d) f k x ws)
    instance_grows k None ws le = bad tt
    instance_grows k (Some t) ws le = taken_each (marked Comma) _ _ ws (λ _ u. after_each (args_behind (a_type d (readers d)) (only t k) u) _ (behind_depth k t u le) (λ us r h. good (omega (arith, within, h), omega (arith, within, h)))) (bad tt)

    index_grows : (x : Read Tree) (t : Option TypeTree) (ws : List Word) → x.depth ≤ d → Each (Grown f) (behind_index d (readers d) f x t ws)
    index_grows x (Some t) ws le = after_each (more_args (a_type d (readers d)) (only t x.depth) ws) _ (args_depth x.depth t ws le) (λ us r h. good (omega (arith, within, h), omega (arith, within, h)))
    index_grows x None ws le = taken_each (marked Colon) _ _ ws (λ _ u. bounds_grow (given x.tree) x.depth u le)
        (taken_each (marked RBracket) _ _ ws (λ _ u. good (omega (arith, within, le), omega (arith, within, le))) (instance_grows x.depth (as_type x.tree) ws le))

    pub indexed_grows : (ws : List Word) → Each (Grown f) (indexed d (readers d) f ws)
    unfolding indexed
    indexed_grows ws = taken_each (marked Colon) _ _ ws (λ _ u. bounds_grow absent 0 u (omega arith))
        (after_each ((readers d).level Argument 1 ws) _ (expr_depth d Argument 1 ws (omega arith)) (λ x u le. index_grows x (only_type x.tree) u le))

    pub called_grows : (ws : List Word) → Each (Grown f) (called d (readers d) f ws)
    unfolding called
    called_grows ws = after_each (parts Comma RParen call_ending (argument d (readers d)) no_arguments ws) _ (parts_keep Comma RParen call_ending (argument d (readers d)) (λ l. l.depth ≤ d) argument_kept no_arguments ws (omega arith))
        (λ l r h. good (omega (arith, within, h), omega (arith, within, h)))

-- ---- expressions as far as they are read: within the budget where they are no types alone

abbrev pub Within : ℕ → Read Tree → Type 0
Within b x = only_type x.tree ≡ None → x.depth ≤ b

cover_within : (s : Site) (b least : ℕ) (ts : List Word) (x : Read Tree) (rest : List Word) → IsCoverRead s b least ts x rest → Within b x
cover_within s b least ts x rest h only_none = let w = cover_is s b least ts x rest None only_none h in omega (arith, w.sized, w.fits.shallow)

prefixed_within : (d : ℕ) (o : Prefix) (x : Read Tree) (t : Option TypeTree) → x.depth ≤ d → Within (suc d) (prefixed_by d (readers d) o x t)
prefixed_within d o x None le only_none = omega (arith, le)
prefixed_within d o x (Some t) le only_none = omega (arith, le)

module _ (d : ℕ) where
  type_sound : (p : TypeSite) (ts : List Word) → Holds (IsMaybeRead p (suc d) ts) (Stops (TypeForm p (suc d)) ts) (maybe_type d (readers d) p ts)
  unfolding readers
  type_sound p ts = (readers_sound (suc d)).own.type p ts

  pub operand_within : (site : Site) (ws : List Word) → Each (Within (suc d)) (operand d (readers d) site ws)
  operand_within site ws = mono (operand_sound d (readers d) (readers_sound d).own (readers_sound d).braces type_sound site ws) (λ x r h. cover_within site (suc d) 7 ws x r h) (λ r _. tt)

  pub primary_within : (site : Site) (ws : List Word) → Each (Within (suc d)) (primary d (readers d) site ws)
  primary_within site ws = mono
      (primary_sound d (readers d) (readers_sound d).own (readers_sound d).braces type_sound (steady_a_type d (readers d) (readers_steady d)) (steady_argument d (readers d) (readers_steady d)) site ws)
      (λ x r h. cover_within site (suc d) 7 ws x r h) (λ r _. tt)

  pub unary_within : (site : Site) (ws : List Word) → Each (Within (suc d)) (unary_expr d (readers d) site ws)
  unfolding unary_expr prefixed
  unary_within site ws = choose (nat_le 1 d) _ (primary d (readers d) site) ws
      (λ _. taken_each a_prefix _ _ ws
      (λ o u. after_each ((readers d).level (prefix_site o.op site) 6 u) _ (expr_depth d (prefix_site o.op site) 6 u (omega arith)) (λ x r le. good (prefixed_within d o x (only_type x.tree) le)))
      (primary_within site ws))
      (λ _. primary_within site ws)
