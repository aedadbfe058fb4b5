-- The end of a list of parameters, and what completes a list that goes on no further.
use Rattle.std.proofs.Common.{◌≡◌, inl, ℕ, ◌≤◌, Bool, true, false, not, ◌&&◌, ◌||◌, List, [], ◌∷◌, ◌++◌, refl, sym, ap, subst, ◌∙◌, arith}
use Rattle.std.proofs.lemmas.List.{append-nil}
use Rattle.ui_base.specs.declared.value.Spot.{Spot}
use Rattle.ui_scan.specs.declared.kind.TokenKind.TheVariants.{RParen, Comma}
use Rattle.ui_tree.specs.declared.part.Placed.{Placed}
use Rattle.ui_tree.specs.declared.part.Group.{Group}
use Rattle.ui_tree.specs.Tree.{TypeTree}
use Rattle.ui_tree.specs.View.{groups, kept}
use Rattle.ui_grammar.specs.Word.{Word, ident, mark, Closes}
use Rattle.ui_grammar.specs.Fits.{plain_type, all_named, all_bare}
use Rattle.ui_syntax.specs.declared.site.Style.{Style}
use Rattle.ui_syntax.specs.declared.site.Style.TheVariants as style
use Rattle.ui_syntax.specs.Types.{Params, no_params, group, as_types, is_empty, is_named, params_ending, all_params}
use Rattle.ui_syntax.proofs.ByBudget.{Begun}
use Rattle.ui_syntax.proofs.Begun.{Short, short_as, short_mark, short_then, x_name, begun_as, begun_none, before, behind, Is, frame_word}
use Rattle.ui_syntax.proofs.Runs.{FormOf, lead_begun, run_end, run_begun}
use Rattle.ui_syntax.proofs.SoundTypesLists.{TypeFits}
use Rattle.ui_syntax.proofs.SoundTypesNamed.{short_fits}
use Rattle.ui_syntax.proofs.SoundTypesGroups.{or_left, or_right, bare_append, named_append, AreFit, fit_none, fit_one, fit_append, fit_types_of, groups_depth_append, depth_of_types}
use Rattle.ui_syntax.proofs.SoundTypesParams.{Tail, Whole, Bares, Labelled, Labels_of, More, Mores, is_bare, Facts, Before, After, ParamsRead, bare_items, named_items, waiting_le}

module _ (room : ℕ) where
  -- ---- lists of parameters that fit

  pub record GoodGroups (gs : List (Group TypeTree)) : Type 0 where
    pub styled : (all_named (groups kept gs) || all_bare (groups kept gs)) ≡ true
    pub fit : AreFit room gs

  abbrev pub ParamsFault : List Word → List Word → Type 0
  ParamsFault ts rest = Begun (FormOf Whole GoodGroups) ts rest

  good_bare : (gs : List (Group TypeTree)) → all_bare (groups kept gs) ≡ true → AreFit room gs → GoodGroups gs
  good_bare gs e f = record { styled = or_right _ _ e; fit = f }

  good_named : (gs : List (Group TypeTree)) → all_named (groups kept gs) ≡ true → AreFit room gs → GoodGroups gs
  good_named gs e f = record { styled = or_left _ _ e; fit = f }

  facts_fit : (ps : Params) → Facts room ps → AreFit room ps.groups
  facts_fit ps f = record { fits = f.fits; shallow = omega (arith, f.sized, f.shallow) }

  items_fit : (ps : Params) → 1 ≤ room → Facts room ps → AreFit room (ps.groups ++ as_types ps.waiting)
  items_fit ps le f = fit_append room ps.groups (as_types ps.waiting) (facts_fit ps f) (fit_types_of room ps.waiting le)

  empty_is : (ws : List Placed) → is_empty ws ≡ true → ws ≡ []
  empty_is [] e = refl
  empty_is (w ∷ ws) e = absurd cc

  not_not : (b : Bool) → not (not b) ≡ true → b ≡ true
  not_not true e = refl
  not_not false e = absurd cc

  good_items : (ps : Params) → 1 ≤ room → Facts room ps → params_ending.may ps ≡ true → GoodGroups (ps.groups ++ as_types ps.waiting)
  good_items ps le f may = by_style (is_named ps.style) refl
    where
      by_style : (b : Bool) → is_named ps.style ≡ b → GoodGroups (ps.groups ++ as_types ps.waiting)
      by_style false e = good_bare _ (bare_items room ps e f) (items_fit ps le f)
      by_style true e =
          let none = empty_is ps.waiting (not_not (is_empty ps.waiting) (subst (λ (b : Bool). not (b && not (is_empty ps.waiting)) ≡ true) e may)) in
          let not_bare : is_bare ps.style ≡ false = named_not_bare ps.style e in
          good_named _ (named_append ps.groups (as_types ps.waiting) (named_items room ps not_bare f) (subst (λ (v : List Placed). all_named (groups kept (as_types v)) ≡ true) (sym none) refl)) (items_fit ps le f)
        where
          named_not_bare : (s : Style) → is_named s ≡ true → is_bare s ≡ false
          named_not_bare style.Open e = refl
          named_not_bare style.Bare e = absurd cc
          named_not_bare style.Named e = refl

  -- ---- the end

  pub after_end : (ps : Params) (ts ws rest : List Word) → After room ps ts ws → params_ending.may ps ≡ true → Closes Comma RParen ws rest → ParamsRead room ts (all_params ps) rest
  after_end ps ts ws rest j may c =
      let g = good_items ps j.some j.facts may in
      record {
        spells = run_end Tail Whole (ps.groups ++ as_types ps.waiting) ts ws rest (j.items may) c;
        styled = g.styled;
        fits = g.fit.fits;
        sized = omega (arith, groups_depth_append ps.groups (as_types ps.waiting), depth_of_types ps.waiting, j.facts.sized);
        shallow = omega (arith, j.facts.shallow, waiting_le room ps.waiting j.some);
      }

  pub none_read : (x : Spot) (ts rest : List Word) → ts ≡ mark RParen x ∷ rest → ParamsRead room ts (all_params no_params) rest
  none_read x ts rest e = record { spells = record { spot = x; is = e }; styled = refl; fits = tt; sized = refl; shallow = omega arith }

  -- ---- faults

  pub first_stuck : (ts : List Word) → ParamsFault ts ts
  first_stuck ts = begun_none ts (short_as (short_mark RParen) (λ us rs m. record { all = []; spells = m; ok = record { styled = refl; fit = fit_none room } }))

  -- a type is begun
  pub bare_fault : (ps : Params) (ts ws rest : List Word) → Before room ps ts ws → 1 ≤ room → is_named ps.style ≡ false → Begun (TypeFits plain_type room) ws rest → ParamsFault ts rest
  bare_fault ps ts ws rest j le e g =
      lead_begun {S = Bares} {Ok1 = λ x. AreFit room (group [] x.of ∷ x.others) × (all_bare (groups kept (group [] x.of ∷ x.others)) ≡ true)} (λ x. (ps.groups ++ as_types ps.waiting) ++ (group [] x.of ∷ x.others)) ts ws rest (j.bare e)
      (λ x h. good_bare _ (bare_append (ps.groups ++ as_types ps.waiting) (group [] x.of ∷ x.others) (bare_items room ps e j.facts) h.1) (fit_append room (ps.groups ++ as_types ps.waiting) (group [] x.of ∷ x.others) (items_fit ps le j.facts) h.0))
      (begun_as (before g (short_mark RParen)) (λ us rs h. let t = h.1 in record { all = record { of = t.tree; others = [] }; spells = (h.0, t.spells, inl h.2); ok = (fit_one room [] t.tree t.fits t.shallow, refl) }))

  abbrev LabelledOk : Labelled → Type 0
  LabelledOk x = AreFit room (group [] x.of ∷ x.others) × (all_named (groups kept x.others) ≡ true)

  refit : (ns : List Placed) (t : TypeTree) (us : List (Group TypeTree)) → AreFit room (group [] t ∷ us) → AreFit room (group ns t ∷ us)
  refit ns t us f = record { fits = f.fits; shallow = f.shallow }

  filled_names : (ns : List Placed) (p : Placed) (ps : List Placed) (t : TypeTree) (us : List (Group TypeTree)) → all_named (groups kept us) ≡ true → all_named (groups kept (group (ns ++ (p ∷ ps)) t ∷ us)) ≡ true
  filled_names [] p ps t us h = h
  filled_names (n ∷ ns) p ps t us h = h

  from_labelled : (ps : Params) (ts ws rest : List Word) → Before room ps ts ws → is_bare ps.style ≡ false → Begun (FormOf Labels_of LabelledOk) ws rest → ParamsFault ts rest
  from_labelled ps ts ws rest j e g =
      lead_begun {S = Labels_of} {Ok1 = LabelledOk} (λ x. ps.groups ++ (group (ps.waiting ++ (x.name ∷ x.names)) x.of ∷ x.others)) ts ws rest (j.named e)
      (λ x h. good_named _ (named_append ps.groups (group (ps.waiting ++ (x.name ∷ x.names)) x.of ∷ x.others) (named_items room ps e j.facts) (filled_names ps.waiting x.name x.names x.of x.others h.1)) (fit_append room ps.groups (group (ps.waiting ++ (x.name ∷ x.names)) x.of ∷ x.others) (facts_fit ps j.facts) (refit (ps.waiting ++ (x.name ∷ x.names)) x.of x.others h.0)))
      g

  -- behind a name, a type is begun
  pub named_fault : (ps : Params) (p : Placed) (ts m rest : List Word) → Before room ps ts (ident p ∷ m) → is_bare ps.style ≡ false → Begun (TypeFits plain_type room) m rest → ParamsFault ts rest
  named_fault ps p ts m rest j e g = from_labelled ps ts (ident p ∷ m) rest j e
      (begun_as (behind (frame_word (ident p) m) (before g (short_mark RParen))) (λ us rs h. let t = h.2.1 in record { all = record { name = p; names = []; of = t.tree; others = [] }; spells = (h.0, h.2.0, (h.0, h.1, refl), t.spells, inl h.2.2); ok = (fit_one room [] t.tree t.fits t.shallow, refl) }))

  short_labelled : 1 ≤ room → Short (FormOf Labels_of LabelledOk)
  short_labelled le = short_as (short_then {R = Is (ident x_name)} (record { words = ident x_name ∷ []; spells = λ k. refl }) (short_then (short_fits room le) (short_mark RParen)))
      (λ us rs h. let t = h.2.1 in record { all = record { name = x_name; names = []; of = t.tree; others = [] }; spells = (h.0, h.2.0, (h.0, h.1, refl), t.spells, inl h.2.2); ok = (fit_one room [] t.tree t.fits t.shallow, refl) })

  -- no parameter comes
  pub before_stuck : (ps : Params) (ts ws : List Word) → Before room ps ts ws → 1 ≤ room → ParamsFault ts ws
  before_stuck ps ts ws j le = by_style (is_named ps.style) refl
    where
      not_bare : (s : Style) → is_named s ≡ true → is_bare s ≡ false
      not_bare style.Open e = refl
      not_bare style.Bare e = absurd cc
      not_bare style.Named e = refl

      by_style : (b : Bool) → is_named ps.style ≡ b → ParamsFault ts ws
      by_style false e = bare_fault ps ts ws ws j le e (begun_none ws (short_fits room le))
      by_style true e = from_labelled ps ts ws ws j (not_bare ps.style e) (begun_none ws (short_labelled le))

  abbrev MoreOk : More → Type 0
  MoreOk x = AreFit room (group [] x.of ∷ x.others) × (all_named (groups kept x.others) ≡ true)

  -- neither a separator nor the end comes
  pub after_stuck : (ps : Params) (ts ws : List Word) → After room ps ts ws → ParamsFault ts ws
  after_stuck ps ts ws j = by_end (params_ending.may ps) refl
    where
      wait : (s : Style) → not (is_named s && not (is_empty ps.waiting)) ≡ false → (is_bare s ≡ false) × (is_empty ps.waiting ≡ false)
      wait style.Open e = absurd cc
      wait style.Bare e = absurd cc
      wait style.Named e = (refl, by_empty (is_empty ps.waiting) e)
        where
          by_empty : (b : Bool) → not (not b) ≡ false → b ≡ false
          by_empty true e = absurd cc
          by_empty false e = refl

      names_filled : (ws ns : List Placed) (t : TypeTree) (us : List (Group TypeTree)) → is_empty ws ≡ false → all_named (groups kept us) ≡ true → all_named (groups kept (group (ws ++ ns) t ∷ us)) ≡ true
      names_filled [] ns t us e h = absurd cc
      names_filled (w ∷ ws) ns t us e h = h

      waits : (ws ns : List Placed) → is_empty ws ≡ false → is_empty (ws ++ ns) ≡ false
      waits [] ns e = absurd cc
      waits (w ∷ ws) ns e = refl

      by_end : (b : Bool) → params_ending.may ps ≡ b → ParamsFault ts ws
      by_end true e = run_begun Tail Whole {Ok1 = λ us. us ≡ []} (ps.groups ++ as_types ps.waiting) ts ws ws (j.items e)
          (λ us h. subst GoodGroups (sym (append-nil (ps.groups ++ as_types ps.waiting)) ∙ ap (λ (v : List (Group TypeTree)). (ps.groups ++ as_types ps.waiting) ++ v) (sym h)) (good_items ps j.some j.facts e))
          (begun_none ws (short_as (short_mark RParen) (λ us rs m. record { all = []; spells = inl m; ok = refl })))
      by_end false e =
          let w = wait ps.style e in
          lead_begun {S = Mores ps.waiting} {Ok1 = MoreOk} (λ x. ps.groups ++ (group (ps.waiting ++ x.names) x.of ∷ x.others)) ts ws ws (j.named w.0)
          (λ x h. good_named _ (named_append ps.groups (group (ps.waiting ++ x.names) x.of ∷ x.others) (named_items room ps w.0 j.facts) (names_filled ps.waiting x.names x.of x.others w.1 h.1)) (fit_append room ps.groups (group (ps.waiting ++ x.names) x.of ∷ x.others) (facts_fit ps j.facts) (refit (ps.waiting ++ x.names) x.of x.others h.0)))
          (begun_none ws (short_as (short_then (short_fits room j.some) (short_mark RParen))
          (λ us rs h. let t = h.1 in record { all = record { names = []; of = t.tree; others = [] }; spells = (us, h.0, waits ps.waiting [] w.1, refl, t.spells, inl h.2); ok = (fit_one room [] t.tree t.fits t.shallow, refl) })))
