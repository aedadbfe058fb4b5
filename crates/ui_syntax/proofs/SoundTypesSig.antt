-- Results and signatures.
use Rattle.std.proofs.Common.{◌≡◌, inl, inr, ℕ, suc, max, ◌≤◌, true, false, ◌||◌, List, [], ◌∷◌, ◌++◌, Option, Some, None, refl, sym, subst, ◌∙◌, arith}
use Rattle.ui_base.specs.declared.value.Spot.{Spot}
use Rattle.ui_scan.specs.declared.kind.TokenKind.TheVariants.{LParen, RParen, Comma}
use Rattle.ui_tree.specs.declared.part.Group.{Group}
use Rattle.ui_tree.specs.Tree.{TypeTree, parenthesized, listed, groups_end, MaybeType, given_type}
use Rattle.ui_tree.specs.View.{groups, kept}
use Rattle.ui_grammar.specs.Word.{Word, mark}
use Rattle.ui_grammar.specs.Both.{result_is_open}
use Rattle.ui_grammar.specs.Spells.{SpellsType, SpellsMaybeType}
use Rattle.ui_grammar.specs.Fits.{plain_type, result, maybe_type_depth, groups_depth, all_named, all_bare, FitsGroups, FitsMaybeType}
use Rattle.ui_grammar.proofs.Frames.{Spelling, Framed, Then, framed_as, frame_groups}
use Rattle.ui_parse.specs.Reader.{and_then, pure, first, marked}
use Rattle.ui_parse.proofs.Outcomes.{Holds, good, bind, first_mark}
use Rattle.ui_parse.proofs.Steady.{Steady}
use Rattle.ui_syntax.specs.declared.site.TypeSite.TheVariants as at
use Rattle.ui_syntax.specs.Cover.{Read, is_parenthesized}
use Rattle.ui_syntax.specs.Types.{Nested, Listed, Params, a_lower_type, param, params, Results, result_of, results, signature}
use Rattle.ui_syntax.proofs.ByBudget.{Begun, Stops, TypeForm, IsMaybeRead, IsSoundAt}
use Rattle.ui_syntax.proofs.Begun.{Short, no_spot, begun_as, begun_stops, behind, before, frame_word, mark_at}
use Rattle.ui_syntax.proofs.Places.{fits_result}
use Rattle.ui_syntax.proofs.Runs.{FormOf}
use Rattle.ui_syntax.proofs.SoundTypesParams.{Whole, ParamsRead}
use Rattle.ui_syntax.proofs.SoundTypesParamEnds.{GoodGroups}
use Rattle.ui_syntax.proofs.SoundTypesParam.{params_holds}

not_parenthesized : (t : TypeTree) (ts rest : List Word) → SpellsType t ts rest → first (marked LParen) ts ≡ None → is_parenthesized t ≡ false
not_parenthesized (parenthesized s t) ts rest h e =
    let e2 : first (marked LParen) (mark LParen s ∷ h.0) ≡ None = subst (λ (v : List Word). first (marked LParen) v ≡ None) h.2 e in
    let e3 : Some s ≡ None = sym (first_mark LParen s h.0) ∙ e2 in
    absurd cc
not_parenthesized _ ts rest h e = refl

module _ (room : ℕ) where
  -- ---- results

  -- A front goes on to results behind which parentheses are none.
  pub record ResultForm (ts rest : List Word) : Type 0 where
    pub of : MaybeType
    pub spells : SpellsMaybeType of ts rest
    pub fits : FitsMaybeType of result
    pub shallow : maybe_type_depth of ≤ room
    pub closed : result_is_open of ≡ false

  pub record ResultRead (ts : List Word) (of : MaybeType) (k : ℕ) (rest : List Word) : Type 0 where
    pub spells : SpellsMaybeType of ts rest
    pub fits : FitsMaybeType of result
    pub sized : maybe_type_depth of ≡ k
    pub shallow : k ≤ room
    pub no_results : result_is_open of ≡ true → first (marked LParen) rest ≡ None

  pub short_result : Short ResultForm
  short_result = record {
    words = mark LParen no_spot ∷ (mark RParen no_spot ∷ []);
    spells = λ k. record { of = given_type (listed no_spot groups_end); spells = (mark RParen no_spot ∷ k, refl, record { spot = no_spot; is = refl }); fits = (refl, refl, tt); shallow = omega arith; closed = refl };
  }

  result_form : (ts rest : List Word) → first (marked LParen) ts ≡ None → TypeForm at.Plain room ts rest → ResultForm ts rest
  result_form ts rest e h = record { of = given_type h.tree; spells = h.spells; fits = fits_result h.tree h.fits.0 (not_parenthesized h.tree ts rest h.spells e); shallow = h.fits.1; closed = h.closed }

  -- a type is begun where no parenthesis stands
  result_begun : (front ts rest more : List Word) → first (marked LParen) ts ≡ None → ts ≡ front ++ rest → ((k : List Word) → TypeForm at.Plain room (front ++ (more ++ k)) k) → Stops ResultForm ts rest
  result_begun [] ts rest more e parts spells = inl parts
  result_begun (w ∷ front) ts rest more e parts spells = inr (record {
    front = w ∷ front;
    parts = parts;
    more = more;
    spells = λ k. result_form (w ∷ (front ++ (more ++ k))) k (subst (λ (v : List Word). first (marked LParen) v ≡ None) parts e) (spells k);
  })

  result_stops : (ts rest : List Word) → first (marked LParen) ts ≡ None → Stops (TypeForm at.Plain room) ts rest → Stops ResultForm ts rest
  result_stops ts rest e (inl same) = inl same
  result_stops ts rest e (inr g) = result_begun g.front ts rest g.more e g.parts g.spells

  -- ---- signatures, behind the parenthesis

  abbrev pub SigForm : Spelling
  SigForm = Then (FormOf Whole (GoodGroups room)) ResultForm

  pub record SigRead (ts : List Word) (gs : List (Group TypeTree)) (r : MaybeType) (k : ℕ) (rest : List Word) : Type 0 where
    pub middle : List Word
    pub params : Whole gs ts middle
    pub results : SpellsMaybeType r middle rest
    pub styled : (all_named (groups kept gs) || all_bare (groups kept gs)) ≡ true
    pub params_fit : FitsGroups (groups kept gs) plain_type
    pub results_fit : FitsMaybeType r result
    pub sized : suc (max (groups_depth (groups kept gs)) (maybe_type_depth r)) ≡ k
    pub shallow : k ≤ suc room
    pub no_results : result_is_open r ≡ true → first (marked LParen) rest ≡ None

  pub frame_params : (ts : List Word) (l : Listed (Group TypeTree)) (m : List Word) → ParamsRead room ts l m → Framed (FormOf Whole (GoodGroups room)) ts m
  frame_params ts l m h = framed_as (frame_groups Comma RParen (groups kept l.items) ts m h.spells)
      (λ us ws s. record { all = l.items; spells = s; ok = record { styled = h.styled; fit = record { fits = h.fits; shallow = omega (arith, h.sized, h.shallow) } } })

  pub sig_read : (ts : List Word) (gs : Listed (Group TypeTree)) (m : List Word) (r : MaybeType) (k : ℕ) (rest : List Word) → ParamsRead room ts gs m → ResultRead m r k rest → SigRead ts gs.items r (suc (max gs.depth k)) rest
  sig_read ts gs m r k rest h g = record {
    middle = m;
    params = h.spells;
    results = g.spells;
    styled = h.styled;
    params_fit = h.fits;
    results_fit = g.fits;
    sized = omega (arith, h.sized, g.sized);
    shallow = omega (arith, h.shallow, g.shallow);
    no_results = g.no_results;
  }

  module _ (low : ℕ) (inner : Nested) (below : 2 ≤ room → suc low ≤ room) (own : IsSoundAt room inner.level inner.maybe_type) (lower : IsSoundAt low inner.lower_level inner.lower_maybe_type)
      (lower_is : Steady (a_lower_type room inner)) (param_is : (ps : Params) → Steady (param room inner ps)) where
    pub results_holds : (ts : List Word) → Holds (λ x rest. ResultRead ts x.of x.depth rest) (Stops ResultForm ts) (results room inner ts)
    unfolding results
    results_holds ts = mark_at (λ us x rest. ResultRead us x.of x.depth rest) (λ us r. Stops ResultForm us r) LParen _ _ ts listed_holds (λ e. bind (own.type at.Plain ts) (each e) (λ r st. result_stops ts r e st))
      where
        listed_holds : (s : Spot) (ws : List Word) → Holds (λ (x : Results room inner) rest. ResultRead (mark LParen s ∷ ws) x.of x.depth rest) (Stops ResultForm (mark LParen s ∷ ws)) (and_then (params room inner ws) (λ gs. pure (record { of = given_type (listed s (groups kept gs.items)); depth = gs.depth })))
        listed_holds s ws = bind (params_holds room low inner below own lower lower_is param_is ws)
            (λ gs r h. good (record { spells = (ws, refl, h.spells); fits = (refl, h.styled, h.fits); sized = h.sized; shallow = h.shallow; no_results = λ e. absurd cc }))
            (λ r g. inr (begun_as (behind (frame_word (mark LParen s) ws) g)
            (λ us rs h. let f = h.2 in record { of = given_type (listed s (groups kept f.all)); spells = (h.0, h.1, f.spells); fits = (refl, f.ok.styled, f.ok.fit.fits); shallow = f.ok.fit.shallow; closed = refl })))

        each : first (marked LParen) ts ≡ None → (o : Option (Read TypeTree)) (r : List Word) → IsMaybeRead at.Plain room ts o r → Holds (λ (x : Results room inner) rest. ResultRead ts x.of x.depth rest) (Stops ResultForm ts) (pure (result_of room inner o) r)
        each e None r h = good (record { spells = h; fits = tt; sized = refl; shallow = omega arith; no_results = λ _. subst (λ (v : List Word). first (marked LParen) v ≡ None) h e })
        each e (Some t) r h = good (record { spells = h.spells; fits = fits_result t.tree h.fits.0 (not_parenthesized t.tree ts r h.spells e); sized = h.sized; shallow = omega (arith, h.fits.1, h.sized); no_results = h.no_results })

    pub signature_holds : {Q : Read TypeTree → List Word → Type 0} (make : List (Group TypeTree) → MaybeType → ℕ → Read TypeTree) (ts : List Word) → ((gs : List (Group TypeTree)) (r : MaybeType) (k : ℕ) (rest : List Word) → SigRead ts gs r k rest → Q (make gs r k) rest)
        → Holds Q (Begun SigForm ts) (signature room inner make ts)
    unfolding signature
    signature_holds make ts on = bind (params_holds room low inner below own lower lower_is param_is ts)
        (λ gs m h. bind (results_holds m) (λ r rest g. good (on gs.items r.of (suc (max gs.depth r.depth)) rest (sig_read ts gs m r.of r.depth rest h g)))
        (λ rest st. behind (frame_params ts gs m h) (begun_stops short_result st)))
        (λ rest g. before g short_result)
