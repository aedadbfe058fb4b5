-- The reader of parameters.
use Rattle.std.proofs.Common.{◌≡◌, ℕ, suc, ◌-◌, ◌≤◌, false, List, ◌∷◌, Option, Some, None, refl, ap, subst, arith}
use Rattle.std.specs.Prelude.{nat_le}
use Rattle.std.proofs.lemmas.Bool.{leb-true}
use Rattle.ui_base.specs.declared.value.Spot.{Spot}
use Rattle.ui_scan.specs.declared.kind.TokenKind.TheVariants.{LBracket, RParen, Comma, Period}
use Rattle.ui_tree.specs.declared.part.Placed.{Placed}
use Rattle.ui_tree.specs.Tree.{TypeTree}
use Rattle.ui_grammar.specs.Word.{Word, ident, mark}
use Rattle.ui_grammar.specs.Fits.{plain_type}
use Rattle.ui_parse.specs.Reader.{pure, refuse, take_by, marked}
use Rattle.ui_parse.proofs.Outcomes.{Holds, good, bad, bind, choose, mark_holds, name_holds, expect_name_holds}
use Rattle.ui_parse.proofs.Steady.{Steady}
use Rattle.ui_parse.proofs.TurnLaws.{KeepsParts, parts_holds}
use Rattle.ui_syntax.specs.declared.site.Style.{Style}
use Rattle.ui_syntax.specs.declared.site.Style.TheVariants as style
use Rattle.ui_syntax.specs.declared.site.TypeSite.TheVariants as at
use Rattle.ui_syntax.specs.Cover.{Read}
use Rattle.ui_syntax.specs.Types.{Nested, Params, no_params, is_named, add_name, add_maybe, params_ending, all_params, a_type, a_lower_type, maybe_named, qualified, bracketed, open_name, bare_param, param_by, param, params}
use Rattle.ui_syntax.proofs.ByBudget.{Begun, Stops, TypeForm, IsSoundAt}
use Rattle.ui_syntax.proofs.Begun.{begun_as, begun_stops}
use Rattle.ui_syntax.proofs.SoundTypesLists.{TypeFits, TypeOk}
use Rattle.ui_syntax.proofs.SoundTypesNamed.{short_fits, maybe_args_holds, member_missing}
use Rattle.ui_syntax.proofs.SoundTypesRead.{MaybeOk, type_ok, maybe_ok, or_refuse_holds, fits_of_form}
use Rattle.ui_syntax.proofs.SoundTypesParams.{is_bare, Before, After, before_all, separated, type_added, named_added, name_added, ParamsRead}
use Rattle.ui_syntax.proofs.SoundTypesParamEnds.{ParamsFault, after_end, none_read, first_stuck, bare_fault, named_fault, before_stuck, after_stuck}
use Rattle.ui_syntax.proofs.SoundTypesBracketed.{bracketed_holds}

module _ (room low : ℕ) (inner : Nested) (below : 2 ≤ room → suc low ≤ room) (own : IsSoundAt room inner.level inner.maybe_type) (lower : IsSoundAt low inner.lower_level inner.lower_maybe_type)
    (lower_is : Steady (a_lower_type room inner)) (param_is : (ps : Params) → Steady (param room inner ps)) where
  pub type_sound : (us : List Word) → Holds (TypeOk plain_type room us) (Stops (TypeFits plain_type room) us) (a_type room inner us)
  type_sound us = type_ok (omega arith) (or_refuse_holds (own.type at.Plain us))

  lower_sound : 2 ≤ room → (us : List Word) → Holds (TypeOk plain_type (room - 1) us) (Stops (TypeFits plain_type (room - 1)) us) (a_lower_type room inner us)
  lower_sound le us = type_ok (omega (arith, below le)) (or_refuse_holds (lower.type at.Plain us))

  module _ (ts : List Word) where
    abbrev Q : Params → List Word → Type 0
    Q ps rest = After room ps ts rest

    abbrev F : List Word → Type 0
    F rest = ParamsFault room ts rest

    bare_param_holds : (ps : Params) (ws : List Word) → Before room ps ts ws → 1 ≤ room → is_named ps.style ≡ false → Holds Q F (bare_param room inner ps ws)
    bare_param_holds ps ws j le e = bind (type_sound ws)
        (λ t m r. good (type_added room ps t ts ws m j le e r.spells r.fits r.sized r.shallow))
        (λ r st. bare_fault room ps ts ws r j le e (begun_stops (short_fits room le) st))

    maybe_named_holds : (ps : Params) (p : Placed) (ws : List Word) → Before room ps ts (ident p ∷ ws) → 1 ≤ room → is_bare ps.style ≡ false → Holds Q F (maybe_named room inner ps p ws)
    maybe_named_holds ps p ws j le e = bind (maybe_ok (omega arith) (own.type at.Plain ws)) each (λ r st. named_fault room ps p ts ws r j e (begun_stops (short_fits room le) st))
      where
        each : (o : Option (Read TypeTree)) (r : List Word) → MaybeOk plain_type room ws o r → Holds Q F (pure (add_maybe ps p o) r)
        each None r h = good (subst (λ (v : List Word). After room (add_name ps p) ts v) h (name_added room ps p ts (ident p ∷ ws) ws j le e refl))
        each (Some t) r h = good (named_added room ps p t ts (ident p ∷ ws) ws r j le e refl h.spells h.fits h.sized h.shallow)

    qualified_holds : (ps : Params) (p : Placed) (s : Spot) (ws rest : List Word) → Before room ps ts (ident p ∷ ws) → 2 ≤ room → is_named ps.style ≡ false → ws ≡ mark Period s ∷ rest → Holds Q F (qualified room inner ps p rest)
    qualified_holds ps p s ws rest j le e h =
        bind (expect_name_holds {Q = λ m r. rest ≡ ident m ∷ r} {F = F} rest (λ m r g. g)
        (λ _. from_form rest (member_missing room p ws rest s le h)))
        (λ m r g. bind (maybe_args_holds (room - 1) (a_lower_type room inner) lower_is (lower_sound le) room (λ _. (omega (arith, le), omega (arith, le))) p (Some m) (ident p ∷ ws) r (ws, refl, (rest, record { spot = s; is = h }, g)) le)
        (λ t last k. good (type_added room ps t ts (ident p ∷ ws) last j (omega (arith, le)) e k.spells k.fits.0 k.sized (omega (arith, k.fits.1, k.sized))))
        (λ last k. from_form last k))
        (λ r g. g)
      where
        from_form : (r : List Word) → Begun (TypeForm at.Plain room) (ident p ∷ ws) r → F r
        from_form r g = bare_fault room ps ts (ident p ∷ ws) r j (omega (arith, le)) e (begun_as g (fits_of_form (omega arith)))

    open_name_holds : (ps : Params) (p : Placed) (ws : List Word) → Before room ps ts (ident p ∷ ws) → 1 ≤ room → is_named ps.style ≡ false → is_bare ps.style ≡ false → Holds Q F (open_name room inner ps p ws)
    unfolding open_name
    open_name_holds ps p ws j le e e2 =
        let other = maybe_named_holds ps p ws j le e2 in
        choose (nat_le 2 room) (take_by (marked Period) (λ _. qualified room inner ps p) (take_by (marked LBracket) (λ s. bracketed room inner ps p s) (maybe_named room inner ps p))) (maybe_named room inner ps p) ws
        (λ h. let le2 : 2 ≤ room = leb-true _ _ h in
        mark_holds Period (λ _. qualified room inner ps p) (take_by (marked LBracket) (λ s. bracketed room inner ps p s) (maybe_named room inner ps p)) ws
        (λ s rest g. qualified_holds ps p s ws rest j le2 e g)
        (λ _. mark_holds LBracket (λ s. bracketed room inner ps p s) (maybe_named room inner ps p) ws
        (λ s rest g. bracketed_holds room (room - 1) low inner (omega (arith, le2)) (omega (arith, le2)) (omega (arith, below le2)) lower lower_is ps p s ts rest (subst (λ (v : List Word). Before room ps ts (ident p ∷ v)) g j) e e2)
        (λ _. other)))
        (λ _. other)

    by_style : (s : Style) (ps : Params) (ws : List Word) → ps.style ≡ s → Before room ps ts ws → F ws → 1 ≤ room → Holds Q F (param_by room inner s ps ws)
    by_style style.Open ps ws e j stuck le = name_holds (open_name room inner ps) (bare_param room inner ps) ws
        (λ p rest h. open_name_holds ps p rest (subst (λ (v : List Word). Before room ps ts v) h j) le (ap is_named e) (ap is_bare e))
        (λ _. bare_param_holds ps ws j le (ap is_named e))
    by_style style.Bare ps ws e j stuck le = bare_param_holds ps ws j le (ap is_named e)
    by_style style.Named ps ws e j stuck le = name_holds (maybe_named room inner ps) refuse ws
        (λ p rest h. maybe_named_holds ps p rest (subst (λ (v : List Word). Before room ps ts v) h j) le (ap is_bare e))
        (λ _. bad stuck)

    param_holds : (ps : Params) (ws : List Word) → Before room ps ts ws → F ws → Holds Q F (param room inner ps ws)
    unfolding param
    param_holds ps ws j stuck = choose (nat_le 1 room) (param_by room inner ps.style ps) refuse ws (λ e. by_style ps.style ps ws refl j stuck (leb-true _ _ e)) (λ _. bad stuck)

    after_comma : (ps : Params) (x : Spot) (ws rest : List Word) → After room ps ts ws → ws ≡ mark Comma x ∷ rest → Holds Q F (param room inner ps rest)
    after_comma ps x ws rest j e = let b = separated room ps x ts ws rest j e in param_holds ps rest b (before_stuck room ps ts rest b j.some)

    keeps : KeepsParts Comma RParen params_ending (param room inner) param_is Q (λ ps rest. ParamsRead room ts (all_params ps) rest) F
    keeps = record {
      part = λ ps x ws rest j must e. after_comma ps x ws rest j e;
      last = λ ps ws rest j may c. after_end room ps ts ws rest j may c;
      stuck = λ ps ws j. after_stuck room ps ts ws j;
      stuck_separated = λ ps x ws rest j must e. absurd cc;
    }

    pub params_holds : Holds (ParamsRead room ts) F (params room inner ts)
    unfolding params
    params_holds = bind (parts_holds Comma RParen params_ending (param room inner) param_is Q (λ ps rest. ParamsRead room ts (all_params ps) rest) F keeps no_params ts
        (λ _. param_holds no_params ts (before_all room ts) (first_stuck room ts))
        (λ x rest may e. none_read room x ts rest e))
        (λ ps rest h. good h) (λ rest g. g)
