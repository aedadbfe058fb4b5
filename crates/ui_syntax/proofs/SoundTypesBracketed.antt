-- The reader of what follows a first name of parameters and a bracket.
use Rattle.std.proofs.Common.{◌≡◌, ◌⊎◌, inl, inr, ℕ, suc, ◌≤◌, false, List, [], ◌∷◌, Option, Some, None, sym, ap, subst, ◌∙◌, arith}
use Rattle.ui_base.specs.declared.value.Spot.{Spot}
use Rattle.ui_scan.specs.declared.kind.TokenKind.TheVariants.{LBracket, RBracket, Comma}
use Rattle.ui_tree.specs.declared.part.Placed.{Placed}
use Rattle.ui_tree.specs.Tree.{TypeTree, Tree}
use Rattle.ui_grammar.specs.Word.{Word, ident, mark}
use Rattle.ui_grammar.specs.Fits.{plain_type}
use Rattle.ui_grammar.proofs.Frames.{frame_mark, frame_type}
use Rattle.ui_parse.proofs.Outcomes.{Holds, good, bad, bind, mark_holds, expect_holds}
use Rattle.ui_parse.proofs.Steady.{Steady}
use Rattle.ui_syntax.specs.declared.site.Site.TheVariants as site
use Rattle.ui_syntax.specs.declared.site.TypeSite.TheVariants as at
use Rattle.ui_syntax.specs.Cover.{Read, only_type, as_type}
use Rattle.ui_syntax.specs.Types.{Nested, Params, only, is_named, a_lower_type, add_argument, add_array, behind_bracket, close_bracket, behind_cover, bracketed}
use Rattle.ui_syntax.proofs.ByBudget.{Begun, Stops, IsSoundAt}
use Rattle.ui_syntax.proofs.Begun.{short_mark, short_then, begun_as, begun_stops, behind, behind_none, before}
use Rattle.ui_syntax.proofs.SoundTypesLists.{TypeFits, TypeOk, good_one, types_behind_holds}
use Rattle.ui_syntax.proofs.SoundTypesNamed.{SomeTypes, short_fits, first_arg}
use Rattle.ui_syntax.proofs.SoundTypesRead.{MaybeOk, type_ok, maybe_ok, or_refuse_holds}
use Rattle.ui_syntax.proofs.SoundTypesParams.{is_bare, Before, After}
use Rattle.ui_syntax.proofs.SoundTypesParamEnds.{ParamsFault}
use Rattle.ui_syntax.proofs.SoundTypesBracket.{AsExpr, AsType, CoverCase, expr_only, expr_too, type_only, cover_case, cover_stops, ExprFits, args_added, args_fault, one_arg, array_fault, array_added, frame_as_expr, slice_added, slice_fault}

module _ (room c low : ℕ) (inner : Nested) (above : suc c ≤ room) (some : 1 ≤ c) (low_le : low ≤ c) (lower : IsSoundAt low inner.lower_level inner.lower_maybe_type) (type_is : Steady (a_lower_type room inner))
    (ps : Params) (p : Placed) (s : Spot) (ts ws : List Word) (j : Before room ps ts (ident p ∷ (mark LBracket s ∷ ws))) (open_bare : is_named ps.style ≡ false) (open_named : is_bare ps.style ≡ false) where
  abbrev Q : Params → List Word → Type 0
  Q ps2 rest = After room ps2 ts rest

  abbrev F : List Word → Type 0
  F rest = ParamsFault room ts rest

  maybe_type_sound : (us : List Word) → Holds (MaybeOk plain_type c us) (Stops (TypeFits plain_type c) us) (inner.lower_maybe_type at.Plain us)
  maybe_type_sound us = maybe_ok low_le (lower.type at.Plain us)

  type_sound : (us : List Word) → Holds (TypeOk plain_type c us) (Stops (TypeFits plain_type c) us) (a_lower_type room inner us)
  type_sound us = type_ok low_le (or_refuse_holds (lower.type at.Plain us))

  -- a type alone
  close_type : (x : Read Tree) (t : TypeTree) (m : List Word) → only_type x.tree ≡ Some t → AsType c x t ws m → Holds Q F (close_bracket room inner ps p s x m)
  close_type x t m e a = bind (expect_holds {Q = λ y n. m ≡ mark RBracket y ∷ n} {F = F} RBracket m (λ y n h. h)
      (λ _. args_fault room c above some ps p s ts ws j open_bare open_named m
      (begun_as (behind_none (frame_type t ws m a.spells) (short_mark RBracket)) (λ us rs h. record { all = t ∷ []; spells = (h.0, h.1, inl h.2); ok = good_one t plain_type c a.fits (omega (arith, a.sized, a.shallow)) }))))
      (λ y n h. subst (λ (o : Option TypeTree). Holds Q F (behind_bracket room inner ps p s x o n)) (sym e)
      (good (one_arg room c above some ps p s ts ws j open_bare open_named t x.depth m n a.spells a.fits a.sized a.shallow (record { spot = y; is = h }))))
      (λ r g. g)

  -- an expression: the length of an array, or a type too
  close_expr : (x : Read Tree) (m : List Word) → only_type x.tree ≡ None → AsExpr c x ws m → ((y : Spot) (r : List Word) → m ≡ mark RBracket y ∷ r → Holds Q F (add_argument room inner ps p (as_type x.tree) x.depth r)) → Holds Q F (close_bracket room inner ps p s x m)
  close_expr x m e a no_type = bind (expect_holds {Q = λ y n. m ≡ mark RBracket y ∷ n} {F = F} RBracket m (λ y n h. h)
      (λ _. array_fault room c above some ps p s ts ws j open_bare open_named m (behind_none (frame_as_expr c x ws m a) (short_then (short_mark RBracket) (short_fits c some)))))
      (λ y n h. subst (λ (o : Option TypeTree). Holds Q F (behind_bracket room inner ps p s x o n)) (sym e)
      (bind (maybe_type_sound n) (λ o r g. each y n h o r g)
      (λ r st. array_fault room c above some ps p s ts ws j open_bare open_named r (behind (frame_as_expr c x ws m a) (behind (frame_mark RBracket m n (record { spot = y; is = h })) (begun_stops (short_fits c some) st))))))
      (λ r g. g)
    where
      each : (y : Spot) (n : List Word) → m ≡ mark RBracket y ∷ n → (o : Option (Read TypeTree)) (r : List Word) → MaybeOk plain_type c n o r → Holds Q F (add_array room inner ps p s x o r)
      each y n h None r same = no_type y r (h ∙ ap (λ (v : List Word). mark RBracket y ∷ v) same)
      each y n h (Some t) r g = good (array_added room c above some ps p s ts ws j open_bare open_named x t m n r a (record { spot = y; is = h }) g)

  no_length : (x : Read Tree) (m : List Word) → as_type x.tree ≡ None → AsExpr c x ws m → (y : Spot) (r : List Word) → m ≡ mark RBracket y ∷ r → Holds Q F (add_argument room inner ps p (as_type x.tree) x.depth r)
  no_length x m e a y r h = subst (λ (o : Option TypeTree). Holds Q F (add_argument room inner ps p o x.depth r)) (sym e)
      (bad (array_fault room c above some ps p s ts ws j open_bare open_named r (behind (frame_as_expr c x ws m a) (behind_none (frame_mark RBracket m r (record { spot = y; is = h })) (short_fits c some)))))

  argument_alone : (x : Read Tree) (t : TypeTree) (m : List Word) → as_type x.tree ≡ Some t → AsType c x t ws m → (y : Spot) (r : List Word) → m ≡ mark RBracket y ∷ r → Holds Q F (add_argument room inner ps p (as_type x.tree) x.depth r)
  argument_alone x t m e a y r h = subst (λ (o : Option TypeTree). Holds Q F (add_argument room inner ps p o x.depth r)) (sym e)
      (good (one_arg room c above some ps p s ts ws j open_bare open_named t x.depth m r a.spells a.fits a.sized a.shallow (record { spot = y; is = h })))

  -- a type, with others behind a comma or without
  with_comma : (x : Read Tree) (t : TypeTree) (m : List Word) → as_type x.tree ≡ Some t → AsType c x t ws m → Holds Q F (close_bracket room inner ps p s x m) → Holds Q F (behind_cover room inner ps p s x (as_type x.tree) m)
  with_comma x t m e a close = subst (λ (o : Option TypeTree). Holds Q F (behind_cover room inner ps p s x o m)) (sym e)
      (mark_holds Comma _ (close_bracket room inner ps p s x) m
      (λ y n h. bind (types_behind_holds Comma RBracket plain_type c SomeTypes ws (a_lower_type room inner) type_is type_sound (only t x.depth) y m n (first_arg c ws t x.depth m a.spells a.fits a.sized a.shallow) h)
      (λ us r g. good (args_added room c above some ps p s ts ws j open_bare open_named us r g))
      (λ r g. args_fault room c above some ps p s ts ws j open_bare open_named r g))
      (λ _. close))

  cover : (x : Read Tree) (m : List Word) → CoverCase c x ws m → Holds Q F (behind_cover room inner ps p s x (as_type x.tree) m)
  cover x m (expr_only e only_e a) = subst (λ (o : Option TypeTree). Holds Q F (behind_cover room inner ps p s x o m)) (sym e) (close_expr x m only_e a (no_length x m e a))
  cover x m (expr_too t e only_e a b) = with_comma x t m e b (close_expr x m only_e a (argument_alone x t m e b))
  cover x m (type_only t e only_e b) = with_comma x t m e b (close_type x t m only_e b)

  cover_fault : (r : List Word) → Begun (ExprFits c) ws r ⊎ Begun (TypeFits plain_type c) ws r → F r
  cover_fault r (inl g) = array_fault room c above some ps p s ts ws j open_bare open_named r (before g (short_then (short_mark RBracket) (short_fits c some)))
  cover_fault r (inr g) = args_fault room c above some ps p s ts ws j open_bare open_named r
      (begun_as (before g (short_mark RBracket)) (λ us rs h. let t = h.1 in record { all = t.tree ∷ []; spells = (h.0, t.spells, inl h.2); ok = good_one t.tree plain_type c t.fits t.shallow }))

  pub bracketed_holds : Holds Q F (bracketed room inner ps p s ws)
  unfolding bracketed
  bracketed_holds = mark_holds RBracket _ _ ws
      (λ y n h. bind (type_sound n) (λ t m r. good (slice_added room c above some ps p s ts ws j open_bare open_named t n m (record { spot = y; is = h }) r))
      (λ r st. slice_fault room c above some ps p s ts ws j open_bare open_named n r (record { spot = y; is = h }) st))
      (λ _. bind (lower.expr site.Argument 1 ws (omega arith)) (λ x m r. cover x m (cover_case low c x ws m low_le r)) (λ r st. cover_fault r (cover_stops low c ws r low_le some st)))
