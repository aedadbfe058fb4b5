-- An operand with all that follows it.
use Rattle.std.proofs.Common.{◌≡◌, inl, ℕ, zero, suc, ◌≤◌, Bool, true, false, List, Option, Some, None, refl, ◌∙◌, arith}
use Rattle.std.specs.Prelude.{◌&&◌, not, nat_le}
use Rattle.std.proofs.lemmas.Bool.{leb-true}
use Rattle.ui_scan.specs.declared.kind.TokenKind.TheVariants.{LParen, LBracket, LBrace, Period}
use Rattle.ui_tree.specs.Tree.{TypeTree, Tree}
use Rattle.ui_grammar.specs.Word.{Word}
use Rattle.ui_grammar.specs.Fits.{plain, is_header, is_named, Fits}
use Rattle.ui_parse.specs.Reader.{Outcome, Reader, and_then, pure}
use Rattle.ui_parse.proofs.Outcomes.{Holds, good, bind, choose, mark_holds}
use Rattle.ui_parse.proofs.Steady.{Steady}
use Rattle.ui_syntax.specs.declared.site.Site.{Site}
use Rattle.ui_syntax.specs.declared.site.Site.TheVariants.{Header, Plain, Wrapped, Argument}
use Rattle.ui_syntax.specs.declared.site.TypeSite.{TypeSite}
use Rattle.ui_syntax.specs.Cover.{Read, only_type, as_type, if_named}
use Rattle.ui_syntax.specs.Types.{Nested, of_type, a_type, maybe_type}
use Rattle.ui_syntax.specs.Exprs.{Arguments, is_some, literal_of, selected, indexed, called, literal_or, one_suffix, suffixes, primary}
use Rattle.ui_syntax.specs.Exprs as exprs
use Rattle.ui_syntax.proofs.ByBudget.{Stops, TypeForm, IsMaybeRead, ExprForm, CoverForm, ElemsForm, AreElemsRead, IsSoundAt}
use Rattle.ui_syntax.specs.Read.{place_at}
use Rattle.ui_syntax.proofs.Begun.{stops_as}
use Rattle.ui_syntax.proofs.Covers.{named_tree_is}
use Rattle.ui_syntax.proofs.SoundExprsForms.{IsCoverRead, IsWhole, cover_is, whole_cover, depth_at}
use Rattle.ui_syntax.proofs.SoundExprsOperands.{literal_sound}
use Rattle.ui_syntax.proofs.SoundExprsEnclosed.{operand_sound}
use Rattle.ui_syntax.proofs.SoundExprsIndexed.{is_operand, selected_sound}
use Rattle.ui_syntax.proofs.SoundExprsInstances.{indexed_sound}
use Rattle.ui_syntax.proofs.SoundExprsCalled.{called_sound}

-- a tree goes on if it is no type alone and there is room
pub goes_on : (o : Option TypeTree) (k room : ℕ) → (not (is_some o) && nat_le k room) ≡ true → (o ≡ None) × (k ≤ room)
goes_on None k room e = (refl, leb-true _ _ e)
goes_on (Some t) k room e = absurd cc

and_false : (b : Bool) → (b && false) ≡ false
and_false true = refl
and_false false = refl

no_header : (site : Site) (t : TypeTree) → exprs.is_header site ≡ false → (is_named t && is_header (place_at site)) ≡ false
no_header Header t e = absurd cc
no_header Plain t e = and_false (is_named t)
no_header Wrapped t e = and_false (is_named t)
no_header Argument t e = and_false (is_named t)

plain_fits : (site : Site) (e : Tree) → exprs.is_header site ≡ false → Fits e (place_at site) → Fits e plain
plain_fits Header e off f = absurd cc
plain_fits Plain e off f = f
plain_fits Wrapped e off f = f
plain_fits Argument e off f = f

module _ (room : ℕ) (inner : Nested) (own : IsSoundAt room inner.level inner.maybe_type)
    (own_braces : (ts : List Word) → Holds (AreElemsRead room ts) (Stops (ElemsForm room) ts) (inner.braces ts))
    (type_sound : (p : TypeSite) (ts : List Word) → Holds (IsMaybeRead p (suc room) ts) (Stops (TypeForm p (suc room)) ts) (maybe_type room inner p ts))
    (type_steady : Steady (a_type room inner)) (argument_steady : (l : Arguments) → Steady (exprs.argument room inner l)) (site : Site) (ts : List Word) where
  abbrev Reads : Read Tree → List Word → Type 0
  Reads = IsCoverRead site (suc room) 7 ts

  abbrev Faults : List Word → Type 0
  Faults = Stops (CoverForm site (suc room) 7) ts

  -- a suffix, and those behind it
  then_again : (o : Outcome (Read Tree)) (again : Read Tree → Reader (Read Tree)) → Holds (IsWhole site (suc room) 7 ts) (Stops (ExprForm site (suc room) 7) ts) o
      → ((x : Read Tree) (r : List Word) → Reads x r → Holds Reads Faults (again x r)) → Holds Reads Faults (and_then o again)
  then_again o again h on = bind h (λ x r w. on x r (whole_cover site (suc room) 7 ts x r w)) (λ r g. stops_as g (λ us ws q. inl q))

  literal_or_sound : (again : Read Tree → Reader (Read Tree)) (f : Read Tree) (m : List Word) → IsWhole site (suc room) 7 ts f m → f.depth ≤ room → ((x : Read Tree) (r : List Word) → Reads x r → Holds Reads Faults (again x r))
      → (o : Option TypeTree) → if_named (as_type f.tree) ≡ o → Holds Reads Faults (literal_or room inner again site f o m)
  literal_or_sound again f m w le on None e = good (whole_cover site (suc room) 7 ts f m w)
  literal_or_sound again f m w le on (Some t) e = choose (exprs.is_header site) (pure f) _ m
      (λ _. good (whole_cover site (suc room) 7 ts f m w))
      (λ off. mark_holds LBrace _ (pure f) m
      (λ s rest at. let h = named_tree_is f.tree t ts m e w.spells (plain_fits site f.tree off w.fits.fits) in
      bind (literal_sound room inner own own_braces site ts m rest (of_type t f.spot f.depth) s at w.begins h.spells h.literal (no_header site t off) (h.sized ∙ w.sized) le
      (omega (arith, w.sized, depth_at site f.tree w.fits.fits)))
      on (λ r g. g))
      (λ _. good (whole_cover site (suc room) 7 ts f m w)))

  one_suffix_sound : (again : Read Tree → Reader (Read Tree)) (f : Read Tree) (m : List Word) → IsWhole site (suc room) 7 ts f m → f.depth ≤ room → ((x : Read Tree) (r : List Word) → Reads x r → Holds Reads Faults (again x r))
      → Holds Reads Faults (one_suffix room inner again site f m)
  one_suffix_sound again f m w le on =
      let is = is_operand room inner own site ts f m w le in
      mark_holds Period _ _ m (λ s rest e. then_again (selected room inner f rest) again (selected_sound room inner own site ts f m is rest s e) on)
      (λ _. mark_holds LBracket _ _ m (λ s rest e. then_again (indexed room inner f rest) again (indexed_sound room inner own type_steady site ts f m is rest s e) on)
      (λ _. mark_holds LParen _ _ m (λ s rest e. then_again (called room inner f rest) again (called_sound room inner own argument_steady site ts f m is rest s e) on)
      (λ _. literal_or_sound again f m w le on (if_named (as_type f.tree)) refl)))

  suffixes_sound : (n : ℕ) (f : Read Tree) (m : List Word) → Reads f m → Holds Reads Faults (suffixes room inner site n f m)
  unfolding suffixes
  suffixes_sound zero f m h = good h
  suffixes_sound (suc n) f m h = choose (not (is_some (only_type f.tree)) && nat_le f.depth room) _ (pure f) m
      (λ e. let g = goes_on (only_type f.tree) f.depth room e in
      one_suffix_sound (suffixes room inner site n) f m (cover_is site (suc room) 7 ts f m None g.0 h) g.1 (λ x r k. suffixes_sound n x r k))
      (λ _. good h)

  pub primary_sound : Holds Reads Faults (primary room inner site ts)
  unfolding primary
  primary_sound = bind (operand_sound room inner own own_braces type_sound site ts) (λ f m h. suffixes_sound (suc (suc room)) f m h) (λ r g. g)
