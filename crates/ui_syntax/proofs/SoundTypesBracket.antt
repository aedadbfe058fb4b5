-- Behind a first name of parameters and a bracket: the arguments of a type, or the length of an array.
use Rattle.std.proofs.Common.{◌≡◌, ◌⊎◌, inl, inr, ℕ, suc, max, ◌≤◌, false, List, ◌∷◌, Option, Some, None, refl, ap, subst, ◌∙◌, arith}
use Rattle.ui_base.specs.declared.value.Spot.{Spot}
use Rattle.ui_scan.specs.declared.kind.TokenKind.TheVariants.{LBracket, RBracket, Comma}
use Rattle.ui_tree.specs.declared.part.Placed.{Placed}
use Rattle.ui_tree.specs.Tree.{TypeTree, slice, array, Tree, type_arg}
use Rattle.ui_grammar.specs.Word.{Word, ident, mark, Mark}
use Rattle.ui_grammar.specs.Spells.{SpellsType, Spells}
use Rattle.ui_grammar.specs.Fits.{plain, plain_type, depth, type_depth, Fits, FitsType}
use Rattle.ui_grammar.proofs.Frames.{Framed, Then, framed_as, frame_mark, frame_type, frame}
use Rattle.ui_syntax.specs.declared.site.Site.TheVariants as site
use Rattle.ui_syntax.specs.Cover.{Read, only_type, as_type}
use Rattle.ui_syntax.specs.Types.{Listed, Params, only, of_type, is_named, add_type, add_named, named_with}
use Rattle.ui_syntax.proofs.ByBudget.{Begun, Stops, CoverForm, FitsExpr, FitsAlone, FitsCover, cover_depth, IsExprRead}
use Rattle.ui_syntax.proofs.Begun.{Short, short_as, short_expr, begun_as, begun_stops, begun_either, behind, frame_word}
use Rattle.ui_syntax.proofs.Covers.{type_of_tree}
use Rattle.ui_syntax.proofs.SoundTypesLists.{TypeFits, TypeOk, ok_only, TypesRead, TypesFault}
use Rattle.ui_syntax.proofs.SoundTypesNamed.{SomeTypes, short_fits, named_read, named_begun}
use Rattle.ui_syntax.proofs.SoundTypesParams.{is_bare, Before, After, type_added, named_added}
use Rattle.ui_syntax.proofs.SoundTypesParamEnds.{ParamsFault, bare_fault, named_fault}

-- ---- what was read between the brackets

pub only_is : (e : Tree) (t : TypeTree) → only_type e ≡ Some t → e ≡ type_arg t
only_is (type_arg u) t e = cc
only_is _ t e = absurd cc

pub record AsExpr (b : ℕ) (x : Read Tree) (ts rest : List Word) : Type 0 where
  pub spells : Spells x.tree ts rest
  pub fits : Fits x.tree plain
  pub sized : depth x.tree ≡ x.depth
  pub shallow : x.depth ≤ b

pub record AsType (b : ℕ) (x : Read Tree) (t : TypeTree) (ts rest : List Word) : Type 0 where
  pub spells : SpellsType t ts rest
  pub fits : FitsType t plain_type
  pub sized : type_depth t ≡ x.depth
  pub shallow : x.depth ≤ b

pub data CoverCase (b : ℕ) (x : Read Tree) (ts rest : List Word) : Type 0 where
  expr_only : as_type x.tree ≡ None → only_type x.tree ≡ None → AsExpr b x ts rest → CoverCase b x ts rest
  expr_too : (t : TypeTree) → as_type x.tree ≡ Some t → only_type x.tree ≡ None → AsExpr b x ts rest → AsType b x t ts rest → CoverCase b x ts rest
  type_only : (t : TypeTree) → as_type x.tree ≡ Some t → only_type x.tree ≡ Some t → AsType b x t ts rest → CoverCase b x ts rest

pub cover_case : (low b : ℕ) (x : Read Tree) (ts rest : List Word) → low ≤ b → IsExprRead site.Argument low 1 ts x rest → CoverCase b x ts rest
cover_case low b x ts rest le r = by_only (only_type x.tree) refl
  where
    by_as : (o : Option TypeTree) → as_type x.tree ≡ o → only_type x.tree ≡ None → AsExpr b x ts rest → CoverCase b x ts rest
    by_as None e h a = expr_only e h a
    by_as (Some t) e h a = let k = type_of_tree x.tree t ts rest e a.spells a.fits in expr_too t e h a (record { spells = k.0; fits = k.1; sized = k.3 ∙ a.sized; shallow = a.shallow })

    by_only : (o : Option TypeTree) → only_type x.tree ≡ o → CoverCase b x ts rest
    by_only None e =
        let f : FitsExpr site.Argument low 1 x.tree = subst (λ (o : Option TypeTree). FitsCover site.Argument low 1 x.tree o) e r.fits in
        let k : depth x.tree ≡ x.depth = subst (λ (o : Option TypeTree). cover_depth x.tree o ≡ x.depth) e r.sized in
        by_as (as_type x.tree) refl e (record { spells = r.spells; fits = f.fits; sized = k; shallow = omega (arith, le, f.shallow, k) })
    by_only (Some t) e =
        let f : FitsAlone site.Argument low t = subst (λ (o : Option TypeTree). FitsCover site.Argument low 1 x.tree o) e r.fits in
        let k : type_depth t ≡ x.depth = subst (λ (o : Option TypeTree). cover_depth x.tree o ≡ x.depth) e r.sized in
        let is = only_is x.tree t e in
        type_only t (ap as_type is) e (record { spells = subst (λ (v : Tree). Spells v ts rest) is r.spells; fits = f.fits; sized = k; shallow = omega (arith, le, f.room, k) })

-- ---- the forms

pub record ExprFits (b : ℕ) (ts rest : List Word) : Type 0 where
  pub tree : Tree
  pub spells : Spells tree ts rest
  pub fits : Fits tree plain
  pub shallow : depth tree ≤ b

frame_fits : (b : ℕ) (us ws : List Word) → ExprFits b us ws → Framed (ExprFits b) us ws
frame_fits b us ws h = framed_as (frame h.tree us ws h.spells) (λ vs k s. record { tree = h.tree; spells = s; fits = h.fits; shallow = h.shallow })

pub frame_as_expr : (b : ℕ) (x : Read Tree) (ts m : List Word) → AsExpr b x ts m → Framed (ExprFits b) ts m
frame_as_expr b x ts m a = framed_as (frame x.tree ts m a.spells) (λ us ws h. record { tree = x.tree; spells = h; fits = a.fits; shallow = omega (arith, a.sized, a.shallow) })

frame_type_fits : (b : ℕ) (us ws : List Word) → TypeFits plain_type b us ws → Framed (TypeFits plain_type b) us ws
frame_type_fits b us ws h = framed_as (frame_type h.tree us ws h.spells) (λ vs k s. record { tree = h.tree; spells = s; fits = h.fits; shallow = h.shallow })

pub short_expr_fits : (b : ℕ) → 1 ≤ b → Short (ExprFits b)
short_expr_fits b le = short_as (short_expr site.Plain b 1 le (omega arith)) (λ us ws h. record { tree = h.tree; spells = h.spells; fits = h.fits.fits; shallow = h.fits.shallow })

-- an expression, or a type
pub cover_stops : (low b : ℕ) (ts rest : List Word) → low ≤ b → 1 ≤ b → Stops (CoverForm site.Argument low 1) ts rest → Begun (ExprFits b) ts rest ⊎ Begun (TypeFits plain_type b) ts rest
cover_stops low b ts rest le le2 (inl e) = inl (begun_stops (short_expr_fits b le2) (inl e))
cover_stops low b ts rest le le2 (inr g) = begun_either (frame_fits b) (frame_type_fits b) (begun_as g each)
  where
    each : (us ws : List Word) → CoverForm site.Argument low 1 us ws → ExprFits b us ws ⊎ TypeFits plain_type b us ws
    each us ws (inl h) = inl (record { tree = h.tree; spells = h.spells; fits = h.fits.fits; shallow = omega (arith, h.fits.shallow) })
    each us ws (inr h) = inr (record { tree = h.tree; spells = h.spells; fits = h.fits.fits; shallow = omega (arith, h.fits.room) })

module _ (room c : ℕ) (above : suc c ≤ room) (some : 1 ≤ c) (ps : Params) (p : Placed) (s : Spot) (ts ws : List Word) (j : Before room ps ts (ident p ∷ (mark LBracket s ∷ ws))) (open_bare : is_named ps.style ≡ false) (open_named : is_bare ps.style ≡ false) where
  -- ---- a type's arguments

  pub args_added : (us : Listed TypeTree) (rest : List Word) → TypesRead Comma RBracket plain_type c SomeTypes ws us rest → After room (add_type ps (named_with p None us)) ts rest
  args_added us rest r =
      let h = named_read c room p None (ident p ∷ (mark LBracket s ∷ ws)) (mark LBracket s ∷ ws) ws rest us (mark LBracket s ∷ ws, refl, refl) (record { spot = s; is = refl }) r (omega (arith, above, some)) above in
      type_added room ps (named_with p None us) ts (ident p ∷ (mark LBracket s ∷ ws)) rest j (omega (arith, above)) open_bare h.spells h.fits.0 h.sized (omega (arith, h.fits.1, h.sized))

  pub args_fault : (rest : List Word) → TypesFault Comma RBracket plain_type c SomeTypes ws rest → ParamsFault room ts rest
  args_fault rest g = bare_fault room ps ts (ident p ∷ (mark LBracket s ∷ ws)) rest j (omega (arith, above)) open_bare
      (begun_as (named_begun c room p None (ident p ∷ (mark LBracket s ∷ ws)) (mark LBracket s ∷ ws) ws rest (mark LBracket s ∷ ws, refl, refl) (record { spot = s; is = refl }) g (omega (arith, above, some)) above)
      (λ us rs h. record { tree = h.tree; spells = h.spells; fits = h.fits.0; shallow = h.fits.1 }))

  pub one_arg : (t : TypeTree) (k : ℕ) (m rest : List Word) → SpellsType t ws m → FitsType t plain_type → type_depth t ≡ k → k ≤ c → Mark RBracket m rest → After room (add_type ps (named_with p None (only t k))) ts rest
  one_arg t k m rest spells fits sized shallow close = args_added (only t k) rest (record { spells = (m, spells, inl close); ok = ok_only plain_type c t k fits sized shallow })

  -- ---- an array

  pub array_fault : (rest : List Word) → Begun (Then (ExprFits c) (Then (Mark RBracket) (TypeFits plain_type c))) ws rest → ParamsFault room ts rest
  array_fault rest g = named_fault room ps p ts (mark LBracket s ∷ ws) rest j open_named
      (begun_as (behind (frame_word (mark LBracket s) ws) g)
      (λ us rs h. let e = h.2.1 in let t = h.2.2.2 in record { tree = array s e.tree t.tree; spells = (h.0, h.2.0, h.2.2.0, h.1, e.spells, h.2.2.1, t.spells); fits = (refl, e.fits, t.fits); shallow = omega (arith, above, e.shallow, t.shallow) }))

  pub array_added : (x : Read Tree) (t : Read TypeTree) (m n rest : List Word) → AsExpr c x ws m → Mark RBracket m n → TypeOk plain_type c n t rest → After room (add_named ps p (of_type (array s x.tree t.tree) s (suc (max x.depth t.depth)))) ts rest
  array_added x t m n rest a close r = named_added room ps p (of_type (array s x.tree t.tree) s (suc (max x.depth t.depth))) ts (ident p ∷ (mark LBracket s ∷ ws)) (mark LBracket s ∷ ws) rest j (omega (arith, above)) open_named refl
      (ws, m, n, refl, a.spells, close, r.spells) (refl, a.fits, r.fits) (omega (arith, a.sized, r.sized)) (omega (arith, above, a.shallow, r.shallow))

  pub slice_added : (t : Read TypeTree) (n rest : List Word) → Mark RBracket ws n → TypeOk plain_type c n t rest → After room (add_named ps p (of_type (slice s t.tree) s (suc t.depth))) ts rest
  slice_added t n rest close r = named_added room ps p (of_type (slice s t.tree) s (suc t.depth)) ts (ident p ∷ (mark LBracket s ∷ ws)) (mark LBracket s ∷ ws) rest j (omega (arith, above)) open_named refl
      (ws, n, refl, close, r.spells) (refl, r.fits) (ap suc r.sized) (omega (arith, above, r.shallow))

  pub slice_fault : (n rest : List Word) → Mark RBracket ws n → Stops (TypeFits plain_type c) n rest → ParamsFault room ts rest
  slice_fault n rest close st = named_fault room ps p ts (mark LBracket s ∷ ws) rest j open_named
      (begun_as (behind (frame_word (mark LBracket s) ws) (behind (frame_mark RBracket ws n close) (begun_stops (short_fits c some) st)))
      (λ us rs h. let t = h.2.2 in record { tree = slice s t.tree; spells = (h.0, h.2.0, h.1, h.2.1, t.spells); fits = (refl, t.fits); shallow = omega (arith, above, t.shallow) }))
