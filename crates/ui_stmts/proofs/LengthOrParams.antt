-- Behind a declared type's name and a bracket: neither reading goes past the bracket that the other one closes, given that no
-- text is both.
use Rattle.std.proofs.Common.{◌≡◌, inl, inr, ℕ, suc, max, ◌<◌, ◌≤◌, Bool, true, false, List, [], ◌∷◌, ◌++◌, length, Option, Some, None, Ok, Err, refl, sym, ap, subst, ◌∙◌, append_assoc, arith}
use Rattle.std.specs.Prelude.{nat_le}
use Rattle.std.proofs.lemmas.Bool.{leb-true, leb-false}
use Rattle.std.proofs.lemmas.List.{length-append}
use Rattle.ui_base.specs.declared.value.Spot.{Spot}
use Rattle.ui_scan.specs.declared.kind.TokenKind.TheVariants.{RBracket}
use Rattle.ui_tree.specs.declared.part.Placed.{Placed}
use Rattle.ui_tree.specs.Tree.{TypeTree, array, Tree, Groups, groups_end, group_and}
use Rattle.ui_tree.specs.Stmt.{TypeGroup}
use Rattle.ui_tree.specs.View.{groups, kept}
use Rattle.ui_grammar.specs.Word.{Word, mark, Mark}
use Rattle.ui_grammar.specs.Both.{is_length}
use Rattle.ui_grammar.specs.Spells.{Spells}
use Rattle.ui_grammar.specs.Fits.{plain, Fits, depth, groups_depth}
use Rattle.ui_grammar.specs.Declaration.{SpellsTypeParams, FitsTypeParams}
use Rattle.ui_grammar.proofs.Frames.{frame}
use Rattle.ui_grammar.proofs.FramesDecl.{frame_type_params}
use Rattle.ui_parse.specs.Reader.{Outcome, Reader, ◌>>=◌, and_then, pure, refuse, first, marked, expect, rest_of}
use Rattle.ui_parse.proofs.Outcomes.{HoldsBy, take_other, marked_is}
use Rattle.ui_syntax.specs.declared.site.TypeSite.TheVariants as at
use Rattle.ui_syntax.specs.Cover.{Read}
use Rattle.ui_syntax.specs.Types.{bracket_type, counted_or_array, a_type, of_type}
use Rattle.ui_syntax.specs.Read.{readers, place_of, expr, type}
use Rattle.ui_syntax.proofs.ByBudget.{Begun, Stops, ExprForm}
use Rattle.ui_syntax.proofs.SoundExprsForms.{IsWhole}
use Rattle.ui_syntax.proofs.Sound.{expr_sound}
use Rattle.ui_stmts.specs.Common.{Sized, sized}
use Rattle.ui_stmts.specs.Decls.{type_group, TypeParams, bracketed_group, generic_group, type_params_apart}
use Rattle.ui_stmts.proofs.SoundTypeLists.{TypeParamsForm, TypeParamsRead, type_params_apart_hold}
use Rattle.ui_stmts.proofs.CompleteTypeSpecs.{StaysInside}
use Rattle.ui_stmts.proofs.BracketWords.{cut}
use Rattle.ui_stmts.proofs.LengthInside.{inside_params}

-- No text begins both with a length and its bracket and with parameters and theirs.
abbrev pub NoBoth : Type 0
NoBoth = (e : Tree) (gs : Groups) (ts m c d : List Word) → Spells e ts m → Mark RBracket m c → Fits e plain → SpellsTypeParams (is_length gs) gs ts d → FitsTypeParams gs → ⊥

by_length : (c r : List Word) → (length r < length c → ⊥) → length c ≤ length r
by_length c r not_less = by_test (nat_le (length c) (length r)) refl
  where
    by_test : (b : Bool) → nat_le (length c) (length r) ≡ b → length c ≤ length r
    by_test true e = leb-true _ _ e
    by_test false e = absurd (not_less (leb-false _ _ e))

module _ (room : ℕ) where
  -- what the readers do behind the parameters, behind the type in brackets, and behind a length
  abbrev behind_params : Placed → TypeParams → Reader (Sized TypeGroup)
  behind_params p ps = type (suc room) >>= (λ t. pure (sized (type_group room p (groups kept ps.groups) false t.tree) (max ps.depth t.depth)))

  abbrev behind_bracket : Placed → Read TypeTree → Reader (Sized TypeGroup)
  behind_bracket p t = pure (sized (type_group room p groups_end false t.tree) t.depth)

  abbrev behind_length : Spot → Read Tree → Reader (Read TypeTree)
  behind_length s e = expect RBracket >>= (λ _. a_type room (readers room) >>= (λ t. pure (of_type (array s e.tree t.tree) s (suc (max e.depth t.depth)))))

module _ (room : ℕ) (no_both : NoBoth) where
  -- ---- parameters where a length stands

  length_fault : (e : Tree) (ts m c r : List Word) → Spells e ts m → Mark RBracket m c → Fits e plain → Begun (TypeParamsForm room true) ts r → length r < length c → ⊥
  length_fault e ts m c r s k f g lt =
      let fe = frame e ts m s in
      let bracket = mark RBracket k.spot in
      let whole : ts ≡ (fe.front ++ (bracket ∷ [])) ++ c = fe.parts ∙ ap (λ (v : List Word). fe.front ++ v) k.is ∙ sym (append_assoc fe.front (bracket ∷ []) c) in
      let d = cut (fe.front ++ (bracket ∷ [])) g.front c r (sym whole ∙ g.parts) (omega (arith, lt)) in
      let form = g.spells [] in
      let behind = d.0 ++ (g.more ++ []) in
      let text : g.front ++ (g.more ++ []) ≡ fe.front ++ (bracket ∷ behind) =
      ap (λ (v : List Word). v ++ (g.more ++ [])) d.1 ∙ append_assoc (fe.front ++ (bracket ∷ [])) d.0 (g.more ++ []) ∙ append_assoc fe.front (bracket ∷ []) behind in
      no_both e (groups kept form.all) (g.front ++ (g.more ++ [])) (bracket ∷ behind) behind [] (subst (λ (v : List Word). Spells e v (bracket ∷ behind)) (sym text) (fe.again (bracket ∷ behind))) (record { spot = k.spot; is = refl }) f form.spells (form.good.named, form.good.fits)

  past_length : (p : Placed) (e : Tree) (ts m c : List Word) → Spells e ts m → Mark RBracket m c → Fits e plain → depth e ≤ room → length c ≤ length (rest_of (generic_group room p ts))
  past_length p e ts m c s k f le = by_outcome (type_params_apart room ts) (type_params_apart_hold room ts).holds
    where
      by_outcome : (o : Outcome TypeParams) → HoldsBy (TypeParamsRead room true ts) (Begun (TypeParamsForm room true) ts) o → length c ≤ length (rest_of (and_then o (behind_params room p)))
      by_outcome (Ok q) h = absurd (no_both e (groups kept q.0.groups) ts m c q.1 s k f h.spells (h.good.named, h.good.fits))
      by_outcome (Err r) g = by_length c r (λ lt. length_fault e ts m c r s k f g lt)

  -- ---- a length where parameters stand

  params_fault : (gs : Groups) (ts c r : List Word) → SpellsTypeParams (is_length gs) gs ts c → Begun (ExprForm (place_of false) room 1) ts r → length r < length c → ⊥
  params_fault gs ts c r h g lt =
      let fp = frame_type_params (is_length gs) gs ts c h in
      let d = cut fp.front g.front c r (sym fp.parts ∙ g.parts) (omega (arith, lt)) in
      let form = g.spells [] in
      let behind = d.0 ++ (g.more ++ []) in
      let text : g.front ++ (g.more ++ []) ≡ fp.front ++ behind = ap (λ (v : List Word). v ++ (g.more ++ [])) d.1 ∙ append_assoc fp.front d.0 (g.more ++ []) in
      omega (arith, inside_params form.tree gs (g.front ++ (g.more ++ [])) [] behind form.spells (subst (λ (v : List Word). SpellsTypeParams (is_length gs) gs v behind) (sym text) (fp.again behind)))

  no_close : (gs : Groups) (ts c : List Word) → SpellsTypeParams (is_length gs) gs ts c → FitsTypeParams gs → first (marked RBracket) ts ≡ None
  no_close groups_end ts c h g = absurd h
  no_close (group_and [] t gs) ts c h g = let e = g.0 in absurd cc
  no_close (group_and (p ∷ ns) t gs) ts c h g = by_length_of (is_length (group_and (p ∷ ns) t gs)) h
    where
      by_length_of : (b : Bool) → SpellsTypeParams b (group_and (p ∷ ns) t gs) ts c → first (marked RBracket) ts ≡ None
      by_length_of true s = ap (first (marked RBracket)) s.3.1
      by_length_of false s = ap (first (marked RBracket)) s.2.1

  stops_there : (m : List Word) → first (marked RBracket) m ≡ None → expect RBracket m ≡ Err m
  unfolding expect
  stops_there m e = take_other (marked RBracket) pure refuse m e

  past_params : (p : Placed) (s : Spot) (gs : Groups) (ts c : List Word) → SpellsTypeParams (is_length gs) gs ts c → FitsTypeParams gs → groups_depth gs ≤ suc room → length c ≤ length (rest_of (bracketed_group room p s ts))
  unfolding bracket_type
  past_params p s gs ts c h g le = subst (λ (o : Outcome (Read TypeTree)). length c ≤ length (rest_of (and_then o (behind_bracket room p)))) (sym (take_other (marked RBracket) _ (counted_or_array room (readers room) at.Plain s) ts (no_close gs ts c h g)))
      (by_outcome (expr room false ts) (expr_sound room false ts).holds)
    where
      at_end : (x : Read Tree) (m : List Word) → IsWhole (place_of false) room 1 ts x m → first (marked RBracket) m ≡ None
      at_end x [] q = refl
      at_end x (w ∷ ws) q = by_word (marked RBracket w) refl
        where
          by_word : (o : Option Spot) → marked RBracket w ≡ o → o ≡ None
          by_word None e = refl
          by_word (Some y) e = absurd (no_both x.tree gs ts (w ∷ ws) ws c q.spells (record { spot = y; is = ap (λ (v : Word). v ∷ ws) (marked_is RBracket w y e) }) q.fits.fits h g)

      by_outcome : (o : Outcome (Read Tree)) → HoldsBy (IsWhole (place_of false) room 1 ts) (Stops (ExprForm (place_of false) room 1) ts) o
          → length c ≤ length (rest_of (and_then (and_then o (behind_length room s)) (behind_bracket room p)))
      by_outcome (Ok q) is = rw (stops_there q.1 (at_end q.0 q.1 is)) (let lt = inside_params q.0.tree gs ts q.1 c is.spells h in omega (arith, lt))
      by_outcome (Err r) (inl e) = let fp = frame_type_params (is_length gs) gs ts c h in omega (arith, ap length e, ap length fp.parts, length-append fp.front c)
      by_outcome (Err r) (inr b) = by_length c r (λ lt. params_fault gs ts c r h b lt)

  pub stays_inside : StaysInside room
  stays_inside = record { past_length = past_length; past_params = past_params }
