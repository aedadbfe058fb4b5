-- The readers of each budget are sound; and what they read and where they stop, of all words at the top.
use Rattle.std.proofs.Common.{◌≡◌, inl, inr, ℕ, zero, suc, pred, ◌≤◌, Bool, true, false, List, [], ◌∷◌, ◌++◌, Ok, Err, refl, sym, subst, arith}
use Rattle.std.proofs.lemmas.List.{append-nil}
use Rattle.ui_base.specs.declared.value.Spot.{Spot}
use Rattle.ui_scan.specs.declared.kind.TokenKind.TheVariants.{LParen, RParen}
use Rattle.ui_tree.specs.declared.part.Group.{Group}
use Rattle.ui_tree.specs.Tree.{TypeTree, func, groups_end, MaybeType, no_type, Tree}
use Rattle.ui_tree.specs.View.{groups, kept}
use Rattle.ui_grammar.specs.Word.{Word, mark, Begins}
use Rattle.ui_grammar.specs.Fits.{plain_type, type_depth, FitsType}
use Rattle.ui_grammar.specs.Spells.{Spells, SpellsType}
use Rattle.ui_grammar.proofs.Frames.{Then, frame, frame_type, frame_signature}
use Rattle.ui_grammar.specs.Parse.{SpellsSignature, HasExpr, HasType, HasSig}
use Rattle.ui_parse.proofs.Outcomes.{Holds, good, bad, bind, mono, holds_at, expect_holds}
use Rattle.ui_parse.proofs.Longest.{FrontHas, FrontLive}
use Rattle.ui_syntax.specs.declared.site.TypeSite.TheVariants as at
use Rattle.ui_syntax.specs.Cover.{Read}
use Rattle.ui_syntax.specs.Types.{Nested, signature, func_of}
use Rattle.ui_syntax.specs.Exprs.{takes_types}
use Rattle.ui_syntax.specs.Read.{nothing, next, readers, place_of, expr, type, sig, place_at}
use Rattle.ui_syntax.proofs.ByBudget.{Stops, TypeForm, IsTypeRead, ExprForm, IsSoundAt, IsSound}
use Rattle.ui_syntax.proofs.Begun.{Short, Is, no_spot, short_expr, short_type, begun_as, begun_stops, behind, frame_word}
use Rattle.ui_syntax.proofs.SteadyTypes.{AreSteady, steady_a_type, steady_a_lower_type, steady_param}
use Rattle.ui_syntax.proofs.SteadyExprs.{steady_argument, steady_elem}
use Rattle.ui_syntax.proofs.Steady.{readers_steady}
use Rattle.ui_syntax.proofs.SoundTypes.{type_sound as types_sound}
use Rattle.ui_syntax.proofs.SoundTypesSig.{SigForm as Behind, SigRead, signature_holds}
use Rattle.ui_syntax.proofs.SoundExprsForms.{IsWhole}
use Rattle.ui_syntax.proofs.SoundExprsInner.{plain_read, type_read}
use Rattle.ui_syntax.proofs.SoundExprsLevels.{level_sound}
use Rattle.ui_syntax.proofs.SoundExprsBraces.{braces_sound}

nothing_at : (b : ℕ) → IsSoundAt b nothing.level nothing.maybe_type
nothing_at b = record { expr = λ s least ts le. bad (inl refl); type = λ p ts. good refl }

nothing_sound : IsSound 0 0 nothing
nothing_sound = record { own = nothing_at 0; braces = λ ts. bad (inl refl); lower = nothing_at 0 }

next_sound : (room low : ℕ) (inner : Nested) → (2 ≤ room → suc low ≤ room) → IsSound room low inner → AreSteady inner → IsSound (suc room) room (next room inner)
next_sound room low inner below is steady = record {
  own = record {
    expr = λ s least ts le. level_sound room inner is.own is.braces (types_sound room low inner below is.own is.lower steady) (steady_a_type room inner steady) (steady_argument room inner steady) s least ts le;
    type = types_sound room low inner below is.own is.lower steady;
  };
  braces = braces_sound room inner is.own is.braces (steady_elem room inner steady);
  lower = is.own;
}

pub below_next : (d : ℕ) → 2 ≤ d → suc (pred d) ≤ d
below_next zero le = absurd (omega arith)
below_next (suc d) le = omega arith

pub readers_sound : (d : ℕ) → IsSound d (pred d) (readers d)
unfolding readers
readers_sound zero = nothing_sound
readers_sound (suc d) = next_sound d (pred d) (readers d) (below_next d) (readers_sound d) (readers_steady d)

-- ---- at the top

site_takes : (header : Bool) → takes_types (place_of header) ≡ false
site_takes true = refl
site_takes false = refl

pub expr_sound : (budget : ℕ) (header : Bool) (ts : List Word) → Holds (IsWhole (place_of header) budget 1 ts) (Stops (ExprForm (place_of header) budget 1) ts) (expr budget header ts)
expr_sound budget header ts = mono (plain_read budget (readers budget) (readers_sound budget).own (place_of header) 1 ts (site_takes header) (omega arith)) (λ x r h. h.0) (λ r g. g)

pub type_sound : (budget : ℕ) (ts : List Word) → Holds (IsTypeRead at.Plain budget ts) (Stops (TypeForm at.Plain budget) ts) (type budget ts)
type_sound budget ts = type_read budget (readers budget) (readers_sound budget).own ts

pub expr_found : (budget : ℕ) (header : Bool) (ts : List Word) (x : Read Tree) (rest : List Word) → expr budget header ts ≡ Ok (x, rest)
    → FrontHas (HasExpr (place_at (place_of header)) budget) ts rest x.tree
expr_found budget header ts x rest e =
    let h = (holds_at (expr_sound budget header ts) e).holds in
    let f = frame x.tree ts rest h.spells in
    record { front = f.front; parts = f.parts; has = record { spells = subst (λ (v : List Word). Spells x.tree v []) (append-nil f.front) (f.again []); fits = h.fits.fits; shallow = h.fits.shallow } }

pub expr_fault : (budget : ℕ) (header : Bool) (ts rest : List Word) → 1 ≤ budget → expr budget header ts ≡ Err rest → FrontLive (HasExpr (place_at (place_of header)) budget) ts rest
expr_fault budget header ts rest le e =
    let g = begun_stops (short_expr (place_of header) budget 1 le (omega arith)) (holds_at (expr_sound budget header ts) e).holds in
    let h = g.spells [] in
    record { front = g.front; parts = g.parts; live = (g.more ++ [], h.tree, record { spells = h.spells; fits = h.fits.fits; shallow = h.fits.shallow }) }

pub type_found : (budget : ℕ) (ts : List Word) (x : Read TypeTree) (rest : List Word) → type budget ts ≡ Ok (x, rest) → FrontHas (HasType budget) ts rest x.tree
type_found budget ts x rest e =
    let h = (holds_at (type_sound budget ts) e).holds in
    let f = frame_type x.tree ts rest h.spells in
    record { front = f.front; parts = f.parts; has = record { spells = subst (λ (v : List Word). SpellsType x.tree v []) (append-nil f.front) (f.again []); fits = h.fits.0; shallow = h.fits.1 } }

pub type_fault : (budget : ℕ) (ts rest : List Word) → 1 ≤ budget → type budget ts ≡ Err rest → FrontLive (HasType budget) ts rest
type_fault budget ts rest le e =
    let g = begun_stops (short_type budget le) (holds_at (type_sound budget ts) e).holds in
    let h = g.spells [] in
    record { front = g.front; parts = g.parts; live = (g.more ++ [], h.tree, record { spells = h.spells; fits = h.fits.0; shallow = h.fits.1 }) }

-- ---- signatures

pub record SigForm (b : ℕ) (ts rest : List Word) : Type 0 where
  pub tree : TypeTree
  pub spells : SpellsSignature tree ts rest
  pub fits : FitsType tree plain_type
  pub shallow : type_depth tree ≤ b

pub record IsSigRead (b : ℕ) (ts : List Word) (x : Read TypeTree) (rest : List Word) : Type 0 where
  pub begins : Begins x.spot ts
  pub spells : SpellsSignature x.tree ts rest
  pub fits : FitsType x.tree plain_type
  pub sized : type_depth x.tree ≡ x.depth
  pub shallow : x.depth ≤ b

short_sig : (b : ℕ) → 1 ≤ b → Short (SigForm b)
short_sig b le = record {
  words = mark LParen no_spot ∷ (mark RParen no_spot ∷ []);
  spells = λ k. record { tree = func no_spot groups_end no_type; spells = (mark RParen no_spot ∷ k, k, refl, record { spot = no_spot; is = refl }, refl); fits = (refl, refl, tt, tt); shallow = le };
}

sig_form : (d : ℕ) (s : Spot) (us ws : List Word) → Then (Is (mark LParen s)) (Behind d) us ws → SigForm (suc d) us ws
sig_form d s us ws (a, e, (b, gs, r)) = record {
  tree = func s (groups kept gs.all) r.of;
  spells = (a, b, e, gs.spells, r.spells);
  fits = (refl, gs.ok.styled, gs.ok.fit.fits, r.fits);
  shallow = omega (arith, gs.ok.fit.shallow, r.shallow);
}

sig_read : (d : ℕ) (s : Spot) (ws : List Word) (gs : List (Group TypeTree)) (r : MaybeType) (k : ℕ) (rest : List Word) → SigRead d ws gs r k rest → IsSigRead (suc d) (mark LParen s ∷ ws) (func_of d (readers d) s gs r k) rest
sig_read d s ws gs r k rest h = record {
  begins = refl;
  spells = (ws, h.middle, refl, h.params, h.results);
  fits = (refl, h.styled, h.params_fit, h.results_fit);
  sized = h.sized;
  shallow = h.shallow;
}

pub sig_sound : (budget : ℕ) (ts : List Word) → Holds (IsSigRead budget ts) (Stops (SigForm budget) ts) (sig budget ts)
sig_sound zero ts = bad (inl refl)
sig_sound (suc d) ts = bind (expect_holds {Q = λ s r. ts ≡ mark LParen s ∷ r} {F = Stops (SigForm (suc d)) ts} LParen ts (λ s r e. e) (λ _. inl refl))
    (λ s r e. subst (λ (v : List Word). Holds (IsSigRead (suc d) v) (Stops (SigForm (suc d)) v) (signature d (readers d) (func_of d (readers d) s) r)) (sym e)
    (mono (signature_holds d (pred d) (readers d) (below_next d) (readers_sound d).own (readers_sound d).lower (steady_a_lower_type d (readers d) (readers_steady d)) (steady_param d (readers d) (readers_steady d)) (func_of d (readers d) s) r
    (λ gs x k rest h. sig_read d s r gs x k rest h))
    (λ x rest h. h) (λ rest g. inr (begun_as (behind (frame_word (mark LParen s) r) g) (sig_form d s)))))
    (λ r g. g)

pub sig_found : (budget : ℕ) (ts : List Word) (x : Read TypeTree) (rest : List Word) → sig budget ts ≡ Ok (x, rest) → FrontHas (HasSig budget) ts rest x.tree
sig_found budget ts x rest e =
    let h = (holds_at (sig_sound budget ts) e).holds in
    let f = frame_signature x.tree ts rest h.spells in
    record { front = f.front; parts = f.parts; has = record { spells = subst (λ (v : List Word). SpellsSignature x.tree v []) (append-nil f.front) (f.again []); fits = h.fits; shallow = omega (arith, h.sized, h.shallow) } }

pub sig_fault : (budget : ℕ) (ts rest : List Word) → 1 ≤ budget → sig budget ts ≡ Err rest → FrontLive (HasSig budget) ts rest
sig_fault budget ts rest le e =
    let g = begun_stops (short_sig budget le) (holds_at (sig_sound budget ts) e).holds in
    let h = g.spells [] in
    record { front = g.front; parts = g.parts; live = (g.more ++ [], h.tree, record { spells = h.spells; fits = h.fits; shallow = h.shallow }) }
