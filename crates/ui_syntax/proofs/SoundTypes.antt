-- What the readers of types and of signatures read is right, at each site, and a fault stands behind a front that goes on.
use Rattle.std.proofs.Common.{◌≡◌, inl, inr, ℕ, suc, ◌≤◌, true, false, List, ◌∷◌, Option, Some, None, refl, sym, subst, arith}
use Rattle.ui_base.specs.declared.value.Spot.{Spot}
use Rattle.ui_scan.specs.declared.kind.TokenKind.TheVariants.{LParen, Tilde}
use Rattle.ui_tree.specs.declared.part.Placed.{Placed}
use Rattle.ui_tree.specs.Tree.{TypeTree, MaybeType, func, method}
use Rattle.ui_tree.specs.declared.part.Group.{Group}
use Rattle.ui_tree.specs.View.{groups, kept}
use Rattle.ui_grammar.specs.Word.{Word, ident, mark, Begins}
use Rattle.ui_grammar.specs.Both.{ends_open}
use Rattle.ui_grammar.specs.Fits.{plain_type, term, type_depth, FitsType}
use Rattle.ui_grammar.specs.Parse.{SpellsSignature}
use Rattle.ui_grammar.proofs.Frames.{framed, fill_word, frame_mark}
use Rattle.ui_parse.specs.Reader.{and_then, pure, first, take_by, marked, expect}
use Rattle.ui_parse.proofs.Outcomes.{Holds, good, bind, mono, mark_holds, expect_holds}
use Rattle.ui_syntax.specs.declared.site.TypeSite.{TypeSite}
use Rattle.ui_syntax.specs.declared.site.TypeSite.TheVariants as at
use Rattle.ui_syntax.specs.Cover.{Read}
use Rattle.ui_syntax.specs.Types.{Nested, a_type, or_refuse, func_of, method_of, opened, named_type, signature, plain_type as read_plain, term as read_term, union_from, maybe_union, other_type, tilde_of, element, maybe_type}
use Rattle.ui_syntax.proofs.ByBudget.{Begun, Stops, TypeForm, IsTypeRead, IsMaybeRead, IsSoundAt}
use Rattle.ui_syntax.proofs.Begun.{short_type, begun_as, stops_as, behind, behind_word, frame_word, mark_at, name_at}
use Rattle.ui_syntax.proofs.SteadyTypes.{AreSteady, steady_a_type, steady_a_lower_type, steady_an_element, steady_param, steady_field, steady_term}
use Rattle.ui_syntax.proofs.SoundTypesLists.{TypeOk}
use Rattle.ui_syntax.proofs.SoundTypesRead.{or_refuse_holds, opened_holds}
use Rattle.ui_syntax.proofs.SoundTypesSig.{SigForm, SigRead, signature_holds}
use Rattle.ui_syntax.proofs.SoundTypesKeyword.{operand_holds}
use Rattle.ui_syntax.proofs.SoundTypesTerms.{term_read, term_form, tilde_form, one_term, union_holds, other_holds, name_holds_here, plain_holds, term_holds}

-- ---- signatures

pub record IsSignatureRead (b : ℕ) (ts : List Word) (x : Read TypeTree) (rest : List Word) : Type 0 where
  pub begins : Begins x.spot ts
  pub spells : SpellsSignature x.tree ts rest
  pub fits : FitsType x.tree plain_type
  pub sized : type_depth x.tree ≡ x.depth
  pub shallow : x.depth ≤ b
  pub no_results : ends_open x.tree ≡ true → first (marked LParen) rest ≡ None

pub record SignatureForm (b : ℕ) (ts rest : List Word) : Type 0 where
  pub tree : TypeTree
  pub spells : SpellsSignature tree ts rest
  pub fits : FitsType tree plain_type
  pub shallow : type_depth tree ≤ b
  pub closed : ends_open tree ≡ false

-- The parts are within a budget, and those of bracketed parameters within a lower one.
module _ (room low : ℕ) (inner : Nested) (below : 2 ≤ room → suc low ≤ room) (own : IsSoundAt room inner.level inner.maybe_type) (lower : IsSoundAt low inner.lower_level inner.lower_maybe_type) (steady : AreSteady inner) where
  abbrev budget : ℕ
  budget = suc room

  -- behind the parenthesis
  behind_paren : {Q : Read TypeTree → List Word → Type 0} (make : List (Group TypeTree) → MaybeType → ℕ → Read TypeTree) (ts : List Word)
      → ((gs : List (Group TypeTree)) (r : MaybeType) (k : ℕ) (rest : List Word) → SigRead room ts gs r k rest → Q (make gs r k) rest) → Holds Q (Begun (SigForm room) ts) (signature room inner make ts)
  behind_paren make ts on = signature_holds room low inner below own lower (steady_a_lower_type room inner steady) (steady_param room inner steady) make ts on

  pub signature_sound : (ts : List Word) → Holds (IsSignatureRead budget ts) (Stops (SignatureForm budget) ts) (and_then (expect LParen ts) (λ s. signature room inner (func_of room inner s)))
  signature_sound ts = bind (expect_holds {Q = λ s n. ts ≡ mark LParen s ∷ n} {F = Stops (SignatureForm budget) ts} LParen ts (λ s n e. e) (λ _. inl refl))
      (λ s n e. mono (behind_paren {Q = IsSignatureRead budget ts} (func_of room inner s) n
      (λ gs r k rest h. record { begins = subst (Begins s) (sym e) refl; spells = (n, h.middle, e, h.params, h.results); fits = (refl, h.styled, h.params_fit, h.results_fit); sized = h.sized; shallow = h.shallow; no_results = h.no_results }))
      (λ x r q. q)
      (λ r g. inr (begun_as (behind (framed (fill_word (mark LParen s) ts n e)) g) (λ us rs h. let f = h.2.1 in let r = h.2.2 in record {
        tree = func s (groups kept f.all) r.of;
        spells = (h.0, h.2.0, h.1, f.spells, r.spells);
        fits = (refl, f.ok.styled, f.ok.fit.fits, r.fits);
        shallow = omega (arith, f.ok.fit.shallow, r.shallow);
        closed = r.closed;
      }))))
      (λ r st. st)

  -- ---- types

  plain_sound : (ts : List Word) → Holds (IsMaybeRead at.Plain budget ts) (Stops (TypeForm at.Plain budget) ts) (read_plain room inner ts)
  plain_sound ts = plain_holds room low inner below own lower (steady_a_type room inner steady) (steady_a_lower_type room inner steady) (steady_param room inner steady) (steady_field room inner steady) (steady_an_element room inner steady) ts

  union_sound : (ts : List Word) (t : Read TypeTree) (ws : List Word) → TypeOk term budget ts t ws → Begins t.spot ts → Holds (IsMaybeRead at.Element budget ts) (Begun (TypeForm at.Element budget) ts) (union_from room inner t ws)
  unfolding union_from
  union_sound ts t ws r begins = union_holds budget ts (read_term room inner) (steady_term room inner steady)
      (term_holds room low inner below own lower (steady_a_type room inner steady) (steady_a_lower_type room inner steady) (steady_param room inner steady) (steady_field room inner steady) (steady_an_element room inner steady))
      (omega arith) t ws r begins

  -- ---- elements of interfaces

  abbrev Found : List Word → Option (Read TypeTree) → List Word → Type 0
  Found us = IsMaybeRead at.Element budget us

  abbrev Fault : List Word → List Word → Type 0
  Fault us = Stops (TypeForm at.Element budget) us

  plain_element : (us ws : List Word) → TypeForm at.Plain budget us ws → TypeForm at.Element budget us ws
  plain_element us ws h = one_term budget us ws (term_form budget us ws h)

  method_holds : (p : Placed) (y : Spot) (ws n : List Word) → ws ≡ mark LParen y ∷ n → Holds (IsTypeRead at.Element budget (ident p ∷ ws)) (Begun (TypeForm at.Element budget) (ident p ∷ ws)) (signature room inner (method_of room inner p) n)
  method_holds p y ws n e = mono (behind_paren {Q = IsTypeRead at.Element budget (ident p ∷ ws)} (method_of room inner p) n
      (λ gs r k rest h. record { begins = refl; spells = (ws, n, h.middle, refl, record { spot = y; is = e }, h.params, h.results); fits = ((refl, h.styled, h.params_fit, h.results_fit), omega (arith, h.sized, h.shallow)); sized = h.sized; no_results = h.no_results }))
      (λ x r q. q)
      (λ r g. begun_as (behind (frame_word (ident p) ws) (behind (frame_mark LParen ws n (record { spot = y; is = e })) g)) (λ us rs h. let f = h.2.2.1 in let r = h.2.2.2 in record {
        tree = method p (groups kept f.all) r.of;
        spells = (h.0, h.2.0, h.2.2.0, h.1, h.2.1, f.spells, r.spells);
        fits = ((refl, f.ok.styled, f.ok.fit.fits, r.fits), omega (arith, f.ok.fit.shallow, r.shallow));
        closed = r.closed;
      }))

  named_holds : (p : Placed) (ws : List Word) → Holds (Found (ident p ∷ ws)) (Fault (ident p ∷ ws)) (take_by (marked LParen) (λ _. opened room inner (signature room inner (method_of room inner p))) (λ v. and_then (named_type budget (a_type room inner) p v) (union_from room inner)) ws)
  named_holds p ws = mark_holds LParen (λ _. opened room inner (signature room inner (method_of room inner p))) (λ v. and_then (named_type budget (a_type room inner) p v) (union_from room inner)) ws
      (λ y n e. opened_holds (method_holds p y ws n e))
      (λ _. bind (name_holds_here room low inner below own lower (steady_a_type room inner steady) (steady_a_lower_type room inner steady) (steady_param room inner steady) (steady_field room inner steady) (steady_an_element room inner steady) p ws)
      (λ t m q. mono (union_sound (ident p ∷ ws) t m (term_read budget q) q.begins) (λ x r h. h) (λ r g. inr g))
      (λ r g. inr (begun_as g plain_element)))

  tilde_holds : (s : Spot) (ws : List Word) → Holds (Found (mark Tilde s ∷ ws)) (Fault (mark Tilde s ∷ ws)) (and_then (and_then (read_plain room inner ws) or_refuse) (λ t. union_from room inner (tilde_of room inner s t)))
  tilde_holds s ws = bind (or_refuse_holds (plain_sound ws))
      (λ t m q. mono (union_sound (mark Tilde s ∷ ws) (tilde_of room inner s t) m (record { spells = (ws, refl, q.spells); fits = (refl, q.fits.0); sized = q.sized; shallow = omega (arith, q.fits.1, q.sized) }) refl) (λ x r h. h) (λ r g. inr g))
      (λ r st. inr (begun_as (behind_word (mark Tilde s) (short_type budget (omega arith)) st) (λ us rs h. one_term budget us rs (tilde_form budget s us rs h))))

  other_holds_too : (ts : List Word) → Holds (Found ts) (Fault ts) (and_then (other_type room inner ts) (maybe_union room inner))
  other_holds_too ts = bind (other_holds room low inner below own lower (steady_a_type room inner steady) (steady_a_lower_type room inner steady) (steady_param room inner steady) (steady_field room inner steady) (steady_an_element room inner steady) ts)
      each (λ r st. stops_as st plain_element)
    where
      each : (o : Option (Read TypeTree)) (r : List Word) → IsMaybeRead at.Plain budget ts o r → Holds (Found ts) (Fault ts) (maybe_union room inner o r)
      each None r e = good e
      each (Some t) r q = mono (union_sound ts t r (term_read budget q) q.begins) (λ x u h. h) (λ u g. inr g)

  element_sound : (ts : List Word) → Holds (Found ts) (Fault ts) (element room inner ts)
  unfolding element
  element_sound ts = name_at Found Fault _ _ ts named_holds (λ _. mark_at Found Fault Tilde _ _ ts tilde_holds (λ _. other_holds_too ts))

  -- ---- at each site

  pub type_sound : (p : TypeSite) (ts : List Word) → Holds (IsMaybeRead p (suc room) ts) (Stops (TypeForm p (suc room)) ts) (maybe_type room inner p ts)
  unfolding maybe_type
  type_sound at.Plain ts = plain_sound ts
  type_sound at.Element ts = element_sound ts
  type_sound at.Operand ts = operand_holds room low inner below own lower (steady_a_lower_type room inner steady) (steady_param room inner steady) (steady_field room inner steady) (steady_an_element room inner steady) at.Operand tt (pure None) ts (good refl)
  type_sound at.Argument ts = operand_holds room low inner below own lower (steady_a_lower_type room inner steady) (steady_param room inner steady) (steady_field room inner steady) (steady_an_element room inner steady) at.Argument tt (pure None) ts (good refl)
