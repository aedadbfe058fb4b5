-- Types at plain places, and unions of terms.
use Rattle.std.proofs.Common.{◌≡◌, inl, inr, ℕ, suc, ◌≤◌, List, [], ◌∷◌, Option, Some, None, refl, ap, arith}
use Rattle.std.specs.Prelude.{nat_le}
use Rattle.std.proofs.lemmas.Bool.{leb-true}
use Rattle.ui_base.specs.declared.value.Spot.{Spot}
use Rattle.ui_scan.specs.declared.kind.TokenKind.TheVariants.{LParen, RParen, Mul, Or, Tilde}
use Rattle.ui_tree.specs.declared.part.Placed.{Placed}
use Rattle.ui_tree.specs.declared.part.Group.{Group}
use Rattle.ui_tree.specs.Tree.{TypeTree, parenthesized, pointer, union, tilde}
use Rattle.ui_tree.specs.View.{types}
use Rattle.ui_grammar.specs.Word.{Word, ident, mark, Mark, Begins}
use Rattle.ui_grammar.specs.Spells.{SpellsTerms, SpellsTermsTail}
use Rattle.ui_grammar.specs.Fits.{plain_type, term}
use Rattle.ui_grammar.proofs.Frames.{Spelling, Then, next, frame_mark, frame_type}
use Rattle.ui_parse.specs.Reader.{Reader, and_then, pure, take_by, marked, chain}
use Rattle.ui_parse.proofs.Outcomes.{Holds, good, bad, bind, mono, choose, expect_holds}
use Rattle.ui_parse.proofs.Steady.{Steady, steady_bind, steady_pure}
use Rattle.ui_parse.proofs.TurnLaws.{chain_holds}
use Rattle.ui_syntax.specs.declared.site.TypeSite.TheVariants as at
use Rattle.ui_syntax.specs.Cover.{Read}
use Rattle.ui_syntax.specs.Types.{Nested, Listed, Params, add, only, one_more, a_type, a_lower_type, an_element, of_type, or_refuse, param, field, opened, named_type, pointer_type, parenthesized_type, marked_type, other_type, plain_type as read_plain, term as read_term}
use Rattle.ui_syntax.proofs.ByBudget.{Begun, Stops, TypeForm, IsTypeRead, IsMaybeRead, IsSoundAt}
use Rattle.ui_syntax.proofs.Begun.{Short, short_as, short_mark, short_then, short_type, begun_as, stops_as, begun_stops, behind, behind_word, then_holds, mark_at, name_at}
use Rattle.ui_syntax.proofs.Places.{fits_term}
use Rattle.ui_syntax.proofs.FirstWords.{begins_spelled_type}
use Rattle.ui_syntax.proofs.Runs.{FormOf, Run, run_first, run_next, run_end, run_begun}
use Rattle.ui_syntax.proofs.SoundTypesLists.{TypeFits, TypeOk, GoodTypes, good_one, good_append, TypesOk, ok_good, ok_only, ok_add}
use Rattle.ui_syntax.proofs.SoundTypesNamed.{short_fits, named_type_holds}
use Rattle.ui_syntax.proofs.SoundTypesRead.{type_ok, or_refuse_holds, frame_ok, opened_holds}
use Rattle.ui_syntax.proofs.SoundTypesKeyword.{operand_holds}

abbrev pub TermsTail : List TypeTree → Spelling
TermsTail us = SpellsTermsTail (types us)

abbrev pub Terms : List TypeTree → Spelling
Terms us = SpellsTerms (types us)

-- ---- terms and unions as they are read

module _ (b : ℕ) where
  pub term_read : {ts rest : List Word} {x : Read TypeTree} → IsTypeRead at.Plain b ts x rest → TypeOk term b ts x rest
  term_read {x = x} q = record { spells = q.spells; fits = fits_term x.tree q.fits.0; sized = q.sized; shallow = omega (arith, q.fits.1, q.sized) }

  pub term_form : (us ws : List Word) → TypeForm at.Plain b us ws → TypeFits term b us ws
  term_form us ws h = record { tree = h.tree; spells = h.spells; fits = fits_term h.tree h.fits.0; shallow = h.fits.1 }

  pub tilde_form : (s : Spot) (us ws : List Word) → Then (λ vs rs. vs ≡ mark Tilde s ∷ rs) (TypeForm at.Plain b) us ws → TypeFits term b us ws
  tilde_form s us ws h = let t = h.2 in record { tree = tilde s t.tree; spells = (h.0, h.1, t.spells); fits = (refl, t.fits.0); shallow = t.fits.1 }

  short_term : 1 ≤ b → Short (TypeFits term b)
  short_term le = short_as (short_type b le) term_form

  -- any terms are a union
  union_form : (us ws : List Word) → FormOf Terms (GoodTypes term b) us ws → TypeForm at.Element b us ws
  union_form us ws h = by_terms h.all h.spells h.ok
    where
      by_terms : (all : List TypeTree) → Terms all us ws → GoodTypes term b all → TypeForm at.Element b us ws
      by_terms [] h g = absurd h
      by_terms (t ∷ all) h g = let s = begins_spelled_type t us h.0 h.1 in record { tree = union s.0 (types (t ∷ all)); spells = (s.1, h); fits = ((refl, g.0), g.1); closed = refl }

  pub one_term : (us ws : List Word) → TypeFits term b us ws → TypeForm at.Element b us ws
  one_term us ws h = union_form us ws (record { all = h.tree ∷ []; spells = (ws, h.spells, refl); ok = good_one h.tree term b h.fits h.shallow })

  module _ (ts : List Word) where
    pub record TermsAt (l : Listed TypeTree) (ws : List Word) : Type 0 where
      pub run : Run TermsTail Terms l.items ts ws
      pub ok : TypesOk term b l

    first_term : (t : Read TypeTree) (ws : List Word) → TypeOk term b ts t ws → TermsAt (only t.tree t.depth) ws
    first_term t ws r = record {
      run = run_first TermsTail Terms t.tree ts ws (frame_type t.tree ts ws r.spells) (λ us a k rest h g. (k, h, g));
      ok = ok_only term b t.tree t.depth r.fits r.sized r.shallow;
    }

    next_term : (l : Listed TypeTree) (x : Spot) (ws rest : List Word) (t : Read TypeTree) (last : List Word) → TermsAt l ws → ws ≡ mark Or x ∷ rest → TypeOk term b rest t last → TermsAt (add l t.tree t.depth) last
    next_term l x ws rest t last j e r = record {
      run = run_next TermsTail Terms l.items t.tree ts ws last j.run (next (frame_mark Or ws rest (record { spot = x; is = e })) (frame_type t.tree rest last r.spells)) (λ us a k end h g. (h.0, k, h.1, h.2, g));
      ok = ok_add term b l t.tree t.depth j.ok r.fits r.sized r.shallow;
    }

    next_stops : (l : Listed TypeTree) (x : Spot) (ws rest last : List Word) → 1 ≤ b → TermsAt l ws → ws ≡ mark Or x ∷ rest → Stops (TypeFits term b) rest last → Begun (FormOf Terms (GoodTypes term b)) ts last
    next_stops l x ws rest last le j e st = run_begun TermsTail Terms {Ok1 = GoodTypes term b} {Ok2 = GoodTypes term b} l.items ts ws last j.run (λ us h. good_append l.items us term b (ok_good term b l j.ok) h)
        (begun_as (behind (frame_mark Or ws rest (record { spot = x; is = e })) (begun_stops (short_term le) st)) (λ us rs h. let t = h.2 in record { all = t.tree ∷ []; spells = (h.0, rs, h.1, t.spells, refl); ok = good_one t.tree term b t.fits t.shallow }))

    pub terms_hold : (reader : Reader (Read TypeTree)) → Steady reader → ((us : List Word) → Holds (TypeOk term b us) (Stops (TypeFits term b) us) (reader us)) → 1 ≤ b → (t : Read TypeTree) (ws : List Word) → TypeOk term b ts t ws
        → Holds TermsAt (Begun (FormOf Terms (GoodTypes term b)) ts) (chain Or (one_more reader) (only t.tree t.depth) ws)
    terms_hold reader reader_is sound le t ws r = mono
        (chain_holds Or (one_more reader) (λ l. steady_bind reader_is (λ t. steady_pure (add l t.tree t.depth))) TermsAt (Begun (FormOf Terms (GoodTypes term b)) ts)
        (λ l x u rest j e. bind (sound rest) (λ u last q. good (next_term l x _ rest u last j e q)) (λ last st. next_stops l x u rest last le j e st))
        (only t.tree t.depth) ws (first_term t ws r))
        (λ us rest h. h.0) (λ rest g. g)

    -- { "|" Term } behind a first term
    pub union_holds : (reader : Reader (Read TypeTree)) → Steady reader → ((us : List Word) → Holds (TypeOk term b us) (Stops (TypeFits term b) us) (reader us)) → 1 ≤ b → (t : Read TypeTree) (ws : List Word) → TypeOk term b ts t ws → Begins t.spot ts
        → Holds (IsMaybeRead at.Element b ts) (Begun (TypeForm at.Element b) ts) (and_then (chain Or (one_more reader) (only t.tree t.depth) ws) (λ us. pure (Some (of_type (union t.spot (types us.items)) t.spot us.depth))))
    union_holds reader reader_is sound le t ws r begins = bind (terms_hold reader reader_is sound le t ws r)
        (λ us rest h. good (record { begins = begins; spells = (begins, run_end TermsTail Terms us.items ts rest rest h.run refl); fits = ((refl, h.ok.fits), omega (arith, h.ok.sized, h.ok.shallow)); sized = h.ok.sized; no_results = λ e. absurd cc }))
        (λ rest g. begun_as g union_form)

-- ---- the readers

module _ (room low : ℕ) (inner : Nested) (below : 2 ≤ room → suc low ≤ room) (own : IsSoundAt room inner.level inner.maybe_type) (lower : IsSoundAt low inner.lower_level inner.lower_maybe_type)
    (type_is : Steady (a_type room inner)) (lower_is : Steady (a_lower_type room inner)) (param_is : (ps : Params) → Steady (param room inner ps)) (field_is : (l : Listed (Group TypeTree)) → Steady (field room inner l)) (element_is : Steady (an_element room inner)) where
  abbrev budget : ℕ
  budget = suc room

  abbrev Found : List Word → Option (Read TypeTree) → List Word → Type 0
  Found us = IsMaybeRead at.Plain budget us

  abbrev Fault : List Word → List Word → Type 0
  Fault us = Stops (TypeForm at.Plain budget) us

  type_read : (us : List Word) → Holds (IsTypeRead at.Plain room us) (Stops (TypeForm at.Plain room) us) (a_type room inner us)
  type_read us = or_refuse_holds (own.type at.Plain us)

  type_sound : (us : List Word) → Holds (TypeOk plain_type room us) (Stops (TypeFits plain_type room) us) (a_type room inner us)
  type_sound us = type_ok (omega arith) (type_read us)

  pointer_holds : (s : Spot) (ws : List Word) → 1 ≤ room → Holds (IsTypeRead at.Plain budget (mark Mul s ∷ ws)) (Begun (TypeForm at.Plain budget) (mark Mul s ∷ ws)) (pointer_type room inner s ws)
  pointer_holds s ws le = bind (type_read ws)
      (λ t rest q. good (record { begins = refl; spells = (ws, refl, q.spells); fits = ((refl, q.fits.0), omega (arith, q.fits.1)); sized = ap suc q.sized; no_results = q.no_results }))
      (λ rest st. begun_as (behind_word (mark Mul s) (short_type room le) st) (λ us rs h. let t = h.2 in record { tree = pointer s t.tree; spells = (h.0, h.1, t.spells); fits = ((refl, t.fits.0), omega (arith, t.fits.1)); closed = t.closed }))

  parenthesized_holds : (s : Spot) (ws : List Word) → 1 ≤ room → Holds (IsTypeRead at.Plain budget (mark LParen s ∷ ws)) (Begun (TypeForm at.Plain budget) (mark LParen s ∷ ws)) (parenthesized_type room inner s ws)
  parenthesized_holds s ws le = mono (then_holds {S = Mark RParen} (short_mark RParen) (type_sound ws) (λ t m r. frame_ok room ws t m r)
      (λ t m r. bind (expect_holds {Q = λ y n. m ≡ mark RParen y ∷ n} {F = Stops (Mark RParen) m} RParen m (λ y n e. e) (λ _. inl refl))
      (λ y n e. good (record { begins = refl; spells = (ws, m, refl, r.spells, record { spot = y; is = e }); fits = ((refl, r.fits), omega (arith, r.sized, r.shallow)); sized = ap suc r.sized; no_results = λ k. absurd cc }))
      (λ n st. st)))
      (λ x r q. q)
      (λ r st. begun_as (behind_word (mark LParen s) (short_then (short_fits room le) (short_mark RParen)) st)
      (λ us rs h. let t = h.2.1 in record { tree = parenthesized s t.tree; spells = (h.0, h.2.0, h.1, t.spells, h.2.2); fits = ((refl, t.fits), omega (arith, t.shallow)); closed = refl }))

  marked_holds : (ts : List Word) → Holds (Found ts) (Fault ts) (marked_type room inner ts)
  marked_holds ts = choose (nat_le 1 room) (take_by (marked Mul) (λ s. opened room inner (pointer_type room inner s)) (take_by (marked LParen) (λ s. opened room inner (parenthesized_type room inner s)) (pure None))) (pure None) ts
      (λ e. mark_at Found Fault Mul _ _ ts (λ s ws. opened_holds (pointer_holds s ws (leb-true _ _ e)))
      (λ _. mark_at Found Fault LParen _ (pure None) ts (λ s ws. opened_holds (parenthesized_holds s ws (leb-true _ _ e))) (λ _. good refl)))
      (λ _. good refl)

  pub other_holds : (ts : List Word) → Holds (Found ts) (Fault ts) (other_type room inner ts)
  other_holds ts = operand_holds room low inner below own lower lower_is param_is field_is element_is at.Plain tt (marked_type room inner) ts (marked_holds ts)

  pub name_holds_here : (p : Placed) (ws : List Word) → Holds (IsTypeRead at.Plain budget (ident p ∷ ws)) (Begun (TypeForm at.Plain budget) (ident p ∷ ws)) (named_type budget (a_type room inner) p ws)
  name_holds_here p ws = named_type_holds room (a_type room inner) type_is type_sound budget (λ le. (omega arith, omega (arith, le))) p ws (omega arith)

  pub plain_holds : (ts : List Word) → Holds (Found ts) (Fault ts) (read_plain room inner ts)
  unfolding read_plain
  plain_holds ts = name_at Found Fault (λ p. opened room inner (named_type budget (a_type room inner) p)) (other_type room inner) ts (λ p ws. opened_holds (name_holds_here p ws)) (λ _. other_holds ts)

  pub term_holds : (ts : List Word) → Holds (TypeOk term budget ts) (Stops (TypeFits term budget) ts) (read_term room inner ts)
  unfolding read_term
  term_holds ts = mark_at (TypeOk term budget) (λ us. Stops (TypeFits term budget) us) Tilde _ _ ts tilde_holds (λ _. mono (or_refuse_holds (plain_holds ts)) (λ x r q. term_read budget q) (λ r st. stops_as st (term_form budget)))
    where
      tilde_stops : (s : Spot) (ws r : List Word) → Stops (TypeForm at.Plain budget) ws r → Stops (TypeFits term budget) (mark Tilde s ∷ ws) r
      tilde_stops s ws r st = inr (begun_as (behind_word (mark Tilde s) (short_type budget (omega arith)) st) (tilde_form budget s))

      tilde_holds : (s : Spot) (ws : List Word) → Holds (TypeOk term budget (mark Tilde s ∷ ws)) (Stops (TypeFits term budget) (mark Tilde s ∷ ws)) (and_then (read_plain room inner ws) (λ m. λ v. and_then (or_refuse m v) (λ t. pure (of_type (tilde s t.tree) s t.depth))))
      tilde_holds s ws = bind (plain_holds ws) each (λ r st. tilde_stops s ws r st)
        where
          each : (o : Option (Read TypeTree)) (r : List Word) → Found ws o r → Holds (TypeOk term budget (mark Tilde s ∷ ws)) (Stops (TypeFits term budget) (mark Tilde s ∷ ws)) (and_then (or_refuse o r) (λ t. pure (of_type (tilde s t.tree) s t.depth)))
          each None r e = bad (tilde_stops s ws r (inl e))
          each (Some t) r q = good (record { spells = (ws, refl, q.spells); fits = (refl, q.fits.0); sized = q.sized; shallow = omega (arith, q.fits.1, q.sized) })
