-- Bounds of type parameters, and lists of them, as they are read.
use Rattle.std.proofs.Common.{◌≡◌, inr, ℕ, suc, pred, Bool, List, [], ◌∷◌, Option, Some, None, refl, subst, arith}
use Rattle.ui_base.specs.declared.value.Spot.{Spot}
use Rattle.ui_scan.specs.declared.kind.TokenKind.TheVariants.{RBracket, Comma, Tilde}
use Rattle.ui_tree.specs.declared.part.Placed.{Placed}
use Rattle.ui_tree.specs.Tree.{TypeTree, union}
use Rattle.ui_tree.specs.View.{types}
use Rattle.ui_grammar.specs.Word.{Word, ident, mark, Begins}
use Rattle.ui_grammar.specs.Fits.{bound, term}
use Rattle.ui_parse.specs.Reader.{and_then, pure, more_parts}
use Rattle.ui_parse.proofs.Outcomes.{Holds, good, bind, mono, expect_name_holds}
use Rattle.ui_parse.proofs.TurnLaws.{KeepsParts, more_parts_holds}
use Rattle.ui_syntax.specs.declared.site.TypeSite.TheVariants as at
use Rattle.ui_syntax.specs.Cover.{Read}
use Rattle.ui_syntax.specs.Types.{or_refuse, plain_type as read_plain, term as read_term, union_from, maybe_union, tilde_of, maybe_type}
use Rattle.ui_syntax.specs.Read.{readers}
use Rattle.ui_syntax.proofs.ByBudget.{Begun, Stops, TypeForm, IsMaybeRead}
use Rattle.ui_syntax.proofs.Begun.{short_mark, short_type, frame_name, begun_as, begun_none, begun_stops, stops_as, behind, behind_word, before, mark_at}
use Rattle.ui_syntax.proofs.FirstWords.{begins_spelled_type}
use Rattle.ui_syntax.proofs.Runs.{FormOf, run_end}
use Rattle.ui_syntax.proofs.SteadyTypes.{steady_a_type, steady_a_lower_type, steady_an_element, steady_param, steady_field, steady_term}
use Rattle.ui_syntax.proofs.Steady.{readers_steady}
use Rattle.ui_syntax.proofs.SoundTypesLists.{TypeFits, TypeOk, GoodTypes, good_one}
use Rattle.ui_syntax.proofs.SoundTypesRead.{or_refuse_holds}
use Rattle.ui_syntax.proofs.SoundTypesTerms.{Terms, TermsTail, term_read, term_form, tilde_form, terms_hold, term_holds}
use Rattle.ui_syntax.proofs.Sound.{readers_sound, below_next}
use Rattle.ui_stmts.specs.Decls.{TypeParams, type_params_ending, add_bound, maybe_bound, type_param}
use Rattle.ui_stmts.proofs.SteadyDecls.{steady_type_param}
use Rattle.ui_stmts.proofs.TypeParamWords.{grown_apart}
use Rattle.ui_stmts.proofs.SoundTypeParams.{Before, After, separated, name_added, bound_added, ParamsForm, ParamsRead, params_end, before_fault, short_bound, short_more, after_stuck}

abbrev pub BoundRead : ℕ → List Word → Option (Read TypeTree) → List Word → Type 0
BoundRead b ts None rest = ts ≡ rest
BoundRead b ts (Some t) rest = TypeOk bound b ts t rest

module _ (room : ℕ) where
  abbrev budget : ℕ
  budget = suc room

  plain_sound : (ts : List Word) → Holds (IsMaybeRead at.Plain budget ts) (Stops (TypeForm at.Plain budget) ts) (read_plain room (readers room) ts)
  unfolding readers maybe_type
  plain_sound ts = (readers_sound (suc room)).own.type at.Plain ts

  union_bound : (us ws : List Word) → FormOf Terms (GoodTypes term budget) us ws → TypeFits bound budget us ws
  union_bound us ws h = by_terms h.all h.spells h.ok
    where
      by_terms : (all : List TypeTree) → Terms all us ws → GoodTypes term budget all → TypeFits bound budget us ws
      by_terms [] h g = absurd h
      by_terms (t ∷ all) h g = let s = begins_spelled_type t us h.0 h.1 in record { tree = union s.0 (types (t ∷ all)); spells = (s.1, h); fits = (refl, g.0); shallow = g.1 }

  one_bound : (us ws : List Word) → TypeFits term budget us ws → TypeFits bound budget us ws
  one_bound us ws h = union_bound us ws (record { all = h.tree ∷ []; spells = (ws, h.spells, refl); ok = good_one h.tree term budget h.fits h.shallow })

  union_holds_here : (ts : List Word) (t : Read TypeTree) (ws : List Word) → TypeOk term budget ts t ws → Begins t.spot ts → Holds (BoundRead budget ts) (Begun (TypeFits bound budget) ts) (union_from room (readers room) t ws)
  unfolding union_from
  union_holds_here ts t ws r begins = bind
      (terms_hold budget ts (read_term room (readers room)) (steady_term room (readers room) (readers_steady room))
      (term_holds room (pred room) (readers room) (below_next room) (readers_sound room).own (readers_sound room).lower (steady_a_type room (readers room) (readers_steady room)) (steady_a_lower_type room (readers room) (readers_steady room)) (steady_param room (readers room) (readers_steady room)) (steady_field room (readers room) (readers_steady room)) (steady_an_element room (readers room) (readers_steady room)))
      (omega arith) t ws r)
      (λ us rest h. good (record { spells = (begins, run_end TermsTail Terms us.items ts rest rest h.run refl); fits = (refl, h.ok.fits); sized = h.ok.sized; shallow = h.ok.shallow }))
      (λ rest g. begun_as g union_bound)

  tilde_bound : (s : Spot) (ws : List Word) → Holds (BoundRead budget (mark Tilde s ∷ ws)) (Stops (TypeFits bound budget) (mark Tilde s ∷ ws)) (and_then (and_then (read_plain room (readers room) ws) or_refuse) (λ t. union_from room (readers room) (tilde_of room (readers room) s t)))
  tilde_bound s ws = bind (or_refuse_holds (plain_sound ws))
      (λ t m q. mono (union_holds_here (mark Tilde s ∷ ws) (tilde_of room (readers room) s t) m (record { spells = (ws, refl, q.spells); fits = (refl, q.fits.0); sized = q.sized; shallow = omega (arith, q.fits.1, q.sized) }) refl) (λ x r h. h) (λ r g. inr g))
      (λ r st. inr (begun_as (behind_word (mark Tilde s) (short_type budget (omega arith)) st) (λ us rs h. one_bound us rs (tilde_form budget s us rs h))))

  maybe_union_bound : (ts : List Word) → Holds (BoundRead budget ts) (Stops (TypeFits bound budget) ts) (and_then (read_plain room (readers room) ts) (maybe_union room (readers room)))
  maybe_union_bound ts = bind (plain_sound ts) each (λ r st. stops_as st (λ us ws h. one_bound us ws (term_form budget us ws h)))
    where
      each : (o : Option (Read TypeTree)) (r : List Word) → IsMaybeRead at.Plain budget ts o r → Holds (BoundRead budget ts) (Stops (TypeFits bound budget) ts) (maybe_union room (readers room) o r)
      each None r e = good e
      each (Some t) r q = mono (union_holds_here ts t r (term_read budget q) q.begins) (λ x u h. h) (λ u g. inr g)

  pub bound_holds : (ts : List Word) → Holds (BoundRead budget ts) (Stops (TypeFits bound budget) ts) (maybe_bound room ts)
  bound_holds ts = mark_at (BoundRead budget) (Stops (TypeFits bound budget)) Tilde _ _ ts tilde_bound (λ _. maybe_union_bound ts)

  -- ---- lists

  module _ (apart : Bool) (ts : List Word) where
    abbrev Fault : List Word → Type 0
    Fault rest = Begun (ParamsForm budget apart ts) ts rest

    pub part_holds : (ps : TypeParams) (ws : List Word) → Before budget apart ts ps ws → Holds (After budget apart ts) Fault (type_param room ps ws)
    part_holds ps ws j = bind (expect_name_holds {Q = λ p m. ws ≡ ident p ∷ m} {F = Fault} ws (λ p m e. e) (λ _. before_fault budget apart ts ps ws ws j (begun_none ws (short_more budget apart ts (omega arith)))))
        (λ p m e. bind (bound_holds m) (λ o r h. each p m e o r h)
        (λ r st. before_fault budget apart ts ps ws r j (behind (frame_name p ws m e) (before (begun_stops (short_bound budget apart ts (omega arith)) st) (short_mark RBracket)))))
        (λ r g. g)
      where
        each : (p : Placed) (m : List Word) → ws ≡ ident p ∷ m → (o : Option (Read TypeTree)) (r : List Word) → BoundRead budget m o r → Holds (After budget apart ts) Fault (pure (add_bound ps p o) r)
        each p m e None r h = good (name_added budget apart ts ps p ws r j.run j.facts (subst (λ (v : List Word). ws ≡ ident p ∷ v) h e))
        each p m e (Some t) r h = good (bound_added budget apart ts ps p t ws m r j.run j.facts e h.spells h.fits h.sized h.shallow (grown_apart apart ps.groups ps.waiting p [] t.tree [] j.some))

    pub keeps : KeepsParts Comma RBracket type_params_ending (type_param room) (steady_type_param room) (After budget apart ts) (ParamsRead budget apart ts) Fault
    keeps = record {
      part = λ ps x ws rest j must e. part_holds ps rest (separated budget apart ts ps x ws rest j e);
      last = λ ps ws rest j may c. params_end budget apart ts ps ws rest j may c;
      stuck = λ ps ws j. after_stuck budget apart ts ps ws (omega arith) j;
      stuck_separated = λ ps x ws rest j must e. absurd cc;
    }

    pub more_params_hold : (ps : TypeParams) (ws : List Word) → After budget apart ts ps ws → Holds (ParamsRead budget apart ts) Fault (more_parts Comma RBracket type_params_ending (type_param room) ps ws)
    more_params_hold ps ws j = more_parts_holds Comma RBracket type_params_ending (type_param room) (steady_type_param room) (After budget apart ts) (ParamsRead budget apart ts) Fault keeps ps ws j
