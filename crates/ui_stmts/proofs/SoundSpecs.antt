-- One specification, or several in parentheses, as they are read.
use Rattle.std.proofs.Common.{◌≡◌, inl, inr, ℕ, max, ◌≤◌, List, [], ◌∷◌, ◌++◌, refl, subst, arith}
use Rattle.ui_base.specs.declared.value.Spot.{Spot}
use Rattle.ui_scan.specs.declared.kind.TokenKind.TheVariants.{LParen, RParen, Semi}
use Rattle.ui_tree.specs.declared.part.Specs.{Specs}
use Rattle.ui_tree.specs.declared.part.Specs.TheVariants.{One, Grouped}
use Rattle.ui_grammar.specs.Word.{Word, mark, Mark, Closes}
use Rattle.ui_grammar.specs.Statement.{SpecsTail, SpecsList, SpellsSpecs, AllSpecs, FitsSpecs, deepest, specs_depth}
use Rattle.ui_grammar.proofs.Frames.{Spelling, Framed, Then, next, frame_mark}
use Rattle.ui_parse.specs.Reader.{Reader, and_then, pure, parts}
use Rattle.ui_parse.proofs.Outcomes.{Holds, good, bind}
use Rattle.ui_parse.proofs.Steady.{Steady, steady_bind, steady_pure}
use Rattle.ui_parse.proofs.TurnLaws.{KeepsParts, parts_holds}
use Rattle.ui_syntax.specs.Types.{Listed, add, empty, any_end}
use Rattle.ui_syntax.proofs.ByBudget.{Begun, Stops}
use Rattle.ui_syntax.proofs.Begun.{short_as, short_mark, begun_as, begun_none, stops_as, behind, behind_none, before, mark_at}
use Rattle.ui_syntax.proofs.Runs.{FormOf, Run, run_first, run_next, run_end, run_begun}
use Rattle.ui_stmts.specs.Common.{Sized, sized, one_spec, one_spec_more, specs}

module _ {S : Type 0} (P : S → Spelling) (F : S → Type 0) (D : S → ℕ) (b : ℕ) where
  -- a specification that fits, within the depth
  abbrev pub GoodSpec : S → Type 0
  GoodSpec s = F s × D s ≤ b

  abbrev pub SpecForm : Spelling
  SpecForm = FormOf P GoodSpec

  pub record SpecRead (ts : List Word) (s : Sized S) (rest : List Word) : Type 0 where
    pub spells : P s.of ts rest
    pub fits : F s.of
    pub sized : D s.of ≡ s.depth
    pub shallow : s.depth ≤ b

  abbrev pub GoodSpecs : Specs S → Type 0
  GoodSpecs ss = FitsSpecs F ss × specs_depth D ss ≤ b

  abbrev pub SpecsForm : Spelling
  SpecsForm = FormOf (SpellsSpecs P) GoodSpecs

  pub record SpecsRead (ts : List Word) (s : Sized (Specs S)) (rest : List Word) : Type 0 where
    pub spells : SpellsSpecs P s.of ts rest
    pub fits : FitsSpecs F s.of
    pub sized : specs_depth D s.of ≡ s.depth
    pub shallow : s.depth ≤ b

  -- ---- lists of them

  all_append : (ss us : List S) → AllSpecs F ss → AllSpecs F us → AllSpecs F (ss ++ us)
  all_append [] us h g = g
  all_append (s ∷ ss) us h g = (h.0, all_append ss us h.1 g)

  deepest_append : (ss us : List S) → deepest D (ss ++ us) ≡ max (deepest D ss) (deepest D us)
  deepest_append [] us = omega arith
  deepest_append (s ∷ ss) us = omega (arith, deepest_append ss us)

  abbrev GoodList : List S → Type 0
  GoodList ss = AllSpecs F ss × deepest D ss ≤ b

  good_append : (ss us : List S) → GoodList ss → GoodList us → GoodList (ss ++ us)
  good_append ss us h g = (all_append ss us h.0 g.0, omega (arith, deepest_append ss us, h.1, g.1))

  abbrev ListForm : Spelling
  ListForm = FormOf (SpecsList P) GoodList

  record ListFits (l : Listed S) : Type 0 where
    fits : AllSpecs F l.items
    sized : deepest D l.items ≡ l.depth
    shallow : l.depth ≤ b

  list_good : (l : Listed S) → ListFits l → GoodList l.items
  list_good l f = (f.fits, omega (arith, f.sized, f.shallow))

  added : (l : Listed S) (ts : List Word) (s : Sized S) (rest : List Word) → ListFits l → SpecRead ts s rest → ListFits (add l s.of s.depth)
  added l ts s rest f r = record {
    fits = all_append l.items (s.of ∷ []) f.fits (r.fits, tt);
    sized = omega (arith, deepest_append l.items (s.of ∷ []), f.sized, r.sized);
    shallow = omega (arith, f.shallow, r.shallow);
  }

  none_fits : ListFits empty
  none_fits = record { fits = tt; sized = refl; shallow = omega arith }

  module _ (frame_spec : (s : S) (ts rest : List Word) → P s ts rest → Framed (P s) ts rest) (spec : Reader (Sized S)) (spec_is : Steady spec) (spec_holds : (ts : List Word) → Holds (SpecRead ts) (Stops SpecForm ts) (spec ts)) where
    module _ (ts : List Word) where
      -- behind a specification
      record SpecsAt (l : Listed S) (ws : List Word) : Type 0 where
        run : Run (SpecsTail P) (SpecsList P) l.items ts ws
        fit : ListFits l

      record ListRead (l : Listed S) (rest : List Word) : Type 0 where
        spells : SpecsList P l.items ts rest
        fit : ListFits l

      ends : (l : Listed S) (ws rest : List Word) → SpecsAt l ws → Begun (Closes Semi RParen) ws rest → Begun ListForm ts rest
      ends l ws rest j g = run_begun (SpecsTail P) (SpecsList P) {Ok1 = GoodList} {Ok2 = GoodList} l.items ts ws rest j.run (λ us h. good_append l.items us (list_good l j.fit) h)
          (begun_as g (λ us rs h. record { all = []; spells = h; ok = (tt, omega arith) }))

      next_fault : (l : Listed S) (x : Spot) (ws m rest : List Word) → SpecsAt l ws → ws ≡ mark Semi x ∷ m → Stops SpecForm m rest → Begun ListForm ts rest
      next_fault l x ws m rest j e (inl same) = ends l ws rest j (subst (λ (v : List Word). Begun (Closes Semi RParen) ws v) same (begun_as (behind_none (frame_mark Semi ws m (record { spot = x; is = e })) (short_mark RParen)) (λ us rs h. inr h)))
      next_fault l x ws m rest j e (inr g) = run_begun (SpecsTail P) (SpecsList P) {Ok1 = GoodList} {Ok2 = GoodList} l.items ts ws rest j.run (λ us h. good_append l.items us (list_good l j.fit) h)
          (begun_as (behind (frame_mark Semi ws m (record { spot = x; is = e })) (before g (short_mark RParen)))
          (λ us rs h. let s = h.2.1 in record { all = s.all ∷ []; spells = (h.0, h.2.0, h.1, s.spells, inl h.2.2); ok = ((s.ok.0, tt), omega (arith, s.ok.1)) }))

      next_spec : (l : Listed S) (x : Spot) (ws m : List Word) (s : Sized S) (rest : List Word) → SpecsAt l ws → ws ≡ mark Semi x ∷ m → SpecRead m s rest → SpecsAt (add l s.of s.depth) rest
      next_spec l x ws m s rest j e r = record {
        run = run_next (SpecsTail P) (SpecsList P) l.items s.of ts ws rest j.run (next (frame_mark Semi ws m (record { spot = x; is = e })) (frame_spec s.of m rest r.spells)) (λ us a k end h g. (h.0, k, h.1, h.2, g));
        fit = added l m s rest j.fit r;
      }

      first_spec : (s : Sized S) (rest : List Word) → SpecRead ts s rest → SpecsAt (add empty s.of s.depth) rest
      first_spec s rest r = record {
        run = run_first (SpecsTail P) (SpecsList P) s.of ts rest (frame_spec s.of ts rest r.spells) (λ us a k end h g. (k, h, g));
        fit = added empty ts s rest none_fits r;
      }

      none_begun : Begun ListForm ts ts
      none_begun = begun_none ts (short_as (short_mark RParen) (λ us rs m. record { all = []; spells = m; ok = (tt, omega arith) }))

      first_fault : (rest : List Word) → Stops SpecForm ts rest → Begun ListForm ts rest
      first_fault rest (inl e) = subst (λ (v : List Word). Begun ListForm ts v) e none_begun
      first_fault rest (inr g) = begun_as (before g (short_mark RParen)) (λ us rs h. let s = h.1 in record { all = s.all ∷ []; spells = (h.0, s.spells, inl h.2); ok = ((s.ok.0, tt), omega (arith, s.ok.1)) })

      spec_more_is : (l : Listed S) → Steady (one_spec_more spec l)
      spec_more_is l = steady_bind spec_is (λ s. steady_pure (add l s.of s.depth))

      keeps : KeepsParts Semi RParen any_end (one_spec_more spec) spec_more_is SpecsAt ListRead (Begun ListForm ts)
      keeps = record {
        part = λ l x ws rest j must e. bind (spec_holds rest) (λ s r h. good (next_spec l x ws rest s r j e h)) (λ r st. next_fault l x ws rest r j e st);
        last = λ l ws rest j may c. record { spells = run_end (SpecsTail P) (SpecsList P) l.items ts ws rest j.run c; fit = j.fit };
        stuck = λ l ws j. ends l ws ws j (begun_none ws (short_as (short_mark RParen) (λ us rs m. inl m)));
        stuck_separated = λ l x ws rest j must e. absurd cc;
      }

      list_holds : Holds ListRead (Begun ListForm ts) (parts Semi RParen any_end (one_spec_more spec) empty ts)
      list_holds = parts_holds Semi RParen any_end (one_spec_more spec) spec_more_is SpecsAt ListRead (Begun ListForm ts) keeps empty ts
          (λ _. bind (spec_holds ts) (λ s r h. good (first_spec s r h)) (λ r st. first_fault r st))
          (λ x rest may e. record { spells = record { spot = x; is = e }; fit = none_fits })

    -- ---- one, or several

    grouped_form : (us ws : List Word) → Then (Mark LParen) ListForm us ws → SpecsForm us ws
    grouped_form us ws h = let l = h.2 in record { all = Grouped l.all; spells = (h.0, h.1, l.spells); ok = l.ok }

    grouped_holds : (x : Spot) (ws : List Word) → Holds (SpecsRead (mark LParen x ∷ ws)) (Stops SpecsForm (mark LParen x ∷ ws)) (and_then (parts Semi RParen any_end (one_spec_more spec) empty ws) (λ l. pure (sized (Grouped l.items) l.depth)))
    grouped_holds x ws = bind (list_holds ws)
        (λ l rest h. good (record { spells = (ws, record { spot = x; is = refl }, h.spells); fits = h.fit.fits; sized = h.fit.sized; shallow = h.fit.shallow }))
        (λ rest g. inr (begun_as (behind (frame_mark LParen (mark LParen x ∷ ws) ws (record { spot = x; is = refl })) g) grouped_form))

    one_holds : (ts : List Word) → Holds (SpecsRead ts) (Stops SpecsForm ts) (and_then (spec ts) (λ s. pure (one_spec s)))
    one_holds ts = bind (spec_holds ts) (λ s r h. good (record { spells = h.spells; fits = h.fits; sized = h.sized; shallow = h.shallow }))
        (λ r st. stops_as st (λ us ws f. record { all = One f.all; spells = f.spells; ok = f.ok }))

    pub specs_holds : (ts : List Word) → Holds (SpecsRead ts) (Stops SpecsForm ts) (specs spec ts)
    unfolding specs
    specs_holds ts = mark_at SpecsRead (Stops SpecsForm) LParen _ _ ts grouped_holds (λ _. one_holds ts)
