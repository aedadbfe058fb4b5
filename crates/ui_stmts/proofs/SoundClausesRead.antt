-- The readers of clauses, where each statement is read as it is spelled.
use Rattle.std.proofs.Common.{◌≡◌, ℕ, zero, suc, ◌<◌, ◌≤◌, false, List, [], ◌∷◌, ◌++◌, length, Option, Some, None, refl, sym, ap, subst, ◌∙◌, append_assoc, arith}
use Rattle.std.specs.Prelude.{nat_le}
use Rattle.std.proofs.lemmas.Bool.{leb-true}
use Rattle.ui_base.specs.declared.value.Spot.{Spot}
use Rattle.ui_scan.specs.declared.kind.TokenKind.TheVariants.{RBrace, Semi, Colon, Case, Default}
use Rattle.ui_tree.specs.Stmt.{MaybeTrees, no_trees, given_trees, Stmt, empty as no_words, Clauses, clauses_end, clause_and}
use Rattle.ui_tree.specs.StmtView.{stmts}
use Rattle.ui_tree.specs.View.{trees}
use Rattle.ui_grammar.specs.Word.{Word, mark, Mark}
use Rattle.ui_grammar.specs.Fits.{plain}
use Rattle.ui_grammar.specs.Statement.{SpellsCase, SpellsStmt, is_empty, FitsMaybeTrees, FitsStmt, FitsClauses, maybe_trees_depth, stmt_depth, clauses_depth}
use Rattle.ui_grammar.proofs.Frames.{framed_as}
use Rattle.ui_parse.specs.Reader.{Reader, and_then, refuse, take_by, marked, expect}
use Rattle.ui_parse.proofs.Outcomes.{Holds, good, bad, bind, choose, mark_holds, expect_holds}
use Rattle.ui_syntax.specs.Types.{add}
use Rattle.ui_syntax.proofs.ByBudget.{Begun}
use Rattle.ui_syntax.proofs.Begun.{short_mark, short_then, begun_as, behind_none, before, behind_word}
use Rattle.ui_syntax.proofs.Runs.{lead_next, lead_same, lead_whole, lead_begun}
use Rattle.ui_stmts.specs.Common.{Sized, maybe, exprs}
use Rattle.ui_stmts.specs.Stmts.{NestedStmt, Open, Body, no_clauses, with_open, open_clause, add_stmt, behind_clause_stmt, clause_stmt, default_clause, one_clause_part, clauses_from, clauses}
use Rattle.ui_stmts.proofs.ByBudget.{IsStmtRead, whole, any, AreStmtsSound}
use Rattle.ui_stmts.proofs.SoundLists.{MaybeRead, short_exprs, exprs_spelled, exprs_holds}
use Rattle.ui_stmts.proofs.SoundBraces.{stmts_fit, stmts_deep, ends_semi, ends_brace, frame_length, frame_semi, stmt_begun, stmt_alone, maybe_stmt_holds}
use Rattle.ui_stmts.proofs.SoundClauses.{Clauses_to, Inside_to, and_inside, inside_and, in_front, inside_of, all_in_front, front_append, FitsOpen, AllFit, front_fits, front_depth, fit_append, depth_append, ClausesForm, GoodInside, InsideForm, ClausesRead, last_inside, CaseForm, case_clauses, case_form, BodyFits, BodyAt, BodyRead, at_first, clause_fault, stuck, ended_at, opened_at}
use Rattle.ui_grammar.proofs.FramesStmt.{frame_stmt, frame_case}

fits_last : (cs : List Open) (c : Open) → AllFit (cs ++ (c ∷ [])) → AllFit cs × FitsOpen c
fits_last [] c h = (tt, h.0)
fits_last (d ∷ cs) c h = let g = fits_last cs c h.1 in ((h.0, g.0), g.1)

abbrev body_of : List Open → Open → ℕ → Body
body_of cs c k = record { closed = cs; open_one = Some c; depth = k }

abbrev with_stmt : Open → Stmt → Open
with_stmt c s = record { spot = c.spot; values = c.values; stmts = add c.stmts s 0 }

module _ (room : ℕ) (inner : NestedStmt) (sound : AreStmtsSound room inner) (ts : List Word) where
  abbrev Found : Body → List Word → Type 0
  Found = BodyRead room ts

  abbrev Fault : List Word → Type 0
  Fault = Begun (ClausesForm room) ts

  -- ---- in an open clause

  module _ (cs : List Open) (c : Open) (k : ℕ) (ws : List Word) (j : BodyAt room ts (body_of cs c k) ws) where
    last : AllFit cs × FitsOpen c
    last = fits_last cs c j.fit.fits

    added_fits : (s : Stmt) (d : ℕ) → FitsStmt s plain → stmt_depth s ≡ d → d ≤ room → BodyFits room (add_stmt (body_of cs c k) s d)
    added_fits s d fits sized shallow = record {
      fits = fit_append cs (with_stmt c s) last.0 (last.1.0, stmts_fit c.stmts.items (s ∷ []) last.1.1 (fits, tt));
      sized = omega (arith, depth_append cs (with_stmt c s), depth_append cs c, stmts_deep c.stmts.items (s ∷ []), j.fit.sized, sized);
      shallow = omega (arith, j.fit.shallow, shallow);
    }

    inside_fault : (rest : List Word) → Begun (InsideForm room) ws rest → Fault rest
    inside_fault rest g = lead_begun {S = Inside_to} {Ok1 = GoodInside room} (inside_of cs c) ts ws rest j.lead
        (λ x h. (
          front_fits cs (clause_and c.spot c.values (stmts (c.stmts.items ++ x.items)) x.others) last.0 (last.1.0, stmts_fit c.stmts.items x.items last.1.1 h.0, h.1),
          omega (arith, front_depth cs (clause_and c.spot c.values (stmts (c.stmts.items ++ x.items)) x.others), depth_append cs c, stmts_deep c.stmts.items x.items, j.fit.sized, j.fit.shallow, h.2, h.3),
        )) g

    added_at : (s : Stmt) (d : ℕ) (m rest : List Word) → SpellsStmt s ws m → Mark Semi m rest → FitsStmt s plain → stmt_depth s ≡ d → d ≤ room → BodyAt room ts (add_stmt (body_of cs c k) s d) rest
    added_at s d m rest h e fits sized shallow = record {
      lead = lead_same (λ x. inside_of cs c (and_inside s x)) (inside_of cs (with_stmt c s)) ts rest
          (lead_next {S = Inside_to} {S2 = Inside_to} (inside_of cs c) (and_inside s) ts ws rest j.lead (frame_semi s ws m rest h e) (λ x a v end g r. inside_and s x a g.0 v end g.1 (ends_semi (is_empty s) g.0 v g.2) r))
          (λ x. ap (λ (l : List Stmt). in_front cs (clause_and c.spot c.values (stmts l) x.others)) (sym (append_assoc c.stmts.items (s ∷ []) x.items)));
      fit = added_fits s d fits sized shallow;
    }

    -- the last, without a semicolon
    last_at : (s : Sized Stmt) (e : Spot) (m rest : List Word) → IsStmtRead whole any room ws s m → m ≡ mark RBrace e ∷ rest → Found (add_stmt (body_of cs c k) s.of s.depth) rest
    last_at s e m rest r is = record {
      spells = subst (λ (v : Clauses). Clauses_to v ts rest) (sym (all_in_front (cs ++ (with_stmt c s.of ∷ [])) ∙ front_append cs (with_stmt c s.of) clauses_end))
          (lead_whole {S = Inside_to} (inside_of cs c) ts ws rest (record { items = s.of ∷ []; others = clauses_end }) j.lead
          (m, m, (m, m, r.spells, ends_brace (is_empty s.of) m rest r.fits.words (record { spot = e; is = is }), refl), refl, record { spot = e; is = is }));
      fit = added_fits s.of s.depth r.fits.fits r.sized (omega (arith, r.sized, r.fits.shallow));
    }

    module _ (again : Body → Reader Body) (again_holds : (b : Body) (r : List Word) → length r < length ws → BodyAt room ts b r → Holds Found Fault (again b r)) where
      behind_holds : (o : Option (Sized Stmt)) (m : List Word) → 1 ≤ room → MaybeRead (IsStmtRead whole any room ws) ws o m → Holds Found Fault (behind_clause_stmt room inner again (body_of cs c k) o m)
      behind_holds None m le same = subst (λ (v : List Word). Holds Found Fault (behind_clause_stmt room inner again (body_of cs c k) None v)) same
          (mark_holds Semi _ refuse ws
          (λ x r e. again_holds (add_stmt (body_of cs c k) no_words 1) r (omega (arith, ap length e)) (added_at no_words 1 ws r refl (record { spot = x; is = e }) tt refl le))
          (λ _. bad (stuck room ts (body_of cs c k) ws j)))
      behind_holds (Some s) m le h = mark_holds Semi _ _ m
          (λ x r e. again_holds (add_stmt (body_of cs c k) s.of s.depth) r (omega (arith, frame_length (frame_stmt s.of ws m h.spells), ap length e))
          (added_at s.of s.depth m r h.spells (record { spot = x; is = e }) h.fits.fits h.sized (omega (arith, h.sized, h.fits.shallow))))
          (λ _. bind (expect_holds {Q = λ e r. m ≡ mark RBrace e ∷ r} {F = Fault} RBrace m (λ e r is. is) (λ _. inside_fault m (begun_as (stmt_alone room ws s m h) (last_inside room))))
          (λ e r is. good (last_at s e m r h is)) (λ r g. g))

      open_holds : Holds Found Fault (clause_stmt room inner again (body_of cs c k) ws)
      open_holds = choose (nat_le 1 room) (λ v. and_then (maybe inner.stmt v) (behind_clause_stmt room inner again (body_of cs c k))) refuse ws
          (λ le. bind (maybe_stmt_holds room inner sound ws) (λ o m h. behind_holds o m (leb-true _ _ le) h) (λ r g. inside_fault r (begun_as (stmt_begun room g) (last_inside room))))
          (λ _. bad (stuck room ts (body_of cs c k) ws j))

  -- ---- at a clause, or at a statement

  module _ (again : Body → Reader Body) (ws : List Word) (again_holds : (b : Body) (r : List Word) → length r < length ws → BodyAt room ts b r → Holds Found Fault (again b r)) where
    stmt_holds : (cs : List Open) (o : Option Open) (k : ℕ) → BodyAt room ts (record { closed = cs; open_one = o; depth = k }) ws → Holds Found Fault (clause_stmt room inner again (record { closed = cs; open_one = o; depth = k }) ws)
    stmt_holds cs None k j = bad (stuck room ts (record { closed = cs; open_one = None; depth = k }) ws j)
    stmt_holds cs (Some c) k j = open_holds cs c k ws j again again_holds

    module _ (b : Body) (j : BodyAt room ts b ws) where
      -- behind the values: a colon
      colon_holds : (s : Spot) (vs : MaybeTrees) (k : ℕ) (m : List Word) → SpellsCase s vs ws m → FitsMaybeTrees vs → maybe_trees_depth vs ≡ k → k ≤ room → Holds Found Fault (and_then (expect Colon m) (λ _. again (open_clause b s vs k)))
      colon_holds s vs k m h fits sized shallow =
          let case = frame_case s vs ws m h in
          bind (expect_holds {Q = λ e r. m ≡ mark Colon e ∷ r} {F = Fault} Colon m (λ e r is. is)
          (λ _. clause_fault room ts b ws m j (begun_as (behind_none (framed_as case (λ us rs g. record { spot = s; values = vs; spells = g; fits = fits; shallow = omega (arith, sized, shallow) })) (short_then (short_mark Colon) (short_mark RBrace))) (case_clauses room))))
          (λ e r is. again_holds (open_clause b s vs k) r (omega (arith, frame_length case, ap length is)) (opened_at room ts b s vs k ws m r j h (record { spot = e; is = is }) fits sized shallow))
          (λ r g. g)

      default_holds : Holds Found Fault (default_clause room inner again b ws)
      default_holds = mark_holds Default _ _ ws (λ s m e. colon_holds s no_trees 0 m e tt refl (omega arith)) (λ _. stmt_holds b.closed b.open_one b.depth j)

      case_holds : 1 ≤ room → (s : Spot) (m : List Word) → ws ≡ mark Case s ∷ m → Holds Found Fault (and_then (exprs room false m) (λ es. λ v. and_then (expect Colon v) (λ _. again (open_clause b s (given_trees (trees es.items)) es.depth))))
      case_holds le s m e = bind (exprs_holds false room m)
          (λ es r h. colon_holds s (given_trees (trees es.items)) es.depth r (m, e, exprs_spelled h) h.are.fits h.are.sized h.are.shallow)
          (λ r st. clause_fault room ts b ws r j (begun_as (before (subst (λ (v : List Word). Begun (CaseForm room) v r) (sym e) (begun_as (behind_word (mark Case s) (short_exprs plain room le) st) (case_form room s))) (short_then (short_mark Colon) (short_mark RBrace))) (case_clauses room)))

      part_holds : Holds Found Fault (one_clause_part room inner again b ws)
      part_holds = choose (nat_le 1 room) (take_by (marked Case) _ (default_clause room inner again b)) (default_clause room inner again b) ws
          (λ le. mark_holds Case _ (default_clause room inner again b) ws (λ s m e. case_holds (leb-true _ _ le) s m e) (λ _. default_holds))
          (λ _. default_holds)

  clauses_from_holds : (n : ℕ) (b : Body) (ws : List Word) → length ws < n → BodyAt room ts b ws → Holds Found Fault (clauses_from room inner n b ws)
  unfolding clauses_from
  clauses_from_holds zero b ws lt j = absurd (omega arith)
  clauses_from_holds (suc n) b ws lt j = mark_holds RBrace _ _ ws (λ x rest e. good (ended_at room ts b x ws rest j e))
      (λ _. part_holds (clauses_from room inner n) ws (λ b2 r less j2. clauses_from_holds n b2 r (omega (arith, less, lt)) j2) b j)

  pub clauses_holds : Holds (ClausesRead room ts) (Begun (ClausesForm room) ts) (clauses room inner ts)
  unfolding clauses
  clauses_holds = bind (clauses_from_holds (suc (length ts)) no_clauses ts (omega arith) (at_first room ts))
      (λ b rest h. good (record {
        spells = h.spells;
        fits = subst FitsClauses (sym (all_in_front (with_open b.closed b.open_one))) (front_fits (with_open b.closed b.open_one) clauses_end h.fit.fits tt);
        sized = ap clauses_depth (all_in_front (with_open b.closed b.open_one)) ∙ omega (arith, front_depth (with_open b.closed b.open_one) clauses_end, h.fit.sized);
        shallow = h.fit.shallow;
      }))
      (λ rest g. g)
