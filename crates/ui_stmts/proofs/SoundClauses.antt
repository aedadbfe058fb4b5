-- The clauses of a switch as they are read, where each statement is.
use Rattle.std.proofs.Common.{◌≡◌, ℕ, max, ◌≤◌, List, [], ◌∷◌, ◌++◌, Option, Some, None, refl, sym, ap, subst, ◌∙◌, arith}
use Rattle.std.proofs.lemmas.List.{append-nil}
use Rattle.ui_base.specs.declared.value.Spot.{Spot}
use Rattle.ui_scan.specs.declared.kind.TokenKind.TheVariants.{RBrace, Colon, Case}
use Rattle.ui_tree.specs.Stmt.{MaybeTrees, given_trees, Stmt, Clauses, clauses_end, clause_and}
use Rattle.ui_tree.specs.StmtView.{stmts}
use Rattle.ui_tree.specs.View.{trees}
use Rattle.ui_grammar.specs.Word.{Word, mark, Mark}
use Rattle.ui_grammar.specs.Fits.{plain}
use Rattle.ui_grammar.specs.Statement.{SpellsCase, SpellsStmt, SpellsStmts, SpellsClauses, EndsStmt, is_empty, FitsMaybeTrees, FitsStmts, FitsClauses, maybe_trees_depth, stmts_depth, clauses_depth}
use Rattle.ui_grammar.proofs.Frames.{Spelling, Then, next, frame_mark}
use Rattle.ui_syntax.specs.Types.{empty}
use Rattle.ui_syntax.proofs.ByBudget.{Begun}
use Rattle.ui_syntax.proofs.Begun.{Short, short_as, short_mark, Is, begun_none}
use Rattle.ui_syntax.proofs.Runs.{FormOf, Lead, lead_next, lead_as, lead_same, lead_whole, lead_begun}
use Rattle.ui_stmts.specs.Common.{Sized, sized}
use Rattle.ui_stmts.specs.Stmts.{Open, Body, no_clauses, with_open, clauses_of, open_clause}
use Rattle.ui_stmts.proofs.SoundLists.{ExprsForm}
use Rattle.ui_stmts.proofs.SoundBraces.{ends_semi, LastStmt}
use Rattle.ui_grammar.proofs.FramesStmt.{frame_case}

-- ---- what goes on: clauses, or statements of one that is open

abbrev pub Clauses_to : Clauses → Spelling
Clauses_to cs ts rest = (g : List Word) × SpellsClauses cs ts g × Mark RBrace g rest

pub record Inside : Type 0 where
  pub items : List Stmt
  pub others : Clauses

abbrev pub Inside_to : Inside → Spelling
Inside_to x ts rest = (m g : List Word) × SpellsStmts (stmts x.items) ts m × SpellsClauses x.others m g × Mark RBrace g rest

abbrev pub and_inside : Stmt → Inside → Inside
and_inside s x = record { items = s ∷ x.items; others = x.others }

pub inside_and : (s : Stmt) (x : Inside) (a m k rest : List Word) → SpellsStmt s a m → EndsStmt (is_empty s) m k → Inside_to x k rest → Inside_to (and_inside s x) a rest
inside_and s x a m k rest h e g = (g.0, g.1, (m, k, h, e, g.2), g.3, g.4)

-- clauses that were read stand before others
abbrev pub in_front : List Open → Clauses → Clauses
in_front [] others = others
in_front (c ∷ cs) others = clause_and c.spot c.values (stmts c.stmts.items) (in_front cs others)

abbrev pub inside_of : List Open → Open → Inside → Clauses
inside_of cs c x = in_front cs (clause_and c.spot c.values (stmts (c.stmts.items ++ x.items)) x.others)

pub all_in_front : (cs : List Open) → clauses_of cs ≡ in_front cs clauses_end
all_in_front [] = refl
all_in_front (c ∷ cs) = ap (λ (v : Clauses). clause_and c.spot c.values (stmts c.stmts.items) v) (all_in_front cs)

pub front_append : (cs : List Open) (c : Open) (others : Clauses) → in_front (cs ++ (c ∷ [])) others ≡ in_front cs (clause_and c.spot c.values (stmts c.stmts.items) others)
front_append [] c others = refl
front_append (d ∷ cs) c others = ap (λ (v : Clauses). clause_and d.spot d.values (stmts d.stmts.items) v) (front_append cs c others)

-- ---- their places and depths

abbrev pub FitsOpen : Open → Type 0
FitsOpen c = FitsMaybeTrees c.values × FitsStmts (stmts c.stmts.items)

abbrev pub open_depth : Open → ℕ
open_depth c = max (maybe_trees_depth c.values) (stmts_depth (stmts c.stmts.items))

abbrev pub AllFit : List Open → Type 0
AllFit [] = Unit {0}
AllFit (c ∷ cs) = FitsOpen c × AllFit cs

abbrev pub all_depth : List Open → ℕ
all_depth [] = 0
all_depth (c ∷ cs) = max (open_depth c) (all_depth cs)

pub front_fits : (cs : List Open) (others : Clauses) → AllFit cs → FitsClauses others → FitsClauses (in_front cs others)
front_fits [] others h g = g
front_fits (c ∷ cs) others h g = (h.0.0, h.0.1, front_fits cs others h.1 g)

pub front_depth : (cs : List Open) (others : Clauses) → clauses_depth (in_front cs others) ≡ max (all_depth cs) (clauses_depth others)
front_depth [] others = omega arith
front_depth (c ∷ cs) others = omega (arith, front_depth cs others)

pub fit_append : (cs : List Open) (c : Open) → AllFit cs → FitsOpen c → AllFit (cs ++ (c ∷ []))
fit_append [] c h g = (g, tt)
fit_append (d ∷ cs) c h g = (h.0, fit_append cs c h.1 g)

pub depth_append : (cs : List Open) (c : Open) → all_depth (cs ++ (c ∷ [])) ≡ max (all_depth cs) (open_depth c)
depth_append [] c = omega arith
depth_append (d ∷ cs) c = omega (arith, depth_append cs c)

module _ (room : ℕ) where
  abbrev pub GoodClauses : Clauses → Type 0
  GoodClauses cs = FitsClauses cs × clauses_depth cs ≤ room

  abbrev pub ClausesForm : Spelling
  ClausesForm = FormOf Clauses_to GoodClauses

  abbrev pub GoodInside : Inside → Type 0
  GoodInside x = FitsStmts (stmts x.items) × FitsClauses x.others × stmts_depth (stmts x.items) ≤ room × clauses_depth x.others ≤ room

  abbrev pub InsideForm : Spelling
  InsideForm = FormOf Inside_to GoodInside

  pub record ClausesRead (ts : List Word) (cs : Sized Clauses) (rest : List Word) : Type 0 where
    pub spells : Clauses_to cs.of ts rest
    pub fits : FitsClauses cs.of
    pub sized : clauses_depth cs.of ≡ cs.depth
    pub shallow : cs.depth ≤ room

  pub short_clauses : Short ClausesForm
  short_clauses = short_as (short_mark RBrace) (λ us ws m. record { all = clauses_end; spells = (us, refl, m); ok = (tt, omega arith) })

  short_inside : Short InsideForm
  short_inside = short_as (short_mark RBrace) (λ us ws m. record { all = record { items = []; others = clauses_end }; spells = (us, us, refl, refl, m); ok = (tt, tt, omega arith, omega arith) })

  pub last_inside : (us ws : List Word) → LastStmt room us ws → InsideForm us ws
  last_inside us ws h = let s = h.1 in record {
    all = record { items = s.tree ∷ []; others = clauses_end };
    spells = (h.2.0, h.2.0, (h.0, h.2.0, s.spells, ends_semi (is_empty s.tree) h.0 h.2.0 h.2.1, refl), refl, h.2.2);
    ok = ((s.fits.fits, tt), tt, omega (arith, s.fits.shallow), omega arith);
  }

  -- `case` with its values, or `default`
  pub record CaseForm (ts rest : List Word) : Type 0 where
    pub spot : Spot
    pub values : MaybeTrees
    pub spells : SpellsCase spot values ts rest
    pub fits : FitsMaybeTrees values
    pub shallow : maybe_trees_depth values ≤ room

  pub case_clauses : (us ws : List Word) → Then CaseForm (Then (Mark Colon) (Mark RBrace)) us ws → ClausesForm us ws
  case_clauses us ws h = let c = h.1 in record {
    all = clause_and c.spot c.values (stmts []) clauses_end;
    spells = (h.2.0, (h.0, h.2.0, h.2.0, c.spells, h.2.1, refl, refl), h.2.2);
    ok = ((c.fits, tt, tt), omega (arith, c.shallow));
  }

  pub case_form : (s : Spot) (us ws : List Word) → Then (Is (mark Case s)) (ExprsForm plain room) us ws → CaseForm us ws
  case_form s us ws h = let es = h.2 in record { spot = s; values = given_trees (trees es.all); spells = (h.0, h.1, es.spells); fits = es.ok.0; shallow = es.ok.1 }

  pub record BodyFits (b : Body) : Type 0 where
    pub fits : AllFit (with_open b.closed b.open_one)
    pub sized : all_depth (with_open b.closed b.open_one) ≡ b.depth
    pub shallow : b.depth ≤ room

  module _ (ts : List Word) where
    abbrev pub Leads : List Open → Option Open → List Word → Type 0
    Leads cs None ws = Lead Clauses_to Clauses_to (in_front cs) ts ws
    Leads cs (Some c) ws = Lead Inside_to Clauses_to (inside_of cs c) ts ws

    pub record BodyAt (b : Body) (ws : List Word) : Type 0 where
      pub lead : Leads b.closed b.open_one ws
      pub fit : BodyFits b

    pub record BodyRead (b : Body) (rest : List Word) : Type 0 where
      pub spells : Clauses_to (clauses_of (with_open b.closed b.open_one)) ts rest
      pub fit : BodyFits b

    pub at_first : BodyAt no_clauses ts
    at_first = record { lead = record { front = []; parts = refl; again = λ x k rest h. h }; fit = record { fits = tt; sized = refl; shallow = omega arith } }

    -- a further clause may follow
    closed_lead : (cs : List Open) (o : Option Open) (ws : List Word) → Leads cs o ws → Lead Clauses_to Clauses_to (in_front (with_open cs o)) ts ws
    closed_lead cs None ws lead = lead
    closed_lead cs (Some c) ws lead = lead_same (λ v. inside_of cs c (record { items = []; others = v })) (in_front (cs ++ (c ∷ []))) ts ws
        (lead_as {S = Inside_to} {S2 = Clauses_to} (inside_of cs c) (λ v. record { items = []; others = v }) ts ws lead (λ v k rest h. (k, h.0, refl, h.1, h.2)))
        (λ v. ap (λ (l : List Stmt). in_front cs (clause_and c.spot c.values (stmts l) v)) (append-nil c.stmts.items) ∙ sym (front_append cs c v))

    pub clause_fault : (b : Body) (ws rest : List Word) → BodyAt b ws → Begun ClausesForm ws rest → Begun ClausesForm ts rest
    clause_fault b ws rest j g = lead_begun {S = Clauses_to} {Ok1 = GoodClauses} (in_front (with_open b.closed b.open_one)) ts ws rest (closed_lead b.closed b.open_one ws j.lead)
        (λ v h. (front_fits (with_open b.closed b.open_one) v j.fit.fits h.0, omega (arith, front_depth (with_open b.closed b.open_one) v, j.fit.sized, j.fit.shallow, h.1))) g

    pub stuck : (b : Body) (ws : List Word) → BodyAt b ws → Begun ClausesForm ts ws
    stuck b ws j = clause_fault b ws ws j (begun_none ws short_clauses)

    pub ended_at : (b : Body) (x : Spot) (ws rest : List Word) → BodyAt b ws → ws ≡ mark RBrace x ∷ rest → BodyRead b rest
    ended_at b x ws rest j e = record {
      spells = subst (λ (v : Clauses). Clauses_to v ts rest) (sym (all_in_front (with_open b.closed b.open_one)))
          (lead_whole {S = Clauses_to} (in_front (with_open b.closed b.open_one)) ts ws rest clauses_end (closed_lead b.closed b.open_one ws j.lead) (ws, refl, record { spot = x; is = e }));
      fit = j.fit;
    }

    pub opened_at : (b : Body) (s : Spot) (vs : MaybeTrees) (k : ℕ) (ws m rest : List Word) → BodyAt b ws → SpellsCase s vs ws m → Mark Colon m rest → FitsMaybeTrees vs → maybe_trees_depth vs ≡ k → k ≤ room → BodyAt (open_clause b s vs k) rest
    opened_at b s vs k ws m rest j c e fits sized shallow =
        let cs = with_open b.closed b.open_one in
        record {
          lead = lead_next {S = Clauses_to} {S2 = Inside_to} (in_front cs) (λ x. clause_and s vs (stmts x.items) x.others) ts ws rest (closed_lead b.closed b.open_one ws j.lead)
              (next (frame_case s vs ws m c) (frame_mark Colon m rest e)) (λ x a v end g h. (h.1, (g.0, v, h.0, g.1, g.2, h.2, h.3), h.4));
          fit = record {
            fits = fit_append cs (record { spot = s; values = vs; stmts = empty }) j.fit.fits (fits, tt);
            sized = omega (arith, depth_append cs (record { spot = s; values = vs; stmts = empty }), j.fit.sized, sized);
            shallow = omega (arith, j.fit.shallow, shallow);
          };
        }
