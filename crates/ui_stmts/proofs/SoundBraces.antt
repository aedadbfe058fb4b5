-- Statements in braces as they are read, where each statement is.
use Rattle.std.proofs.Common.{◌≡◌, inl, inr, ℕ, zero, suc, max, ◌<◌, ◌≤◌, Bool, true, false, List, [], ◌∷◌, ◌++◌, length, Option, Some, None, refl, sym, ap, subst, append_assoc, arith}
use Rattle.std.specs.Prelude.{nat_le}
use Rattle.std.proofs.lemmas.Bool.{leb-true}
use Rattle.std.proofs.lemmas.List.{append-nil, length-append}
use Rattle.ui_base.specs.declared.value.Spot.{Spot}
use Rattle.ui_scan.specs.declared.kind.TokenKind.TheVariants.{LBrace, RBrace, Semi}
use Rattle.ui_tree.specs.Stmt.{Stmt, empty as no_words, Braces, braces, stmts_end}
use Rattle.ui_tree.specs.StmtView.{stmts}
use Rattle.ui_grammar.specs.Word.{Word, mark, Mark}
use Rattle.ui_grammar.specs.Statement.{SpellsStmt, SpellsBraces, SpellsStmts, EndsStmt, is_empty, FitsStmts, FitsBraces, stmts_depth, braces_depth}
use Rattle.ui_grammar.proofs.Frames.{Spelling, Framed, Then, framed_as, next, frame_mark}
use Rattle.ui_parse.specs.Reader.{Reader, and_then, refuse}
use Rattle.ui_parse.proofs.Outcomes.{Holds, good, bad, bind, mono, choose, mark_holds, expect_holds}
use Rattle.ui_syntax.specs.Types.{Listed, add, empty}
use Rattle.ui_syntax.proofs.ByBudget.{Begun, Stops}
use Rattle.ui_syntax.proofs.Begun.{Short, short_as, short_mark, short_then, no_spot, Is, begun_as, begun_none, behind, behind_none, before, frame_word}
use Rattle.ui_syntax.proofs.Runs.{FormOf, Lead, lead_next, lead_same, lead_whole, lead_begun}
use Rattle.ui_stmts.specs.Common.{Sized, maybe}
use Rattle.ui_stmts.specs.Stmts.{NestedStmt, Ended, ended, behind_stmt, one_stmt, body_from, body, a_body}
use Rattle.ui_stmts.proofs.ByBudget.{StmtForm, IsStmtRead, whole, any, AreStmtsSound}
use Rattle.ui_stmts.proofs.SoundLists.{MaybeRead, maybe_holds}
use Rattle.ui_grammar.proofs.FramesStmt.{frame_stmt}

-- ---- lists of statements

pub stmts_fit : (ss us : List Stmt) → FitsStmts (stmts ss) → FitsStmts (stmts us) → FitsStmts (stmts (ss ++ us))
stmts_fit [] us h g = g
stmts_fit (s ∷ ss) us h g = (h.0, stmts_fit ss us h.1 g)

pub stmts_deep : (ss us : List Stmt) → stmts_depth (stmts (ss ++ us)) ≡ max (stmts_depth (stmts ss)) (stmts_depth (stmts us))
stmts_deep [] us = omega arith
stmts_deep (s ∷ ss) us = omega (arith, stmts_deep ss us)

pub ends_semi : (b : Bool) (ts rest : List Word) → Mark Semi ts rest → EndsStmt b ts rest
ends_semi true ts rest m = m
ends_semi false ts rest m = inl m

pub ends_brace : (b : Bool) (ts : List Word) (a : List Word) → b ≡ false → Mark RBrace ts a → EndsStmt b ts ts
ends_brace true ts a e m = absurd cc
ends_brace false ts a e m = inr (refl, (a, m))

pub frame_length : {R : Spelling} {ts m : List Word} → Framed R ts m → length m ≤ length ts
frame_length {m = m} f = omega (arith, ap length f.parts, length-append f.front m)

-- a statement with its semicolon
pub frame_semi : (t : Stmt) (ts m rest : List Word) → SpellsStmt t ts m → Mark Semi m rest → Framed (Then (SpellsStmt t) (Mark Semi)) ts rest
frame_semi t ts m rest s e = next (frame_stmt t ts m s) (frame_mark Semi m rest e)

-- ---- what is behind the brace

pub record Rest : Type 0 where
  pub items : List Stmt
  pub close : Spot

abbrev pub Rest_of : Rest → Spelling
Rest_of x ts rest = (b : List Word) × SpellsStmts (stmts x.items) ts b × (b ≡ mark RBrace x.close ∷ rest)

abbrev pub and_rest : Stmt → Rest → Rest
and_rest s x = record { items = s ∷ x.items; close = x.close }

rest_and : (s : Stmt) (x : Rest) (a m k rest : List Word) → SpellsStmt s a m → EndsStmt (is_empty s) m k → Rest_of x k rest → Rest_of (and_rest s x) a rest
rest_and s x a m k rest h e g = (g.0, (m, k, h, e, g.1), g.2)

module _ (room : ℕ) where
  abbrev pub GoodRest : Rest → Type 0
  GoodRest x = FitsStmts (stmts x.items) × stmts_depth (stmts x.items) ≤ room

  abbrev pub RestForm : Spelling
  RestForm = FormOf Rest_of GoodRest

  pub record StmtsFit (l : Listed Stmt) : Type 0 where
    pub fits : FitsStmts (stmts l.items)
    pub sized : stmts_depth (stmts l.items) ≡ l.depth
    pub shallow : l.depth ≤ room

  no_stmts_fit : StmtsFit empty
  no_stmts_fit = record { fits = tt; sized = refl; shallow = omega arith }

  empty_fits : (l : Listed Stmt) → 1 ≤ room → StmtsFit l → StmtsFit (add l no_words 1)
  empty_fits l le f = record { fits = stmts_fit l.items (no_words ∷ []) f.fits (tt, tt); sized = omega (arith, stmts_deep l.items (no_words ∷ []), f.sized); shallow = omega (arith, f.shallow, le) }

  one_fits : (l : Listed Stmt) (ts : List Word) (s : Sized Stmt) (rest : List Word) → StmtsFit l → IsStmtRead whole any room ts s rest → StmtsFit (add l s.of s.depth)
  one_fits l ts s rest f r = record {
    fits = stmts_fit l.items (s.of ∷ []) f.fits (r.fits.fits, tt);
    sized = omega (arith, stmts_deep l.items (s.of ∷ []), f.sized, r.sized);
    shallow = omega (arith, f.shallow, r.sized, r.fits.shallow);
  }

  short_rest : Short RestForm
  short_rest = short_as (short_mark RBrace) (λ us ws m. record { all = record { items = []; close = m.spot }; spells = (us, refl, m.is); ok = (tt, omega arith) })

  -- a statement, its semicolon and the brace
  abbrev pub LastStmt : Spelling
  LastStmt = Then (StmtForm whole any room) (Then (Mark Semi) (Mark RBrace))

  last_rest : (us ws : List Word) → LastStmt us ws → RestForm us ws
  last_rest us ws h = let s = h.1 in let m = h.2.2 in record {
    all = record { items = s.tree ∷ []; close = m.spot };
    spells = (h.2.0, (h.0, h.2.0, s.spells, ends_semi (is_empty s.tree) h.0 h.2.0 h.2.1, refl), m.is);
    ok = ((s.fits.fits, tt), omega (arith, s.fits.shallow));
  }

  pub stmt_begun : {ts rest : List Word} → Begun (StmtForm whole any room) ts rest → Begun LastStmt ts rest
  stmt_begun g = before g (short_then (short_mark Semi) (short_mark RBrace))

  pub stmt_alone : (ts : List Word) (s : Sized Stmt) (rest : List Word) → IsStmtRead whole any room ts s rest → Begun LastStmt ts rest
  stmt_alone ts s rest r = behind_none (framed_as (frame_stmt s.of ts rest r.spells) (λ us ws h. record { tree = s.of; spells = h; fits = r.fits; also = tt })) (short_then (short_mark Semi) (short_mark RBrace))

  pub record BracesForm (ts rest : List Word) : Type 0 where
    pub of : Braces
    pub spells : SpellsBraces of ts rest
    pub fits : FitsBraces of
    pub shallow : braces_depth of ≤ room

  pub record BracesRead (ts : List Word) (b : Sized Braces) (rest : List Word) : Type 0 where
    pub spells : SpellsBraces b.of ts rest
    pub fits : FitsBraces b.of
    pub sized : braces_depth b.of ≡ b.depth
    pub shallow : b.depth ≤ room

  pub short_braces : Short BracesForm
  short_braces = record { words = mark LBrace no_spot ∷ (mark RBrace no_spot ∷ []); spells = λ k. record { of = braces no_spot stmts_end no_spot; spells = (mark RBrace no_spot ∷ k, mark RBrace no_spot ∷ k, refl, refl, refl); fits = tt; shallow = omega arith } }

  braces_form : (s : Spot) (us ws : List Word) → Then (Is (mark LBrace s)) RestForm us ws → BracesForm us ws
  braces_form s us ws h = let x = h.2 in record { of = braces s (stmts x.all.items) x.all.close; spells = (h.0, x.spells.0, h.1, x.spells.1, x.spells.2); fits = x.ok.0; shallow = x.ok.1 }

  module _ (inner : NestedStmt) (sound : AreStmtsSound room inner) where
    pub maybe_stmt_holds : (ts : List Word) → Holds (MaybeRead (IsStmtRead whole any room ts) ts) (Begun (StmtForm whole any room) ts) (maybe inner.stmt ts)
    maybe_stmt_holds ts = maybe_holds inner.stmt ts (λ r s. s) (sound.stmt ts)

    module _ (ts : List Word) where
      record StmtsAt (l : Listed Stmt) (ws : List Word) : Type 0 where
        lead : Lead Rest_of Rest_of (λ x. record { items = l.items ++ x.items; close = x.close }) ts ws
        fit : StmtsFit l

      record AllRead (e : Ended room inner) (rest : List Word) : Type 0 where
        spells : Rest_of (record { items = e.all.items; close = e.close }) ts rest
        fit : StmtsFit e.all

      at_first : StmtsAt empty ts
      at_first = record { lead = record { front = []; parts = refl; again = λ x k rest h. h }; fit = no_stmts_fit }

      next_stmt_at : (l : Listed Stmt) (s : Stmt) (k : ℕ) (ws m rest : List Word) → StmtsAt l ws → SpellsStmt s ws m → Mark Semi m rest → StmtsFit (add l s k) → StmtsAt (add l s k) rest
      next_stmt_at l s k ws m rest j h e fit = record {
        lead = lead_same (λ x. record { items = l.items ++ (s ∷ x.items); close = x.close }) (λ x. record { items = (l.items ++ (s ∷ [])) ++ x.items; close = x.close }) ts rest
            (lead_next (λ x. record { items = l.items ++ x.items; close = x.close }) (and_rest s) ts ws rest j.lead (frame_semi s ws m rest h e) (λ x a v end g r. rest_and s x a g.0 v end g.1 (ends_semi (is_empty s) g.0 v g.2) r))
            (λ x. ap (λ (v : List Stmt). record { items = v; close = x.close }) (sym (append_assoc l.items (s ∷ []) x.items)));
        fit = fit;
      }

      fault : (l : Listed Stmt) (ws rest : List Word) → StmtsAt l ws → Begun RestForm ws rest → Begun RestForm ts rest
      fault l ws rest j g = lead_begun {S = Rest_of} {Ok1 = GoodRest} (λ x. record { items = l.items ++ x.items; close = x.close }) ts ws rest j.lead
          (λ x h. (stmts_fit l.items x.items j.fit.fits h.0, omega (arith, stmts_deep l.items x.items, j.fit.sized, j.fit.shallow, h.1))) g

      stuck : (l : Listed Stmt) (ws : List Word) → StmtsAt l ws → Begun RestForm ts ws
      stuck l ws j = fault l ws ws j (begun_none ws short_rest)

      closed : (l : Listed Stmt) (e : Spot) (ws rest : List Word) → StmtsAt l ws → ws ≡ mark RBrace e ∷ rest → AllRead (ended room inner l e) rest
      closed l e ws rest j is = record {
        spells = subst (λ (v : List Stmt). Rest_of (record { items = v; close = e }) ts rest) (append-nil l.items) (lead_whole {S = Rest_of} (λ x. record { items = l.items ++ x.items; close = x.close }) ts ws rest (record { items = []; close = e }) j.lead (ws, refl, is));
        fit = j.fit;
      }

      -- the last, without a semicolon
      closed_last : (l : Listed Stmt) (s : Sized Stmt) (e : Spot) (ws m rest : List Word) → StmtsAt l ws → IsStmtRead whole any room ws s m → m ≡ mark RBrace e ∷ rest → AllRead (ended room inner (add l s.of s.depth) e) rest
      closed_last l s e ws m rest j r is = record {
        spells = lead_whole {S = Rest_of} (λ x. record { items = l.items ++ x.items; close = x.close }) ts ws rest (record { items = s.of ∷ []; close = e }) j.lead
            (m, (m, m, r.spells, ends_brace (is_empty s.of) m rest r.fits.words (record { spot = e; is = is }), refl), is);
        fit = one_fits l ws s m j.fit r;
      }

      module _ (again : Listed Stmt → Reader (Ended room inner)) (l : Listed Stmt) (ws : List Word) (j : StmtsAt l ws) (again_holds : (l2 : Listed Stmt) (r : List Word) → length r < length ws → StmtsAt l2 r → Holds AllRead (Begun RestForm ts) (again l2 r)) where
        behind_holds : (o : Option (Sized Stmt)) (m : List Word) → 1 ≤ room → MaybeRead (IsStmtRead whole any room ws) ws o m → Holds AllRead (Begun RestForm ts) (behind_stmt room inner again l o m)
        behind_holds None m le same = subst (λ (v : List Word). Holds AllRead (Begun RestForm ts) (behind_stmt room inner again l None v)) same
            (mark_holds Semi _ refuse ws
            (λ x r e. again_holds (add l no_words 1) r (omega (arith, ap length e)) (next_stmt_at l no_words 1 ws ws r j refl (record { spot = x; is = e }) (empty_fits l le j.fit)))
            (λ _. bad (stuck l ws j)))
        behind_holds (Some s) m le h = mark_holds Semi _ _ m
            (λ x r e. again_holds (add l s.of s.depth) r (omega (arith, frame_length (frame_stmt s.of ws m h.spells), ap length e)) (next_stmt_at l s.of s.depth ws m r j h.spells (record { spot = x; is = e }) (one_fits l ws s m j.fit h)))
            (λ _. bind (expect_holds {Q = λ e r. m ≡ mark RBrace e ∷ r} {F = Begun RestForm ts} RBrace m (λ e r is. is) (λ _. fault l ws m j (begun_as (stmt_alone ws s m h) last_rest)))
            (λ e r is. good (closed_last l s e ws m r j h is)) (λ r g. g))

        one_stmt_holds : Holds AllRead (Begun RestForm ts) (one_stmt room inner again l ws)
        one_stmt_holds = choose (nat_le 1 room) (λ v. and_then (maybe inner.stmt v) (behind_stmt room inner again l)) refuse ws
            (λ le. bind (maybe_stmt_holds ws) (λ o m h. behind_holds o m (leb-true _ _ le) h) (λ r g. fault l ws r j (begun_as (stmt_begun g) last_rest)))
            (λ _. bad (stuck l ws j))

      body_from_holds : (n : ℕ) (l : Listed Stmt) (ws : List Word) → length ws < n → StmtsAt l ws → Holds AllRead (Begun RestForm ts) (body_from room inner n l ws)
      unfolding body_from
      body_from_holds zero l ws lt j = absurd (omega arith)
      body_from_holds (suc n) l ws lt j = mark_holds RBrace _ _ ws (λ e rest is. good (closed l e ws rest j is))
          (λ _. one_stmt_holds (body_from room inner n) l ws j (λ l2 r less j2. body_from_holds n l2 r (omega (arith, less, lt)) j2))

    pub body_behind : (s : Spot) (ws : List Word) → Holds (BracesRead (mark LBrace s ∷ ws)) (Begun RestForm ws) (body room inner s ws)
    unfolding body
    body_behind s ws = bind (body_from_holds ws (suc (length ws)) empty ws (omega arith) (at_first ws))
        (λ e rest h. good (record { spells = (ws, h.spells.0, refl, h.spells.1, h.spells.2); fits = h.fit.fits; sized = h.fit.sized; shallow = h.fit.shallow }))
        (λ rest g. g)

    pub body_holds : (s : Spot) (ws : List Word) → Holds (BracesRead (mark LBrace s ∷ ws)) (Begun BracesForm (mark LBrace s ∷ ws)) (body room inner s ws)
    body_holds s ws = mono (body_behind s ws) (λ b r h. h) (λ r g. begun_as (behind (frame_word (mark LBrace s) ws) g) (braces_form s))

    pub a_body_holds : (ts : List Word) → Holds (BracesRead ts) (Stops BracesForm ts) (a_body room inner ts)
    unfolding a_body
    a_body_holds ts = bind (expect_holds {Q = λ s r. ts ≡ mark LBrace s ∷ r} {F = Stops BracesForm ts} LBrace ts (λ s r e. e) (λ _. inl refl))
        (λ s ws e. subst (λ (v : List Word). Holds (BracesRead v) (Stops BracesForm v) (body room inner s ws)) (sym e) (mono (body_holds s ws) (λ b r h. h) (λ r g. inr g)))
        (λ r st. st)
