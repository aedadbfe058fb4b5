-- `for` as it is read, behind the keyword.
use Rattle.std.proofs.Common.{◌≡◌, inl, inr, ℕ, suc, ◌≤◌, true, List, [], ◌∷◌, Option, Some, None, refl, sym, subst, arith}
use Rattle.std.specs.Prelude.{nat_le}
use Rattle.std.proofs.lemmas.Bool.{leb-true}
use Rattle.ui_base.specs.declared.value.Spot.{Spot}
use Rattle.ui_scan.specs.declared.kind.TokenKind.TheVariants.{LBrace, Semi, For, Range}
use Rattle.ui_tree.specs.Tree.{Tree}
use Rattle.ui_tree.specs.Stmt.{Places, no_places, Stmt, alone, empty as no_words, loop, while_true, counting, ranging}
use Rattle.ui_grammar.specs.Word.{Word, mark, Mark}
use Rattle.ui_grammar.specs.Fits.{in_header}
use Rattle.ui_grammar.specs.Statement.{SpellsStmt, SpellsBraces, is_simple, FitsStmt, stmt_depth}
use Rattle.ui_grammar.proofs.Frames.{Spelling, Framed, Then, framed_as, next, frame_mark}
use Rattle.ui_parse.specs.Reader.{and_then, pure, refuse, take_by, marked}
use Rattle.ui_parse.proofs.Outcomes.{Holds, good, bad, bind, choose, mark_holds, expect_holds}
use Rattle.ui_syntax.specs.Cover.{Read}
use Rattle.ui_syntax.specs.Read.{expr}
use Rattle.ui_syntax.proofs.ByBudget.{Begun}
use Rattle.ui_syntax.proofs.Begun.{Short, short_then, short_mark, begun_as, begun_none, begun_stops, behind, behind_none, before}
use Rattle.ui_syntax.proofs.SoundExprsTrees.{IsPart}
use Rattle.ui_stmts.specs.Common.{Sized, sized}
use Rattle.ui_stmts.specs.Simple.{Head, expression, statement, range_over, maybe_simple}
use Rattle.ui_stmts.specs.Stmts.{NestedStmt, maybe_tree, tree_depth, or_empty, a_body, body, counting_of, counted, ranged, while_of, for_behind, for_header, for_stmt}
use Rattle.ui_stmts.proofs.ByBudget.{StmtForm, IsStmtRead, any, AreStmtsSound}
use Rattle.ui_stmts.proofs.SoundLists.{MaybeRead, maybe_holds, expr_holds, short_part, frame_part}
use Rattle.ui_stmts.proofs.SoundHeads.{SimpleForm, SimpleRead, RangeForm, RangeRead, HeadRead, HeadFault}
use Rattle.ui_stmts.proofs.SoundSimple.{head_holds, maybe_simple_holds}
use Rattle.ui_stmts.proofs.SoundBraces.{BracesForm, short_braces, body_holds, a_body_holds}
use Rattle.ui_stmts.proofs.SoundHeaders.{CondForm, SemiForm, SemiRead, semi_read, alone_read, nothing_read, frame_semi_read, semi_begun, semi_missing, MaybeCondForm, cond_maybe, short_no_cond, CondRead, cond_read, frame_cond}
use Rattle.ui_grammar.proofs.FramesStmt.{frame_stmt, frame_places}

abbrev pub behind_for : Spot → List Word → List Word
behind_for s ts = mark For s ∷ ts

module _ (room : ℕ) where
  -- ---- the forms

  abbrev ForForm : Spot → Spelling
  ForForm s = StmtForm (behind_for s) any (suc room)

  loop_form : (s : Spot) (us ws : List Word) → BracesForm room us ws → ForForm s us ws
  loop_form s us ws b = record { tree = loop s b.of; spells = (us, refl, b.spells); fits = record { fits = b.fits; words = refl; shallow = omega (arith, b.shallow) }; also = tt }

  while_form : (s : Spot) (us ws : List Word) → Then (CondForm room) (BracesForm room) us ws → ForForm s us ws
  while_form s us ws h = let c = h.1 in let b = h.2 in record {
    tree = while_true s c.tree b.of;
    spells = (us, h.0, refl, c.spells, b.spells);
    fits = record { fits = (c.fits, b.fits); words = refl; shallow = omega (arith, c.shallow, b.shallow) };
    also = tt;
  }

  -- a simple statement, with words or without
  record PostForm (ts rest : List Word) : Type 0 where
    of : Stmt
    spells : SpellsStmt of ts rest
    simple : is_simple of ≡ true
    fits : FitsStmt of in_header
    shallow : stmt_depth of ≤ room

  record PostRead (ts : List Word) (s : Sized Stmt) (rest : List Word) : Type 0 where
    spells : SpellsStmt s.of ts rest
    simple : is_simple s.of ≡ true
    fits : FitsStmt s.of in_header
    sized : stmt_depth s.of ≡ s.depth
    shallow : s.depth ≤ room

  short_post : 1 ≤ room → Short PostForm
  short_post le = record { words = []; spells = λ k. record { of = no_words; spells = refl; simple = refl; fits = tt; shallow = le } }

  post_simple : (us ws : List Word) → SimpleForm in_header room us ws → PostForm us ws
  post_simple us ws f = record { of = f.tree; spells = f.spells; simple = f.simple; fits = f.fits; shallow = f.shallow }

  post_read : 1 ≤ room → (inner : NestedStmt) (ts : List Word) (o : Option (Sized Stmt)) (rest : List Word) → MaybeRead (SimpleRead in_header room ts) ts o rest → PostRead ts (or_empty room inner o) rest
  post_read le inner ts None rest e = record { spells = e; simple = refl; fits = tt; sized = refl; shallow = le }
  post_read le inner ts (Some s) rest r = record { spells = r.spells; simple = r.simple; fits = r.fits; sized = r.sized; shallow = r.shallow }

  frame_post : {ts : List Word} {s : Sized Stmt} {rest : List Word} → PostRead ts s rest → Framed PostForm ts rest
  frame_post {ts = ts} {s = s} {rest = rest} r = framed_as (frame_stmt s.of ts rest r.spells) (λ us ws h. record { of = s.of; spells = h; simple = r.simple; fits = r.fits; shallow = omega (arith, r.sized, r.shallow) })

  abbrev CountForm : Spelling
  CountForm = Then (SemiForm room) (Then (MaybeCondForm room) (Then (Mark Semi) (Then PostForm (BracesForm room))))

  count_form : (s : Spot) (us ws : List Word) → CountForm us ws → ForForm s us ws
  count_form s us ws h =
      let i = h.1 in
      let c = h.2.1 in
      let p = h.2.2.2.1 in
      let b = h.2.2.2.2 in
      record {
        tree = counting s i.of c.of p.of b.of;
        spells = (us, i.middle, h.0, h.2.0, h.2.2.0, h.2.2.2.0, refl, i.spells, i.semi, c.spells, h.2.2.1, p.spells, b.spells);
        fits = record { fits = (i.simple, i.fits, c.fits, p.simple, p.fits, b.fits); words = refl; shallow = omega (arith, i.shallow, c.shallow, p.shallow, b.shallow) };
        also = tt;
      }

  abbrev OverForm : Spelling
  OverForm = Then (RangeForm in_header room) (Then (CondForm room) (BracesForm room))

  over_form : (s : Spot) (us ws : List Word) → OverForm us ws → ForForm s us ws
  over_form s us ws h =
      let ps = h.1 in
      let e = h.2.1 in
      let b = h.2.2 in
      record {
        tree = ranging s ps.of e.tree b.of;
        spells = (us, ps.middle, h.0, h.2.0, refl, ps.spells, ps.behind, e.spells, b.spells);
        fits = record { fits = (ps.fits refl, e.fits, b.fits); words = refl; shallow = omega (arith, ps.shallow, e.shallow, b.shallow) };
        also = tt;
      }

  frame_range : {ts : List Word} {ps : Sized Places} {rest : List Word} → RangeRead in_header room ts ps rest → Framed (RangeForm in_header room) ts rest
  frame_range {ts = ts} {ps = ps} {rest = rest} r = framed_as (next (frame_places ps.of ts r.middle r.spells) (frame_mark Range r.middle rest r.behind))
      (λ us ws h. record { of = ps.of; middle = h.0; spells = h.1; behind = h.2; fits = r.fits; shallow = omega (arith, r.sized, r.shallow) })

  module _ (inner : NestedStmt) (sound : AreStmtsSound room inner) (s : Spot) (ts : List Word) where
    abbrev Found : Sized Stmt → List Word → Type 0
    Found = IsStmtRead (behind_for s) any (suc room) ts

    abbrev Fault : List Word → Type 0
    Fault = Begun (ForForm s) ts

    loop_holds : (x : Spot) (ws : List Word) → ts ≡ mark LBrace x ∷ ws → Holds Found Fault (and_then (body room inner x ws) (λ b. pure (sized (loop s b.of) (suc b.depth))))
    loop_holds x ws e = bind (body_holds room inner sound x ws)
        (λ b r h. good (record { spells = (ts, refl, subst (λ (v : List Word). SpellsBraces b.of v r) (sym e) h.spells); fits = record { fits = h.fits; words = refl; shallow = omega (arith, h.sized, h.shallow) }; also = tt; sized = omega (arith, h.sized) }))
        (λ r g. begun_as (subst (λ (v : List Word). Begun (BracesForm room) v r) (sym e) g) (loop_form s))

    module _ (le : 1 ≤ room) where
      short_body : Short (Then (CondForm room) (BracesForm room))
      short_body = short_then (short_part in_header room le) (short_braces room)

      short_count : Short (Then (MaybeCondForm room) (Then (Mark Semi) (Then PostForm (BracesForm room))))
      short_count = short_then (short_no_cond room) (short_then (short_mark Semi) (short_then (short_post le) (short_braces room)))

      -- ---- "for" Simple ";" [ Expr ] ";" Simple Block

      init_fault : (rest : List Word) → Begun (SemiForm room) ts rest → Fault rest
      init_fault rest g = begun_as (before g short_count) (count_form s)

      module _ (i : Sized Stmt) (a : List Word) (hi : SemiRead room ts i a) where
        cond_fault : (rest : List Word) → Begun (Then (MaybeCondForm room) (Then (Mark Semi) (Then PostForm (BracesForm room)))) a rest → Fault rest
        cond_fault rest g = begun_as (behind (frame_semi_read room hi) g) (count_form s)

        module _ (o : Option (Read Tree)) (m : List Word) (hc : CondRead room a (maybe_tree room inner o) (tree_depth room inner o) m) (x : Spot) (d : List Word) (is : m ≡ mark Semi x ∷ d) where
          post_fault : (rest : List Word) → Begun (Then PostForm (BracesForm room)) d rest → Fault rest
          post_fault rest g = cond_fault rest (behind (frame_cond room hc) (behind (frame_mark Semi m d (record { spot = x; is = is })) g))

          block_holds : (p : Option (Sized Stmt)) (g : List Word) → PostRead d (or_empty room inner p) g → Holds Found Fault (and_then (a_body room inner g) (λ b. pure (counting_of room inner s i o (or_empty room inner p) b)))
          block_holds p g hp = bind (a_body_holds room inner sound g)
              (λ b r h. good (record {
                spells = (ts, hi.middle, a, m, d, g, refl, hi.spells, hi.semi, hc.spells, record { spot = x; is = is }, hp.spells, h.spells);
                fits = record { fits = (hi.simple, hi.fits, hc.fits, hp.simple, hp.fits, h.fits); words = refl; shallow = omega (arith, hi.sized, hi.shallow, hc.sized, hc.shallow, hp.sized, hp.shallow, h.sized, h.shallow) };
                also = tt;
                sized = omega (arith, hi.sized, hc.sized, hp.sized, h.sized);
              }))
              (λ r st. post_fault r (behind (frame_post hp) (begun_stops (short_braces room) st)))

          post_holds : Holds Found Fault (and_then (maybe_simple room d) (λ p. λ v. and_then (a_body room inner v) (λ b. pure (counting_of room inner s i o (or_empty room inner p) b))))
          post_holds = bind (maybe_simple_holds room d) (λ p g h. block_holds p g (post_read le inner d p g h)) (λ r g. post_fault r (before (begun_as g post_simple) (short_braces room)))

        counted_holds : Holds Found Fault (counted room inner s i a)
        unfolding counted
        counted_holds = bind (maybe_holds (expr room true) a (λ r st. st) (expr_holds room true a))
            (λ o m h. let hc = cond_read room inner a o m h in
            bind (expect_holds {Q = λ x d. m ≡ mark Semi x ∷ d} {F = Fault} Semi m (λ x d e. e) (λ _. cond_fault m (behind_none (frame_cond room hc) (short_then (short_mark Semi) (short_then (short_post le) (short_braces room))))))
            (λ x d e. post_holds o m hc x d e) (λ r f. f))
            (λ r g. cond_fault r (before (begun_as g (cond_maybe room)) (short_then (short_mark Semi) (short_then (short_post le) (short_braces room)))))

      -- ---- "range"

      range_fault : (rest : List Word) → Begun (RangeForm in_header room) ts rest → Fault rest
      range_fault rest g = begun_as (before g short_body) (over_form s)

      ranged_holds : (ps : Sized Places) (a : List Word) → RangeRead in_header room ts ps a → Holds Found Fault (ranged room inner s ps a)
      unfolding ranged
      ranged_holds ps a hp = bind (expr_holds room true a)
          (λ e m q. bind (a_body_holds room inner sound m)
          (λ b r h. good (record {
            spells = (ts, hp.middle, a, m, refl, hp.spells, hp.behind, q.part.spells, h.spells);
            fits = record { fits = (hp.fits refl, q.part.fits, h.fits); words = refl; shallow = omega (arith, hp.sized, hp.shallow, q.part.sized, q.part.shallow, h.sized, h.shallow) };
            also = tt;
            sized = omega (arith, hp.sized, q.part.sized, h.sized);
          }))
          (λ r st. begun_as (behind (frame_range hp) (behind (frame_part q.part) (begun_stops (short_braces room) st))) (over_form s)))
          (λ r st. begun_as (behind (frame_range hp) (before (begun_stops (short_part in_header room le) st) (short_braces room))) (over_form s))

      -- ---- headers

      while_holds : (x : Read Tree) (m : List Word) → IsPart in_header room ts x m → Holds Found Fault (while_of room inner s x m)
      while_holds x m q = bind (a_body_holds room inner sound m)
          (λ b r h. good (record {
            spells = (ts, m, refl, q.spells, h.spells);
            fits = record { fits = (q.fits, h.fits); words = refl; shallow = omega (arith, q.sized, q.shallow, h.sized, h.shallow) };
            also = tt;
            sized = omega (arith, q.sized, h.sized);
          }))
          (λ r st. begun_as (behind (frame_part q) (begun_stops (short_braces room) st)) (while_form s))

      behind_holds : (h : Head) (m : List Word) → HeadRead in_header true room room ts h m → Holds Found Fault (for_behind room inner s h m)
      behind_holds (expression x) m q = choose (nat_le (suc x.depth) room) (take_by (marked Semi) _ (while_of room inner s x)) (while_of room inner s x) m
          (λ more. mark_holds Semi _ _ m (λ y v e. counted_holds (sized (alone x.tree) (suc x.depth)) v (semi_read room (alone_read room x q.part (leb-true _ _ more)) (record { spot = y; is = e }))) (λ _. while_holds x m q.part))
          (λ _. while_holds x m q.part)
      behind_holds (statement st) m r = bind (expect_holds {Q = λ y v. m ≡ mark Semi y ∷ v} {F = Fault} Semi m (λ y v e. e) (λ _. init_fault m (semi_missing room r)))
          (λ y v e. counted_holds st v (semi_read room r (record { spot = y; is = e }))) (λ r f. f)
      behind_holds (range_over ps) m r = ranged_holds ps m r.1

      head_fault : (r : List Word) → HeadFault in_header true room room ts r → Fault r
      head_fault r (inl st) = begun_as (before (begun_stops (short_part in_header room le) st) (short_braces room)) (while_form s)
      head_fault r (inr (inl g)) = init_fault r (semi_begun room g)
      head_fault r (inr (inr h)) = range_fault r h.1

      header_holds : Holds Found Fault (for_header room inner s ts)
      header_holds = mark_holds Range _ _ ts
          (λ x v e. ranged_holds (sized no_places 0) v (record { middle = ts; spells = refl; behind = record { spot = x; is = e }; fits = λ _. tt; sized = refl; shallow = omega arith }))
          (λ _. mark_holds Semi _ _ ts (λ x v e. counted_holds (sized no_words 1) v (nothing_read room le (record { spot = x; is = e })))
          (λ _. bind (head_holds room true ts) behind_holds head_fault))

    pub for_holds : Holds Found Fault (for_stmt room inner s ts)
    unfolding for_stmt
    for_holds = mark_holds LBrace _ _ ts loop_holds
        (λ _. choose (nat_le 1 room) (for_header room inner s) refuse ts (λ le. header_holds (leb-true _ _ le)) (λ _. bad (begun_as (begun_none ts (short_braces room)) (loop_form s))))
