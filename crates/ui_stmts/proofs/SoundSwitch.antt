-- `switch` as it is read, behind the keyword.
use Rattle.std.proofs.Common.{◌≡◌, ◌⊎◌, inl, inr, ℕ, suc, ◌≤◌, true, false, List, ◌∷◌, Option, Some, None, refl, subst, arith}
use Rattle.std.specs.Prelude.{nat_le}
use Rattle.std.proofs.lemmas.Bool.{leb-true}
use Rattle.ui_base.specs.declared.value.Spot.{Spot}
use Rattle.ui_scan.specs.declared.kind.TokenKind.TheVariants.{LBrace, Semi, Switch}
use Rattle.ui_tree.specs.Tree.{Tree}
use Rattle.ui_tree.specs.Stmt.{Stmt, switch}
use Rattle.ui_grammar.specs.Word.{Word, mark, Mark}
use Rattle.ui_grammar.specs.Fits.{in_header}
use Rattle.ui_grammar.proofs.Frames.{Spelling, Then, frame_mark}
use Rattle.ui_parse.specs.Reader.{take_by, marked}
use Rattle.ui_parse.proofs.Outcomes.{Holds, good, bind, choose, mark_holds, expect_holds}
use Rattle.ui_syntax.specs.Cover.{Read}
use Rattle.ui_syntax.specs.Read.{expr}
use Rattle.ui_syntax.proofs.ByBudget.{Begun}
use Rattle.ui_syntax.proofs.Begun.{Short, short_then, short_mark, begun_as, behind, behind_none, before}
use Rattle.ui_stmts.specs.Common.{Sized}
use Rattle.ui_stmts.specs.Simple.{Head, expression, statement, range_over, head}
use Rattle.ui_stmts.specs.Stmts.{NestedStmt, Init, no_init, empty_init, init_of, alone_init, maybe_tree, tree_depth, switch_of, tagged, switch_behind, maybe_head, switch_stmt}
use Rattle.ui_stmts.proofs.ByBudget.{StmtForm, IsStmtRead, any, AreStmtsSound}
use Rattle.ui_stmts.proofs.SoundLists.{MaybeRead, maybe_holds, expr_holds}
use Rattle.ui_stmts.proofs.SoundHeads.{HeadRead, HeadFault}
use Rattle.ui_stmts.proofs.SoundSimple.{head_holds}
use Rattle.ui_stmts.proofs.SoundClauses.{ClausesForm, short_clauses}
use Rattle.ui_stmts.proofs.SoundClausesRead.{clauses_holds}
use Rattle.ui_stmts.proofs.SoundHeaders.{semi_read, alone_read, nothing_read, semi_begun, semi_missing, InitForm, semi_init, none_then, InitRead, frame_init_read, no_init_read, init_read, MaybeCondForm, cond_maybe, short_no_cond, CondRead, cond_read, frame_cond}

abbrev pub behind_switch : Spot → List Word → List Word
behind_switch s ts = mark Switch s ∷ ts

module _ (room : ℕ) (inner : NestedStmt) (sound : AreStmtsSound room inner) (s : Spot) (ts : List Word) where
  abbrev Found : Sized Stmt → List Word → Type 0
  Found = IsStmtRead (behind_switch s) any (suc room) ts

  abbrev Fault : List Word → Type 0
  Fault = Begun (StmtForm (behind_switch s) any (suc room)) ts

  abbrev Tagged : Spelling
  Tagged = Then (MaybeCondForm room) (Then (Mark LBrace) (ClausesForm room))

  switch_form : (us ws : List Word) → Then (InitForm room) Tagged us ws → StmtForm (behind_switch s) any (suc room) us ws
  switch_form us ws h =
      let i = h.1 in
      let c = h.2.1 in
      let cs = h.2.2.2 in
      record {
        tree = switch s i.of c.of cs.all;
        spells = (us, h.0, h.2.0, h.2.2.0, cs.spells.0, refl, i.spells, c.spells, h.2.2.1, cs.spells.1, cs.spells.2);
        fits = record { fits = (i.fits, c.fits, cs.ok.0); words = refl; shallow = omega (arith, i.shallow, c.shallow, cs.ok.1) };
        also = tt;
      }

  short_block : Short (Then (Mark LBrace) (ClausesForm room))
  short_block = short_then (short_mark LBrace) (short_clauses room)

  init_fault : (rest : List Word) → Begun (InitForm room) ts rest → Fault rest
  init_fault rest g = begun_as (before g (short_then (short_no_cond room) short_block)) switch_form

  -- ---- behind the statement, up to a

  module _ (i : Init room inner) (a : List Word) (hi : InitRead room inner ts i a) where
    tag_fault : (rest : List Word) → Begun Tagged a rest → Fault rest
    tag_fault rest g = begun_as (behind (frame_init_read room inner hi) g) switch_form

    clauses_at : (o : Option (Read Tree)) (m : List Word) → CondRead room a (maybe_tree room inner o) (tree_depth room inner o) m → Holds Found Fault (switch_of room inner s i o m)
    clauses_at o m hc = bind (expect_holds {Q = λ x d. m ≡ mark LBrace x ∷ d} {F = Fault} LBrace m (λ x d e. e) (λ _. tag_fault m (behind_none (frame_cond room hc) short_block)))
        (λ x d e. bind (clauses_holds room inner sound d)
        (λ cs r h. good (record {
          spells = (ts, a, m, d, h.spells.0, refl, hi.spells, hc.spells, record { spot = x; is = e }, h.spells.1, h.spells.2);
          fits = record { fits = (hi.fits, hc.fits, h.fits); words = refl; shallow = omega (arith, hi.sized, hi.shallow, hc.sized, hc.shallow, h.sized, h.shallow) };
          also = tt;
          sized = omega (arith, hi.sized, hc.sized, h.sized);
        }))
        (λ r g. tag_fault r (behind (frame_cond room hc) (behind (frame_mark LBrace m d (record { spot = x; is = e })) g))))
        (λ r f. f)

    tagged_holds : Holds Found Fault (tagged room inner s i a)
    tagged_holds = bind (maybe_holds (expr room true) a (λ r st. st) (expr_holds room true a)) (λ o m h. clauses_at o m (cond_read room inner a o m h)) (λ r g. tag_fault r (before (begun_as g (cond_maybe room)) short_block))

  untagged_holds : Holds Found Fault (switch_of room inner s (no_init room inner) None ts)
  untagged_holds = clauses_at (no_init room inner) ts (no_init_read room inner ts) None ts (cond_read room inner ts None ts refl)

  behind_holds : 1 ≤ room → (h : Head) (m : List Word) → HeadRead in_header false room room ts h m → Holds Found Fault (switch_behind room inner s h m)
  behind_holds le (expression x) m q =
      let bare = clauses_at (no_init room inner) ts (no_init_read room inner ts) (Some x) m (cond_read room inner ts (Some x) m q) in
      choose (nat_le (suc x.depth) room) (take_by (marked Semi) _ (switch_of room inner s (no_init room inner) (Some x))) (switch_of room inner s (no_init room inner) (Some x)) m
      (λ more. mark_holds Semi _ _ m (λ y v e. tagged_holds (alone_init room inner x) v (init_read room inner (semi_read room (alone_read room x q.part (leb-true _ _ more)) (record { spot = y; is = e })))) (λ _. bare))
      (λ _. bare)
  behind_holds le (statement st) m r = bind (expect_holds {Q = λ y v. m ≡ mark Semi y ∷ v} {F = Fault} Semi m (λ y v e. e) (λ _. init_fault m (begun_as (semi_missing room r) (semi_init room))))
      (λ y v e. tagged_holds (init_of room inner st) v (init_read room inner (semi_read room r (record { spot = y; is = e })))) (λ r f. f)
  behind_holds le (range_over ps) m r = let no : false ≡ true = r.0 in absurd cc

  head_at : 1 ≤ room → (o : Option Head) (m : List Word) → MaybeRead (HeadRead in_header false room room ts) ts o m → Holds Found Fault (maybe_head room inner o s m)
  head_at le None m e = subst (λ (v : List Word). Holds Found Fault (switch_of room inner s (no_init room inner) None v)) e untagged_holds
  head_at le (Some h) m r = behind_holds le h m r

  -- nothing was taken, or it is the front of a switch
  head_split : (r : List Word) → HeadFault in_header false room room ts r → (ts ≡ r) ⊎ Fault r
  head_split r (inl (inl e)) = inl e
  head_split r (inl (inr g)) = inr (begun_as (begun_as (before (begun_as g (cond_maybe room)) short_block) (none_then room Tagged)) switch_form)
  head_split r (inr (inl g)) = inr (init_fault r (begun_as (semi_begun room g) (semi_init room)))
  head_split r (inr (inr h)) = let no : false ≡ true = h.0 in absurd cc

  pub switch_holds : Holds Found Fault (switch_stmt room inner s ts)
  unfolding switch_stmt
  switch_holds = choose (nat_le 1 room) (take_by (marked Semi) _ _) (switch_of room inner s (no_init room inner) None) ts
      (λ some. let le = leb-true _ _ some in
      mark_holds Semi _ _ ts (λ x v e. tagged_holds (empty_init room inner) v (init_read room inner (nothing_read room le (record { spot = x; is = e }))))
      (λ _. bind (maybe_holds (head room false) ts head_split (head_holds room false ts)) (head_at le) (λ r f. f)))
      (λ _. untagged_holds)
