-- `if` as it is read, behind the keyword.
use Rattle.std.proofs.Common.{◌≡◌, inl, inr, ℕ, suc, ◌≤◌, true, false, List, [], ◌∷◌, refl, sym, subst, arith}
use Rattle.std.specs.Prelude.{nat_le}
use Rattle.std.proofs.lemmas.Bool.{leb-true}
use Rattle.ui_base.specs.declared.value.Spot.{Spot}
use Rattle.ui_scan.specs.declared.kind.TokenKind.TheVariants.{LBrace, RBrace, Semi, If, Else}
use Rattle.ui_tree.specs.Tree.{Tree, name}
use Rattle.ui_tree.specs.Stmt.{Stmt, block, branch, MaybeStmt, no_stmt, given_stmt, Braces, braces, stmts_end}
use Rattle.ui_grammar.specs.Word.{Word, ident, mark, Mark}
use Rattle.ui_grammar.specs.Fits.{in_header}
use Rattle.ui_grammar.specs.Statement.{SpellsStmt, SpellsElse, FitsElse, maybe_stmt_depth}
use Rattle.ui_grammar.proofs.Frames.{Spelling, Then, frame_mark}
use Rattle.ui_parse.specs.Reader.{take_by, marked}
use Rattle.ui_parse.proofs.Outcomes.{Holds, good, bind, choose, mark_holds, expect_holds}
use Rattle.ui_syntax.specs.Cover.{Read}
use Rattle.ui_syntax.proofs.ByBudget.{Begun, Stops}
use Rattle.ui_syntax.proofs.Begun.{Short, x_name, no_spot, short_then, begun_as, begun_none, begun_stops, behind, before}
use Rattle.ui_syntax.proofs.SoundExprsTrees.{IsPart}
use Rattle.ui_stmts.specs.Common.{Sized}
use Rattle.ui_stmts.specs.Simple.{Head, expression, statement, range_over}
use Rattle.ui_stmts.specs.Stmts.{NestedStmt, Init, no_init, empty_init, init_of, alone_init, branch_of, other_block, other_branch, branches, condition, branch_behind, branch_stmt}
use Rattle.ui_stmts.proofs.ByBudget.{StmtForm, IsStmtRead, whole, behind_if, behind_brace, alternative, AreStmtsSound}
use Rattle.ui_stmts.proofs.SoundLists.{expr_holds, short_part, frame_part}
use Rattle.ui_stmts.proofs.SoundHeads.{HeadRead, HeadFault}
use Rattle.ui_stmts.proofs.SoundSimple.{head_holds}
use Rattle.ui_stmts.proofs.SoundBraces.{BracesForm, BracesRead, short_braces, a_body_holds}
use Rattle.ui_stmts.proofs.SoundHeaders.{begun_under, CondForm, frame_body, semi_read, alone_read, nothing_read, semi_begun, semi_missing, InitForm, semi_init, none_then, InitRead, frame_init_read, no_init_read, init_read}

module _ (room : ℕ) where
  -- ---- the forms

  record ElseForm (ts rest : List Word) : Type 0 where
    of : MaybeStmt
    spells : SpellsElse of ts rest
    fits : FitsElse of
    shallow : maybe_stmt_depth of ≤ room

  short_else : Short ElseForm
  short_else = record { words = []; spells = λ k. record { of = no_stmt; spells = refl; fits = tt; shallow = omega arith } }

  else_form : (us ws : List Word) → Then (Mark Else) (StmtForm whole alternative room) us ws → ElseForm us ws
  else_form us ws h = let s = h.2 in record { of = given_stmt s.tree; spells = (h.0, h.1, s.spells); fits = (s.also, s.fits.fits); shallow = s.fits.shallow }

  abbrev BranchForm : Spelling
  BranchForm = Then (InitForm room) (Then (CondForm room) (Then (BracesForm room) ElseForm))

  if_form : (s : Spot) (us ws : List Word) → BranchForm us ws → StmtForm (behind_if s) alternative (suc room) us ws
  if_form s us ws h =
      let i = h.1 in
      let c = h.2.1 in
      let b = h.2.2.1 in
      let o = h.2.2.2 in
      record {
        tree = branch s i.of c.tree b.of o.of;
        spells = (us, h.0, h.2.0, h.2.2.0, refl, i.spells, c.spells, b.spells, o.spells);
        fits = record { fits = (i.fits, c.fits, b.fits, o.fits); words = refl; shallow = omega (arith, i.shallow, c.shallow, b.shallow, o.shallow) };
        also = refl;
      }

  short_if : (s : Spot) → 2 ≤ room → Short (StmtForm (behind_if s) alternative room)
  short_if s le = record {
    words = ident x_name ∷ (mark LBrace no_spot ∷ (mark RBrace no_spot ∷ []));
    spells = λ k. record {
      tree = branch s no_stmt (name x_name) (braces no_spot stmts_end no_spot) no_stmt;
      spells = (ident x_name ∷ (mark LBrace no_spot ∷ (mark RBrace no_spot ∷ k)), ident x_name ∷ (mark LBrace no_spot ∷ (mark RBrace no_spot ∷ k)), mark LBrace no_spot ∷ (mark RBrace no_spot ∷ k), k, refl, refl, refl, (mark RBrace no_spot ∷ k, mark RBrace no_spot ∷ k, refl, refl, refl), refl);
      fits = record { fits = (tt, tt, tt, tt); words = refl; shallow = le };
      also = refl;
    };
  }

  short_block : (s : Spot) → 1 ≤ room → Short (StmtForm (behind_brace s) alternative room)
  short_block s le = record {
    words = mark RBrace no_spot ∷ [];
    spells = λ k. record { tree = block (braces s stmts_end no_spot); spells = (mark RBrace no_spot ∷ k, mark RBrace no_spot ∷ k, refl, refl, refl); fits = record { fits = tt; words = refl; shallow = le }; also = refl };
  }

  module _ (le : 1 ≤ room) (inner : NestedStmt) (sound : AreStmtsSound room inner) (s : Spot) (ts : List Word) where
    abbrev Found : Sized Stmt → List Word → Type 0
    Found = IsStmtRead (behind_if s) alternative (suc room) ts

    abbrev Fault : List Word → Type 0
    Fault = Begun (StmtForm (behind_if s) alternative (suc room)) ts

    short_behind : Short (Then (BracesForm room) ElseForm)
    short_behind = short_then (short_braces room) short_else

    short_cond : Short (Then (CondForm room) (Then (BracesForm room) ElseForm))
    short_cond = short_then (short_part in_header room le) short_behind

    init_fault : (rest : List Word) → Begun (InitForm room) ts rest → Fault rest
    init_fault rest g = begun_as (before g short_cond) (if_form s)

    -- ---- behind the condition, up to m

    module _ (i : Init room inner) (a : List Word) (hi : InitRead room inner ts i a) (c : Read Tree) (m : List Word) (hc : IsPart in_header room a c m) where
      body_fault : (rest : List Word) → Begun (Then (BracesForm room) ElseForm) m rest → Fault rest
      body_fault rest g = begun_as (behind (frame_init_read room inner hi) (behind (frame_part hc) g)) (if_form s)

      branch_read : (b : Sized Braces) (d : List Word) (o : MaybeStmt) (k : ℕ) (rest : List Word) → BracesRead room m b d → SpellsElse o d rest → FitsElse o → maybe_stmt_depth o ≡ k → k ≤ room → Found (branch_of room inner s i c b o k) rest
      branch_read b d o k rest hb spells fits sized shallow = record {
        spells = (ts, a, m, d, refl, hi.spells, hc.spells, hb.spells, spells);
        fits = record { fits = (hi.fits, hc.fits, hb.fits, fits); words = refl; shallow = omega (arith, hi.sized, hi.shallow, hc.sized, hc.shallow, hb.sized, hb.shallow, sized, shallow) };
        also = refl;
        sized = omega (arith, hi.sized, hc.sized, hb.sized, sized);
      }

      module _ (b : Sized Braces) (d : List Word) (hb : BracesRead room m b d) (x : Spot) (w : List Word) (is : d ≡ mark Else x ∷ w) where
        other_fault : (rest : List Word) → Begun (StmtForm whole alternative room) w rest → Fault rest
        other_fault rest g = body_fault rest (behind (frame_body room hb) (begun_as (behind (frame_mark Else d w (record { spot = x; is = is })) g) else_form))

        other_read : (o : Sized Stmt) (rest : List Word) → IsStmtRead whole alternative room w o rest → Found (branch_of room inner s i c b (given_stmt o.of) o.depth) rest
        other_read o rest r = branch_read b d (given_stmt o.of) o.depth rest hb (w, record { spot = x; is = is }, r.spells) (r.also, r.fits.fits) r.sized (omega (arith, r.sized, r.fits.shallow))

        under : (word : Word) (o : Sized Stmt) (v rest : List Word) → w ≡ word ∷ v → IsStmtRead (λ us. word ∷ us) alternative room v o rest → IsStmtRead whole alternative room w o rest
        under word o v rest e r = record { spells = subst (λ (u : List Word). SpellsStmt o.of u rest) (sym e) r.spells; fits = r.fits; also = r.also; sized = r.sized }

        under_fault : (word : Word) (v rest : List Word) → w ≡ word ∷ v → Short (StmtForm (λ us. word ∷ us) alternative room) → Stops (StmtForm (λ us. word ∷ us) alternative room) v rest → Fault rest
        under_fault word v rest e short st = other_fault rest (subst (λ (u : List Word). Begun (StmtForm whole alternative room) u rest) (sym e) (begun_under word (begun_stops short st)))

        block_fault : Fault w
        block_fault = other_fault w (begun_none w (record { words = mark LBrace no_spot ∷ (mark RBrace no_spot ∷ []); spells = λ k. record { tree = block (braces no_spot stmts_end no_spot); spells = (mark RBrace no_spot ∷ k, mark RBrace no_spot ∷ k, refl, refl, refl); fits = record { fits = tt; words = refl; shallow = le }; also = refl } }))

        block_holds : Holds Found Fault (other_block room inner (branch_of room inner s i c b) w)
        block_holds = bind (expect_holds {Q = λ y v. w ≡ mark LBrace y ∷ v} {F = Fault} LBrace w (λ y v e. e) (λ _. block_fault))
            (λ y v e. bind (sound.block y v) (λ o r h. good (other_read o r (under (mark LBrace y) o v r e h))) (λ r st. under_fault (mark LBrace y) v r e (short_block y le) st))
            (λ r f. f)

        other_holds : Holds Found Fault (other_branch room inner (branch_of room inner s i c b) w)
        other_holds = choose (nat_le 2 room) (take_by (marked If) _ (other_block room inner (branch_of room inner s i c b))) (other_block room inner (branch_of room inner s i c b)) w
            (λ two. mark_holds If _ _ w
            (λ y v e. bind (sound.branch (leb-true _ _ two) y v) (λ o r h. good (other_read o r (under (mark If y) o v r e h))) (λ r st. under_fault (mark If y) v r e (short_if y (leb-true _ _ two)) st))
            (λ _. block_holds))
            (λ _. block_holds)

      branches_holds : Holds Found Fault (branches room inner s i c m)
      branches_holds = bind (a_body_holds room inner sound m)
          (λ b d hb. mark_holds Else _ _ d (λ x w e. other_holds b d hb x w e) (λ _. good (branch_read b d no_stmt 0 d hb refl tt refl (omega arith))))
          (λ r st. body_fault r (before (begun_stops (short_braces room) st) short_else))

    -- ---- the condition

    condition_holds : (i : Init room inner) (a : List Word) → InitRead room inner ts i a → Holds Found Fault (condition room inner s i a)
    condition_holds i a hi = bind (expr_holds room true a) (λ c m q. branches_holds i a hi c m q.part)
        (λ r st. begun_as (behind (frame_init_read room inner hi) (before (begun_stops (short_part in_header room le) st) short_behind)) (if_form s))

    behind_holds : (h : Head) (m : List Word) → HeadRead in_header false room room ts h m → Holds Found Fault (branch_behind room inner s h m)
    behind_holds (expression x) m q =
        let bare = branches_holds (no_init room inner) ts (no_init_read room inner ts) x m q.part in
        choose (nat_le (suc x.depth) room) (take_by (marked Semi) _ (branches room inner s (no_init room inner) x)) (branches room inner s (no_init room inner) x) m
        (λ more. mark_holds Semi _ _ m (λ y v e. condition_holds (alone_init room inner x) v (init_read room inner (semi_read room (alone_read room x q.part (leb-true _ _ more)) (record { spot = y; is = e })))) (λ _. bare))
        (λ _. bare)
    behind_holds (statement st) m r = bind (expect_holds {Q = λ y v. m ≡ mark Semi y ∷ v} {F = Fault} Semi m (λ y v e. e) (λ _. init_fault m (begun_as (semi_missing room r) (semi_init room))))
        (λ y v e. condition_holds (init_of room inner st) v (init_read room inner (semi_read room r (record { spot = y; is = e })))) (λ r f. f)
    behind_holds (range_over ps) m r = let no : false ≡ true = r.0 in absurd cc

    head_fault : (r : List Word) → HeadFault in_header false room room ts r → Fault r
    head_fault r (inl st) = begun_as (begun_as (before (begun_stops (short_part in_header room le) st) short_behind) (none_then room (Then (CondForm room) (Then (BracesForm room) ElseForm)))) (if_form s)
    head_fault r (inr (inl g)) = init_fault r (begun_as (semi_begun room g) (semi_init room))
    head_fault r (inr (inr h)) = let no : false ≡ true = h.0 in absurd cc

    pub branch_holds : Holds Found Fault (branch_stmt room inner s ts)
    unfolding branch_stmt
    branch_holds = mark_holds Semi _ _ ts (λ x v e. condition_holds (empty_init room inner) v (init_read room inner (nothing_read room le (record { spot = x; is = e }))))
        (λ _. bind (head_holds room false ts) behind_holds head_fault)
