-- Statements are read as they are spelled, and a fault stands behind a front of one.
use Rattle.std.proofs.Common.{inl, inr, ℕ, zero, suc, false, List, ◌∷◌, Option, Some, None, refl, arith}
use Rattle.std.specs.Prelude.{nat_le, if◌then◌else◌}
use Rattle.std.proofs.lemmas.Bool.{leb-true}
use Rattle.ui_base.specs.declared.value.Spot.{Spot}
use Rattle.ui_scan.specs.declared.kind.TokenKind.TheVariants.{LBrace, Const, Var, Return, Break, Continue, If, For, Switch}
use Rattle.ui_tree.specs.Tree.{Tree}
use Rattle.ui_tree.specs.View.{trees}
use Rattle.ui_tree.specs.Stmt.{given_trees, Common, Stmt, common, block, returning, braces}
use Rattle.ui_tree.specs.StmtView.{stmts}
use Rattle.ui_grammar.specs.Word.{Word, mark}
use Rattle.ui_grammar.specs.Fits.{plain}
use Rattle.ui_grammar.proofs.Frames.{Then}
use Rattle.ui_parse.specs.Reader.{Outcome, and_then, pure, take_by, marked}
use Rattle.ui_parse.proofs.Outcomes.{Holds, good, bad, bind, mono, choose}
use Rattle.ui_syntax.specs.Types.{Listed}
use Rattle.ui_syntax.proofs.ByBudget.{Begun, Stops}
use Rattle.ui_syntax.proofs.Begun.{Is, begun_as, stops_as, behind, frame_word, mark_at}
use Rattle.ui_stmts.specs.Common.{Sized, maybe, exprs}
use Rattle.ui_stmts.specs.Simple.{simple}
use Rattle.ui_stmts.specs.Stmts.{NestedStmt, return_of, common_of, plain_stmt, block_stmt, branch_stmt, stmt, next_stmt, stmt_readers}
use Rattle.ui_stmts.proofs.ByBudget.{StmtForm, IsStmtRead, whole, behind_brace, any, alternative, AreStmtsSound}
use Rattle.ui_stmts.proofs.SoundLists.{MaybeRead, maybe_holds, ExprsForm, ExprsAt, exprs_spelled, exprs_holds}
use Rattle.ui_stmts.proofs.SoundCommon.{CommonForm, CommonRead, constant_decl_holds, variable_decl_holds}
use Rattle.ui_stmts.proofs.SoundSimple.{simple_holds}
use Rattle.ui_stmts.proofs.SoundBraces.{RestForm, body_behind}
use Rattle.ui_stmts.proofs.SoundHeaders.{begun_under, any_form}
use Rattle.ui_stmts.proofs.SoundBranch.{branch_holds}
use Rattle.ui_stmts.proofs.SoundLoop.{for_holds}
use Rattle.ui_stmts.proofs.SoundSwitch.{switch_holds}

module _ (room : ℕ) (inner : NestedStmt) (sound : AreStmtsSound room inner) where
  abbrev Found : List Word → Sized Stmt → List Word → Type 0
  Found = IsStmtRead whole any (suc room)

  abbrev Fault : List Word → List Word → Type 0
  Fault = Stops (StmtForm whole any (suc room))

  -- what was read behind a first word, with that word
  under : {P : Stmt → Type 0} {o : Outcome (Sized Stmt)} {ws : List Word} (w : Word) → Holds (IsStmtRead (λ us. w ∷ us) P (suc room) ws) (Begun (StmtForm (λ us. w ∷ us) P (suc room)) ws) o → Holds (Found (w ∷ ws)) (Fault (w ∷ ws)) o
  under w h = mono h (λ x r q. record { spells = q.spells; fits = q.fits; also = tt; sized = q.sized }) (λ r g. inr (begun_as (begun_under w g) any_form))

  block_form : (s : Spot) (us ws : List Word) → RestForm room us ws → StmtForm (behind_brace s) alternative (suc room) us ws
  block_form s us ws x = record {
    tree = block (braces s (stmts x.all.items) x.all.close);
    spells = (us, x.spells.0, refl, x.spells.1, x.spells.2);
    fits = record { fits = x.ok.0; words = refl; shallow = omega (arith, x.ok.1) };
    also = refl;
  }

  block_holds : (s : Spot) (ws : List Word) → Holds (IsStmtRead (behind_brace s) alternative (suc room) ws) (Begun (StmtForm (behind_brace s) alternative (suc room)) ws) (block_stmt room inner s ws)
  unfolding block_stmt
  block_holds s ws = bind (body_behind room inner sound s ws)
      (λ b r h. good (record { spells = h.spells; fits = record { fits = h.fits; words = refl; shallow = omega (arith, h.sized, h.shallow) }; also = refl; sized = omega (arith, h.sized) }))
      (λ r g. begun_as g (block_form s))

  return_form : (s : Spot) (us ws : List Word) → Then (Is (mark Return s)) (ExprsForm plain room) us ws → StmtForm whole any (suc room) us ws
  return_form s us ws h = let es = h.2 in record {
    tree = returning s (given_trees (trees es.all));
    spells = (h.0, h.1, es.spells);
    fits = record { fits = es.ok.0; words = refl; shallow = omega (arith, es.ok.1) };
    also = tt;
  }

  return_read : (s : Spot) (ws : List Word) (o : Option (Listed Tree)) (r : List Word) → MaybeRead (ExprsAt plain room ws) ws o r → Found (mark Return s ∷ ws) (return_of room inner s o) r
  return_read s ws None r e = record { spells = (ws, refl, e); fits = record { fits = tt; words = refl; shallow = omega arith }; also = tt; sized = refl }
  return_read s ws (Some es) r j = record {
    spells = (ws, refl, exprs_spelled j);
    fits = record { fits = j.are.fits; words = refl; shallow = omega (arith, j.are.sized, j.are.shallow) };
    also = tt;
    sized = omega (arith, j.are.sized);
  }

  return_holds : (s : Spot) (ws : List Word) → Holds (Found (mark Return s ∷ ws)) (Fault (mark Return s ∷ ws)) (and_then (maybe (exprs room false) ws) (λ es. pure (return_of room inner s es)))
  return_holds s ws = bind (maybe_holds (exprs room false) ws (λ r st. st) (exprs_holds false room ws)) (λ o r h. good (return_read s ws o r h)) (λ r g. inr (begun_as (behind (frame_word (mark Return s) ws) g) (return_form s)))

  common_form : (us ws : List Word) → CommonForm room us ws → StmtForm whole any (suc room) us ws
  common_form us ws c = record { tree = common c.of; spells = c.spells; fits = record { fits = c.fits; words = refl; shallow = omega (arith, c.shallow) }; also = tt }

  common_holds : {o : Outcome (Sized Common)} {ts : List Word} → Holds (CommonRead room ts) (Begun (CommonForm room) ts) o → Holds (Found ts) (Fault ts) (and_then o (λ c. pure (common_of room inner c)))
  common_holds h = bind h (λ c r q. good (record { spells = q.spells; fits = record { fits = q.fits; words = refl; shallow = omega (arith, q.sized, q.shallow) }; also = tt; sized = omega (arith, q.sized) })) (λ r g. inr (begun_as g common_form))

  alone_holds : (ts : List Word) → Holds (Found ts) (Fault ts) (simple room false ts)
  alone_holds ts = mono (simple_holds room false ts)
      (λ x r q. record { spells = q.spells; fits = record { fits = q.fits; words = q.words; shallow = omega (arith, q.sized, q.shallow) }; also = tt; sized = q.sized })
      (λ r st. stops_as st (λ us ws f. record { tree = f.tree; spells = f.spells; fits = record { fits = f.fits; words = f.words; shallow = f.shallow }; also = tt }))

  plain_holds : (ts : List Word) → Holds (Found ts) (Fault ts) (plain_stmt room inner ts)
  plain_holds ts = mark_at Found Fault Return _ _ ts return_holds
      (λ _. mark_at Found Fault Break _ _ ts (λ s ws. good (record { spells = refl; fits = record { fits = tt; words = refl; shallow = omega arith }; also = tt; sized = refl }))
      (λ _. mark_at Found Fault Continue _ _ ts (λ s ws. good (record { spells = refl; fits = record { fits = tt; words = refl; shallow = omega arith }; also = tt; sized = refl }))
      (λ _. mark_at Found Fault For _ _ ts (λ s ws. under (mark For s) (for_holds room inner sound s ws))
      (λ _. mark_at Found Fault Switch _ _ ts (λ s ws. under (mark Switch s) (switch_holds room inner sound s ws))
      (λ _. mark_at Found Fault Const _ _ ts (λ s ws. common_holds (constant_decl_holds room s ws))
      (λ _. alone_holds ts))))))

  if_or_plain : (ts : List Word) → Holds (Found ts) (Fault ts) ((if nat_le 1 room then take_by (marked If) (λ s. branch_stmt room inner s) (plain_stmt room inner) else plain_stmt room inner) ts)
  if_or_plain ts = choose (nat_le 1 room) (take_by (marked If) (λ s. branch_stmt room inner s) (plain_stmt room inner)) (plain_stmt room inner) ts
      (λ le. mark_at Found Fault If _ _ ts (λ s ws. under (mark If s) (branch_holds room (leb-true _ _ le) inner sound s ws)) (λ _. plain_holds ts))
      (λ _. plain_holds ts)

  stmt_holds : (ts : List Word) → Holds (Found ts) (Fault ts) (stmt room inner ts)
  unfolding stmt
  stmt_holds ts = mark_at Found Fault LBrace _ _ ts (λ s ws. under (mark LBrace s) (block_holds s ws))
      (λ _. mark_at Found Fault Var _ _ ts (λ s ws. common_holds (variable_decl_holds room s ws)) (λ _. if_or_plain ts))

  pub next_sound : AreStmtsSound (suc room) (next_stmt room inner)
  next_sound = record {
    stmt = stmt_holds;
    branch = λ two s ts. mono (branch_holds room (omega (arith, two)) inner sound s ts) (λ x r q. q) (λ r g. inr g);
    block = λ s ts. mono (block_holds s ts) (λ x r q. q) (λ r g. inr g);
  }

pub stmts_sound : (d : ℕ) → AreStmtsSound d (stmt_readers d)
unfolding stmt_readers
stmts_sound zero = record { stmt = λ ts. bad (inl refl); branch = λ two s ts. bad (inl refl); block = λ s ts. bad (inl refl) }
stmts_sound (suc d) = next_sound d (stmt_readers d) (stmts_sound d)
