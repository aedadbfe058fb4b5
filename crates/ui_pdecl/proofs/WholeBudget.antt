-- What has one level more than the room.
use Rattle.std.proofs.Common.{◌≡◌, ℕ, suc, ◌+◌, List, Result, subst, arith}
use Rattle.ui_base.specs.declared.value.Spot.{Spot}
use Rattle.ui_tree.specs.declared.stmt.CommonTree.{CommonTree}
use Rattle.ui_tree.specs.declared.stmt.Block.{Block}
use Rattle.ui_tree.specs.declared.stmt.StmtTree.{StmtTree}
use Rattle.ui_tree.specs.StmtView.{common_view}
use Rattle.ui_grammar.specs.Word.{Word}
use Rattle.ui_parse.specs.declared.fault.ParseError.{ParseError}
use Rattle.ui_parse.specs.View.{Reads}
use Rattle.ui_syntax.specs.Read.{type}
use Rattle.ui_stmts.specs.Common.{constant_decl, variable_decl}
use Rattle.ui_stmts.specs.Stmts.{a_body, stmt_readers}
use Rattle.ui_stmts.specs.Decls.{block}
use Rattle.ui_ptype.specs.declared.sub.TypeSub.{TypeSub}
use Rattle.ui_ptype.specs.Seen.{see_type}
use Rattle.ui_psimple.specs.declared.deep.Deep.{Deep}
use Rattle.ui_psimple.specs.Seen.{see_deep}
use Rattle.ui_pstmt.specs.Seen.{see_block}

above : (room : ℕ) → room + 1 ≡ suc room
above room = omega arith

module _ (room : ℕ) (ws left : List Word) where
  pub reads_type : (r : Result TypeSub ParseError) → Reads see_type (type (room + 1) ws) r left → Reads see_type (type (suc room) ws) r left
  reads_type r h = subst (λ (n : ℕ). Reads see_type (type n ws) r left) (above room) h

  pub reads_constants : (s : Spot) (r : Result (Deep CommonTree) ParseError) → Reads (see_deep common_view) (constant_decl (room + 1) s ws) r left → Reads (see_deep common_view) (constant_decl (suc room) s ws) r left
  reads_constants s r h = subst (λ (n : ℕ). Reads (see_deep common_view) (constant_decl n s ws) r left) (above room) h

  pub reads_variables : (s : Spot) (r : Result (Deep CommonTree) ParseError) → Reads (see_deep common_view) (variable_decl (room + 1) s ws) r left → Reads (see_deep common_view) (variable_decl (suc room) s ws) r left
  reads_variables s r h = subst (λ (n : ℕ). Reads (see_deep common_view) (variable_decl n s ws) r left) (above room) h

  pub reads_block : (r : Result (Deep (Block StmtTree)) ParseError) → Reads see_block (a_body (room + 1) (stmt_readers (room + 1)) ws) r left → Reads see_block (block room ws) r left
  reads_block r h = subst (λ (n : ℕ). Reads see_block (a_body n (stmt_readers n) ws) r left) (above room) h
