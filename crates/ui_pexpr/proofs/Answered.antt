-- What the parsers answer by their readers, they answer by the grammar.
use Rattle.std.proofs.Common.{◌≡◌, ◌↔◌, ℕ, ◌+◌, ◌≤◌, Bool, true, false, List, length, drop, Result, Err}
use Rattle.ui_scan.specs.declared.kind.Token.{Token}
use Rattle.ui_tree.specs.declared.expr.TypeExpr.{TypeExpr}
use Rattle.ui_tree.specs.declared.expr.ExprTree.{ExprTree}
use Rattle.ui_tree.specs.View.{view, type_view}
use Rattle.ui_grammar.specs.Word.{Word, words}
use Rattle.ui_grammar.specs.Parse.{HasExpr, HasType, HasSig, PassesDepth}
use Rattle.ui_parse.proofs.Longest.{Decides}
use Rattle.ui_syntax.specs.Read.{expr, type, sig}
use Rattle.ui_syntax.proofs.Decides.{expr_decides, type_decides, sig_decides}
use Rattle.ui_depth.specs.Laws.{IsFarther, behind}
use Rattle.ui_depth.proofs.Passes.{tells_exprs, tells_types, tells_sigs}
use Rattle.ui_pexpr.specs.declared.fault.ParseFault.{ParseFault}
use Rattle.ui_pexpr.specs.Answers.{Answers}
use Rattle.ui_pexpr.specs.Parsed.{Parsed, place}
use Rattle.ui_pexpr.proofs.Joins.{parsed}

pub expr_reads : (limit : ℕ) (header : Bool) → 1 ≤ limit → Decides (HasExpr (place header) limit) (expr limit header) (λ x. x.tree)
expr_reads limit true le = expr_decides limit true le
expr_reads limit false le = expr_decides limit false le

pub expr_by_depth : (limit : ℕ) (header : Bool) → 1 ≤ limit → (ws rest : List Word) → expr limit header ws ≡ Err rest → IsFarther (expr (limit + 4) header ws) rest ↔ PassesDepth (HasExpr (place header)) ws (behind ws rest)
expr_by_depth limit true le ws rest = tells_exprs true limit ws rest le
expr_by_depth limit false le ws rest = tells_exprs false limit ws rest le

module _ (limit : ℕ) (some : 1 ≤ limit) (bytes : List ℕ) (ts : List Token) (from : ℕ) (le : from ≤ length ts) where
  pub expr_parsed : (header : Bool) (r : Result (ExprTree × ℕ) ParseFault)
      → Answers view bytes ts from (expr limit header (drop from (words bytes ts))) (expr (limit + 4) header (drop from (words bytes ts))) r → Parsed view (HasExpr (place header)) limit bytes ts from r
  expr_parsed header r a = parsed view (HasExpr (place header)) limit (expr limit header) (expr (limit + 4) header) (expr_reads limit header some) (expr_by_depth limit header some) bytes ts from le r a

  pub type_parsed : (r : Result (TypeExpr × ℕ) ParseFault)
      → Answers type_view bytes ts from (type limit (drop from (words bytes ts))) (type (limit + 4) (drop from (words bytes ts))) r → Parsed type_view HasType limit bytes ts from r
  type_parsed r a = parsed type_view HasType limit (type limit) (type (limit + 4)) (type_decides limit some) (λ ws rest. tells_types limit ws rest some) bytes ts from le r a

  pub sig_parsed : (r : Result (TypeExpr × ℕ) ParseFault)
      → Answers type_view bytes ts from (sig limit (drop from (words bytes ts))) (sig (limit + 4) (drop from (words bytes ts))) r → Parsed type_view HasSig limit bytes ts from r
  sig_parsed r a = parsed type_view HasSig limit (sig limit) (sig (limit + 4)) (sig_decides limit some) (λ ws rest. tells_sigs limit ws rest some) bytes ts from le r a
