-- The readers of expressions, types and signatures read exactly the forms of the grammar: each tree that is found is the
-- only one of its words, and a fault stands behind the longest list of words with which a form begins.
use Rattle.std.specs.Prelude.{◌≡◌, ℕ, ◌≤◌, Bool, List}
use Rattle.ui_tree.specs.Tree.{TypeTree, Tree}
use Rattle.ui_grammar.specs.Word.{Word}
use Rattle.ui_grammar.specs.Parse.{HasExpr, HasType, HasSig}
use Rattle.ui_parse.proofs.Longest.{Decides, one, exactly}
use Rattle.ui_syntax.specs.Read.{place_of, expr, type, sig, place_at}
use Rattle.ui_syntax.specs.Laws.{ReadsExprs, ReadsTypes, ReadsSigs}
use Rattle.ui_syntax.proofs.Steady.{expr_steady, type_steady, sig_steady}
use Rattle.ui_syntax.proofs.Sound.{expr_found, expr_fault, type_found, type_fault, sig_found, sig_fault}
use Rattle.ui_syntax.proofs.Complete.{expr_whole, type_whole, sig_whole}

pub expr_decides : (limit : ℕ) (header : Bool) → 1 ≤ limit → Decides (HasExpr (place_at (place_of header)) limit) (expr limit header) (λ x. x.tree)
expr_decides limit header le = record {
  found_has = expr_found limit header;
  fault_live = λ ws rest e. expr_fault limit header ws rest le e;
  complete = expr_whole limit header;
  steady = expr_steady limit header;
}

pub type_decides : (limit : ℕ) → 1 ≤ limit → Decides (HasType limit) (type limit) (λ x. x.tree)
type_decides limit le = record {
  found_has = type_found limit;
  fault_live = λ ws rest e. type_fault limit ws rest le e;
  complete = type_whole limit;
  steady = type_steady limit;
}

pub sig_decides : (limit : ℕ) → 1 ≤ limit → Decides (HasSig limit) (sig limit) (λ x. x.tree)
sig_decides limit le = record {
  found_has = sig_found limit;
  fault_live = λ ws rest e. sig_fault limit ws rest le e;
  complete = sig_whole limit;
  steady = sig_steady limit;
}

-- ---- no words have two trees

pub one_expr : (limit : ℕ) (header : Bool) → 1 ≤ limit → (ws : List Word) (t u : Tree) → HasExpr (place_at (place_of header)) limit ws t → HasExpr (place_at (place_of header)) limit ws u → t ≡ u
one_expr limit header le = one (HasExpr (place_at (place_of header)) limit) (expr limit header) (λ x. x.tree) (expr_decides limit header le)

pub one_type : (limit : ℕ) → 1 ≤ limit → (ws : List Word) (t u : TypeTree) → HasType limit ws t → HasType limit ws u → t ≡ u
one_type limit le = one (HasType limit) (type limit) (λ x. x.tree) (type_decides limit le)

pub one_sig : (limit : ℕ) → 1 ≤ limit → (ws : List Word) (t u : TypeTree) → HasSig limit ws t → HasSig limit ws u → t ≡ u
one_sig limit le = one (HasSig limit) (sig limit) (λ x. x.tree) (sig_decides limit le)

-- ---- by the grammar alone

pub reads_exprs : ReadsExprs
reads_exprs limit header le = exactly (HasExpr (place_at (place_of header)) limit) (expr limit header) (λ x. x.tree) (expr_decides limit header le)

pub reads_types : ReadsTypes
reads_types limit le = exactly (HasType limit) (type limit) (λ x. x.tree) (type_decides limit le)

pub reads_sigs : ReadsSigs
reads_sigs limit le = exactly (HasSig limit) (sig limit) (λ x. x.tree) (sig_decides limit le)
