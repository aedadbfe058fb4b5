-- Readers of headers, where the budget is none and where it is one more.
use Rattle.std.proofs.Common.{◌≡◌, ℕ, zero, suc, ◌-◌, Bool, true, List, Option, None, Result, Ok, Err, refl, subst, arith}
use Rattle.std.specs.Option.{option_map}
use Rattle.ui_grammar.specs.Word.{Word}
use Rattle.ui_tree.specs.declared.stmt.StmtTree.{StmtTree}
use Rattle.ui_parse.specs.declared.fault.ParseError.{ParseError}
use Rattle.ui_parse.specs.declared.fault.ParseError.TheVariants.{Fault}
use Rattle.ui_parse.specs.Reader.{and_then}
use Rattle.ui_parse.specs.View.{Reads}
use Rattle.ui_syntax.specs.Read.{expr}
use Rattle.ui_stmts.specs.Common.{maybe}
use Rattle.ui_stmts.specs.Simple.{simple, maybe_simple, head, head_behind}
use Rattle.ui_psimple.specs.declared.deep.Deep.{Deep}
use Rattle.ui_psimple.specs.declared.head.Head.{Head}
use Rattle.ui_psimple.specs.Seen.{see_stmt, see_head}

pub maybe_simple_none : (b : ℕ) (ws : List Word) → b ≡ 0 → Reads (option_map see_stmt) (maybe_simple b ws) (Ok None) ws
unfolding maybe_simple
maybe_simple_none zero ws e = (refl, refl)
maybe_simple_none (suc d) ws e = absurd (omega (arith, e))

pub maybe_simple_some : (b : ℕ) (ws : List Word) (r : Result (Option (Deep StmtTree)) ParseError) (left : List Word) → (b ≡ 0 → ⊥) → Reads (option_map see_stmt) (maybe (simple (b - 1) true) ws) r left → Reads (option_map see_stmt) (maybe_simple b ws) r left
unfolding maybe_simple
maybe_simple_some zero ws r left some h = absurd (some refl)
maybe_simple_some (suc d) ws r left some h = let e : suc d - 1 ≡ d = omega arith in subst (λ (k : ℕ). Reads (option_map see_stmt) (maybe (simple k true) ws) r left) e h

pub no_head : (b : ℕ) (ranged : Bool) (ws : List Word) → b ≡ 0 → Reads see_head (head b ranged ws) (Err Fault) ws
unfolding head
no_head zero ranged ws e = refl
no_head (suc d) ranged ws e = absurd (omega (arith, e))

pub reads_head : (b : ℕ) (ranged : Bool) (ws : List Word) (r : Result Head ParseError) (left : List Word) → (b ≡ 0 → ⊥) → Reads see_head (and_then (expr b true ws) (head_behind (b - 1) true ranged)) r left → Reads see_head (head b ranged ws) r left
unfolding head
reads_head zero ranged ws r left some h = absurd (some refl)
reads_head (suc d) ranged ws r left some h = let e : suc d - 1 ≡ d = omega arith in subst (λ (k : ℕ). Reads see_head (and_then (expr (suc d) true ws) (head_behind k true ranged)) r left) e h
