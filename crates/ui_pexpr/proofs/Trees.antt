-- No words have two trees, whatever the limit.
use Rattle.std.proofs.Common.{ℕ, suc, true, false, List, arith}
use Rattle.ui_tree.specs.Tree.{TypeTree, Tree}
use Rattle.ui_grammar.specs.Word.{Word}
use Rattle.ui_grammar.specs.Fits.{Place}
use Rattle.ui_grammar.specs.Parse.{HasExpr, HasType, HasSig}
use Rattle.ui_syntax.proofs.Decides.{one_expr, one_type, one_sig}
use Rattle.ui_pexpr.specs.Parsed.{place}
use Rattle.ui_pexpr.specs.Laws.{HasOneExpr, HasOneType, HasOneSig}

-- a tree within a limit is within the next one
expr_more : (p : Place) (limit : ℕ) (ws : List Word) (t : Tree) → HasExpr p limit ws t → HasExpr p (suc limit) ws t
expr_more p limit ws t h = record { spells = h.spells; fits = h.fits; shallow = omega (arith, h.shallow) }

type_more : (limit : ℕ) (ws : List Word) (t : TypeTree) → HasType limit ws t → HasType (suc limit) ws t
type_more limit ws t h = record { spells = h.spells; fits = h.fits; shallow = omega (arith, h.shallow) }

sig_more : (limit : ℕ) (ws : List Word) (t : TypeTree) → HasSig limit ws t → HasSig (suc limit) ws t
sig_more limit ws t h = record { spells = h.spells; fits = h.fits; shallow = omega (arith, h.shallow) }

pub one_expr_tree : HasOneExpr
one_expr_tree limit true ws t u h g = one_expr (suc limit) true (omega arith) ws t u (expr_more (place true) limit ws t h) (expr_more (place true) limit ws u g)
one_expr_tree limit false ws t u h g = one_expr (suc limit) false (omega arith) ws t u (expr_more (place false) limit ws t h) (expr_more (place false) limit ws u g)

pub one_type_tree : HasOneType
one_type_tree limit ws t u h g = one_type (suc limit) (omega arith) ws t u (type_more limit ws t h) (type_more limit ws u g)

pub one_sig_tree : HasOneSig
one_sig_tree limit ws t u h g = one_sig (suc limit) (omega arith) ws t u (sig_more limit ws t h) (sig_more limit ws u g)
