-- The readers of expressions, types and signatures of each budget read exactly the forms of the grammar.
use Rattle.std.specs.Prelude.{ℕ, ◌≤◌, Bool}
use Rattle.ui_grammar.specs.Parse.{HasExpr, HasType, HasSig}
use Rattle.ui_parse.specs.Exact.{ReadsExactly}
use Rattle.ui_syntax.specs.Read.{place_of, place_at, expr, type, sig}

abbrev pub ReadsExprs : Type 0
ReadsExprs = (limit : ℕ) (header : Bool) → 1 ≤ limit → ReadsExactly (HasExpr (place_at (place_of header)) limit) (expr limit header) (λ x. x.tree)

abbrev pub ReadsTypes : Type 0
ReadsTypes = (limit : ℕ) → 1 ≤ limit → ReadsExactly (HasType limit) (type limit) (λ x. x.tree)

abbrev pub ReadsSigs : Type 0
ReadsSigs = (limit : ℕ) → 1 ≤ limit → ReadsExactly (HasSig limit) (sig limit) (λ x. x.tree)
