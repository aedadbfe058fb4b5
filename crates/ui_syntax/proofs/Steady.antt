-- The readers of each budget depend on the words up to the next one alone, and stop before a word as before the end.
use Rattle.std.proofs.Common.{ℕ, zero, suc, Bool, None}
use Rattle.ui_scan.specs.declared.kind.TokenKind.TheVariants.{LParen}
use Rattle.ui_parse.proofs.Steady.{Steady, steady_pure, steady_refuse, steady_bind, steady_expect}
use Rattle.ui_syntax.specs.declared.site.TypeSite.TheVariants as at
use Rattle.ui_syntax.specs.Types.{Nested}
use Rattle.ui_syntax.specs.Read.{nothing, next, readers, place_of, expr, type, sig}
use Rattle.ui_syntax.proofs.SteadyTypes.{AreSteady, steady_or_refuse, steady_signature, steady_maybe_type}
use Rattle.ui_syntax.proofs.SteadyExprs.{steady_level, steady_braces}

nothing_steady : AreSteady nothing
nothing_steady = record { level = λ s l. steady_refuse; maybe_type = λ p. steady_pure None; braces = steady_refuse; lower_level = λ s l. steady_refuse; lower_maybe_type = λ p. steady_pure None }

pub next_steady : (room : ℕ) (inner : Nested) → AreSteady inner → AreSteady (next room inner)
next_steady room inner is = record {
  level = steady_level room inner is;
  maybe_type = steady_maybe_type room inner is;
  braces = steady_braces room inner is;
  lower_level = is.level;
  lower_maybe_type = is.maybe_type;
}

pub readers_steady : (d : ℕ) → AreSteady (readers d)
unfolding readers
readers_steady zero = nothing_steady
readers_steady (suc d) = next_steady d (readers d) (readers_steady d)

pub expr_steady : (budget : ℕ) (header : Bool) → Steady (expr budget header)
expr_steady budget header = (readers_steady budget).level (place_of header) 1

pub type_steady : (budget : ℕ) → Steady (type budget)
type_steady budget = steady_bind ((readers_steady budget).maybe_type at.Plain) steady_or_refuse

pub sig_steady : (budget : ℕ) → Steady (sig budget)
sig_steady zero = steady_refuse
sig_steady (suc d) = steady_bind (steady_expect LParen) (λ s. steady_signature d (readers d) (readers_steady d) _)
