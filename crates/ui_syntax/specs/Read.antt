-- The readers of each budget.
use Rattle.std.specs.Prelude.{ℕ, zero, suc, Bool, true, false, None}
use Rattle.ui_tree.specs.Tree.{TypeTree, Tree}
use Rattle.ui_scan.specs.declared.kind.TokenKind.TheVariants.{LParen}
use Rattle.ui_grammar.specs.Fits.{Place, in_header, plain}
use Rattle.ui_parse.specs.Reader.{Reader, ◌>>=◌, pure, refuse, expect}
use Rattle.ui_syntax.specs.declared.site.Site.{Site}
use Rattle.ui_syntax.specs.declared.site.Site.TheVariants as site
use Rattle.ui_syntax.specs.declared.site.TypeSite.TheVariants as at
use Rattle.ui_syntax.specs.Cover.{Read}
use Rattle.ui_syntax.specs.Types.{Nested, or_refuse, maybe_type, signature, func_of}
use Rattle.ui_syntax.specs.Exprs.{level, braces}

-- nothing has the depth 0
abbrev pub nothing : Nested
nothing = record {
  level = λ s l. refuse;
  maybe_type = λ p. pure None;
  braces = refuse;
  lower_level = λ s l. refuse;
  lower_maybe_type = λ p. pure None;
}

abbrev pub next : ℕ → Nested → Nested
next room inner = record {
  level = level room inner;
  maybe_type = maybe_type room inner;
  braces = braces room inner;
  lower_level = inner.level;
  lower_maybe_type = inner.maybe_type;
}

unfoldable pub readers : ℕ → Nested
readers zero = nothing
readers (suc d) = next d (readers d)

abbrev pub place_of : Bool → Site
place_of true = site.Header
place_of false = site.Plain

-- what fits there
abbrev pub place_at : Site → Place
place_at site.Header = in_header
place_at site.Plain = plain
place_at site.Wrapped = plain
place_at site.Argument = plain

-- an expression within the budget
abbrev pub expr : ℕ → Bool → Reader (Read Tree)
expr budget header = (readers budget).level (place_of header) 1

abbrev pub type : ℕ → Reader (Read TypeTree)
type budget = (readers budget).maybe_type at.Plain >>= or_refuse

-- a signature counts as the func type that its tree is
abbrev pub sig : ℕ → Reader (Read TypeTree)
sig zero = refuse
sig (suc d) = expect LParen >>= (λ s. signature d (readers d) (func_of d (readers d) s))
