-- Parts of readers that the code reads by calls of their own.
use Rattle.std.specs.Prelude.{ℕ, suc, max, Bool, true, false, List, [], ◌∷◌, Some, None}
use Rattle.ui_base.specs.declared.value.Spot.{Spot}
use Rattle.ui_scan.specs.declared.kind.TokenKind.TheVariants.{Assign, Inc, Dec, Range}
use Rattle.ui_tree.specs.declared.part.Placed.{Placed}
use Rattle.ui_tree.specs.Tree.{Tree}
use Rattle.ui_tree.specs.Stmt.{ValueGroup, places, Stmt, empty as no_words, increment, decrement}
use Rattle.ui_tree.specs.View.{trees}
use Rattle.ui_parse.specs.Reader.{Reader, ◌>>=◌, pure, take_by, marked, expect}
use Rattle.ui_syntax.specs.declared.site.TypeSite.TheVariants as at
use Rattle.ui_syntax.specs.Cover.{Read}
use Rattle.ui_syntax.specs.Types.{Listed, only}
use Rattle.ui_syntax.specs.Read.{readers, expr, type}
use Rattle.ui_stmts.specs.Common.{Sized, sized, exprs_from, value_of, values, constant_behind}
use Rattle.ui_stmts.specs.Simple.{Head, expression, range_over, stated, or_range, assigned, defined, or_defined, assignment, define_or, names_in}

abbrev pub no_statement : Sized Stmt
no_statement = sized no_words 1

-- ---- constants and variables, where no "=" follows the names

abbrev pub untaken_constant : ℕ → List Placed → Reader (Sized ValueGroup)
untaken_constant budget ns = (readers budget).maybe_type at.Plain >>= constant_behind budget ns

abbrev pub typed_variable : ℕ → List Placed → Reader (Sized ValueGroup)
typed_variable budget ns = type budget >>= (λ t. take_by (marked Assign) (λ _. values budget ns (Some t)) (pure (value_of ns (Some t) None)))

-- ---- simple statements

abbrev pub range_defined : Listed Tree → Reader Head
range_defined l = expect Range >>= (λ _. pure (range_over (sized (places (trees l.items) true) (suc l.depth))))

module _ (room : ℕ) (header ranged : Bool) where
  abbrev pub behind_assign : Spot → Listed Tree → Reader Head
  behind_assign s l = or_range room header ranged (places (trees l.items) false) l.depth (assigned room header ranged s l)

  abbrev pub behind_define : Spot → Listed Tree → List Placed → Reader Head
  behind_define s l ns = or_range room header ranged (places (trees l.items) true) l.depth (defined room header ranged s ns)

  abbrev pub range_or : Read Tree → Reader Head
  range_or x = or_defined room header ranged (only x.tree x.depth) (pure (expression x))

  abbrev pub behind_comma : Read Tree → Reader Head
  behind_comma x = expr room header >>= (λ y. exprs_from room header (record { items = x.tree ∷ y.tree ∷ []; depth = max x.depth y.depth }) >>= (λ l. assignment room header ranged x.spot l))

  abbrev pub stepped_or : Read Tree → Reader Head
  stepped_or x = take_by (marked Inc) (λ _. pure (stated (increment x.spot x.tree) x.depth)) (take_by (marked Dec) (λ _. pure (stated (decrement x.spot x.tree) x.depth)) (define_or room header ranged x (names_in (x.tree ∷ []))))
