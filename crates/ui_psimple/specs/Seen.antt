-- What the code has read, as its readers give it.
use Rattle.std.specs.Prelude.{ℕ, List, ◌∷◌, [], ◌++◌, max, map, Option}
use Rattle.std.specs.Option.{option_map}
use Rattle.ui_tree.specs.declared.stmt.StmtTree.{StmtTree}
use Rattle.ui_tree.specs.Tree.{Tree}
use Rattle.ui_tree.specs.Stmt.{Stmt}
use Rattle.ui_tree.specs.StmtView.{places_view, stmt_view}
use Rattle.ui_ptype.specs.declared.sub.Subs.{Subs}
use Rattle.ui_ptype.specs.Seen.{see, see_all}
use Rattle.ui_syntax.specs.Types.{Listed}
use Rattle.ui_stmts.specs.Common.{Sized, sized}
use Rattle.ui_stmts.specs.Simple as simple
use Rattle.ui_psimple.specs.declared.deep.Deep.{Deep}
use Rattle.ui_psimple.specs.declared.head.Head.{Head}
use Rattle.ui_psimple.specs.declared.head.Head.TheVariants.{Expression, Statement, Range}

abbrev pub see_deep : {X T : Type 0} → (X → T) → Deep X → Sized T
see_deep f d = sized (f d.of) d.depth

abbrev pub see_stmt : Deep StmtTree → Sized Stmt
see_stmt d = sized (stmt_view d.of) d.depth

abbrev pub see_list : {X T : Type 0} → (X → T) → Deep (List X) → Listed T
see_list f d = record { items = map f d.of; depth = d.depth }

abbrev pub no_parts : {X : Type 0} → Deep (List X)
no_parts = record { of = []; depth = 0 }

abbrev pub added : {X : Type 0} → Deep (List X) → X → ℕ → Deep (List X)
added d x k = record { of = d.of ++ (x ∷ []); depth = max d.depth k }

abbrev pub see_values : Option Subs → Option (Listed Tree)
see_values = option_map see_all

abbrev pub see_head : Head → simple.Head
see_head (Expression x) = simple.expression (see x)
see_head (Statement s) = simple.statement (see_stmt s)
see_head (Range ps) = simple.range_over (see_deep places_view ps)
