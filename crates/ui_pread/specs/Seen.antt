-- What the code has read of expressions, as their readers give it.
use Rattle.std.specs.Prelude.{ℕ, map, Option, Some, None}
use Rattle.ui_tree.specs.Tree.{MaybeTree, absent, given}
use Rattle.ui_tree.specs.View.{view}
use Rattle.ui_parse.specs.Reader.{Ending}
use Rattle.ui_ptype.specs.declared.sub.Sub.{Sub}
use Rattle.ui_pread.specs.declared.args.Arguments.{Arguments}
use Rattle.ui_pread.specs.declared.marks.Prefix.{Prefix}
use Rattle.ui_syntax.specs.Exprs as exprs

abbrev pub see_arguments : Arguments → exprs.Arguments
see_arguments s = record { items = map view s.items; depth = s.depth; spread = s.spread }

abbrev pub see_prefix : Prefix → exprs.Prefix
see_prefix o = record { op = o.op; spot = o.spot }

abbrev pub see_bound : Option Sub → MaybeTree
see_bound None = absent
see_bound (Some s) = given (view s.tree)

abbrev pub bound_depth : Option Sub → ℕ
bound_depth None = 0
bound_depth (Some s) = s.depth

abbrev pub call_ending : Ending Arguments
call_ending = record { may = λ s. exprs.call_ending.may (see_arguments s); must = λ s. exprs.call_ending.must (see_arguments s) }
