-- What the code has read, as its readers give it.
use Rattle.std.specs.Prelude.{ℕ, List, map, Option, Some, None}
use Rattle.std.specs.Option.{option_map}
use Rattle.ui_tree.specs.declared.part.Group.{Group}
use Rattle.ui_tree.specs.Tree.{TypeTree, Tree, named, MaybeType, no_type, given_type}
use Rattle.ui_tree.specs.View.{view, type_view, group_with, type_args}
use Rattle.ui_ptype.specs.declared.sub.Sub.{Sub}
use Rattle.ui_ptype.specs.declared.sub.TypeSub.{TypeSub}
use Rattle.ui_ptype.specs.declared.sub.Subs.{Subs}
use Rattle.ui_ptype.specs.declared.sub.TypeSubs.{TypeSubs}
use Rattle.ui_ptype.specs.declared.sub.Groups.{Groups}
use Rattle.ui_ptype.specs.declared.params.Params.{Params}
use Rattle.ui_parse.specs.Reader.{Ending}
use Rattle.ui_syntax.specs.Cover.{Read, TypeName}
use Rattle.ui_syntax.specs.Types as types
use Rattle.ui_syntax.specs.Types.{Nested, Listed, Results}

abbrev pub see : Sub → Read Tree
see s = record { tree = view s.tree; spot = s.spot; depth = s.depth }

abbrev pub see_type : TypeSub → Read TypeTree
see_type s = record { tree = type_view s.tree; spot = s.spot; depth = s.depth }

abbrev pub see_maybe : Option TypeSub → Option (Read TypeTree)
see_maybe = option_map see_type

abbrev pub see_all : Subs → Listed Tree
see_all s = record { items = map view s.items; depth = s.depth }

abbrev pub see_types : TypeSubs → Listed TypeTree
see_types s = record { items = map type_view s.items; depth = s.depth }

abbrev pub see_groups : Groups → Listed (Group TypeTree)
see_groups s = record { items = map (group_with type_view) s.items; depth = s.depth }

abbrev pub see_params : Params → types.Params
see_params s = record { groups = map (group_with type_view) s.groups; waiting = s.waiting.items; style = s.style; depth = s.depth }

abbrev pub results_tree : Option TypeSub → MaybeType
results_tree None = no_type
results_tree (Some s) = given_type (type_view s.tree)

abbrev pub results_depth : Option TypeSub → ℕ
results_depth None = 0
results_depth (Some s) = s.depth

abbrev pub see_results : (room : ℕ) (inner : Nested) → Option TypeSub → Results room inner
see_results room inner r = record { of = results_tree r; depth = results_depth r }

-- the type of this name
abbrev pub named_by : Option TypeName → Option (List TypeTree) → Option TypeTree
named_by None us = None
named_by (Some n) us = Some (named n.0 n.1 (type_args us))

abbrev pub params_ending : Ending Params
params_ending = record { may = λ s. types.params_ending.may (see_params s); must = λ s. types.params_ending.must (see_params s) }
