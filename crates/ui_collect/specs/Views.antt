-- What the code's answers and declarations stand for.
use Rattle.std.specs.Prelude.{◌≡◌, ℕ, List, ◌++◌, map, Option, Some, None, Result, Ok, Err}
use denote.Ref.{Bor}
use Rattle.ui_base.specs.declared.fault.CheckFault.{CheckFault}
use Rattle.ui_tree.specs.declared.part.Group.{Group}
use Rattle.ui_tree.specs.declared.expr.TypeExpr.{TypeExpr}
use Rattle.ui_tree.specs.declared.stmt.ValueSpec.{ValueSpec}
use Rattle.ui_tree.specs.Tree as tree
use Rattle.ui_tree.specs.Tree.{MaybeType}
use Rattle.ui_tree.specs.Stmt.{ValueGroup, Imported}
use Rattle.ui_tree.specs.declared.decl.ImportSpec.{ImportSpec}
use Rattle.ui_collect.specs.declared.package.At.{At}
use Rattle.ui_collect.specs.Package.{Place}
use Rattle.ui_tree.specs.View.{trees, type_view, view}
use Rattle.ui_tree.specs.StmtView.{groups_view, maybe_type_view, value_view}
use Rattle.ui_scopes.specs.Steps.{Checks, ◌>>=◌, Refuses, fault_of}
use Rattle.ui_collect.specs.Names.{Names, steps}
use Rattle.ui_collect.specs.Lists.{name_rule, type_rule}
use Rattle.ui_collect.specs.Items as items
use Rattle.ui_collect.specs.Items.{no_value}
use Rattle.ui_collect.specs.declared.items.Item.{Item}
use Rattle.ui_collect.specs.declared.items.What.{What}
use Rattle.ui_collect.specs.declared.items.What.TheVariants.{Alias, Defined, Var, Const, Miscounted}
use Rattle.ui_collect.specs.declared.items.What.TheVariants.{Func}

-- the rule went on to what is there now, or it is the fault that is wanted, or memory ran out
abbrev pub Moves : {S : Type 0} → Checks S → Result (Unit {0}) CheckFault → S → Type 0
Moves want (Ok u) now = want ≡ Ok now
Moves want (Err e) now = Refuses (fault_of want) e

-- the same of a rule that gives nothing
abbrev pub Holds : Checks (Unit {0}) → Result (Unit {0}) CheckFault → Type 0
Holds want result = Moves want result tt

-- it gives what is wanted, or it is the fault that is wanted, or memory ran out
abbrev pub Tells : {A B : Type 0} → (B → A) → Checks A → Result B CheckFault → Type 0
Tells see want (Ok x) = want ≡ Ok (see x)
Tells see want (Err e) = Refuses (fault_of want) e

abbrev pub at_place : At → Place
at_place a = record { file = a.file.now; home = a.home.now; names = a.names.now }

abbrev pub imported_view : ImportSpec → Imported
imported_view s = record { name = s.name; path = s.path }

-- ---- groups

abbrev pub group_step : List ℕ → Names → Group TypeExpr → Checks Names
group_step file names g = steps (name_rule file) names g.names >>= λ more. type_rule file
    (type_view g.of) >>= λ _. Ok more

-- ---- declarations

abbrev pub maybe_at : Option (Bor TypeExpr) → MaybeType
maybe_at None = tree.no_type
maybe_at (Some t) = tree.given_type (type_view t.now)

abbrev pub what_view : What → items.What
what_view (Alias t) = items.aliased (type_view t.now)
what_view (Defined t) = items.made_as (type_view t.now)
what_view (Var t) = items.varied (maybe_at t)
what_view (Const k t e) = items.valued k (maybe_at t) (view e.now)
what_view (Miscounted k s t es) = items.miscounted k s (maybe_at t) (trees (map view es.now))
what_view (Func s) = items.called (groups_view s.now.params) (maybe_type_view s.now.results)

abbrev pub item_view : Item → items.Item
item_view d = record { file = d.file; name = d.name.now; what = what_view d.what }

-- what is found has so many items more
abbrev pub Adds : List Item → List Item → List items.Item → Type 0
Adds before now more = map item_view now ≡ map item_view before ++ more

-- the specification whose type and expressions apply
abbrev pub spec_at : Option (Bor ValueSpec) → ValueGroup
spec_at None = no_value
spec_at (Some v) = value_view v.now
