-- Names of fields, parameters and results: none stands twice in its list. Go specification,
-- "Struct types", "Function types". What isn't taken yet isn't looked into: elements of
-- interfaces, and types in expressions.
use Rattle.std.specs.Prelude.{ℕ, List, [], ◌∷◌, ◌++◌, Ok, if◌then◌else◌}
use Rattle.ui_base.specs.declared.fault.FaultKind.TheVariants as fault
use Rattle.ui_tree.specs.declared.part.Placed.{Placed}
use Rattle.ui_tree.specs.Tree as tree
use Rattle.ui_tree.specs.Tree.{TypeTree, Groups, MaybeType}
use Rattle.ui_scopes.specs.Steps.{Checks, ◌>>=◌}
use Rattle.ui_collect.specs.Names.{Names, is_among, is_blank, refuse_name, steps}

abbrev pub name_rule : List ℕ → Names → Placed → Checks Names
name_rule file names p =
    if is_blank p.text then Ok names
    else (if is_among names p.text then refuse_name file p.spot fault.Redeclared p.text
    else Ok (names ++ p.text ∷ []))

-- the rule, without the names that it gives
abbrev pub nameless : Checks Names → Checks (Unit {0})
nameless m = m >>= λ _. Ok tt

abbrev mutual
  pub type_rule : List ℕ → TypeTree → Checks (Unit {0})
  type_rule file (tree.named p m given) = Ok tt
  type_rule file (tree.parenthesized s t) = type_rule file t
  type_rule file (tree.pointer s t) = type_rule file t
  type_rule file (tree.slice s t) = type_rule file t
  type_rule file (tree.array s e t) = type_rule file t
  type_rule file (tree.counted s t) = type_rule file t
  type_rule file (tree.mapping s k t) = type_rule file k >>= λ _. type_rule file t
  type_rule file (tree.func s ps r) = groups_rule file [] ps >>= λ names. result_rule file names r
  type_rule file (tree.listed s gs) = nameless (groups_rule file [] gs)
  type_rule file (tree.struct s fs) = nameless (groups_rule file [] fs)
  type_rule file (tree.interface s es) = Ok tt
  type_rule file (tree.method p gs r) = Ok tt
  type_rule file (tree.union s ts) = Ok tt
  type_rule file (tree.tilde s t) = Ok tt

  -- the names of groups, behind those that stand before them in the list
  pub groups_rule : List ℕ → Names → Groups → Checks Names
  groups_rule file names tree.groups_end = Ok names
  groups_rule file names (tree.group_and ns t gs) = steps (name_rule file) names ns >>= λ more.
      type_rule file t >>= λ _. groups_rule file more gs

  -- the names of results are of the same list as those of the parameters
  pub result_rule : List ℕ → Names → MaybeType → Checks (Unit {0})
  result_rule file names tree.no_type = Ok tt
  result_rule file names (tree.given_type (tree.listed s gs)) = nameless (groups_rule file names gs)
  result_rule file names (tree.given_type t) = type_rule file t

-- the parameters and results of a function
abbrev pub sig_rule : List ℕ → Groups → MaybeType → Checks (Unit {0})
sig_rule file ps r = groups_rule file [] ps >>= λ names. result_rule file names r

abbrev pub maybe_rule : List ℕ → MaybeType → Checks (Unit {0})
maybe_rule file tree.no_type = Ok tt
maybe_rule file (tree.given_type t) = type_rule file t
