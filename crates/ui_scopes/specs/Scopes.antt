-- What names mean, as plain data: an environment, and a scope. Go specification, "Declarations and scope".
use Rattle.std.specs.Prelude.{◌≡◌, ℕ, List, [], ◌∷◌, Option, Some, None, refl, IfSome, option_map, bytes_eq}
use Rattle.std.specs.Map.{lookup}
use Rattle.ui_base.specs.declared.name.Name.{Name}
use Rattle.ui_base.specs.declared.value.Value.{Value}
use Rattle.ui_types.specs.declared.id.TypeId.{TypeId}
use Rattle.ui_types.specs.Ty.{Ty}
use Rattle.ui_types.specs.Table.{Table, IsId, AreIds, tree, trees}
use Rattle.ui_types.specs.Decls.{Packages, DeclTrees}
use Rattle.ui_scopes.specs.declared.scope.Meaning.{Meaning}
use Rattle.ui_scopes.specs.declared.scope.Meaning.TheVariants.{Object, Package, Predeclared, Param, Local, Const}
use Rattle.ui_scopes.specs.declared.scope.Scope.{Scope}

-- what an environment declares
pub record World : Type 0 where
  pub packages : Packages
  pub decls : DeclTrees

abbrev pub world : Packages → DeclTrees → World
world ps ds = record { packages = ps; decls = ds }

-- what a name means
pub data MeaningTree : Type 0 where
  object : Name → MeaningTree
  package_at : List ℕ → MeaningTree
  predeclared : List ℕ → MeaningTree
  param : ℕ → MeaningTree
  local : ℕ → Ty → MeaningTree
  constant : Ty → Value → MeaningTree

-- what each name means, the constraints in force, the own package's path, and the file
pub record ScopeTree : Type 0 where
  pub meaning : List ℕ → Option MeaningTree
  pub bounds : List Ty
  pub path : List ℕ
  pub file : List ℕ

-- the names of one block with their meanings
abbrev pub Binds : Type 0
Binds = List (List ℕ × Meaning)

-- the meaning of a name in one level
abbrev pub find_in : Binds → List ℕ → Option Meaning
find_in bs n = lookup (bytes_eq n) bs

abbrev pub or_else : {A : Type 0} → Option A → Option A → Option A
or_else None y = y
or_else (Some x) y = Some x

-- the meaning in the innermost level that has the name; the outermost level is the first
abbrev pub find_meaning : List Binds → List ℕ → Option Meaning
find_meaning [] n = None
find_meaning (l ∷ ls) n = or_else (find_meaning ls n) (find_in l n)

abbrev pub shown_meaning : Table → Meaning → MeaningTree
shown_meaning table (Object n) = object n
shown_meaning table (Package p) = package_at p
shown_meaning table (Predeclared n) = predeclared n
shown_meaning table (Param k) = param k
shown_meaning table (Local k t) = local k (tree table t)
shown_meaning table (Const t v) = constant (tree table t) v

abbrev pub IsMeaning : Table → Meaning → Type 0
IsMeaning table (Object n) = Unit {0}
IsMeaning table (Package p) = Unit {0}
IsMeaning table (Predeclared n) = Unit {0}
IsMeaning table (Param k) = Unit {0}
IsMeaning table (Local k t) = IsId table t
IsMeaning table (Const t v) = IsId table t

-- the ids of a scope are of the table
pub record IsScope (table : Table) (s : Scope) : Type 0 where
  pub meanings : (n : List ℕ) → IfSome (find_meaning s.levels n) (IsMeaning table)
  pub bounds : AreIds table s.bounds

unfoldable pub shown_scope : Table → Scope → ScopeTree
shown_scope table s = record { meaning = λ n. option_map (shown_meaning table) (find_meaning s.levels n); bounds = trees table s.bounds; path = s.path; file = s.file }

module _ (table : Table) (s : Scope) where
  pub shown_file : (shown_scope table s).file ≡ s.file
  unfolding shown_scope
  shown_file = refl

  pub shown_path : (shown_scope table s).path ≡ s.path
  unfolding shown_scope
  shown_path = refl

  pub shown_names : (n : List ℕ) → (shown_scope table s).meaning n ≡ option_map (shown_meaning table) (find_meaning s.levels n)
  unfolding shown_scope
  shown_names n = refl

pub ruleset scope_parts = (shown_file, shown_path, shown_names)
