-- What scopes and trees mention, as a set has to hold it for them to be checked by its names alone. This project's own.
use Rattle.std.specs.Prelude.{◌≡◌, ℕ, true, List, All, Some, IfSome}
use Rattle.ui_base.specs.Names.{is_exported}
use Rattle.ui_tree.specs.Tree.{Tree, literal, name, paren, convert, composite, elided, keyed, instance, selector, assert, index, sliced, call, type_arg, unary, binary}
use Rattle.ui_scopes.specs.Scopes.{MeaningTree, ScopeTree, object, package_at, predeclared, param, local, constant}
use Rattle.ui_scopes.specs.Local.{Names, TypeIn}

abbrev pub MeaningIn : Names → MeaningTree → Type 0
MeaningIn S (object n) = S n
MeaningIn S (package_at p) = Unit {0}
MeaningIn S (predeclared n) = Unit {0}
MeaningIn S (param k) = Unit {0}
MeaningIn S (local k t) = TypeIn S t
MeaningIn S (constant t v) = TypeIn S t

-- the declared names that a scope's names mean, and those of its types
pub record ScopeIn (S : Names) (s : ScopeTree) : Type 0 where
  pub meanings : (n : List ℕ) → IfSome (s.meaning n) (MeaningIn S)
  pub bounds : All (TypeIn S) s.bounds

-- the package that an expression is the name of
abbrev pub IsPackage : ScopeTree → Tree → List ℕ → Type 0
IsPackage s (name q) path = s.meaning q.text ≡ Some (package_at path)
IsPackage s t path = ⊥

-- A name that an expression selects from a package, where it is exported. Go specification, "Qualified identifiers": no other
-- can be, so whether it is declared makes no difference.
abbrev pub Selects : Names → ScopeTree → Tree → List ℕ → Type 0
Selects S s t n = (path : List ℕ) → IsPackage s t path → is_exported n ≡ true → S (record { path = path; name = n })

-- The names of an expression are those of its scope and those that it selects. A form that isn't taken is refused unseen.
abbrev pub TreeIn : Names → ScopeTree → Tree → Type 0
TreeIn S s (literal at kind v) = Unit {0}
TreeIn S s (name p) = Unit {0}
TreeIn S s (paren at a) = TreeIn S s a
TreeIn S s (selector at a p) = TreeIn S s a × Selects S s a p.text
TreeIn S s (unary at op a) = TreeIn S s a
TreeIn S s (binary at op a b) = TreeIn S s a × TreeIn S s b
TreeIn S s (convert at t a) = Unit {0}
TreeIn S s (composite at t es) = Unit {0}
TreeIn S s (elided at es) = Unit {0}
TreeIn S s (keyed at k a) = Unit {0}
TreeIn S s (instance at a ts) = Unit {0}
TreeIn S s (assert at a t) = Unit {0}
TreeIn S s (index at a b) = Unit {0}
TreeIn S s (sliced at a l h m) = Unit {0}
TreeIn S s (call at a es spread) = Unit {0}
TreeIn S s (type_arg t) = Unit {0}
