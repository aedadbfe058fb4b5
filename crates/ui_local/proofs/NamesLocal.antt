-- The rules of names are local.
use Rattle.std.specs.Prelude.{◌≡◌, ℕ, Bool, true, false, List, Option, Some, None, IfSome, refl, bytes_eq, codes, if◌then◌else◌}
use Rattle.std.proofs.Common.{sym, subst as along}
use Rattle.ui_base.specs.Names.{is_exported}
use Rattle.ui_base.specs.declared.name.Name.{Name}
use Rattle.ui_base.specs.declared.value.Spot.{Spot}
use Rattle.ui_base.specs.declared.value.Value.{Value}
use Rattle.ui_base.specs.declared.fault.FaultKind.TheVariants as fault
use Rattle.ui_types.specs.Ty.{Ty, basic}
use Rattle.ui_types.specs.Decls.{FaceTree, DeclTree, alias, constant, variable, function, defined, find_decl}
use Rattle.ui_const.specs.Kinds.{holds}
use Rattle.ui_tree.specs.Tree.{name}
use Rattle.ui_tree.specs.declared.part.Placed.{Placed}
use Rattle.ui_scopes.specs.Operands.{OperandTree, value, many, type_of, generic_type, generic_func, method, builtin, package_at}
use Rattle.ui_scopes.specs.Scopes as scopes
use Rattle.ui_scopes.specs.Scopes.{World, ScopeTree, MeaningTree}
use Rattle.ui_scopes.specs.Local.{Names, TypeIn, FaceIn, OperandIn, no_package, Agree, Same, same_then, same_weaker, same_ok, same_err, same_if, under_at_same}
use Rattle.ui_rules.specs.Names.{refuse_name, constant_object, object_face, object_found, object_operand, is_outside, is_later, predeclared_operand, meaning_operand, name_operand, package_member}
use Rattle.ui_local.specs.Mentioned.{MeaningIn, ScopeIn, IsPackage}
use Rattle.ui_local.proofs.ConstantsLocal.{SameValue, Local}

-- what is no package is none of any kind
pub no_package_is : (S : Names) (K : List ℕ → Type 0) (x : OperandTree) → OperandIn S no_package x → OperandIn S K x
no_package_is S K (value e t c a) h = h
no_package_is S K (many e ts) h = h
no_package_is S K (type_of t) h = h
no_package_is S K (generic_type n) h = h
no_package_is S K (generic_func n ts) h = h
no_package_is S K (method e t) h = h
no_package_is S K (builtin n) h = h
no_package_is S K (package_at p) h = absurd h

module _ {S : Names} {w w' : World} (g : Agree S w w') (file : List ℕ) (at : Spot) where
  -- ---- declared names

  constant_object_local : (t : Ty) (v : Value) (u : Ty) → TypeIn S t → Local S (constant_object file at t v u)
  constant_object_local t v (basic b) h = same_if (holds b v) (same_ok (h, h)) same_err
  constant_object_local t v u h = same_err

  object_face_local : (f : FaceTree) → FaceIn S f → SameValue S (object_face w file at f) (object_face w' file at f)
  object_face_local (constant t v) h = same_then (under_at_same g file at t h) (λ u i. constant_object_local t v u h)
  object_face_local (variable t) h = same_err
  object_face_local (alias t) h = same_err
  object_face_local (function ps t) h = same_err
  object_face_local (defined ps t ms) h = same_err

  object_found_local : (n : Name) (d : Option DeclTree) → IfSome d (λ e. FaceIn S e.face) → SameValue S (object_found w file at n d) (object_found w' file at n d)
  object_found_local n None h = same_err
  object_found_local n (Some d) h = object_face_local d.face h

  pub object_local : (n : Name) → S n → SameValue S (object_operand w file at n) (object_operand w' file at n)
  object_local n s =
      along (λ (d : Option DeclTree). SameValue S (object_found w file at n (find_decl w.decls n)) (object_found w' file at n d))
      (g.alike n s)
      (object_found_local n (find_decl w.decls n) (g.closed n s))

  -- ---- names of packages

  pub package_member_local : (path n : List ℕ) → (is_exported n ≡ true → S (record { path = path; name = n })) → SameValue S (package_member w file at path n) (package_member w' file at path n)
  package_member_local path n h = choice (is_exported n) h
    where
      choice : (b : Bool) → (b ≡ true → S (record { path = path; name = n })) → SameValue S (if b then object_operand w file at (record { path = path; name = n }) else refuse_name file at fault.NotExported n) (if b then object_operand w' file at (record { path = path; name = n }) else refuse_name file at fault.NotExported n)
      choice true k = object_local (record { path = path; name = n }) (k refl)
      choice false k = same_err

-- ---- predeclared names

predeclared_local : (S : Names) (file : List ℕ) (at : Spot) (n : List ℕ) → Local S (predeclared_operand file at n)
predeclared_local S file at n =
    same_if (bytes_eq n (codes "true")) (same_ok (tt, tt))
    (same_if (bytes_eq n (codes "false")) (same_ok (tt, tt))
    (same_if (is_outside n) same_err (same_if (is_later n) same_err same_err)))

-- ---- names

module _ {S : Names} {w w' : World} (g : Agree S w w') (s : ScopeTree) (p : Placed) where
  meaning_local : (m : Option MeaningTree) → m ≡ s.meaning p.text → IfSome m (MeaningIn S) → Same (OperandIn S (IsPackage s (name p))) (meaning_operand w s.file p m) (meaning_operand w' s.file p m)
  meaning_local None e h = same_err
  meaning_local (Some (scopes.object n)) e h = same_weaker (no_package_is S (IsPackage s (name p))) (object_local g s.file p.spot n h)
  meaning_local (Some (scopes.package_at path)) e h = same_ok (sym e)
  meaning_local (Some (scopes.predeclared n)) e h = same_weaker (no_package_is S (IsPackage s (name p))) (predeclared_local S s.file p.spot n)
  meaning_local (Some (scopes.param k)) e h = same_err
  meaning_local (Some (scopes.local k t)) e h = same_err
  meaning_local (Some (scopes.constant t v)) e h = same_ok (h, h)

  pub name_local : ScopeIn S s → Same (OperandIn S (IsPackage s (name p))) (name_operand w s p) (name_operand w' s p)
  name_local k = same_if (bytes_eq p.text (codes "_")) same_err (meaning_local (s.meaning p.text) refl (k.meanings p.text))
