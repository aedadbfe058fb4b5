-- Declarations that are found by the test of names.
use Rattle.std.proofs.Common.{◌≡◌, ℕ, List, Bool, true, false, [], ◌∷◌, ◌++◌, Option, Some, None}
use Rattle.std.proofs.Common.{refl, sym, ap, ◌∙◌, subst}
use Rattle.std.specs.Prelude.{option_map, cond, ◌&&◌, bytes_eq, IfSome, is_some}
use Rattle.std.specs.Map.{lookup}
use Rattle.indexmap.specs.IndexMap.{insert_entry}
use Rattle.indexmap.proofs.MapLemmas.{absent_from_lookup, insert_entry-absent}
use Rattle.std.specs.Bool.{Decides}
use Rattle.std.proofs.lemmas.Slice.Eq.{bytes_eq-Decides}
use Rattle.std.proofs.lemmas.List.Elements.{All-head, All-tail}
use Rattle.ui_base.specs.declared.name.Name.{Name}
use Rattle.ui_types.specs.declared.decl.Decl.{Decl}
use Rattle.ui_types.specs.Table.{Table}
use Rattle.ui_types.specs.Decls.{AreDecls, IsDecl, find_decl, shown_decl, shown_decls, name_eq}

-- ---- the test of names

same_test : {P Q : Type 0} (r s : Bool) → Decides r P → Decides s Q → (P → Q) → (Q → P) → r ≡ s
same_test true true d e f g = refl
same_test false false d e f g = refl
same_test true false d e f g = sym (e.1 (f (d.0 refl)))
same_test false true d e f g = d.1 (g (e.0 refl))

bytes_eq-swap : (a b : List ℕ) → bytes_eq a b ≡ bytes_eq b a
bytes_eq-swap a b = same_test (bytes_eq a b) (bytes_eq b a) (bytes_eq-Decides a b)
    (bytes_eq-Decides b a) sym sym

name_eq-swap : (a b : Name) → name_eq a b ≡ name_eq b a
name_eq-swap a b = λ i. bytes_eq-swap a.path b.path i && bytes_eq-swap a.name b.name i

-- ---- looking up

pub found_shown : (t : Table) (ds : List (Name × Decl)) (n : Name)
    → option_map (shown_decl t) (lookup (name_eq n) ds) ≡ find_decl (shown_decls t ds) n
found_shown t [] n = refl
found_shown t (d ∷ ds) n = rw (name_eq-swap n d.0) (by (name_eq d.0 n) (found_shown t ds n))
  where
    by : (r : Bool) → option_map (shown_decl t) (lookup (name_eq n) ds) ≡ find_decl (shown_decls t
        ds) n → option_map (shown_decl t) (cond r (Some d.1) (lookup (name_eq n) ds)) ≡ cond r
        (Some (shown_decl t d.1)) (find_decl (shown_decls t ds) n)
    by true h = refl
    by false h = h

pub found_valid : (t : Table) (ds : List (Name × Decl)) (n : Name) → AreDecls t ds → IfSome (lookup
    (name_eq n) ds) (IsDecl t)
found_valid t [] n h = tt
found_valid t (d ∷ ds) n h = by (name_eq n d.0) (All-head (λ (x : Name × Decl). IsDecl t x.1) d ds
    h) (found_valid t ds n (All-tail (λ (x : Name × Decl). IsDecl t x.1) d ds h))
  where
    by : (r : Bool) → IsDecl t d.1 → IfSome (lookup (name_eq n) ds) (IsDecl t) → IfSome (cond r
        (Some d.1) (lookup (name_eq n) ds)) (IsDecl t)
    by true h k = h
    by false h k = k

module _ (t : Table) (ds : List (Name × Decl)) (n : Name) where
  pub shown_some : (d e : Decl) → Some d ≡ lookup (name_eq n) ds → e ≡ d → Some (shown_decl t e) ≡
      find_decl (shown_decls t ds) n
  shown_some d e h same = ap (λ x. Some (shown_decl t x)) same ∙ ap (option_map (shown_decl t)) h ∙
      found_shown t ds n

  pub shown_none : None ≡ lookup (name_eq n) ds → None ≡ find_decl (shown_decls t ds) n
  shown_none h = ap (option_map (shown_decl t)) h ∙ found_shown t ds n

  pub valid_some : (d e : Decl) → Some d ≡ lookup (name_eq n) ds → e ≡ d → AreDecls t ds → IsDecl
      t e
  valid_some d e h same k = subst (IsDecl t) (sym same) (subst (λ (o : Option Decl). IfSome o
      (IsDecl t)) (sym h) (found_valid t ds n k))

  pub has_shown : (b : Bool) → b ≡ is_some (lookup (name_eq n) ds) → b ≡ is_some (find_decl
      (shown_decls t ds) n)
  has_shown b h = h ∙ same (lookup (name_eq n) ds) ∙ ap is_some (found_shown t ds n)
    where
      same : (o : Option Decl) → is_some o ≡ is_some (option_map (shown_decl t) o)
      same None = refl
      same (Some d) = refl

pub added : (ds : List (Name × Decl)) (n : Name) (d : Decl) → lookup (name_eq n) ds ≡ None
    → insert_entry name_eq ds n d ≡ ds ++ (n, d) ∷ []
added ds n d h = insert_entry-absent name_eq n d ds (absent_from_lookup (name_eq n) ds h)

pub ruleset mapping = (shown_some, shown_none, valid_some, has_shown, added)
