-- What is found of a name, and what it is wanted to be.
use Rattle.std.proofs.Common.{◌≡◌, ℕ, List, Bool, true, false, Option, Some, None, Result, Ok, Err}
use Rattle.std.proofs.Common.{refl, sym, ap, ◌∙◌, subst}
use Rattle.std.specs.Prelude.{option_map, codes, bytes_eq, if◌then◌else◌}
use denote.Ref.{Bor}
use Rattle.ui_base.specs.declared.name.Name.{Name}
use Rattle.ui_base.specs.declared.fault.CheckFault.{CheckFault}
use Rattle.ui_types.specs.Ty.{Ty}
use Rattle.ui_types.specs.Table.{Table}
use Rattle.ui_tree.specs.declared.part.Placed.{Placed}
use Rattle.ui_scopes.specs.declared.scope.Meaning.{Meaning}
use Rattle.ui_scopes.specs.declared.scope.Scope.{Scope}
use Rattle.ui_scopes.specs.Scopes.{World, MeaningTree, find_meaning, shown_meaning, shown_scope}
use Rattle.ui_scopes.specs.Steps.{Checks, Refuses, fault_of}
use Rattle.ui_face_rules.specs.TypeNames.{meaning_type, name_type, qualified_meaning}
use Rattle.ui_face_rules.specs.TypeNames.{qualified_type}
use Rattle.ui_type_names.specs.declared.found.Found.{Found}
use Rattle.ui_type_names.specs.declared.found.Found.TheVariants.{Known, Declared}
use Rattle.ui_type_names.specs.Views.{Finds}

-- where the same is wanted in every world
pub Finds-same : (table : Table) (want want' : World → Checks Ty) (object : World → Name → Checks Ty)
    (r : Result Found CheckFault) → ((w : World) → want w ≡ want' w) → Finds table want object r
    → Finds table want' object r
Finds-same table want want' object (Ok (Known t)) e h = (h.0, λ w. sym (e w) ∙ h.1 w)
Finds-same table want want' object (Ok (Declared n)) e h = λ w. sym (e w) ∙ h w
Finds-same table want want' object (Err fault) e h = λ w. subst (λ m. Refuses (fault_of m) fault) (e
    w) (h w)

-- a meaning that is lent
module _ (table : Table) (o : Option (Bor Meaning)) (b : Bor Meaning) (m : Meaning) where
  pub lent_meaning : o ≡ Some b → b.now ≡ m → option_map (λ x. shown_meaning table x.now) o ≡ Some
      (shown_meaning table m)
  lent_meaning h k = ap (option_map (λ x. shown_meaning table x.now)) h ∙ ap (λ x. Some
      (shown_meaning table x)) k

-- the meaning that a scope has
module _ (table : Table) (s : Scope) (n : List ℕ) (o : Option (Bor Meaning)) where
  pub scope_meaning : option_map (λ m. m.now) o ≡ find_meaning s.levels n → option_map (λ m.
      shown_meaning table m.now) o ≡ (shown_scope table s).meaning n
  unfolding shown_scope
  scope_meaning h = each o ∙ ap (option_map (shown_meaning table)) h
    where
      each : (o : Option (Bor Meaning)) → option_map (λ m. shown_meaning table m.now) o ≡
          option_map (shown_meaning table) (option_map (λ m. m.now) o)
      each None = refl
      each (Some b) = refl

module _ (table : Table) (s : Scope) (p : Placed) (o : Option (Bor Meaning)) where
  pub name_found : bytes_eq p.text (codes "_") ≡ false → option_map (λ m. m.now) o ≡ find_meaning
      s.levels p.text → (w : World) → meaning_type w s.file p (option_map (λ m. shown_meaning table
      m.now) o) ≡ name_type w (shown_scope table s) p
  unfolding shown_scope
  name_found h k w = rw h (ap (meaning_type w s.file p) (scope_meaning table s p.text o k))

  pub qualified_found : (name : List ℕ) → bytes_eq p.text (codes "_") ≡ false → option_map (λ m.
      m.now) o ≡ find_meaning s.levels p.text → (w : World) → qualified_meaning w s.file p name
      (option_map (λ m. shown_meaning table m.now) o) ≡ qualified_type w (shown_scope table s) p
      name
  unfolding shown_scope
  qualified_found name h k w = rw h (ap (qualified_meaning w s.file p name) (scope_meaning table s
      p.text o k))
