-- Lists of names, and the numbers that they stand for.
use Rattle.std.proofs.Common.{◌≡◌, ◌⊎◌, ℕ, zero, suc, ◌+◌, ◌<◌, ◌≤◌, true, false, List, [], ◌∷◌, ◌++◌, take, get_or, length, refl, sym, ap, ◌∙◌, inl, inr, subst, arith}
use Rattle.std.specs.Prelude.{nat_eq, map, position, Option, Some, None}
use Rattle.std.proofs.lemmas.Bool.{or_cases, or_left, or_right, false≢true}
use Rattle.std.proofs.lemmas.Bool.Decides.{Decides-eqb}
use Rattle.std.proofs.lemmas.List.{append_assoc, take_more, map-append}
use Rattle.std.proofs.lemmas.List.Quantifiers.{position-Some}
use Rattle.ui_base.specs.declared.name.Name.{Name}
use Rattle.ui_types.specs.declared.part.Field.{Field}
use Rattle.ui_types.specs.Ty.{Ty, tys, size, sizes}
use Rattle.ui_types.specs.Table.{Table, tree, parts_by}
use Rattle.ui_types.specs.Decls.{name_eq}
use Rattle.ui_order.specs.Steps.{has}
use Rattle.ui_order.specs.StepLaws.{has-append}
use Rattle.ui_held.specs.Held.{held, held_fields, places, listed}

pub places-append : (names xs ys : List Name)
    → places names (xs ++ ys) ≡ places names xs ++ places names ys
places-append names [] ys = refl
places-append names (x ∷ xs) ys =
    ap (λ (ks : List ℕ). listed (position (name_eq x) names) ++ ks) (places-append names xs ys)
    ∙ sym (append_assoc (listed (position (name_eq x) names)) (places names xs) (places names ys))

fields-append : (ts us : List Ty)
    → held_fields (tys (ts ++ us)) ≡ held_fields (tys ts) ++ held_fields (tys us)
fields-append [] us = refl
fields-append (t ∷ ts) us =
    ap (λ (ns : List Name). held t ++ ns) (fields-append ts us)
    ∙ sym (append_assoc (held t) (held_fields (tys ts)) (held_fields (tys us)))

append_nil : {X : Type 0} (xs : List X) → xs ++ [] ≡ xs
append_nil [] = refl
append_nil (x ∷ xs) = ap (λ (ys : List _). x ∷ ys) (append_nil xs)

-- the names that the first fields hold
abbrev pub front : Table → List Field → ℕ → List Name
front table fs i = held_fields (parts_by (λ (f : Field). f.ty) table (take i fs))

pub front-more : (table : Table) (fs : List Field) (i : ℕ) (d : Field) → i < length fs
    → front table fs (i + 1) ≡ front table fs i ++ held (tree table (get_or fs i d).ty)
front-more table fs i d h =
    let at : Field → Ty = λ f. tree table f.ty in
    ap (λ (gs : List Field). held_fields (tys (map at gs))) (take_more fs i d h)
    ∙ ap (λ (ts : List Ty). held_fields (tys ts)) (map-append at (take i fs) (get_or fs i d ∷ []))
    ∙ fields-append (map at (take i fs)) (at (get_or fs i d) ∷ [])
    ∙ ap (λ (ns : List Name). front table fs i ++ ns) (append_nil (held (at (get_or fs i d))))

-- the type of a field is smaller than those of all
pub field_smaller : (table : Table) (fs : List Field) (i : ℕ) (d : Field) → i < length fs
    → size (tree table (get_or fs i d).ty) ≤ sizes (parts_by (λ (f : Field). f.ty) table fs)
field_smaller table [] i d h = absurd (omega arith)
field_smaller table (f ∷ fs) zero d h = omega arith
field_smaller table (f ∷ fs) (suc i) d h =
    let rest = field_smaller table fs i d (omega arith) in omega arith

-- what is in one of two lists
pub has_both : (xs ys : List ℕ) (k : ℕ) → has nat_eq (xs ++ ys) k ≡ true
    → (has nat_eq xs k ≡ true) ⊎ (has nat_eq ys k ≡ true)
has_both xs ys k h =
    or_cases (has nat_eq xs k) (has nat_eq ys k) (sym (has-append nat_eq Decides-eqb xs ys k) ∙ h)

pub has_left : (xs ys : List ℕ) (k : ℕ) → has nat_eq xs k ≡ true → has nat_eq (xs ++ ys) k ≡ true
has_left xs ys k h =
    has-append nat_eq Decides-eqb xs ys k ∙ or_left (has nat_eq xs k) (has nat_eq ys k) h

pub has_right : (xs ys : List ℕ) (k : ℕ) → has nat_eq ys k ≡ true → has nat_eq (xs ++ ys) k ≡ true
has_right xs ys k h =
    has-append nat_eq Decides-eqb xs ys k ∙ or_right (has nat_eq xs k) (has nat_eq ys k) h

-- a place is one of a name
listed_within : (names : List Name) (n : Name) (o : Option ℕ) (k : ℕ)
    → position (name_eq n) names ≡ o → has nat_eq (listed o) k ≡ true → k < length names
listed_within names n None k e h = absurd (false≢true h)
listed_within names n (Some i) k e h = elim (or_cases (nat_eq k i) false h) [
  | inl same ↦ subst (λ j. j < length names) (sym ((Decides-eqb k i).0 same))
      (position-Some (name_eq n) names i n e).0
  | inr none ↦ absurd (false≢true none)
]

pub places_within : (names ns : List Name) (k : ℕ) → has nat_eq (places names ns) k ≡ true
    → k < length names
places_within names [] k h = absurd (false≢true h)
places_within names (n ∷ ns) k h =
    elim (has_both (listed (position (name_eq n) names)) (places names ns) k h) [
      | inl first ↦ listed_within names n (position (name_eq n) names) k refl first
      | inr rest ↦ places_within names ns k rest
    ]
