-- What every listing of a folder is, and that the last parts of ascending names are one. This project's own.
use Rattle.std.specs.Prelude.{◌≡◌, ℕ, ◌+◌, ◌<◌, Bool, true, false, cond, not, ◌&&◌, nat_eq, List, [], ◌∷◌, ◌++◌, length, take, drop, slice_index, map, filter_map, String, string_bytes, Some, None, refl}
use Rattle.std.specs.Ordering.{nat_cmp, ordering_then}
use Rattle.std.specs.Cmp.{nat_cmp_is}
use Rattle.std.specs.Cmp.Lexicographic.{slice_cmp, bytes_decides}
use Rattle.std.specs.List.{AllPass, AllByRecursion, list_all, starts_with, cons_option}
use Rattle.std.specs.List.Sorted.{IsStrictlySortedBy}
use Rattle.std.specs.declared.cmp.Ordering.TheVariants.{Less, Equal}
use Rattle.std.specs.declared.alloc.Global.{Global}
use Rattle.std.proofs.Common.{◌∙◌, ap, sym, arith, suc, drop-cons, add-one}
use Rattle.std.proofs.lemmas.List.{take-append-drop}
use Rattle.std.proofs.lemmas.List.Folds.{list_all-map}
use Rattle.std.proofs.lemmas.List.Sums.{AllPass-from_list_all}
use Rattle.ui_store.specs.Files.{has_slash, is_part, part_in}

-- whether a name can stand in a folder
abbrev pub is_last_part : List ℕ → Bool
is_last_part name = not (has_slash name)

-- The names ascend by bytes, each once, and none holds `/`.
pub record IsListing (names : List (List ℕ)) : Type 0 where
  pub ascending : IsStrictlySortedBy (slice_cmp nat_cmp) names
  pub parts : AllPass is_last_part names

record PartOf (folder name : List ℕ) : Type 0 where
  shorter : length folder < length name
  front : starts_with nat_eq name folder ≡ true
  slash : slice_index name (length folder) ≡ 47
  last : is_last_part (drop (length folder + 1) name) ≡ true

tests : (folder name : List ℕ) → is_part folder name ≡ true → PartOf folder name
tests folder name h = record { shorter = grind arith; front = grind arith; slash = grind arith; last = grind arith }

rest_of : (name : List ℕ) (n : ℕ) → n < length name → slice_index name n ≡ 47 → drop n name ≡ 47 ∷ drop (n + 1) name
rest_of name n h e = rw (add-one, drop-cons name n 0) (ap (λ b. b ∷ drop (suc n) name) e)

-- a name in a folder is the folder, `/` and its last part
whole_name : (folder name : List ℕ) → PartOf folder name → name ≡ folder ++ 47 ∷ drop (length folder + 1) name
whole_name folder name p =
    sym (take-append-drop (length folder) name)
    ∙ ap (λ t. t ++ drop (length folder) name) (sym ((bytes_decides folder (take (length folder) name)).0 p.front))
    ∙ ap (λ d. folder ++ d) (rest_of name (length folder) p.shorter p.slash)

same_order : (n : ℕ) → nat_cmp n n ≡ Equal
same_order n = sym (nat_cmp_is n n Equal refl)

same_front : (front a b : List ℕ) → slice_cmp nat_cmp (front ++ a) (front ++ b) ≡ slice_cmp nat_cmp a b
same_front [] a b = refl
same_front (x ∷ xs) a b = ap (λ o. ordering_then o (slice_cmp nat_cmp (xs ++ a) (xs ++ b))) (same_order x) ∙ same_front xs a b

-- the last parts of two names in a folder are in the order of the names
part_below : (folder x y : List ℕ) → PartOf folder x → PartOf folder y → slice_cmp nat_cmp x y ≡ Less → slice_cmp nat_cmp (drop (length folder + 1) x) (drop (length folder + 1) y) ≡ Less
part_below folder x y p q e =
    let a : List ℕ = drop (length folder + 1) x in
    let b : List ℕ = drop (length folder + 1) y in
    sym (same_front folder (47 ∷ a) (47 ∷ b))
    ∙ ap (λ s. slice_cmp nat_cmp s (folder ++ 47 ∷ b)) (sym (whole_name folder x p))
    ∙ ap (λ s. slice_cmp nat_cmp x s) (sym (whole_name folder y q)) ∙ e

below_parts : (folder x : List ℕ) → PartOf folder x → (names : List (List ℕ)) → AllByRecursion (λ y. slice_cmp nat_cmp x y ≡ Less) names → AllByRecursion (λ y. slice_cmp nat_cmp (drop (length folder + 1) x) y ≡ Less) (filter_map (part_in folder) names)
below_parts folder x p [] h = tt
below_parts folder x p (y ∷ ys) h =
    elim (is_part folder y) as (λ b. is_part folder y ≡ b → AllByRecursion (λ z. slice_cmp nat_cmp (drop (length folder + 1) x) z ≡ Less) (cons_option (cond b (Some (drop (length folder + 1) y)) None) (filter_map (part_in folder) ys)))
    [ true ↦ λ e. (part_below folder x y p (tests folder y e) h.0, below_parts folder x p ys h.1) | false ↦ λ e. below_parts folder x p ys h.1 ] refl

parts_ascend : (folder : List ℕ) (names : List (List ℕ)) → IsStrictlySortedBy (slice_cmp nat_cmp) names → IsStrictlySortedBy (slice_cmp nat_cmp) (filter_map (part_in folder) names)
unfolding IsStrictlySortedBy
parts_ascend folder [] h = tt
parts_ascend folder (x ∷ xs) h =
    elim (is_part folder x) as (λ b. is_part folder x ≡ b → IsStrictlySortedBy (slice_cmp nat_cmp) (cons_option (cond b (Some (drop (length folder + 1) x)) None) (filter_map (part_in folder) xs)))
    [ true ↦ λ e. (below_parts folder x (tests folder x e) xs h.0, parts_ascend folder xs h.1) | false ↦ λ e. parts_ascend folder xs h.1 ] refl

last_parts : (folder : List ℕ) (names : List (List ℕ)) → list_all is_last_part (filter_map (part_in folder) names) ≡ true
last_parts folder [] = refl
last_parts folder (x ∷ xs) =
    elim (is_part folder x) as (λ b. is_part folder x ≡ b → list_all is_last_part (cons_option (cond b (Some (drop (length folder + 1) x)) None) (filter_map (part_in folder) xs)) ≡ true)
    [ true ↦ λ e. ap (λ b. b && list_all is_last_part (filter_map (part_in folder) xs)) (tests folder x e).last ∙ last_parts folder xs | false ↦ λ e. last_parts folder xs ] refl

-- ascending names without `/` are a listing
pub listing_of : (names : List (List ℕ)) → IsStrictlySortedBy (slice_cmp nat_cmp) names → list_all is_last_part names ≡ true → IsListing names
listing_of names h e = record { ascending = h; parts = AllPass-from_list_all is_last_part names e }

pub strings_listed : (names : List (String Global)) → IsStrictlySortedBy (slice_cmp nat_cmp) (map string_bytes names) → list_all (λ name. is_last_part (string_bytes name)) names ≡ true → IsListing (map string_bytes names)
strings_listed names h e = listing_of _ h (list_all-map is_last_part string_bytes names ∙ e)

-- the last parts of ascending names are a listing
pub are_listings : (folder : List ℕ) (names : List (List ℕ)) → IsStrictlySortedBy (slice_cmp nat_cmp) names → IsListing (filter_map (part_in folder) names)
are_listings folder names h = listing_of _ (parts_ascend folder names h) (last_parts folder names)
