-- Places that a map keeps, by keys of a list's items.
use Rattle.std.proofs.Common.{◌≡◌, ℕ, ◌+◌, ◌-◌, ◌<◌, ◌≤◌, Bool, true, false, cond, List, ◌∷◌, drop, length, get_or, Option, Some, refl, sym, ap, ◌∙◌, arith}
use Rattle.std.specs.Prelude.{slice_get, bytes_eq}
use Rattle.std.specs.List.{find}
use Rattle.std.specs.Option.{option_and_then}
use Rattle.std.specs.Ordering.{nat_cmp, eq_by_cmp}
use Rattle.std.specs.Cmp.{eq_by_cmp_equiv}
use Rattle.std.specs.Cmp.Lexicographic.{slice_cmp, nat_list_cmp_total}
use Rattle.std.specs.FinMap.{get, insert, empty, get-empty, get-insert}
use Rattle.std.proofs.lemmas.List.{drop_more, drop_all}
use Rattle.std.proofs.lemmas.Map.Text.{is_eq-slice_cmp}
use Rattle.std.proofs.lemmas.Option.{slice_get_read}
use Rattle.ui_exports.specs.Linked.{Linked}
use Rattle.ui_forms.specs.Words.{last_segment}
use Rattle.ui_forms.specs.Numbers.{Numbered}
use Rattle.ui_forms.specs.declared.part.ImportPath.{ImportPath}

same_texts : (x y : List ℕ) → eq_by_cmp (slice_cmp nat_cmp) y x ≡ bytes_eq x y
same_texts x y = (eq_by_cmp_equiv nat_list_cmp_total).symm y x ∙ is_eq-slice_cmp x y

pub text_turned : (x y : List ℕ) → bytes_eq x y ≡ bytes_eq y x
text_turned x y = sym (is_eq-slice_cmp x y) ∙ same_texts y x

-- the keys of packages and of imports
abbrev pub path_of : Linked → List ℕ
path_of l = l.export.path

abbrev pub segment_of : ImportPath → List ℕ
segment_of i = last_segment i.path

-- the first item of this key
abbrev pub first_by : {X : Type 0} → (X → List ℕ) → List X → List ℕ → Option X
first_by key xs q = find (λ x. bytes_eq (key x) q) xs

-- the numbers lead to the first items of their keys, from a place on
pub record IsFrom {X : Type 0} (key : X → List ℕ) (place : ℕ) (index : Numbered) (xs : List X) : Type 0 where
  pub within : place ≤ length xs
  pub same : (q : List ℕ) → option_and_then (slice_get xs) (get index q) ≡ first_by key (drop place xs) q

module _ {X : Type 0} (key : X → List ℕ) where
  pub index_none : (index : Numbered) (xs : List X) → index ≡ empty → IsFrom key (length xs) index xs
  index_none index xs none = record {
    within = omega arith;
    same = λ q.
        ap (λ m. option_and_then (slice_get xs) (get m q)) none
        ∙ ap (option_and_then (slice_get xs)) (get-empty (slice_cmp nat_cmp) q)
        ∙ sym (ap (λ ys. first_by key ys q) (drop_all (length xs) xs (omega arith)));
  }

  index_more : (place : ℕ) (old new : Numbered) (xs : List X) (x : X) (text : List ℕ) → IsFrom key place old xs → 0 < place → slice_get xs (place - 1) ≡ Some x → drop (place - 1) xs ≡ x ∷ drop place xs → text ≡ key x → new ≡ insert old text (place - 1) → IsFrom key (place - 1) new xs
  index_more place old new xs x text h some got cut is now = record {
    within = omega (arith, h.within);
    same = λ q.
        ap (λ m. option_and_then (slice_get xs) (get m q)) now
        ∙ ap (option_and_then (slice_get xs)) (get-insert nat_list_cmp_total old text (place - 1) q)
        ∙ ap (λ b. option_and_then (slice_get xs) (cond b (Some (place - 1)) (get old q))) (same_texts text q)
        ∙ both (bytes_eq text q) q
        ∙ ap (λ s. cond (bytes_eq s q) (Some x) (first_by key (drop place xs) q)) is
        ∙ sym (ap (λ ys. first_by key ys q) cut);
  }
    where
      both : (b : Bool) (q : List ℕ) → option_and_then (slice_get xs) (cond b (Some (place - 1)) (get old q)) ≡ cond b (Some x) (first_by key (drop place xs) q)
      both true q = got
      both false q = h.same q

  pub index_all : (place : ℕ) (index : Numbered) (xs : List X) → IsFrom key place index xs → place ≡ 0 → (q : List ℕ) → option_and_then (slice_get xs) (get index q) ≡ first_by key xs q
  index_all place index xs h e q = h.same q ∙ ap (λ n. first_by key (drop n xs) q) e

  pub index_turn : (place : ℕ) (old new : Numbered) (xs : List X) (x : X) (text : List ℕ) → IsFrom key place old xs → 0 < place → x ≡ get_or xs (place - 1) x → text ≡ key x → new ≡ insert old text (place - 1) → IsFrom key (place - 1) new xs
  index_turn place old new xs x text h some is named now =
      let within : place - 1 < length xs = omega (arith, h.within) in
      let next : place - 1 + 1 ≡ place = omega arith in
      index_more place old new xs x text h some
      (slice_get_read xs (length xs) (place - 1) x refl within is)
      (drop_more xs (place - 1) x within ∙ ap (λ y. y ∷ drop (place - 1 + 1) xs) (sym is) ∙ ap (λ n. x ∷ drop n xs) next)
      named now
