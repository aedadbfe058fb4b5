-- The values of sums.
use Rattle.std.proofs.Common.{◌≡◌, ℕ, ◌+◌, ◌<◌, ◌≤◌, ◌||◌, List, [], ◌∷◌, drop, length, get_or, Result, Ok, sym, ap, ◌∙◌}
use Rattle.std.specs.Prelude.{bytes_eq}
use Rattle.std.specs.FinMap.{insert}
use Rattle.std.proofs.lemmas.List.{drop_more, drop_all}
use Rattle.ui_base.specs.declared.value.Spot.{Spot}
use Rattle.ui_base.specs.declared.fault.FaultKind.TheVariants.{ConstTooBig}
use Rattle.ui_base.specs.declared.fault.Fault.{Fault}
use Rattle.ui_base.specs.declared.fault.CheckFault.{CheckFault}
use Rattle.ui_base.specs.declared.fault.CheckFault.TheVariants.{NoMemory, Fault as Refused}
use Rattle.ui_exports.specs.Export.{Declarations}
use Rattle.ui_forms.specs.Numbers.{Numbered, has}
use Rattle.ui_base.specs.Steps.{and_then}
use Rattle.ui_forms.specs.Verdict.{Selection, IsRefusal, added, constant_value, fault_at, first_spot, sum_of, term_value}
use Rattle.ui_forms.specs.declared.part.Term.{Term}
use Rattle.ui_forms.specs.declared.part.ConstantSum.{ConstantSum}
use Rattle.ui_forms.proofs.NumberLemmas.{has-insert}
use Rattle.ui_forms.proofs.PlaceLemmas.{text_turned}

-- ---- sums

cut : {X : Type 0} (xs : List X) (i : ℕ) (x : X) → i < length xs → x ≡ get_or xs i x → drop i xs ≡ x ∷ drop (i + 1) xs
cut xs i x h is = drop_more xs i x h ∙ ap (λ y. y ∷ drop (i + 1) xs) (sym is)

pub started : (select : Selection) (file : List ℕ) (before : Declarations) (c : ConstantSum) (first : Spot) (firsts items : List Term) → first ≡ first_spot firsts → firsts ≡ c.terms → items ≡ c.terms → sum_of (term_value select file before) (fault_at file ConstTooBig first []) 0 items ≡ constant_value select file before c
started select file before c first firsts items column same all =
    ap (λ n. sum_of (term_value select file before) (fault_at file ConstTooBig n []) 0 items) (column ∙ ap first_spot same)
    ∙ ap (sum_of (term_value select file before) (fault_at file ConstTooBig (first_spot c.terms) []) 0) all

module _ (f : Term → Result ℕ Fault) (too_big : Fault) (sum : ℕ) (terms : List Term) (i : ℕ) (t : Term) (target : Result ℕ Fault) where
  sum_turn : i < length terms → t ≡ get_or terms i t → sum_of f too_big sum (drop i terms) ≡ and_then (λ next. sum_of f too_big next (drop (i + 1) terms)) (and_then (added too_big sum) (f t))
  sum_turn h is = ap (sum_of f too_big sum) (cut terms i t h is)

  pub sum_more : (next : ℕ) → i < length terms → t ≡ get_or terms i t → sum_of f too_big sum (drop i terms) ≡ target → and_then (added too_big sum) (f t) ≡ Ok next → sum_of f too_big next (drop (i + 1) terms) ≡ target
  sum_more next h is before more = sym (sum_turn h is ∙ ap (and_then (λ n. sum_of f too_big n (drop (i + 1) terms))) more) ∙ before

  pub sum_refused : (e : CheckFault) → i < length terms → t ≡ get_or terms i t → sum_of f too_big sum (drop i terms) ≡ target → IsRefusal (and_then (added too_big sum) (f t)) e → IsRefusal target e
  sum_refused (Refused fault) h is before r = sym before ∙ sum_turn h is ∙ ap (and_then (λ n. sum_of f too_big n (drop (i + 1) terms))) r
  sum_refused NoMemory h is before r = tt

pub sum_ended : (f : Term → Result ℕ Fault) (too_big : Fault) (sum : ℕ) (terms : List Term) (i : ℕ) (target : Result ℕ Fault) → length terms ≤ i → sum_of f too_big sum (drop i terms) ≡ target → target ≡ Ok sum
sum_ended f too_big sum terms i target h before = sym before ∙ ap (sum_of f too_big sum) (drop_all i terms h)

-- ---- segments

pub segment_added : (old new : Numbered) (segment text q : List ℕ) → text ≡ segment → new ≡ insert old text 0 → has new q ≡ (bytes_eq segment q || has old q)
segment_added old new segment text q same now =
    ap (λ m. has m q) now
    ∙ ap (λ k. k q) (has-insert old text 0)
    ∙ ap (λ b. b || has old q) (text_turned q text)
    ∙ ap (λ s. bytes_eq s q || has old q) same
