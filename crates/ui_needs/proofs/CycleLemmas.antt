-- Cycles of nodes, and of declarations.
use Rattle.std.proofs.Common.{◌≡◌, ◌⊎◌, inl, inr, ℕ, zero, suc, ◌+◌, ◌*◌, ◌/◌, ◌%◌, ◌<◌, ◌≤◌, List, length}
use Rattle.std.proofs.Common.{Some, None, sym, ap, ◌∙◌, subst, arith, lit<, div-add-mod'}
use Rattle.std.specs.Prelude.{nat_eq}
use Rattle.std.proofs.lemmas.Nat.{mod_below}
use Rattle.ui_order.specs.Steps.{Leads}
use Rattle.ui_order.specs.Numbers.{Links, linked, IsNumberOnCycle, IsFirstOnCycle}
use Rattle.ui_needs.specs.Cycles.{links_at, IsNodeOnCycle, IsOnCycle, IsFirstCycle}
use Rattle.ui_needs.specs.Views.{lists}
use Rattle.ui_needs.proofs.RangeLemmas.{linked_lists}

linked_is : (v : Links) → linked v ≡ links_at (lists v)
linked_is v = λ i k. linked_lists v k i

shown : (v : Links) (k : ℕ) → IsNumberOnCycle v k → IsNodeOnCycle (lists v) k
shown v k h = let P : (ℕ → List ℕ) → Type 0 = λ f. Leads nat_eq f k k in subst P (linked_is v) h

kept : (v : Links) (k : ℕ) → IsNodeOnCycle (lists v) k → IsNumberOnCycle v k
kept v k h = let P : (ℕ → List ℕ) → Type 0 = λ f. Leads nat_eq f k k in subst P (sym (linked_is
    v)) h

-- a node is one of the two of its declaration
half : (i : ℕ) → (2 * (i / 2) ≡ i) ⊎ (2 * (i / 2) + 1 ≡ i)
half i =
    let e : i / 2 * 2 + i % 2 ≡ i = div-add-mod' i 2 in
    let h : i % 2 < 2 = mod_below i 2 (lit< tt) in
    halves (i / 2) (i % 2) i e h
  where
    halves : (q r i : ℕ) → q * 2 + r ≡ i → r < 2 → (2 * q ≡ i) ⊎ (2 * q + 1 ≡ i)
    halves q zero i e h = inl (omega arith)
    halves q (suc zero) i e h = inr (omega arith)
    halves q (suc (suc r)) i e h = absurd (omega arith)

pub no_cycle : (v : Links) (count : ℕ) → length v ≡ 2 * count → IsFirstOnCycle v None →
    IsFirstCycle (lists v) count None
no_cycle v count e h k l c = elim c [
  | inl on ↦ h (2 * k) (omega arith) (kept v (2 * k) on)
  | inr on ↦ h (2 * k + 1) (omega arith) (kept v (2 * k + 1) on)
]

pub some_cycle : (v : Links) (count i : ℕ) → length v ≡ 2 * count → IsFirstOnCycle v (Some i) →
    IsFirstCycle (lists v) count (Some (i / 2))
some_cycle v count i e h =
    let P : ℕ → Type 0 = λ k. IsNodeOnCycle (lists v) k in
    let on : IsOnCycle (lists v) (i / 2) = elim (half i) [
      | inl p ↦ inl (subst P (sym p) (shown v i h.1))
      | inr p ↦ inr (subst P (sym p) (shown v i h.1))
    ] in
    let bound : i / 2 < count = elim (half i) [
      | inl p ↦ omega (arith, h.0)
      | inr p ↦ omega (
        arith,
        h.0,
      )
    ] in (
      bound,
      on,
      λ j l c. elim (half i) [
        | inl p ↦ earlier j (omega arith) c
        | inr p ↦ earlier j (omega arith) c
      ],
    )
  where
    earlier : (j : ℕ) → 2 * j + 1 < i → IsOnCycle (lists v) j → ⊥
    earlier j l c = elim c [
      | inl on ↦ h.2 (2 * j) (omega arith) (kept v (2 * j) on)
      | inr on ↦ h.2 (2 * j + 1) l (kept v (2 * j + 1) on)
    ]

pub ruleset cycling = (no_cycle, some_cycle)
