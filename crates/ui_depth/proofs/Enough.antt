-- Budgets that are enough for as many words: the readers of each such budget read the same. A fault that a greater budget goes
-- beyond is gone beyond at each four levels more, so that after as many of these steps as there are words none is left.
use Rattle.std.proofs.Common.{◌≡◌, ℕ, zero, suc, ◌+◌, ◌-◌, ◌*◌, ◌<◌, ◌≤◌, List, length, sym, ap, ◌∙◌, arith}
use Rattle.ui_grammar.specs.Word.{Word}
use Rattle.ui_parse.specs.Reader.{Outcome, Reader, rest_of as left}
use Rattle.ui_parse.proofs.Alike.{Ends}
use Rattle.ui_depth.proofs.Deeper.{not_longer, StopsAt, reads, faults, Deeper, alike, beyond, Deepens}
use Rattle.ui_depth.proofs.Budgets.{above, above_is}
use Rattle.ui_depth.proofs.Settled.{Settled}

module _ {A : Type 0} {D : ℕ → A → Word → Type 0} (p : ℕ → Reader A) (deeper : (b : ℕ) → Deepens (D b) (p b) (λ e. p (above b e))) where
  stopped_left : {b : ℕ} (o : Outcome A) (w : Word) (r : List Word) → StopsAt (D b) o w r → length (left o) ≡ suc (length r)
  stopped_left o w r (reads a e d) = ap (λ (x : Outcome A). length (left x)) e
  stopped_left o w r (faults e) = ap (λ (x : Outcome A). length (left x)) e

  at_budget : (b c : ℕ) (ws : List Word) → b + 4 ≤ c → ((e : ℕ) → p (above b e) ws ≡ p b ws) → p c ws ≡ p b ws
  at_budget b c ws le same = ap (λ (k : ℕ). p k ws) (sym reached) ∙ same (c - (b + 4))
    where
      reached : above b (c - (b + 4)) ≡ c
      reached = omega (arith, above_is b (c - (b + 4)), le)

  -- with fewer than m words left, m steps of four levels are enough
  steps : (m b c d : ℕ) (ws : List Word) → length (left (p b ws)) < m → b + 4 * m ≤ c → b + 4 * m ≤ d → p c ws ≡ p d ws
  steps zero b c d ws lt le le2 = absurd (omega (arith, lt))
  steps (suc m) b c d ws lt le le2 = by_case ((deeper b).at ws) (λ lt2. steps m (above b 0) c d ws lt2 (omega (arith, above_is b 0, le)) (omega (arith, above_is b 0, le2)))
    where
      by_case : Deeper (D b) (p b ws) (λ e. p (above b e) ws) → (length (left (p (above b 0) ws)) < m → p c ws ≡ p d ws) → p c ws ≡ p d ws
      by_case (alike same) again = at_budget b c ws (omega (arith, le)) same ∙ sym (at_budget b d ws (omega (arith, le2)) same)
      by_case (beyond w r stops far) again = again (omega (arith, far 0, lt, stopped_left (p b ws) w r stops))

  pub enough : (ends : (b : ℕ) (ws : List Word) → Ends ws (p b ws)) (n b c : ℕ) → 4 * n ≤ b → 4 * n ≤ c → Settled n (p b) (p c)
  enough ends n b c le le2 = record {
    at = λ ws lt. steps (suc (length ws)) 0 b c ws (omega (arith, not_longer ws (p 0 ws) (ends 0 ws))) (omega (arith, le, lt)) (omega (arith, le2, lt));
    ends = λ ws lt. ends b ws;
  }
