-- What the writer of a number appended so far.
use Rattle.std.proofs.Common.{◌≡◌, ◌∙◌, ap, sym, refl, ℕ, ◌+◌, ◌/◌, ◌%◌, ◌^◌, ◌<◌, ◌≤◌, List, [], ◌∷◌, ◌++◌, append_assoc, append-nil}
use Rattle.ui_frame.specs.Number.{AppendsFront, uint}
use Rattle.ui_frame.specs.Laws.{uint_last, uint_more}

-- a front of the spelling, behind which the rest has its spelling
pub record NumberSoFar (n rest : ℕ) (old now : List ℕ) : Type 0 where
  pub front : List ℕ
  pub whole : uint n ≡ front ++ uint rest
  pub appended : now ≡ old ++ front

pub so_far_first : (n : ℕ) (old : List ℕ) → NumberSoFar n n old old
so_far_first n old = record { front = []; whole = refl; appended = sym (append-nil old) }

pub so_far_next : (n rest : ℕ) (old now new : List ℕ) → 128 ≤ rest → rest < 2 ^ 64 → new ≡ now ++ (128 + rest % 128) ∷ [] → NumberSoFar n rest old now → NumberSoFar n (rest / 128) old new
so_far_next n rest old now new le lt pushed s = record {
  front = s.front ++ (128 + rest % 128) ∷ [];
  whole = s.whole ∙ ap (λ (gs : List ℕ). s.front ++ gs) (uint_more rest le lt) ∙ sym (append_assoc s.front ((128 + rest % 128) ∷ []) (uint (rest / 128)));
  appended = pushed ∙ ap (λ (gs : List ℕ). gs ++ (128 + rest % 128) ∷ []) s.appended ∙ append_assoc old s.front ((128 + rest % 128) ∷ []);
}

pub so_far_last : (n rest : ℕ) (old now new : List ℕ) → rest < 128 → new ≡ now ++ rest ∷ [] → NumberSoFar n rest old now → new ≡ old ++ uint n
so_far_last n rest old now new lt pushed s =
    pushed ∙ ap (λ (gs : List ℕ). gs ++ rest ∷ []) s.appended ∙ append_assoc old s.front (rest ∷ [])
    ∙ ap (λ (gs : List ℕ). old ++ gs) (ap (λ (gs : List ℕ). s.front ++ gs) (sym (uint_last rest lt)) ∙ sym s.whole)

pub so_far_stop : (n rest : ℕ) (old now new : List ℕ) → new ≡ now → NumberSoFar n rest old now → AppendsFront (uint n) old new
so_far_stop n rest old now new same s = record { front = s.front; rest = uint rest; whole = s.whole; appended = same ∙ s.appended }
