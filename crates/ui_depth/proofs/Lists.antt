-- Lists beside those of greater budgets: behind a part that stops for its depth comes neither a separator nor the close.
use Rattle.std.proofs.Common.{◌≡◌, ℕ, zero, suc, List, ◌∷◌, length, None, refl}
use Rattle.ui_scan.specs.declared.kind.TokenKind.{TokenKind}
use Rattle.ui_grammar.specs.Word.{Word}
use Rattle.ui_parse.specs.Reader.{Reader, ◌>>=◌, pure, refuse, take_by, marked, eat, expect, chain_from, chain, Ending, closing, behind, parts_from, parts, more_parts}
use Rattle.ui_parse.proofs.Outcomes.{take_other}
use Rattle.ui_parse.proofs.Steady.{steady_eat, steady_expect}
use Rattle.ui_depth.proofs.Deeper.{StopsAt, reads, faults, Deepens, Never, deep_bind, deep_same, deep_pure, deep_refuse, deep_if, deep_take, stops_as, halt_take, halt_expect, halt_eat, halt_if}

-- a part that stops before such a word is the last of what is read
pub chain_stops : {S : Type 0} {D : S → Word → Type 0} (separator : TokenKind) (step : S → Reader S) (s : S) (w : Word) (r : List Word) → marked separator w ≡ None → D s w → StopsAt D (chain separator step s (w ∷ r)) w r
unfolding chain chain_from
chain_stops separator step s w r none d = stops_as (reads s refl d) (take_other (marked separator) _ (pure s) (w ∷ r) none)

module _ {S : Type 0} (separator : TokenKind) (step : S → Reader S) (steps : ℕ → S → Reader S) (D : S → Word → Type 0) (step_is : (s : S) → Deepens D (step s) (λ e. steps e s))
    (apart : (s : S) (w : Word) → D s w → marked separator w ≡ None) where
  chain_from_stops : (n : ℕ) (s : S) (w : Word) (r : List Word) → D s w → StopsAt D (chain_from separator step n s (w ∷ r)) w r
  unfolding chain_from
  chain_from_stops zero s w r d = faults refl
  chain_from_stops (suc n) s w r d = halt_take (marked separator) _ (pure s) (apart s w d) (reads s refl d)

  deep_chain_from : (n : ℕ) (s : S) → Deepens D (chain_from separator step n s) (λ e. chain_from separator (steps e) n s)
  unfolding chain_from
  deep_chain_from zero s = deep_refuse
  deep_chain_from (suc n) s = deep_take (marked separator) (λ _. deep_bind (step_is s) (deep_chain_from n) (chain_from_stops n)) (deep_pure s)

  pub deep_chain : (s : S) → Deepens D (chain separator step s) (λ e. chain separator (steps e) s)
  unfolding chain
  deep_chain s = record { at = λ ws. (deep_chain_from (suc (length ws)) s).at ws; ends = λ e ws. (deep_chain_from (suc (length ws)) s).ends e ws }

module _ {S : Type 0} (separator close : TokenKind) (ending : Ending S) (step : S → Reader S) where
  closing_stops : {D : S → Word → Type 0} (s : S) (w : Word) (r : List Word) → marked close w ≡ None → StopsAt D (closing separator close ending step s (w ∷ r)) w r
  closing_stops s w r none = halt_if (ending.may s) (expect close >>= (λ _. pure s)) refuse (halt_expect close (λ _. pure s) none) (faults refl)

  behind_stops : {D : S → Word → Type 0} (again : S → Reader S) (s : S) (w : Word) (r : List Word) → marked separator w ≡ None → marked close w ≡ None → StopsAt D (behind separator close ending step again s (w ∷ r)) w r
  behind_stops again s w r apart none = halt_if (ending.must s) (eat separator >>= (λ _. closing separator close ending step s)) (take_by (marked separator) (λ _. again s) (closing separator close ending step s))
      (halt_eat separator (λ _. closing separator close ending step s) apart (closing_stops s w r none))
      (halt_take (marked separator) (λ _. again s) (closing separator close ending step s) apart (closing_stops s w r none))

  pub more_parts_stops : {D : S → Word → Type 0} (s : S) (w : Word) (r : List Word) → marked separator w ≡ None → marked close w ≡ None → StopsAt D (more_parts separator close ending step s (w ∷ r)) w r
  unfolding more_parts
  more_parts_stops s w r apart none = behind_stops (parts separator close ending step) s w r apart none

  module _ (steps : ℕ → S → Reader S) (D D' : S → Word → Type 0) (step_is : (s : S) → Deepens D (step s) (λ e. steps e s))
      (apart : (s : S) (w : Word) → D s w → marked separator w ≡ None) (unclosed : (s : S) (w : Word) → D s w → marked close w ≡ None) where
    deep_closing : (s : S) → Deepens D' (closing separator close ending step s) (λ e. closing separator close ending (steps e) s)
    deep_closing s = deep_if (ending.may s) (deep_bind {D = Never} (deep_same (steady_expect close)) (λ _. deep_pure s) (λ a w r d. absurd d)) deep_refuse

    deep_behind : (again : S → Reader S) (agains : ℕ → S → Reader S) → ((s : S) → Deepens D' (again s) (λ e. agains e s))
        → (s : S) → Deepens D' (behind separator close ending step again s) (λ e. behind separator close ending (steps e) (agains e) s)
    deep_behind again agains again_is s = deep_if (ending.must s) (deep_bind {D = Never} (deep_same (steady_eat separator)) (λ _. deep_closing s) (λ a w r d. absurd d)) (deep_take (marked separator) (λ _. again_is s) (deep_closing s))

    deep_parts_from : (n : ℕ) (s : S) → Deepens D' (parts_from separator close ending step n s) (λ e. parts_from separator close ending (steps e) n s)
    unfolding parts_from
    deep_parts_from zero s = deep_refuse
    deep_parts_from (suc n) s =
        let go = deep_bind (step_is s) (deep_behind (parts_from separator close ending step n) (λ e. parts_from separator close ending (steps e) n) (deep_parts_from n))
        (λ s2 w r d. behind_stops (parts_from separator close ending step n) s2 w r (apart s2 w d) (unclosed s2 w d)) in
        deep_if (ending.may s) (deep_take (marked close) (λ _. deep_pure s) go) go

    pub deep_parts : (s : S) → Deepens D' (parts separator close ending step s) (λ e. parts separator close ending (steps e) s)
    unfolding parts
    deep_parts s = record { at = λ ws. (deep_parts_from (suc (length ws)) s).at ws; ends = λ e ws. (deep_parts_from (suc (length ws)) s).ends e ws }

    pub deep_more_parts : (s : S) → Deepens D' (more_parts separator close ending step s) (λ e. more_parts separator close ending (steps e) s)
    unfolding more_parts
    deep_more_parts s = deep_behind (parts separator close ending step) (λ e. parts separator close ending (steps e)) deep_parts s
