-- One step behind another, up to the first fault. This project's own.
use Rattle.std.specs.Prelude.{List, [], ◌∷◌, Result, Ok, Err}

abbrev pub and_then : {A B E : Type 0} → (A → Result B E) → Result A E → Result B E
and_then step (Ok x) = step x
and_then step (Err fault) = Err fault

-- what each of a list gives, or the first fault
abbrev pub each : {A B E : Type 0} → (A → Result B E) → List A → Result (List B) E
each step [] = Ok []
each step (x ∷ xs) = and_then (λ y. and_then (λ ys. Ok (y ∷ ys)) (each step xs)) (step x)
