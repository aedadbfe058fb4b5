-- The first of what is found along a list. This project's own.
use Rattle.std.specs.Prelude.{List, [], ◌∷◌, Option, Some, None}

abbrev pub first_of : {A : Type 0} → Option A → Option A → Option A
first_of (Some x) later = Some x
first_of None later = later

-- the first that is found in an item
abbrev pub first_in : {X A : Type 0} → (X → Option A) → List X → Option A
first_in f [] = None
first_in f (x ∷ xs) = first_of (f x) (first_in f xs)
