-- What an object tells, or does not tell: an optional list that grows at its end or shrinks at its front. This project's own.
use Rattle.std.specs.Prelude.{◌≡◌, ℕ, ◌+◌, List, [], ◌++◌, take, drop, Option, Some, None, refl}
use Rattle.std.proofs.Common.{sym, ◌∙◌, ap, append_assoc, append-nil}
use Rattle.std.proofs.Math.Seq.{take-add}
use Rattle.std.proofs.lemmas.List.{drop-drop}

-- the told list with more at its end; what is not told stays so
unfoldable pub more : {X : Type 0} → Option (List X) → List X → Option (List X)
more None xs = None
more (Some old) xs = Some (old ++ xs)

pub more_twice : {X : Type 0} (o : Option (List X)) (xs ys : List X) → more (more o xs) ys ≡ more o (xs ++ ys)
unfolding more
more_twice None xs ys = refl
more_twice (Some old) xs ys = ap Some (append_assoc old xs ys)

pub more_none : {X : Type 0} (o : Option (List X)) → more o [] ≡ o
unfolding more
more_none None = refl
more_none (Some old) = ap Some (append-nil old)

-- a further piece of one list
pub more_piece : {X : Type 0} (o : Option (List X)) (xs : List X) (i n : ℕ) → more (more o (take i xs)) (take n (drop i xs)) ≡ more o (take (i + n) xs)
more_piece o xs i n = more_twice o _ _ ∙ ap (more o) (sym (take-add i n xs))

pub grown_by_piece : {X : Type 0} (a b c : Option (List X)) (xs : List X) (i n : ℕ) → b ≡ more a (take i xs) → c ≡ more b (take n (drop i xs)) → c ≡ more a (take (i + n) xs)
grown_by_piece a b c xs i n p q = q ∙ ap (λ o. more o (take n (drop i xs))) p ∙ more_piece a xs i n

-- the told list without the first of its items; what is not told stays so
unfoldable pub less : {X : Type 0} → Option (List X) → ℕ → Option (List X)
less None n = None
less (Some old) n = Some (drop n old)

pub less_none : {X : Type 0} (o : Option (List X)) → less o 0 ≡ o
unfolding less
less_none None = refl
less_none (Some old) = refl

pub less_twice : {X : Type 0} (o : Option (List X)) (m n : ℕ) → less (less o m) n ≡ less o (m + n)
unfolding less
less_twice None m n = refl
less_twice (Some old) m n = ap Some (drop-drop n m old)

pub ruleset growing = (more_none, more_twice, more_piece)

pub ruleset shrinking = (less_none, less_twice)
