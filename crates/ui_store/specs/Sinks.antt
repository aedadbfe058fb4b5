-- What a write to a sink does to the bytes that it tells. This project's own.
use Rattle.std.specs.Prelude.{◌≡◌, ℕ, List, [], ◌++◌, take, drop, Option, Result, Ok, Err, refl}
use Rattle.std.proofs.Common.{sym, ◌∙◌, ap, append_assoc}
use Rattle.std.proofs.lemmas.List.{take-append-drop}
use Rattle.ui_store.specs.Told.{more, more_twice, more_none}

-- the first bytes of the piece, as many as were taken; none at a fault
abbrev pub Appends : {E : Type 0} → Option (List ℕ) → Option (List ℕ) → List ℕ → Result ℕ E → Type 0
Appends old new piece (Ok n) = new ≡ more old (take n piece)
Appends old new piece (Err e) = new ≡ old

-- a front of the bytes was written
pub record Partly (old new : Option (List ℕ)) (bytes : List ℕ) : Type 0 where
  pub front : List ℕ
  pub rest : List ℕ
  pub whole : bytes ≡ front ++ rest
  pub written : new ≡ more old front

pub partly_taken : (old new : Option (List ℕ)) (bytes : List ℕ) (n : ℕ) → new ≡ more old (take n bytes) → Partly old new bytes
partly_taken old new bytes n w = record { front = take n bytes; rest = drop n bytes; whole = sym (take-append-drop n bytes); written = w }

-- none of them
pub partly_none : (old new : Option (List ℕ)) (bytes : List ℕ) → new ≡ old → Partly old new bytes
partly_none old new bytes e = record { front = []; rest = bytes; whole = refl; written = e ∙ sym (more_none old) }

-- all of them
pub partly_all : (old new : Option (List ℕ)) (bytes more_bytes : List ℕ) → new ≡ more old bytes → Partly old new (bytes ++ more_bytes)
partly_all old new bytes more_bytes e = record { front = bytes; rest = more_bytes; whole = refl; written = e }

-- a front of a front
pub partly_first : (old new : Option (List ℕ)) (a b : List ℕ) → Partly old new a → Partly old new (a ++ b)
partly_first old new a b p = record { front = p.front; rest = p.rest ++ b; whole = ap (λ x. x ++ b) p.whole ∙ append_assoc p.front p.rest b; written = p.written }

-- a front behind what was written
pub partly_next : (old mid new : Option (List ℕ)) (a b : List ℕ) → mid ≡ more old a → Partly mid new b → Partly old new (a ++ b)
partly_next old mid new a b e p = record {
  front = a ++ p.front;
  rest = p.rest;
  whole = ap (λ x. a ++ x) p.whole ∙ sym (append_assoc a p.front p.rest);
  written = p.written ∙ ap (λ o. more o p.front) e ∙ more_twice old a p.front;
}

pub ruleset fronts = (partly_none, partly_first, partly_next)
