-- Tokens as words, in the code's terms.
use Rattle.std.proofs.Common.{◌≡◌, ◌≤◌, ℕ, List, [], ◌∷◌, length, suc, get_or, drop, Option, refl, ap, arith}
use Rattle.std.specs.List.{AllByRecursion}
use Rattle.ui_scan.specs.declared.kind.Token.{Token}
use Rattle.ui_grammar.specs.Word.{Word, word_of, words}
use Rattle.ui_parse.specs.Reader.{first, tail}

pub first_word : {B : Type 0} (test : Word → Option B) (bytes : List ℕ) (ts : List Token) (d : Token) → 1 ≤ length ts → test (word_of bytes (get_or ts 0 d)) ≡ first test (words bytes ts)
first_word test bytes [] d le = absurd (let x : ⊥ = omega arith in x)
first_word test bytes (t ∷ ts) d le = refl

pub tail_words : (bytes : List ℕ) (ts : List Token) → words bytes (drop 1 ts) ≡ tail (words bytes ts)
tail_words bytes [] = refl
tail_words bytes (t ∷ ts) = refl

pub tail_all : {X : Type 0} (P : X → Type 0) (xs : List X) → AllByRecursion P xs → AllByRecursion P (drop 1 xs)
tail_all P [] all = tt
tail_all P (x ∷ xs) all = all.1

pub first_all : {X : Type 0} (P : X → Type 0) (xs : List X) (d : X) → 1 ≤ length xs → AllByRecursion P xs → P (get_or xs 0 d)
first_all P [] d le all = absurd (let x : ⊥ = omega arith in x)
first_all P (x ∷ xs) d le all = all.0

pub words_length : (bytes : List ℕ) (ts : List Token) → length (words bytes ts) ≡ length ts
words_length bytes [] = refl
words_length bytes (t ∷ ts) = ap (λ (n : ℕ). suc n) (words_length bytes ts)
