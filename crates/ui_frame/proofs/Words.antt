-- Numbers of four bytes, one after another.
use Rattle.std.proofs.Common.{◌≡◌, ℕ, zero, suc, ◌+◌, ◌-◌, ◌*◌, ◌/◌, ◌%◌, ◌^◌, ◌<◌, ◌≤◌, Bool, true, leb, List, [], ◌∷◌, ◌++◌, length, take, drop, get_or, refl, sym, ap, ◌∙◌, append_assoc, arith}
use Rattle.std.proofs.lemmas.List.{drop-drop, drop_at, drop-take, length-append, length-drop}
use Rattle.std.proofs.lemmas.Bool.{le-leb}
use Rattle.std.specs.List.{AllByRecursion}
use Rattle.byteorder.specs.Endian.{little_number}
use Rattle.byteorder.specs.Numbers.{little_number-reads_back, little_from-take, length-bytes_low_first}
use Rattle.ui_frame.specs.Laws.{IsBytes}
use Rattle.ui_frame.specs.Container.{word, words}
use Rattle.ui_frame.specs.Opening.{ascends, last_from, word_at, words_at}
use Rattle.std.proofs.Math.Seq.{take-add}

-- each number fits its four bytes
abbrev pub AreWords : List ℕ → Type 0
AreWords ns = AllByRecursion (λ n. n < 2 ^ 32) ns

pub length-word : (n : ℕ) → length (word n) ≡ 4
unfolding word
length-word n = length-bytes_low_first 0 4 n

pub length-words : (ns : List ℕ) → length (words ns) ≡ 4 * length ns
length-words [] = refl
length-words (n ∷ ns) = omega (arith, length-append (word n) (words ns), length-word n, length-words ns)

pub word_at-word : (pre : List ℕ) (n : ℕ) (rest : List ℕ) (place : ℕ) → length pre ≡ place → n < 2 ^ 32 → word_at place (pre ++ (word n ++ rest)) ≡ n
unfolding word_at word
word_at-word pre n rest place len fits =
    rw (drop_at pre (word n ++ rest) place len) (little_number-reads_back 4 n rest fits)

-- numbers that are written are found again
pub words_at-words : (pre : List ℕ) (ns : List ℕ) (rest : List ℕ) (place : ℕ) → length pre ≡ place → AreWords ns → words_at (length ns) place (pre ++ (words ns ++ rest)) ≡ ns
words_at-words pre [] rest place len fits = refl
words_at-words pre (n ∷ ns) rest place len fits =
    let first : word_at place (pre ++ ((word n ++ words ns) ++ rest)) ≡ n = rw append_assoc (word_at-word pre n (words ns ++ rest) place len fits.0) in
    let regrouped : pre ++ ((word n ++ words ns) ++ rest) ≡ (pre ++ word n) ++ (words ns ++ rest) = simp append_assoc in
    let others : words_at (length ns) (place + 4) (pre ++ ((word n ++ words ns) ++ rest)) ≡ ns = rw regrouped (words_at-words (pre ++ word n) ns rest (place + 4) (omega (arith, length-append pre (word n), length-word n)) fits.1) in
    rw (first, others) refl

-- a front that has all four bytes has the number
pub word_at-take : (place m : ℕ) (bytes : List ℕ) → place + 4 ≤ m → word_at place (take m bytes) ≡ word_at place bytes
unfolding word_at
word_at-take place m bytes h =
    let above : place + (m - place) ≡ m = omega arith in
    let behind : drop place (take m bytes) ≡ take (m - place) (drop place bytes) = ap (λ (k : ℕ). drop place (take k bytes)) (sym above) ∙ drop-take place (m - place) bytes in
    ap (λ (xs : List ℕ). little_number 4 xs) behind ∙ little_from-take 0 4 (m - place) (drop place bytes) (omega arith)

pub words_at-take : (n place m : ℕ) (bytes : List ℕ) → place + 4 * n ≤ m → words_at n place (take m bytes) ≡ words_at n place bytes
words_at-take zero place m bytes h = refl
words_at-take (suc n) place m bytes h =
    rw (word_at-take place m bytes (omega arith), words_at-take n (place + 4) m bytes (omega arith)) refl

-- four bytes are the spelling of their number
digits : (a b c d : ℕ) → a < 256 → b < 256 → c < 256 → d < 256 → word (a + 256 * (b + 256 * (c + 256 * (d + 0)))) ≡ a ∷ b ∷ c ∷ d ∷ []
unfolding word
digits a b c d la lb lc ld =
    let n : ℕ = a + 256 * (b + 256 * (c + 256 * (d + 0))) in
    let e0 : n % 256 ≡ a = omega arith in
    let e1 : n / 256 % 256 ≡ b = omega arith in
    let e2 : n / 65536 % 256 ≡ c = omega arith in
    let e3 : n / 16777216 % 256 ≡ d = omega arith in
    rw (e0, e1, e2, e3) refl

word-little : (xs : List ℕ) → IsBytes xs → 4 ≤ length xs → word (little_number 4 xs) ≡ take 4 xs
word-little [] fits h = absurd (omega arith)
word-little (a ∷ []) fits h = absurd (omega arith)
word-little (a ∷ b ∷ []) fits h = absurd (omega arith)
word-little (a ∷ b ∷ c ∷ []) fits h = absurd (omega arith)
word-little (a ∷ b ∷ c ∷ d ∷ xs) fits h = digits a b c d fits.0 fits.1.0 fits.1.1.0 fits.1.1.1.0

pub IsBytes-drop : (n : ℕ) (bytes : List ℕ) → IsBytes bytes → IsBytes (drop n bytes)
IsBytes-drop zero bytes fits = fits
IsBytes-drop (suc n) [] fits = fits
IsBytes-drop (suc n) (b ∷ bytes) fits = IsBytes-drop n bytes fits.1

pub word-word_at : (place : ℕ) (bytes : List ℕ) → IsBytes bytes → place + 4 ≤ length bytes → word (word_at place bytes) ≡ take 4 (drop place bytes)
unfolding word_at
word-word_at place bytes fits h = word-little (drop place bytes) (IsBytes-drop place bytes fits) (omega (arith, length-drop place bytes))

pub words-words_at : (n place : ℕ) (bytes : List ℕ) → IsBytes bytes → place + 4 * n ≤ length bytes → words (words_at n place bytes) ≡ take (4 * n) (drop place bytes)
words-words_at zero place bytes fits h = refl
words-words_at (suc n) place bytes fits h =
    let first = word-word_at place bytes fits (omega arith) in
    let others = words-words_at n (place + 4) bytes fits (omega arith) in
    let behind : drop 4 (drop place bytes) ≡ drop (place + 4) bytes = drop-drop 4 place bytes in
    let more : 4 * suc n ≡ 4 + 4 * n = omega arith in
    let two : take (4 + 4 * n) (drop place bytes) ≡ take 4 (drop place bytes) ++ take (4 * n) (drop 4 (drop place bytes)) = take-add 4 (4 * n) (drop place bytes) in
    ap (λ (xs : List ℕ). xs ++ words (words_at n (place + 4) bytes)) first ∙ ap (λ (xs : List ℕ). take 4 (drop place bytes) ++ xs) (others ∙ ap (take (4 * n)) (sym behind)) ∙ sym two ∙ ap (λ (k : ℕ). take k (drop place bytes)) (sym more)

-- one word of a table by its number
pub get_or-words_at : (n place : ℕ) (bytes : List ℕ) (k : ℕ) → k < n → get_or (words_at n place bytes) k 0 ≡ word_at (place + 4 * k) bytes
get_or-words_at zero place bytes k h = absurd (omega arith)
get_or-words_at (suc n) place bytes zero h = let e : place ≡ place + 4 * 0 = omega arith in ap (λ (p : ℕ). word_at p bytes) e
get_or-words_at (suc n) place bytes (suc k) h =
    let e : place + 4 + 4 * k ≡ place + 4 * suc k = omega arith in
    get_or-words_at n (place + 4) bytes k (omega arith) ∙ ap (λ (p : ℕ). word_at p bytes) e

pub words_at-next : (n place i : ℕ) (bytes : List ℕ) → i < n → words_at (n - i) (place + 4 * i) bytes ≡ word_at (place + 4 * i) bytes ∷ words_at (n - (i + 1)) (place + 4 * (i + 1)) bytes
words_at-next n place i bytes h =
    let more : n - i ≡ suc (n - (i + 1)) = omega arith in
    let next : place + 4 * i + 4 ≡ place + 4 * (i + 1) = omega arith in
    rw (more, ← next) refl

-- what a turn of the reader's loop keeps
pub ascends-step : (low n : ℕ) (xs rest : List ℕ) (answer : Bool) → xs ≡ n ∷ rest → low ≤ n → ascends low xs ≡ answer → ascends n rest ≡ answer
ascends-step low n xs rest answer e h same =
    let up : leb low n ≡ true = le-leb low n h in
    let opened : ascends low (n ∷ rest) ≡ answer = ap (ascends low) (sym e) ∙ same in
    rw up at opened

pub last_from-step : (low n : ℕ) (xs rest : List ℕ) (answer : ℕ) → xs ≡ n ∷ rest → last_from low xs ≡ answer → last_from n rest ≡ answer
last_from-step low n xs rest answer e same = ap (last_from low) (sym e) ∙ same
