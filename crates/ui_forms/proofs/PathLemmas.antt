-- Paths are ASCII.
use Rattle.std.proofs.Common.{◌≡◌, ℕ, zero, suc, ◌<◌, ◌≤◌, Bool, true, false, cond, not, ◌&&◌, ◌||◌, List, [], ◌∷◌, length, refl, ap, ◌∙◌, arith, leb, lit<}
use Rattle.std.specs.Prelude.{codes, bytes_eq, ◌==◌}
use Rattle.std.specs.List.{list_all, slice_split, onto_first}
use Rattle.std.specs.Str.{IsAscii, IsUtf8}
use Rattle.std.proofs.lemmas.Str.{IsUtf8-from_ascii}
use Rattle.std.proofs.lemmas.Bool.{and_parts, leb-true, eqb-true}
use Rattle.ui_base.specs.Paths.{is_path, is_path_byte, has_path_bytes, is_segment, has_segments, is_reserved}

either : (x y : Bool) (P : Type 0) → (x ≡ true → P) → (y ≡ true → P) → (x || y) ≡ true → P
either true y P left right e = left refl
either false y P left right e = right e

low : (b from to : ℕ) → to < 128 → (leb from b && leb b to) ≡ true → b < 128
low b from to h e = let k : b ≤ to = leb-true b to (and_parts (leb from b) (leb b to) e).1 in omega arith

is : (b n : ℕ) → n < 128 → (b == n) ≡ true → b < 128
is b n h e = let k : b ≡ n = eqb-true b n e in omega arith

path_byte : (b : ℕ) → is_path_byte b ≡ true → b < 128
path_byte b e =
    either _ (b == 46) (b < 128)
    (λ e1. either _ (b == 45) (b < 128)
    (λ e2. either _ (b == 95) (b < 128)
    (λ e3. either _ (leb 97 b && leb b 122) (b < 128) (λ e4. either (leb 48 b && leb b 57) (leb 65 b && leb b 90) (b < 128) (low b 48 57 (lit< tt)) (low b 65 90 (lit< tt)) e4) (low b 97 122 (lit< tt)) e3)
    (is b 95 (lit< tt)) e2)
    (is b 45 (lit< tt)) e1)
    (is b 46 (lit< tt)) e

bytes_of : (parts : List (List ℕ)) → list_all is_segment parts ≡ true → list_all has_path_bytes parts ≡ true
bytes_of [] e = refl
bytes_of (p ∷ ps) e =
    let s = and_parts (is_segment p) (list_all is_segment ps) e in
    let three = and_parts ((not (length p == 0) && has_path_bytes p) && not (bytes_eq p (codes "."))) (not (bytes_eq p (codes ".."))) s.0 in
    let two = and_parts (not (length p == 0) && has_path_bytes p) (not (bytes_eq p (codes "."))) three.0 in
    let one = and_parts (not (length p == 0)) (has_path_bytes p) two.0 in
    λ i. one.1 i && bytes_of ps s.1 i

true_false : true ≡ false → ⊥
true_false e = cc

ascii_with : (b : ℕ) (bs : List ℕ) → b < 128 → IsAscii bs → IsAscii (b ∷ bs)
ascii_with b bs h rest zero = h
ascii_with b bs h rest (suc i) = rest i

some_part : (p : ℕ → Bool) (bs : List ℕ) → slice_split p bs ≡ [] → true ≡ false
some_part p [] e = absurd cc
some_part p (b ∷ bs) e = elim (p b) as (λ x. cond x ([] ∷ slice_split p bs) (onto_first b (slice_split p bs)) ≡ [] → true ≡ false) [
  | true ↦ λ k. absurd cc
  | false ↦ λ k. elim (slice_split p bs) as (λ ps. onto_first b ps ≡ [] → true ≡ false) [ [] ↦ λ j. absurd cc | q ∷ qs ↦ λ j. absurd cc ] k
] e

ascii_of : (bs : List ℕ) → list_all has_path_bytes (slice_split (λ b. b == 47) bs) ≡ true → IsAscii bs
ascii_of [] e = λ i. lit< tt
ascii_of (b ∷ bs) e = elim (b == 47) as (λ x. (b == 47) ≡ x → list_all has_path_bytes (cond x ([] ∷ slice_split (λ c. c == 47) bs) (onto_first b (slice_split (λ c. c == 47) bs))) ≡ true → IsAscii (b ∷ bs)) [
  | true ↦ λ same k. ascii_with b bs (is b 47 (lit< tt) same) (ascii_of bs k)
  | false ↦ λ other k.
      elim (slice_split (λ c. c == 47) bs) as (λ ps. slice_split (λ c. c == 47) bs ≡ ps → list_all has_path_bytes (onto_first b ps) ≡ true → IsAscii (b ∷ bs)) [
        | [] ↦ λ none j. absurd (true_false (some_part (λ c. c == 47) bs none))
        | q ∷ qs ↦ λ split j.
            let both = and_parts (is_path_byte b && has_path_bytes q) (list_all has_path_bytes qs) j in
            let first = and_parts (is_path_byte b) (has_path_bytes q) both.0 in
            ascii_with b bs (path_byte b first.0) (ascii_of bs (ap (list_all has_path_bytes) split ∙ (λ i. first.1 i && both.1 i)))
      ] refl k
] refl e

-- the bytes of a path are text
pub path-utf8 : (path : List ℕ) → is_path path ≡ true → IsUtf8 path
unfolding is_path
path-utf8 path e = IsUtf8-from_ascii path (ascii_of path (bytes_of (slice_split (λ b. b == 47) path) (and_parts (leb (length path) 255 && not (is_reserved path)) (has_segments path) e).1))
