-- The lines of the elements, one after another.
use Rattle.std.proofs.Common.{◌≡◌, ℕ, suc, ◌+◌, ◌<◌, List, [], ◌∷◌, ◌++◌, length, take, get_or}
use Rattle.std.proofs.Common.{sym, ap, ◌∙◌, arith, append_assoc}
use Rattle.std.proofs.lemmas.List.{append-nil, take_more, length-take-le}
use Rattle.ui_listing.specs.Listing.{element_line, lines_from}

lines_push : (k : ℕ) (xs : List (List ℕ)) (x : List ℕ)
    → lines_from k (xs ++ x ∷ []) ≡ lines_from k xs ++ element_line (k + length xs) x
lines_push k [] x =
    append-nil (element_line k x) ∙ ap (λ (n : ℕ). element_line n x) (omega arith)
lines_push k (y ∷ ys) x =
    ap (λ (l : List ℕ). element_line k y ++ l) (lines_push (suc k) ys x)
    ∙ sym (append_assoc (element_line k y) (lines_from (suc k) ys) (element_line (suc k + length ys) x))
    ∙ ap (λ (n : ℕ). (element_line k y ++ lines_from (suc k) ys) ++ element_line n x) (omega arith)

pub lines_more : (xs : List (List ℕ)) (k : ℕ) → k < length xs
    → lines_from 0 (take (k + 1) xs) ≡ lines_from 0 (take k xs) ++ element_line k (get_or xs k [])
lines_more xs k lt =
    let many : length (take k xs) ≡ k = length-take-le k xs (omega arith) in
    ap (lines_from 0) (take_more xs k [] lt) ∙ lines_push 0 (take k xs) (get_or xs k [])
    ∙ ap (λ (n : ℕ). lines_from 0 (take k xs) ++ element_line n (get_or xs k [])) (omega arith)
