-- Where comments end.
use Rattle.std.proofs.Common.{◌≡◌, ℕ, ◌+◌, ◌<◌, true, false, cond, List, length, drop, get_or, refl, sym, ap, ◌∙◌, arith, add_assoc}
use Rattle.std.specs.Prelude.{Option, Some, None, ◌==◌, ◌&&◌, option_map}
use Rattle.std.proofs.lemmas.List.{drop_more, get_or-drop}
use Rattle.ui_scan.specs.Piece.{comment_len}

map_twice : (m n : ℕ) (o : Option ℕ) → option_map (λ k. m + k) (option_map (λ k. n + k) o) ≡ option_map (λ k. m + n + k) o
map_twice m n None = refl
map_twice m n (Some k) = ap Some (sym (add_assoc m n k))

module _ (bytes : List ℕ) (at : ℕ) (within : at < length bytes) where
  here : comment_len (drop at bytes)
      ≡ cond (get_or bytes at 0 == 42 && get_or bytes (at + 1) 0 == 47) (Some 2) (option_map (λ n. 1 + n) (comment_len (drop (at + 1) bytes)))
  here = ap comment_len (drop_more bytes at 0 within)
      ∙ ap (λ b. cond (get_or bytes at 0 == 42 && b == 47) (Some 2) (option_map (λ n. 1 + n) (comment_len (drop (at + 1) bytes))))
      (get_or-drop (at + 1) bytes 0 0 ∙ ap (λ n. get_or bytes n 0) (let e : at + 1 + 0 ≡ at + 1 = omega arith in e))

  pub comment_more : (get_or bytes at 0 == 42 && get_or bytes (at + 1) 0 == 47) ≡ false
      → option_map (λ n. at + 1 + n) (comment_len (drop (at + 1) bytes)) ≡ option_map (λ n. at + n) (comment_len (drop at bytes))
  comment_more open_ =
      sym (map_twice at 1 (comment_len (drop (at + 1) bytes)))
      ∙ sym (ap (option_map (λ n. at + n)) (here ∙ ap (λ t. cond t (Some 2) (option_map (λ n. 1 + n) (comment_len (drop (at + 1) bytes)))) open_))

  pub comment_closed : (get_or bytes at 0 == 42 && get_or bytes (at + 1) 0 == 47) ≡ true
      → option_map (λ n. at + n) (comment_len (drop at bytes)) ≡ Some (at + 2)
  comment_closed closed =
      ap (option_map (λ n. at + n)) (here ∙ ap (λ t. cond t (Some 2) (option_map (λ n. 1 + n) (comment_len (drop (at + 1) bytes)))) closed)
