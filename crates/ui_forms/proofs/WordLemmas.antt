-- The words of a source.
use Rattle.std.proofs.Common.{◌≡◌, ℕ, ◌-◌, ◌<◌, ◌≤◌, true, false, not, List, drop, length, get_or, sym, ap, arith}
use Rattle.std.proofs.lemmas.List.Sums.{suffix_len_is}
use Rattle.std.specs.List.{suffix_len}
use Rattle.ui_forms.specs.Words.{is_slash, last_segment}

-- all bytes from a place on are no slash
abbrev pub NoSlashFrom : ℕ → List ℕ → Type 0
NoSlashFrom start path = (k : ℕ) → start ≤ k → k < length path → not (is_slash (get_or path k 0)) ≡ true

-- the place is behind the last slash
pub segment_from : (path : List ℕ) (start : ℕ) → start ≤ length path → NoSlashFrom start path → (0 < start → not (is_slash (get_or path (start - 1) 0)) ≡ false) → drop start path ≡ last_segment path
segment_from path start within after before =
    let count : suffix_len (λ x. not (is_slash x)) path ≡ length path - start = suffix_len_is (λ x. not (is_slash x)) path start 0 within after before in
    let place : length path - suffix_len (λ x. not (is_slash x)) path ≡ start = omega arith in
    ap (λ n. drop n path) (sym place)
