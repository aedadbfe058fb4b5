-- Entries of a table, by their places.
use Rattle.std.proofs.Common.{◌≡◌, ℕ, zero, suc, ◌+◌, ◌-◌, ◌<◌, ◌^◌, min, List, drop, Result, Ok, Err, refl, sym, ap, ◌∙◌, arith, drop-drop}
use Rattle.std.specs.Prelude.{[], ◌∷◌, None, slice_get, get_or}
use Rattle.ui_frame.specs.declared.number.NumFault.{NumFault}
use Rattle.ui_frame.specs.Reading.{◌>>=◌, uint_at, placed}
use Rattle.ui_file.specs.Files.{after_entry, after_entries, params_in, params_or_none, params_of}

-- what stands at a place, by the place after it
cut_at : (at : ℕ) (r : Result (ℕ × ℕ) NumFault) (e : NumFault) → placed at r ≡ Err e → r ≡ Err e
cut_at at (Ok x) e h = absurd cc
cut_at at (Err d) e h = cc

abbrev pair_of : Result (ℕ × ℕ) NumFault → ℕ × ℕ
pair_of (Ok x) = x
pair_of (Err e) = (0, 0)

read_at : (at : ℕ) (r : Result (ℕ × ℕ) NumFault) (n next : ℕ) → placed at r ≡ Ok (n, next)
    → (k : ℕ) × (r ≡ Ok (n, k)) × (next ≡ at + k)
read_at at (Ok (m, k)) n next h = (
  k,
  (λ i. Ok ((pair_of (h i)).0, k)),
  sym
      (ap (λ (r : Result (ℕ × ℕ) NumFault). (pair_of r).1) h),
)
read_at at (Err d) n next h = absurd cc

pub entry_cut : (bytes : List ℕ) (at : ℕ) (e : NumFault) → placed at (uint_at (drop at bytes))
    ≡ Err e → after_entry (drop at bytes) ≡ Err e
unfolding after_entry
entry_cut bytes at e h = rw (cut_at at (uint_at (drop at bytes)) e h) refl

-- the number behind the first
behind : (bytes : List ℕ) (at n k index : ℕ) → index ≡ at + k → drop k (drop at bytes)
    ≡ drop index bytes
behind bytes at n k index e = drop-drop k at bytes ∙ ap (λ (i : ℕ). drop i bytes) (sym e)

pub index_cut : (bytes : List ℕ) (at n index : ℕ) (e : NumFault)
    → placed at (uint_at (drop at bytes)) ≡ Ok (n, index)
    → placed index (uint_at (drop index bytes)) ≡ Err e → after_entry (drop at bytes) ≡ Err e
unfolding after_entry
index_cut bytes at n index e h g =
    let first = read_at at (uint_at (drop at bytes)) n index h in
    rw (
      first.1,
      behind bytes at n first.0 index first.2,
      cut_at index
          (uint_at (drop index bytes)) e g,
    ) refl

pub entry_read : (bytes : List ℕ) (at n index m next : ℕ) → placed at (uint_at (drop at bytes))
    ≡ Ok (n, index) → placed index (uint_at (drop index bytes)) ≡ Ok (m, next)
    → after_entry (drop at bytes) ≡ Ok (drop next bytes)
unfolding after_entry
entry_read bytes at n index m next h g =
    let first = read_at at (uint_at (drop at bytes)) n index h in
    let second = read_at index (uint_at (drop index bytes)) m next g in
    rw (first.1, behind bytes at n first.0 index first.2, second.1)
    (ap (λ (xs : List ℕ). Ok xs) (behind bytes index m second.0 next second.2))

-- ---- so many of them

one_less : (n i : ℕ) → i < n → n - i ≡ suc (n - (i + 1))
one_less n i h = omega arith

pub entries_cut : (bytes : List ℕ) (place n i : ℕ) (e : NumFault)
    (whole : Result (List ℕ) NumFault) → i < n → after_entry (drop place bytes) ≡ Err e
    → after_entries (n - i) (drop place bytes) ≡ whole → whole ≡ Err e
unfolding after_entries
entries_cut bytes place n i e whole lt h so_far = sym so_far
    ∙ ap (λ (m : ℕ). after_entries m (drop place bytes)) (one_less n i lt)
    ∙ ap (λ (r : Result (List ℕ) NumFault). r >>= after_entries (n - (i + 1))) h

pub entries_more : (bytes : List ℕ) (place next n i : ℕ) (whole : Result (List ℕ) NumFault)
    → i < n → after_entry (drop place bytes) ≡ Ok (drop next bytes)
    → after_entries (n - i) (drop place bytes) ≡ whole
    → after_entries (n - (i + 1)) (drop next bytes) ≡ whole
unfolding after_entries
entries_more bytes place next n i whole lt h so_far = sym
    (ap (λ (m : ℕ). after_entries m (drop place bytes)) (one_less n i lt)
    ∙ ap (λ (r : Result (List ℕ) NumFault). r >>= after_entries (n - (i + 1))) h) ∙ so_far

pub entries_done : (bytes : List ℕ) (place n i : ℕ) (whole : Result (List ℕ) NumFault) → n - i ≡ 0
    → after_entries (n - i) (drop place bytes) ≡ whole → whole ≡ Ok (drop place bytes)
unfolding after_entries
entries_done bytes place n i whole e so_far = sym so_far
    ∙ ap (λ (m : ℕ). after_entries m (drop place bytes)) e

-- ---- the number of parameters

first_at : (bytes : List ℕ) (n at : ℕ) → placed 0 (uint_at (drop 0 bytes)) ≡ Ok (n, at) → (k : ℕ)
    × (uint_at bytes ≡ Ok (n, k)) × (drop k bytes ≡ drop at bytes)
first_at bytes n at h =
    let first = read_at 0 (uint_at bytes) n at h in
    (first.0, first.1, ap (λ (i : ℕ). drop i bytes) (let e = first.2 in omega arith))

pub count_cut : (bytes : List ℕ) (e : NumFault) → placed 0 (uint_at (drop 0 bytes)) ≡ Err e
    → Err e ≡ params_in bytes
unfolding params_in
count_cut bytes e h = rw (cut_at 0 (uint_at bytes) e h) refl

pub table_cut : (bytes : List ℕ) (n at : ℕ) (e : NumFault) → placed 0 (uint_at (drop 0 bytes))
    ≡ Ok (n, at) → after_entries n (drop at bytes) ≡ Err e → Err e ≡ params_in bytes
unfolding params_in
table_cut bytes n at e h g =
    let first = first_at bytes n at h in
    rw (first.1, first.2, g) refl

pub zero_cut : (bytes : List ℕ) (n at place : ℕ) (e : NumFault)
    → placed 0 (uint_at (drop 0 bytes)) ≡ Ok (n, at) → after_entries n (drop at bytes)
    ≡ Ok (drop place bytes) → placed place (uint_at (drop place bytes)) ≡ Err e → Err e
    ≡ params_in bytes
unfolding params_in
zero_cut bytes n at place e h g z =
    let first = first_at bytes n at h in
    rw (first.1, first.2, g, cut_at place (uint_at (drop place bytes)) e z) refl

pub params_cut : (bytes : List ℕ) (n at place m next : ℕ) (e : NumFault)
    → placed 0 (uint_at (drop 0 bytes)) ≡ Ok (n, at) → after_entries n (drop at bytes)
    ≡ Ok (drop place bytes) → placed place (uint_at (drop place bytes)) ≡ Ok (m, next)
    → placed next (uint_at (drop next bytes)) ≡ Err e → Err e ≡ params_in bytes
unfolding params_in
params_cut bytes n at place m next e h g z p =
    let first = first_at bytes n at h in
    let second = read_at place (uint_at (drop place bytes)) m next z in
    rw (
      first.1,
      first.2,
      g,
      second.1,
      behind bytes place m second.0 next second.2,
      cut_at next
          (uint_at (drop next bytes)) e p,
    ) refl

pub params_read : (bytes : List ℕ) (n at place m next params last : ℕ)
    → placed 0 (uint_at (drop 0 bytes)) ≡ Ok (n, at) → after_entries n (drop at bytes)
    ≡ Ok (drop place bytes) → placed place (uint_at (drop place bytes)) ≡ Ok (m, next)
    → placed next (uint_at (drop next bytes)) ≡ Ok (params, last) → Ok params ≡ params_in bytes
unfolding params_in
params_read bytes n at place m next params last h g z p =
    let first = first_at bytes n at h in
    let second = read_at place (uint_at (drop place bytes)) m next z in
    let third = read_at next (uint_at (drop next bytes)) params last p in
    rw (first.1, first.2, g, second.1, behind bytes place m second.0 next second.2, third.1) refl

pub no_params : (bytes : List ℕ) (e : NumFault) → Err e ≡ params_in bytes → 0 ≡ params_of bytes
unfolding params_of
no_params bytes e h = ap params_or_none h

pub some_params : (bytes : List ℕ) (n m : ℕ) → Ok n ≡ params_in bytes → m ≡ min n (2 ^ 32 - 1) → m
    ≡ params_of bytes
unfolding params_of
some_params bytes n m h e = e ∙ ap params_or_none h

-- there is no such element
pub none_there : (xs : List (List ℕ)) (k : ℕ) → None ≡ slice_get xs k → 0
    ≡ params_of (get_or xs k [])
unfolding params_of params_in uint_at
none_there [] k e = refl
none_there (x ∷ xs) zero e = absurd cc
none_there (x ∷ xs) (suc k) e = none_there xs k e
