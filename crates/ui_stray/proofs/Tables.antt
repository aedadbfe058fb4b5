-- Tables of elements, read from their bytes.
use Rattle.std.proofs.Common.{◌≡◌, inl, inr, ℕ, zero, suc, ◌+◌, ◌-◌, ◌<◌, ◌^◌, Bool, true, false, cond, not}
use Rattle.std.proofs.Common.{List, [], ◌∷◌, ◌++◌, map, length, drop, Result, Ok, Err}
use Rattle.std.proofs.Common.{refl, sym, ap, subst, ◌∙◌, arith, append_assoc, drop-drop}
use Rattle.std.specs.Prelude.{OnOk}
use Rattle.std.specs.List.{AllByRecursion, filter, flat_map}
use Rattle.std.proofs.lemmas.List.{drop_at, append-nil, map-append}
use Rattle.std.proofs.lemmas.List.Concat.{flat_map-cons}
use Rattle.ui_frame.specs.declared.number.NumFault.{NumFault}
use Rattle.ui_frame.specs.Laws.{uint_again}
use Rattle.ui_frame.specs.Number.{uint}
use Rattle.ui_frame.specs.Reading.{◌>>=◌, uint_at, placed}
use Rattle.ui_strpos.specs.declared.target.Target.{Target}
use Rattle.ui_strpos.specs.Items.{Item, target, is_target, entry, written, nothing, spelling}
use Rattle.ui_stray.specs.Links.{entry_at, entry_then, entries_at, table_after, table_at, target_number}

-- ---- one entry, by its places

cut_at : (at : ℕ) (r : Result (ℕ × ℕ) NumFault) (e : NumFault) → placed at r ≡ Err e → r ≡ Err e
cut_at at (Ok x) e h = absurd cc
cut_at at (Err d) e h = cc

abbrev pair_of : Result (ℕ × ℕ) NumFault → ℕ × ℕ
pair_of (Ok x) = x
pair_of (Err e) = (0, 0)

read_at : (at : ℕ) (r : Result (ℕ × ℕ) NumFault) (n next : ℕ) → placed at r ≡ Ok (n, next)
    → (k : ℕ) × (r ≡ Ok (n, k)) × (next ≡ at + k)
read_at at (Ok (m, k)) n next h = (
  k,
  (λ i. Ok ((pair_of (h i)).0, k)),
  sym
      (ap (λ (r : Result (ℕ × ℕ) NumFault). (pair_of r).1) h),
)
read_at at (Err d) n next h = absurd cc

behind : (bytes : List ℕ) (at k index : ℕ) → index ≡ at + k → drop k (drop at bytes)
    ≡ drop index bytes
behind bytes at k index e = drop-drop k at bytes ∙ ap (λ (i : ℕ). drop i bytes) (sym e)

pub entry_cut : (bytes : List ℕ) (at : ℕ) (e : NumFault) → placed at (uint_at (drop at bytes))
    ≡ Err e
    → entry_at (drop at bytes) ≡ Err e
unfolding entry_at
entry_cut bytes at e h = rw (cut_at at (uint_at (drop at bytes)) e h) refl

pub index_cut : (bytes : List ℕ) (at n index : ℕ) (e : NumFault)
    → placed at (uint_at (drop at bytes)) ≡ Ok (n, index)
    → placed index (uint_at (drop index bytes)) ≡ Err e → entry_at (drop at bytes) ≡ Err e
unfolding entry_at
index_cut bytes at n index e h g =
    let first = read_at at (uint_at (drop at bytes)) n index h in
    rw (
      first.1,
      behind bytes at first.0 index first.2,
      cut_at index
          (uint_at (drop index bytes)) e g,
    ) refl

pub entry_read : (bytes : List ℕ) (at n index m next : ℕ)
    → placed at (uint_at (drop at bytes)) ≡ Ok (n, index)
    → placed index (uint_at (drop index bytes)) ≡ Ok (m, next)
    → entry_at (drop at bytes) ≡ Ok (target n m, drop next bytes)
unfolding entry_at
entry_read bytes at n index m next h g =
    let first = read_at at (uint_at (drop at bytes)) n index h in
    let second = read_at index (uint_at (drop index bytes)) m next g in
    rw (first.1, behind bytes at first.0 index first.2, second.1)
    (ap (λ (xs : List ℕ). Ok (target n m, xs)) (behind bytes index second.0 next second.2))

-- ---- so many entries

one_less : (n i : ℕ) → i < n → n - i ≡ suc (n - (i + 1))
one_less n i h = omega arith

module _ (starts : List ℕ) where
  abbrev numbers : List Target → List ℕ
  numbers ts = map (target_number starts) ts

  pub one_put : (out new whole bytes : List ℕ) (n i place next : ℕ) (t : Target) → i < n
      → entry_at (drop place bytes) ≡ Ok (t, drop next bytes) → new
      ≡ out ++ target_number starts t ∷ []
      → out ++ numbers (entries_at (n - i) (drop place bytes)) ≡ whole
      → new ++ numbers (entries_at (n - (i + 1)) (drop next bytes)) ≡ whole
  unfolding entries_at
  one_put out new whole bytes n i place next t lt e is so_far =
      let others : List ℕ = numbers (entries_at (n - (i + 1)) (drop next bytes)) in
      ap (λ (xs : List ℕ). xs ++ others) is
      ∙ append_assoc out (target_number starts t ∷ []) others
      ∙ sym (ap (λ (m : ℕ). out ++ numbers (entries_at m (drop place bytes))) (one_less n i lt)
      ∙ ap (λ (r : Result (Target × List ℕ) NumFault).
      out ++ numbers (entry_then (entries_at (n - (i + 1))) r)) e) ∙ so_far

  pub cut_put : (out whole : List ℕ) (n i : ℕ) (bytes : List ℕ) (e : NumFault) → i < n
      → entry_at bytes ≡ Err e → out ++ numbers (entries_at (n - i) bytes) ≡ whole → out ≡ whole
  unfolding entries_at
  cut_put out whole n i bytes e lt h so_far =
      sym (append-nil out) ∙ sym (ap (λ (m : ℕ). out ++ numbers (entries_at m bytes))
      (one_less n i lt)
      ∙ ap (λ (r : Result (Target × List ℕ) NumFault).
      out ++ numbers (entry_then (entries_at (n - (i + 1))) r)) h) ∙ so_far

  pub all_put : (out whole : List ℕ) (n i : ℕ) (bytes : List ℕ) → n - i ≡ 0
      → out ++ numbers (entries_at (n - i) bytes) ≡ whole → out ≡ whole
  unfolding entries_at
  all_put out whole n i bytes e so_far =
      sym (append-nil out) ∙ sym (ap (λ (m : ℕ). out ++ numbers (entries_at m bytes)) e) ∙ so_far

  pub table_put : (bytes old new : List ℕ) (count at : ℕ)
      → placed 0 (uint_at (drop 0 bytes)) ≡ Ok (count, at)
      → new ≡ old ++ numbers (entries_at count (drop at bytes)) → new
      ≡ old ++ numbers (table_at bytes)
  unfolding table_at
  table_put bytes old new count at h e =
      let first = read_at 0 (uint_at bytes) count at h in
      let place : at ≡ first.0 = (let f = first.2 in omega arith) in
      e ∙ ap (λ (k : ℕ). old ++ numbers (entries_at count (drop k bytes))) place
      ∙ sym (ap (λ (r : Result (ℕ × ℕ) NumFault). old ++ numbers (table_after bytes r)) first.1)

  pub table_told : {A E : Type 0} (r : Result A E) (bytes old new : List ℕ) (count at : ℕ)
      → placed 0 (uint_at (drop 0 bytes)) ≡ Ok (count, at)
      → OnOk r (new ≡ old ++ numbers (entries_at count (drop at bytes)))
      → OnOk r (new ≡ old ++ numbers (table_at bytes))
  table_told (Ok a) bytes old new count at h e = table_put bytes old new count at h e
  table_told (Err f) bytes old new count at h e = e

  pub no_table : (bytes old : List ℕ) (e : NumFault) → placed 0 (uint_at (drop 0 bytes)) ≡ Err e
      → old ≡ old ++ numbers (table_at bytes)
  unfolding table_at
  no_table bytes old e h =
      sym (append-nil old)
      ∙ sym (ap (λ (r : Result (ℕ × ℕ) NumFault). old ++ numbers (table_after bytes r))
      (cut_at 0 (uint_at bytes) e h))

-- ---- the table of a spelling

abbrev pub IsSmall : Target → Type 0
IsSmall t = (t.section < 2 ^ 64) × (t.index < 2 ^ 64)

entry_again : (t : Target) (rest : List ℕ) → IsSmall t → entry_at (entry t ++ rest) ≡ Ok (t, rest)
unfolding entry_at
entry_again t rest small =
    let whole : entry t ++ rest ≡ uint t.section ++ (uint t.index ++ rest) =
    append_assoc (uint t.section) (uint t.index) rest in
    rw (
      whole,
      uint_again t.section (uint t.index ++ rest) small.0,
      drop_at (uint t.section) (uint t.index ++ rest) (length (uint t.section)) refl,
      uint_again t.index rest small.1,
      drop_at (uint t.index) rest (length (uint t.index)) refl,
    ) refl

entries_again : (ts : List Target) (rest : List ℕ) → AllByRecursion IsSmall ts
    → entries_at (length ts) (flat_map entry ts ++ rest) ≡ ts
unfolding entries_at
entries_again [] rest small = refl
entries_again (t ∷ ts) rest small =
    let whole : flat_map entry (t ∷ ts) ++ rest ≡ entry t ++ (flat_map entry ts ++ rest) =
    ap (λ (xs : List ℕ). xs ++ rest) (flat_map-cons entry t ts)
    ∙ append_assoc (entry t) (flat_map entry ts) rest in
    ap (λ (bytes : List ℕ). entry_then (entries_at (length ts)) (entry_at bytes)) whole
    ∙ ap (entry_then (entries_at (length ts))) (entry_again t (flat_map entry ts ++ rest) small.0)
    ∙ ap (λ (us : List Target). t ∷ us) (entries_again ts rest small.1)

pub table_spelled : (is : List Item) → length (written nothing is).table < 2 ^ 64
    → AllByRecursion IsSmall (written nothing is).table → table_at (spelling is)
    ≡ (written nothing is).table
unfolding table_at
table_spelled is few small =
    let w = written nothing is in
    let n : ℕ = length w.table in
    let entries : List ℕ = flat_map entry w.table in
    let whole : spelling is ≡ uint n ++ (entries ++ w.bytes) = append_assoc
    (uint n) entries w.bytes in
    let count : uint_at (spelling is) ≡ Ok (n, length (uint n)) =
    ap uint_at whole ∙ uint_again n (entries ++ w.bytes) few in
    let behind : drop (length (uint n)) (spelling is) ≡ entries ++ w.bytes =
    ap (λ (bytes : List ℕ). drop (length (uint n)) bytes) whole
    ∙ drop_at (uint n) (entries ++ w.bytes) (length (uint n)) refl in
    ap (λ (r : Result (ℕ × ℕ) NumFault). table_after (spelling is) r) count
    ∙ ap (entries_at n) behind ∙ entries_again w.table w.bytes small

pub no_bytes : table_at [] ≡ []
unfolding table_at uint_at
no_bytes = refl
