-- An element is read exactly from its spelling.
use Rattle.std.proofs.Common.{◌≡◌, ℕ, zero, suc, ◌+◌, ◌<◌, ◌≤◌, ◌^◌, List, [], ◌∷◌, ◌++◌, length, take, drop, Bool, true, false, cond, ltb, Some, Result, Ok, Err, refl, sym, ap, subst, ◌∙◌, append_assoc, inl, inr, arith}
use Rattle.std.specs.Prelude.{slice_get, nat_eq, nat_lt}
use Rattle.std.specs.List.{AllByRecursion, flat_map}
use Rattle.std.proofs.lemmas.Bool.{cases_lt, le-ltb, lt-ltb, ltb-true, ltb-false, eqb-true}
use Rattle.std.proofs.lemmas.List.{append-nil, length-append, length-take, nil_from_length, take_at}
use Rattle.std.proofs.Math.Seq.{take-length}
use Rattle.std.proofs.lemmas.List.Concat.{flat_map-cons}
use Rattle.std.proofs.lemmas.Option.{slice_get_within}
use Rattle.ui_frame.specs.Number.{uint}
use Rattle.ui_frame.specs.Reading.{◌>>=◌, uint_at}
use Rattle.ui_frame.specs.Laws.{IsBytes, bind_ok, ok_is, chosen, uint_takes, uint_again, bytes_after}
use Rattle.ui_strpos.specs.declared.target.Target.{Target}
use Rattle.ui_strpos.specs.declared.fault.Cause.{Cause}
use Rattle.ui_strpos.specs.declared.fault.Cause.TheVariants.{BadSection, BadIndex, TableOrder, TableUse, Tail}
use Rattle.ui_strpos.specs.Items.{Item, UInt, Int, Truth, Use, Written, target, place_in, after_use, written, nothing, entry, table_bytes, spelled, spelling}
use Rattle.ui_strpos.specs.Reading.{Context, State, Fault, fault, past, uint_in, count_of, below, added, with_table, entry_in, entries_in, table_in, start_in, fresh, finish_in, Gives_value}
use Rattle.std.specs.Prelude.{IfOk}
use Rattle.ui_strpos.specs.declared.fault.ElementFault.{ElementFault}
use Rattle.ui_strpos.specs.Format.{Format, ItemFits, InGrammar, Lawful, whole_in, element_in}
use Rattle.ui_strpos.specs.Tables.{IsDistinct, place_within, place_append_old, get_append_left, get_append_seam, distinct_push}
use Rattle.ui_strpos.specs.Bytes.{table_from, data_from, written_is, seen, Good, seen_length, field_ok, data_found}
use Rattle.ui_strpos.specs.Again.{data_goes, rest_after}

abbrev pub IsValid : Context → List Target → Type 0
IsValid c table = (k : ℕ) (t : Target) → slice_get table k ≡ Some t → ItemFits c (Use t.section t.index)

valid_push : (c : Context) (xs : List Target) (t : Target) → IsValid c xs → ItemFits c (Use t.section t.index) → IsValid c (xs ++ t ∷ [])
valid_push c xs t h new k u e =
    elim (cases_lt k (length xs)) [
      | inl lt ↦ h k u (sym (get_append_left xs (t ∷ []) k lt) ∙ e)
      | inr le ↦
          let last : k ≡ length xs = (let w = slice_get_within (xs ++ t ∷ []) k u e in omega (arith, w, length-append xs (t ∷ []))) in
          let same : t ≡ u = (let f : Some u ≡ Some t = sym e ∙ ap (slice_get (xs ++ t ∷ [])) last ∙ get_append_seam xs t [] in cc) in
          subst (λ (x : Target). ItemFits c (Use x.section x.index)) same new
    ]

-- the table of fields that fit
good_use : (c : Context) (table : List Target) (t : Target) (b : Bool) → ltb (place_in table t) (length table) ≡ b → ItemFits c (Use t.section t.index) → IsDistinct table → IsValid c table
    → IsDistinct (cond b table (table ++ t ∷ [])) × IsValid c (cond b table (table ++ t ∷ []))
good_use c table t true e fits d v = (d, v)
good_use c table t false e fits d v =
    let w = place_within table t in
    let ge = ltb-false (place_in table t) (length table) e in
    (distinct_push table t d (omega arith), valid_push c table t v fits)

good_table : (c : Context) (is : List Item) (table : List Target) → AllByRecursion (ItemFits c) is → IsDistinct table → IsValid c table → IsDistinct (table_from table is) × IsValid c (table_from table is)
good_table c [] table fits d v = (d, v)
good_table c (UInt n ∷ is) table fits d v = good_table c is table fits.1 d v
good_table c (Int z ∷ is) table fits d v = good_table c is table fits.1 d v
good_table c (Truth b ∷ is) table fits d v = good_table c is table fits.1 d v
good_table c (Use s k ∷ is) table fits d v =
    let t : Target = target s k in
    let p = good_use c table t (ltb (place_in table t) (length table)) refl fits.0 d v in
    good_table c is (after_use table t) fits.1 p.0 p.1

-- ---- the table is read from its spelling

pub below_ok : (limit place : ℕ) (cause : Cause) (n x : ℕ) → below limit place cause n ≡ Ok x → n < limit
below_ok limit place cause n x e =
    elim (chosen (nat_lt n limit) (Ok n) (Err (fault place cause)) (Ok x) e) [ inl p ↦ ltb-true n limit p.0 | inr p ↦ absurd cc ]

added_ok : (table : List Target) (place : ℕ) (t : Target) (x : List Target) → added table place t ≡ Ok x → (place_in table t ≡ length table) × (table ++ t ∷ [] ≡ x)
added_ok table place t x e =
    elim (chosen (nat_lt (place_in table t) (length table)) (Err (fault place TableOrder)) (Ok (table ++ t ∷ [])) (Ok x) e) [
      | inl p ↦ absurd cc
      | inr p ↦ (let w = place_within table t in let ge = ltb-false (place_in table t) (length table) p.0 in omega arith, ok_is {F = Fault} (table ++ t ∷ []) x p.1)
    ]

pub record EntriesSpelled (s : State) (es : List Target) (t : State) : Type 0 where
  pub context : t.context ≡ s.context
  pub table : t.table ≡ s.table ++ es
  pub used : t.used ≡ s.used
  pub rest : s.rest ≡ flat_map entry es ++ t.rest
  pub place : t.place ≡ s.place + length (flat_map entry es)
  pub good : Good t

one_good : (s : State) (t : Target) (place : ℕ) (rest : List ℕ) → Good s → ItemFits s.context (Use t.section t.index) → place_in s.table t ≡ length s.table
    → Good (record { context = s.context; table = s.table ++ t ∷ []; used = s.used; place = place; rest = rest })
one_good s t place rest g fits new =
    let w = g.within in
    record { within = omega (arith, length-append s.table (t ∷ [])); distinct = distinct_push s.table t g.distinct new; valid = valid_push s.context s.table t g.valid fits }

pub entry_found : (s t : State) → Good s → IsBytes s.rest → entry_in s ≡ Ok t → (e : Target) × EntriesSpelled s (e ∷ []) t
unfolding entry_in
entry_found s t g bytes e =
    let a = bind_ok (uint_in s) (λ section. below 10 s.place BadSection section.0 >>= λ known. uint_in section.1 >>= λ index. below (count_of s.context section.0) section.1.place BadIndex index.0 >>= λ there. added s.table s.place (target section.0 index.0) >>= λ table. Ok (with_table index.1 table)) t e in
    let fa = field_ok s (uint_at s.rest) a.0.0 a.0.1 a.1 in
    let wa = uint_takes s.rest (a.0.0, fa.0) bytes fa.1 in
    let b = bind_ok (below 10 s.place BadSection a.0.0) (λ known. uint_in a.0.1 >>= λ index. below (count_of s.context a.0.0) a.0.1.place BadIndex index.0 >>= λ there. added s.table s.place (target a.0.0 index.0) >>= λ table. Ok (with_table index.1 table)) t a.2 in
    let c = bind_ok (uint_in a.0.1) (λ index. below (count_of s.context a.0.0) a.0.1.place BadIndex index.0 >>= λ there. added s.table s.place (target a.0.0 index.0) >>= λ table. Ok (with_table index.1 table)) t b.2 in
    let fc = field_ok a.0.1 (uint_at a.0.1.rest) c.0.0 c.0.1 c.1 in
    let middle : a.0.1.rest ≡ drop fa.0 s.rest = ap (λ (u : State). u.rest) fa.2 in
    let wc = uint_takes a.0.1.rest (c.0.0, fc.0) (subst IsBytes (sym middle) (bytes_after (uint a.0.0) (drop fa.0 s.rest) (subst IsBytes wa.parts bytes))) fc.1 in
    let d = bind_ok (below (count_of s.context a.0.0) a.0.1.place BadIndex c.0.0) (λ there. added s.table s.place (target a.0.0 c.0.0) >>= λ table. Ok (with_table c.0.1 table)) t c.2 in
    let f = bind_ok (added s.table s.place (target a.0.0 c.0.0)) (λ table. Ok (with_table c.0.1 table)) t d.2 in
    let p = added_ok s.table s.place (target a.0.0 c.0.0) f.0 f.1 in
    let t0 : Target = target a.0.0 c.0.0 in
    let made : State = record { context = s.context; table = s.table ++ t0 ∷ []; used = s.used; place = (s.place + fa.0) + fc.0; rest = drop fc.0 (drop fa.0 s.rest) } in
    let fits : ItemFits s.context (Use a.0.0 c.0.0) = (below_ok 10 s.place BadSection a.0.0 b.0 b.1, below_ok (count_of s.context a.0.0) a.0.1.place BadIndex c.0.0 d.0 d.1, omega (arith, wc.bound)) in
    let is : made ≡ t =
    ap (λ (x : List Target). with_table (past (past s fa.0) fc.0) x) p.1
    ∙ ap (λ (u : State). with_table (past u fc.0) f.0) (sym fa.2)
    ∙ ap (λ (u : State). with_table u f.0) (sym fc.2)
    ∙ ok_is {F = Fault} (with_table c.0.1 f.0) t f.2 in
    let second : drop fa.0 s.rest ≡ uint c.0.0 ++ drop fc.0 (drop fa.0 s.rest) = sym middle ∙ wc.parts ∙ ap (λ (x : List ℕ). uint c.0.0 ++ drop fc.0 x) middle in
    let text : s.rest ≡ flat_map entry (t0 ∷ []) ++ drop fc.0 (drop fa.0 s.rest) =
    wa.parts ∙ ap (λ (x : List ℕ). uint a.0.0 ++ x) second ∙ sym (append_assoc (uint a.0.0) (uint c.0.0) (drop fc.0 (drop fa.0 s.rest)))
    ∙ ap (λ (x : List ℕ). x ++ drop fc.0 (drop fa.0 s.rest)) (sym (append-nil (entry t0)) ∙ sym (flat_map-cons entry t0 [])) in
    let size : length (flat_map entry (t0 ∷ [])) ≡ fa.0 + fc.0 = ap length (flat_map-cons entry t0 [] ∙ append-nil (entry t0)) ∙ omega (arith, length-append (uint a.0.0) (uint c.0.0), wa.len_is, wc.len_is) in
    (t0, subst (λ (u : State). EntriesSpelled s (t0 ∷ []) u) is (record { context = refl; table = refl; used = refl; rest = text; place = omega (arith, size); good = one_good s t0 made.place made.rest g fits p.0 }))

pub entries_then : (s m t : State) (e : Target) (es : List Target) → EntriesSpelled s (e ∷ []) m → EntriesSpelled m es t → EntriesSpelled s (e ∷ es) t
entries_then s m t e es a b = record {
  context = b.context ∙ a.context;
  table = b.table ∙ ap (λ (x : List Target). x ++ es) a.table ∙ append_assoc s.table (e ∷ []) es;
  used = b.used ∙ a.used;
  rest = a.rest ∙ ap (λ (x : List ℕ). flat_map entry (e ∷ []) ++ x) b.rest ∙ sym (append_assoc (flat_map entry (e ∷ [])) (flat_map entry es) t.rest)
      ∙ ap (λ (x : List ℕ). (x ++ flat_map entry es) ++ t.rest) (flat_map-cons entry e [] ∙ append-nil (entry e)) ∙ ap (λ (x : List ℕ). x ++ t.rest) (sym (flat_map-cons entry e es));
  place = (let first = a.place in let others = b.place in let one = ap length (flat_map-cons entry e [] ∙ append-nil (entry e)) in omega (arith, one, ap length (flat_map-cons entry e es), length-append (entry e) (flat_map entry es)));
  good = b.good;
}

pub entries_found : (n : ℕ) (s t : State) → Good s → IsBytes s.rest → entries_in n s ≡ Ok t → (es : List Target) × (length es ≡ n) × EntriesSpelled s es t
unfolding entries_in
entries_found zero s t g bytes e =
    let same = ok_is {F = Fault} s t e in
    ([], refl, subst (λ (u : State). EntriesSpelled s [] u) same (record { context = refl; table = sym (append-nil s.table); used = refl; rest = refl; place = omega arith; good = g }))
entries_found (suc n) s t g bytes e =
    let a = bind_ok (entry_in s) (entries_in n) t e in
    let first = entry_found s a.0 g bytes a.1 in
    let rest = entries_found n a.0 t first.1.good (bytes_after (flat_map entry (first.0 ∷ [])) a.0.rest (subst IsBytes first.1.rest bytes)) a.2 in
    (first.0 ∷ rest.0, ap suc rest.1, entries_then s a.0 t first.0 rest.0 first.1 rest.2)

pub record StartSpelled (c : Context) (bytes : List ℕ) (s : State) : Type 0 where
  pub context : s.context ≡ c
  pub used : s.used ≡ 0
  pub text : bytes ≡ table_bytes s.table ++ s.rest
  pub place : s.place ≡ length (table_bytes s.table)
  pub small : length s.table < 2 ^ 64
  pub good : Good s

pub fresh_good : (c : Context) (bytes : List ℕ) (place : ℕ) → Good (record { context = c; table = []; used = 0; place = place; rest = bytes })
fresh_good c bytes place = record { within = omega arith; distinct = λ k t e. absurd cc; valid = λ k t e. absurd cc }

pub start_found : (c : Context) (bytes : List ℕ) (s : State) → IsBytes bytes → start_in c bytes ≡ Ok s → StartSpelled c bytes s
unfolding table_in
start_found c bytes s fits e =
    let a = bind_ok (uint_in (fresh c bytes)) (λ n. entries_in n.0 n.1) s e in
    let f = field_ok (fresh c bytes) (uint_at bytes) a.0.0 a.0.1 a.1 in
    let w = uint_takes bytes (a.0.0, f.0) fits f.1 in
    let at : State = past (fresh c bytes) f.0 in
    let b = entries_found a.0.0 at s (fresh_good c (drop f.0 bytes) (0 + f.0)) (bytes_after (uint a.0.0) (drop f.0 bytes) (subst IsBytes w.parts fits)) (ap (entries_in a.0.0) (sym f.2) ∙ a.2) in
    let table : s.table ≡ b.0 = b.2.table in
    let count : a.0.0 ≡ length s.table = sym b.1 ∙ ap length (sym table) in
    record {
      context = b.2.context;
      used = b.2.used;
      text = w.parts ∙ ap (λ (x : List ℕ). uint a.0.0 ++ x) b.2.rest ∙ sym (append_assoc (uint a.0.0) (flat_map entry b.0) s.rest)
          ∙ ap (λ (x : List Target). (uint a.0.0 ++ flat_map entry x) ++ s.rest) (sym table) ∙ ap (λ (n : ℕ). (uint n ++ flat_map entry s.table) ++ s.rest) count;
      place = (let after = b.2.place in let entries = ap (λ (x : List Target). length (flat_map entry x)) table in let first = ap (λ (n : ℕ). length (uint n)) count in omega (arith, entries, first, w.len_is, length-append (uint (length s.table)) (flat_map entry s.table)));
      small = omega (arith, w.bound, count);
      good = b.2.good;
    }

-- ---- and what is spelled is read

not_there : (table : List Target) (e : Target) (es : List Target) → IsDistinct (table ++ e ∷ es) → place_in table e ≡ length table
not_there table e es d =
    let w = place_within table e in
    let here = d (length table) e (get_append_seam table e es) in
    elim (cases_lt (place_in table e) (length table)) [
      | inl lt ↦ (let old = place_append_old table (e ∷ es) e lt in omega arith)
      | inr ge ↦ omega arith
    ]

pub record EntriesGo (s : State) (es : List Target) (more : List ℕ) (t : State) : Type 0 where
  pub reads : entries_in (length es) s ≡ Ok t
  pub context : t.context ≡ s.context
  pub table : t.table ≡ s.table ++ es
  pub used : t.used ≡ s.used
  pub rest : t.rest ≡ more
  pub good : Good t

abbrev after_entry : State → Target → State
after_entry s e = with_table (past (past s (length (uint e.section))) (length (uint e.index))) (s.table ++ e ∷ [])

entry_goes : (s : State) (e : Target) (more : List ℕ) → ItemFits s.context (Use e.section e.index) → place_in s.table e ≡ length s.table → s.rest ≡ entry e ++ more → (entry_in s ≡ Ok (after_entry s e)) × ((after_entry s e).rest ≡ more)
unfolding entry_in
entry_goes s e more fits new text =
    let parts : s.rest ≡ uint e.section ++ (uint e.index ++ more) = text ∙ append_assoc (uint e.section) (uint e.index) more in
    let r1 : uint_at s.rest ≡ Ok (e.section, length (uint e.section)) = ap uint_at parts ∙ uint_again e.section (uint e.index ++ more) (let small = fits.0 in omega arith) in
    let middle : drop (length (uint e.section)) s.rest ≡ uint e.index ++ more = rest_after (uint e.section) (uint e.index ++ more) s.rest parts in
    let r2 : uint_at (drop (length (uint e.section)) s.rest) ≡ Ok (e.index, length (uint e.index)) = ap uint_at middle ∙ uint_again e.index more fits.2 in
    (rw (r1, lt-ltb e.section 10 fits.0, r2, lt-ltb e.index (count_of s.context e.section) fits.1, le-ltb (place_in s.table e) (length s.table) (omega arith)) refl, rest_after (uint e.index) more (drop (length (uint e.section)) s.rest) middle)

entries_go : (es : List Target) (s : State) (more : List ℕ) → Good s → IsDistinct (s.table ++ es) → IsValid s.context (s.table ++ es) → s.rest ≡ flat_map entry es ++ more → (t : State) × EntriesGo s es more t
unfolding entries_in
entries_go [] s more g d v e = (s, record { reads = refl; context = refl; table = sym (append-nil s.table); used = refl; rest = e; good = g })
entries_go (x ∷ es) s more g d v e =
    let new = not_there s.table x es d in
    let fits = v (length s.table) x (get_append_seam s.table x es) in
    let parts : s.rest ≡ entry x ++ (flat_map entry es ++ more) = e ∙ ap (λ (b : List ℕ). b ++ more) (flat_map-cons entry x es) ∙ append_assoc (entry x) (flat_map entry es) more in
    let one = entry_goes s x (flat_map entry es ++ more) fits new parts in
    let next : State = after_entry s x in
    let same : (s.table ++ x ∷ []) ++ es ≡ s.table ++ x ∷ es = append_assoc s.table (x ∷ []) es in
    let rest = entries_go es next more (one_good s x next.place next.rest g fits new) (subst IsDistinct (sym same) d) (subst (IsValid s.context) (sym same) v) one.1 in
    (rest.0, record { reads = rw one.0 rest.1.reads; context = rest.1.context; table = rest.1.table ∙ same; used = rest.1.used; rest = rest.1.rest; good = rest.1.good })

pub record StartGoes (c : Context) (table : List Target) (bytes more : List ℕ) (s : State) : Type 0 where
  pub reads : start_in c bytes ≡ Ok s
  pub context : s.context ≡ c
  pub table_is : s.table ≡ table
  pub used : s.used ≡ 0
  pub rest : s.rest ≡ more
  pub good : Good s

start_goes : (c : Context) (table : List Target) (bytes more : List ℕ) → IsDistinct table → IsValid c table → length table < 2 ^ 64 → bytes ≡ (uint (length table) ++ flat_map entry table) ++ more → (s : State) × StartGoes c table bytes more s
unfolding table_in
start_goes c table bytes more d v small e =
    let parts : bytes ≡ uint (length table) ++ (flat_map entry table ++ more) = e ∙ append_assoc (uint (length table)) (flat_map entry table) more in
    let r : uint_at bytes ≡ Ok (length table, length (uint (length table))) = ap uint_at parts ∙ uint_again (length table) (flat_map entry table ++ more) small in
    let at : State = past (fresh c bytes) (length (uint (length table))) in
    let rest = entries_go table at more (fresh_good c at.rest at.place) d v (rest_after (uint (length table)) (flat_map entry table ++ more) bytes parts) in
    (rest.0, record { reads = rw r rest.1.reads; context = rest.1.context; table_is = rest.1.table; used = rest.1.used; rest = rest.1.rest; good = rest.1.good })

-- ---- elements

pub spelling_is : (is : List Item) → spelling is ≡ table_bytes (table_from [] is) ++ data_from [] is
spelling_is is = ap spelled (written_is is nothing)

pub table_is : (is : List Item) → (written nothing is).table ≡ table_from [] is
table_is is = ap (λ (w : Written). w.table) (written_is is nothing)

-- a table that the fields can be read with: no entry stands twice, each is of an element that there is
pub record IsTable (c : Context) (table : List Target) : Type 0 where
  pub distinct : IsDistinct table
  pub valid : IsValid c table
  pub small : length table < 2 ^ 64

pub record ReadsAs {A : Type 0} (f : Format A) (c : Context) (bytes : List ℕ) (a : A) (table : List Target) (more : List ℕ) (s t : State) : Type 0 where
  pub starts : start_in c bytes ≡ Ok s
  pub reads : f.read s ≡ Ok (a, t)
  pub used : t.used ≡ length (table_from [] (f.items a))
  pub table_is : t.table ≡ table
  pub rest : t.rest ≡ more

used_front : (s : State) (u : ℕ) → Good s → seen s ≡ take u s.table → u ≤ length s.table → s.used ≡ u
used_front s u g e le = let w = g.within in let n = ap length e in omega (arith, n, seen_length s g, length-take u s.table)

-- the fields of a value are read as the value, where the table has them first, whatever follows
pub read_with : {A : Type 0} (f : Format A) (c : Context) (a : A) (table unused : List Target) (more bytes : List ℕ) → Lawful f → f.fits c a → AllByRecursion (ItemFits c) (f.items a)
    → table_from [] (f.items a) ++ unused ≡ table → IsTable c table → bytes ≡ table_bytes table ++ (data_from [] (f.items a) ++ more) → (s : State) × (t : State) × ReadsAs f c bytes a table more s t
read_with f c a table unused more bytes law fits held on g e =
    let is : List Item = f.items a in
    let front : List Target = table_from [] is in
    let u : ℕ = length front in
    let start = start_goes c table bytes (data_from [] is ++ more) g.distinct g.valid g.small e in
    let s : State = start.0 in
    let none : seen s ≡ [] = ap (λ (n : ℕ). take n s.table) start.1.used in
    let first : take u s.table ≡ front = ap (take u) (start.1.table_is ∙ sym on) ∙ take_at front unused u refl in
    let d = data_goes is s u more start.1.good (subst (λ (x : List Target). length x < 2 ^ 64) (sym start.1.table_is) g.small)
    (subst (λ (x : Context). AllByRecursion (ItemFits x) is) (sym start.1.context) held)
    (start.1.rest ∙ ap (λ (x : List Target). data_from x is ++ more) (sym none))
    (ap (λ (x : List Target). table_from x is) none ∙ sym first) in
    let within : u ≤ length d.0.table = omega (arith, ap length (d.1.table ∙ start.1.table_is ∙ sym on), length-append front unused) in (
      s,
      d.0,
      record {
        starts = start.1.reads;
        reads = law.again s d.0 a (subst (λ (x : Context). f.fits x a) (sym start.1.context) fits) d.1.reads;
        used = used_front d.0 u d.1.good (d.1.used ∙ ap (take u) (sym d.1.table)) within;
        table_is = d.1.table ∙ start.1.table_is;
        rest = d.1.rest;
      },
    )

-- the table of a value in the grammar
pub own_is_table : {A : Type 0} (f : Format A) (c : Context) (a : A) → InGrammar f c a → IsTable c (table_from [] (f.items a))
own_is_table f c a g =
    let ordered = good_table c (f.items a) [] g.1 (λ k t h. absurd cc) (λ k t h. absurd cc) in
    record { distinct = ordered.0; valid = ordered.1; small = subst (λ (x : List Target). length x < 2 ^ 64) (table_is (f.items a)) g.2 }

-- the spelling of a value is read as the value, whatever follows it
pub read_again : {A : Type 0} (f : Format A) (c : Context) (a : A) (more bytes : List ℕ) → Lawful f → InGrammar f c a → bytes ≡ spelling (f.items a) ++ more → (s : State) × (t : State) × ReadsAs f c bytes a (table_from [] (f.items a)) more s t
read_again f c a more bytes law g e =
    let is : List Item = f.items a in
    let table : List Target = table_from [] is in
    let text : bytes ≡ table_bytes table ++ (data_from [] is ++ more) = e ∙ ap (λ (x : List ℕ). x ++ more) (spelling_is is) ∙ append_assoc (table_bytes table) (data_from [] is) more in
    read_with f c a table [] more bytes law g.0 g.1 (append-nil table) (own_is_table f c a g) text

pub all_used : {A : Type 0} (f : Format A) (c : Context) (bytes : List ℕ) (a : A) (more : List ℕ) (s t : State) → ReadsAs f c bytes a (table_from [] (f.items a)) more s t → t.used ≡ length t.table
all_used f c bytes a more s t r = r.used ∙ ap length (sym r.table_is)

pub finish_again : (s : State) → s.used ≡ length s.table → s.rest ≡ [] → finish_in s ≡ Ok tt
finish_again s all none = rw (le-ltb s.used (length s.table) (omega arith), ap length none) refl

pub finish_ok : (s : State) (x : Unit) → finish_in s ≡ Ok x → (length s.table ≤ s.used) × (s.rest ≡ [])
finish_ok s x e =
    elim (chosen (nat_lt s.used (length s.table)) (Err (fault 0 TableUse)) (cond (nat_eq (length s.rest) 0) (Ok tt) (Err (fault s.place Tail))) (Ok x) e) [
      | inl p ↦ absurd cc
      | inr p ↦ elim (chosen (nat_eq (length s.rest) 0) (Ok tt) (Err (fault s.place Tail)) (Ok x) p.1) [
        | inl q ↦ (ltb-false s.used (length s.table) p.0, nil_from_length s.rest (eqb-true (length s.rest) 0 q.0))
        | inr q ↦ absurd cc
      ]
    ]

-- what is in the grammar is read
pub element_again : {A : Type 0} (f : Format A) (c : Context) (a : A) (bytes : List ℕ) → Lawful f → InGrammar f c a → bytes ≡ spelling (f.items a) → element_in f c bytes ≡ Ok a
element_again f c a bytes law g e =
    let r = read_again f c a [] bytes law g (e ∙ sym (append-nil (spelling (f.items a)))) in
    rw (r.2.starts, r.2.reads, finish_again r.1 (all_used f c bytes a [] r.0 r.1 r.2) r.2.rest) refl

-- what is read is in the grammar
pub element_found : {A : Type 0} (f : Format A) (c : Context) (a : A) (bytes : List ℕ) → Lawful f → IsBytes bytes → element_in f c bytes ≡ Ok a → InGrammar f c a × (bytes ≡ spelling (f.items a))
element_found {A = A} f c a bytes law fits e =
    let p = bind_ok (start_in c bytes) (λ s. whole_in f s >>= λ x. Ok x.0) a e in
    let q = bind_ok (whole_in f p.0) (λ x. Ok x.0) a p.2 in
    let r = bind_ok (f.read p.0) (λ x. finish_in x.1 >>= λ _. Ok x) q.0 q.1 in
    let z = bind_ok (finish_in r.0.1) (λ _. Ok r.0) q.0 r.2 in
    let value : r.0.0 ≡ a = ap (λ (x : A × State). x.0) (ok_is {F = Fault} r.0 q.0 z.2) ∙ ok_is {F = Fault} q.0.0 a q.2 in
    let start = start_found c bytes p.0 fits p.1 in
    let taken = law.takes p.0 r.0 r.1 in
    let is : List Item = f.items r.0.0 in
    let front : List ℕ = uint (length p.0.table) ++ flat_map entry p.0.table in
    let d = data_found is p.0 r.0.1 start.good (bytes_after front p.0.rest (subst IsBytes start.text fits)) taken.0 in
    let ended = finish_ok r.0.1 z.0 z.1 in
    let none : seen p.0 ≡ [] = ap (λ (n : ℕ). take n p.0.table) start.used in
    let all : r.0.1.used ≡ length r.0.1.table = (let w = d.good.within in let x = ended.0 in omega arith) in
    let table : table_from [] is ≡ p.0.table = ap (λ (x : List Target). table_from x is) (sym none) ∙ d.used ∙ ap (λ (n : ℕ). take n r.0.1.table) all ∙ take-length r.0.1.table ∙ d.table in
    let rest : p.0.rest ≡ data_from [] is = d.rest ∙ ap (λ (x : List ℕ). data_from (seen p.0) is ++ x) ended.1 ∙ append-nil (data_from (seen p.0) is) ∙ ap (λ (x : List Target). data_from x is) none in
    let text : bytes ≡ spelling is = start.text ∙ ap (λ (x : List ℕ). front ++ x) rest ∙ ap (λ (x : List Target). (uint (length x) ++ flat_map entry x) ++ data_from [] is) (sym table) ∙ sym (spelling_is is) in
    let small : length (written nothing is).table < 2 ^ 64 = subst (λ (x : List Target). length x < 2 ^ 64) (sym (table_is is ∙ table)) start.small in
    let in_it : InGrammar f c r.0.0 = (subst (λ (x : Context). f.fits x r.0.0) start.context taken.1, subst (λ (x : Context). AllByRecursion (ItemFits x) is) start.context d.fits, small) in
    subst (λ (x : A). InGrammar f c x × (bytes ≡ spelling (f.items x))) value (in_it, text)

-- no spelling begins another
pub one_spelling : {A : Type 0} (f : Format A) (c : Context) (a b : A) (more : List ℕ) → Lawful f → InGrammar f c a → InGrammar f c b → spelling (f.items a) ++ more ≡ spelling (f.items b) → (a ≡ b) × (more ≡ [])
one_spelling {A = A} f c a b more law ga gb e =
    let p = read_again f c a more (spelling (f.items a) ++ more) law ga refl in
    let q = read_again f c b [] (spelling (f.items a) ++ more) law gb (e ∙ sym (append-nil (spelling (f.items b)))) in
    let starts = ok_is {F = Fault} p.0 q.0 (sym p.2.starts ∙ q.2.starts) in
    let reads = ok_is {F = Fault} (a, p.1) (b, q.1) (sym p.2.reads ∙ ap f.read starts ∙ q.2.reads) in
    (ap (λ (x : A × State). x.0) reads, sym p.2.rest ∙ ap (λ (x : A × State). x.1.rest) reads ∙ q.2.rest)

-- what a call returned, where it gives what the reading gives
pub found_by : {A : Type 0} (f : Format A) (c : Context) (bytes : List ℕ) (r : Result A ElementFault) → Lawful f → IsBytes bytes → Gives_value (λ x. x) r (element_in f c bytes) → IfOk r (λ a. InGrammar f c a × (bytes ≡ spelling (f.items a)))
found_by f c bytes (Ok a) law fits h = element_found f c a bytes law fits h
found_by f c bytes (Err e) law fits h = tt

pub only_by : {A : Type 0} (f : Format A) (c : Context) (bytes : List ℕ) (r : Result A ElementFault) (a : A) → Lawful f → Gives_value (λ x. x) r (element_in f c bytes) → InGrammar f c a → bytes ≡ spelling (f.items a) → Gives_value (λ x. x) r (Ok a)
only_by {A = A} f c bytes r a law h g e = subst (λ (x : Result A Fault). Gives_value (λ y. y) r x) (element_again f c a bytes law g e) h
