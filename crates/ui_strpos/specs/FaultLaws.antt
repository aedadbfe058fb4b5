-- Where the faults of an element stand.
use Rattle.std.proofs.Common.{◌≡◌, ◌≢◌, ℕ, zero, suc, ◌+◌, ◌<◌, List, [], ◌∷◌, ◌++◌, length, take, drop, cond, Option, Some, None, Result, Ok, Err, refl, sym, ap, subst, ◌∙◌, append_assoc, ◌⊎◌, inl, inr, arith}
use Rattle.std.specs.Prelude.{nat_eq, nat_lt, IfErr}
use Rattle.std.specs.List.{flat_map}
use Rattle.std.proofs.lemmas.Bool.{le-ltb, lt-ltb, ne_eqb}
use Rattle.std.proofs.lemmas.List.{append-nil, length-append, nil_from_length, take_at, take-append-drop}
use Rattle.ui_frame.specs.Number.{uint}
use Rattle.ui_frame.specs.Reading.{◌>>=◌, uint_at}
use Rattle.ui_frame.specs.Laws.{IsBytes, chosen, uint_takes, bytes_after}
use Rattle.ui_strpos.specs.declared.target.Target.{Target}
use Rattle.ui_strpos.specs.declared.fault.Cause.{Cause}
use Rattle.ui_strpos.specs.declared.fault.Cause.TheVariants.{BadSection, BadIndex, TableOrder, TableUse, Tail}
use Rattle.ui_strpos.specs.declared.fault.ElementFault.{ElementFault}
use Rattle.ui_strpos.specs.declared.fault.ElementFault.TheVariants as faults
use Rattle.ui_strpos.specs.Items.{Item, Written, target, place_in, written, nothing, entry, table_bytes, spelling}
use Rattle.ui_strpos.specs.Reading.{Context, State, Fault, fault, past, uint_in, count_of, below, added, with_table, entry_in, entries_in, table_in, start_in, fresh, finish_in, Gives_value}
use Rattle.ui_strpos.specs.Format.{Format, InGrammar, Lawful, Reads, whole_in, element_in}
use Rattle.ui_strpos.specs.Laws.{bind_err, err_is, ok_err, map_err, field_stops}
use Rattle.ui_strpos.specs.Bytes.{table_from, data_from, written_is, seen, Good, field_ok, data_found}
use Rattle.ui_strpos.specs.Whole.{EntriesSpelled, entry_found, entries_then, fresh_good, start_found, IsTable, read_with, read_again, all_used}
use Rattle.ui_strpos.specs.Faults.{Nothing, InTable, InData, section_bytes, with_unused, EndsField, StandsAtField}

-- ---- faults in the data

pub record ReadTo (bytes : List ℕ) (is : List Item) (t : State) : Type 0 where
  pub unused : List Target
  pub table : table_from [] is ++ unused ≡ t.table
  pub text : bytes ≡ (table_bytes t.table ++ data_from [] is) ++ t.rest
  pub place : t.place ≡ length (table_bytes t.table ++ data_from [] is)

-- a reader that has read some fields stands after them
pub read_to : (c : Context) (bytes : List ℕ) (s : State) (is : List Item) (t : State) → IsBytes bytes → start_in c bytes ≡ Ok s → Reads s is t → ReadTo bytes is t
read_to c bytes s is t fits e r =
    let start = start_found c bytes s fits e in
    let d = data_found is s t start.good (bytes_after (table_bytes s.table) s.rest (subst IsBytes start.text fits)) r in
    let none : seen s ≡ [] = ap (λ (n : ℕ). take n s.table) start.used in
    let data_is : data_from (seen s) is ≡ data_from [] is = ap (λ (x : List Target). data_from x is) none in
    let front : table_bytes s.table ≡ table_bytes t.table = ap table_bytes (sym d.table) in
    record {
      unused = drop t.used t.table;
      table = ap (λ (x : List Target). x ++ drop t.used t.table) (ap (λ (x : List Target). table_from x is) (sym none) ∙ d.used) ∙ take-append-drop t.used t.table;
      text = start.text ∙ ap (λ (x : List ℕ). table_bytes s.table ++ x) (d.rest ∙ ap (λ (x : List ℕ). x ++ t.rest) data_is) ∙ sym (append_assoc (table_bytes s.table) (data_from [] is) t.rest) ∙ ap (λ (x : List ℕ). (x ++ data_from [] is) ++ t.rest) front;
      place = omega (arith, d.place, start.place, ap length front, ap length data_is, length-append (table_bytes t.table) (data_from [] is));
    }

written_with : (unused : List Target) (is : List Item) → with_unused unused is ≡ table_bytes (table_from [] is ++ unused) ++ data_from [] is
written_with unused is = ap (λ (w : Written). table_bytes (w.table ++ unused) ++ w.bytes) (written_is is nothing)

ends_data : (bytes : List ℕ) (is : List Item) (t : State) → ReadTo bytes is t → EndsField bytes t.place
ends_data bytes is t r =
    let front : List ℕ = table_bytes t.table ++ data_from [] is in
    let same : front ≡ with_unused r.unused is = ap (λ (x : List Target). table_bytes x ++ data_from [] is) (sym r.table) ∙ sym (written_with r.unused is) in
    (InData r.unused is, ap (take t.place) r.text ∙ take_at front t.rest t.place (sym r.place) ∙ same)

-- ---- faults in the table

pub record EntryStops (s : State) (e : Fault) : Type 0 where
  pub section : Option ℕ
  pub more : List ℕ
  pub rest : s.rest ≡ section_bytes section ++ more
  pub place : e.offset ≡ s.place + length (section_bytes section)

at_entry : (s : State) (e : Fault) → e.offset ≡ s.place → EntryStops s e
at_entry s e h = record { section = None; more = s.rest; rest = refl; place = omega arith }

below_stops : (limit place : ℕ) (cause : Cause) (n : ℕ) (e : Fault) → below limit place cause n ≡ Err e → e.offset ≡ place
below_stops limit place cause n e h =
    elim (chosen (nat_lt n limit) (Ok n) (Err (fault place cause)) (Err e) h) [
      | inl p ↦ absurd (ok_err n e p.1)
      | inr p ↦ ap (λ (x : Fault). x.offset) (sym (err_is {A = ℕ} (fault place cause) e p.1))
    ]

added_stops : (table : List Target) (place : ℕ) (t : Target) (e : Fault) → added table place t ≡ Err e → e.offset ≡ place
added_stops table place t e h =
    elim (chosen (nat_lt (place_in table t) (length table)) (Err (fault place TableOrder)) (Ok (table ++ t ∷ [])) (Err e) h) [
      | inl p ↦ ap (λ (x : Fault). x.offset) (sym (err_is {A = List Target} (fault place TableOrder) e p.1))
      | inr p ↦ absurd (ok_err (table ++ t ∷ []) e p.1)
    ]

entry_stops : (s : State) (e : Fault) → IsBytes s.rest → entry_in s ≡ Err e → EntryStops s e
unfolding entry_in
entry_stops s e bytes h =
    elim (bind_err (uint_in s) (λ section. below 10 s.place BadSection section.0 >>= λ known. uint_in section.1 >>= λ index. below (count_of s.context section.0) section.1.place BadIndex index.0 >>= λ there. added s.table s.place (target section.0 index.0) >>= λ table. Ok (with_table index.1 table)) e h) [
      | inl p ↦ at_entry s e (field_stops s (uint_at s.rest) e p)
      | inr a ↦
          let fa = field_ok s (uint_at s.rest) a.0.0 a.0.1 a.1 in
          let wa = uint_takes s.rest (a.0.0, fa.0) bytes fa.1 in
          let next : (offset : ℕ) → offset ≡ a.0.1.place → offset ≡ s.place + length (uint a.0.0) = λ offset is. is ∙ ap (λ (u : State). u.place) fa.2 ∙ ap (λ (n : ℕ). s.place + n) (sym wa.len_is) in
          let in_entry : e.offset ≡ a.0.1.place → EntryStops s e = λ is. record { section = Some a.0.0; more = drop fa.0 s.rest; rest = wa.parts; place = next e.offset is } in
          elim (bind_err (below 10 s.place BadSection a.0.0) (λ known. uint_in a.0.1 >>= λ index. below (count_of s.context a.0.0) a.0.1.place BadIndex index.0 >>= λ there. added s.table s.place (target a.0.0 index.0) >>= λ table. Ok (with_table index.1 table)) e a.2) [
            | inl p ↦ at_entry s e (below_stops 10 s.place BadSection a.0.0 e p)
            | inr b ↦ elim (bind_err (uint_in a.0.1) (λ index. below (count_of s.context a.0.0) a.0.1.place BadIndex index.0 >>= λ there. added s.table s.place (target a.0.0 index.0) >>= λ table. Ok (with_table index.1 table)) e b.2) [
              | inl p ↦ in_entry (field_stops a.0.1 (uint_at a.0.1.rest) e p)
              | inr c ↦ elim (bind_err (below (count_of s.context a.0.0) a.0.1.place BadIndex c.0.0) (λ there. added s.table s.place (target a.0.0 c.0.0) >>= λ table. Ok (with_table c.0.1 table)) e c.2) [
                | inl p ↦ in_entry (below_stops (count_of s.context a.0.0) a.0.1.place BadIndex c.0.0 e p)
                | inr d ↦ at_entry s e (added_stops s.table s.place (target a.0.0 c.0.0) e (map_err (added s.table s.place (target a.0.0 c.0.0)) (λ table. with_table c.0.1 table) e d.2))
              ]
            ]
          ]
    ]

entries_stops : (n : ℕ) (s : State) (e : Fault) → Good s → IsBytes s.rest → entries_in n s ≡ Err e → (es : List Target) × (m : State) × EntriesSpelled s es m × EntryStops m e
unfolding entries_in
entries_stops zero s e g bytes h = absurd (ok_err s e h)
entries_stops (suc n) s e g bytes h =
    elim (bind_err (entry_in s) (entries_in n) e h) [
      | inl p ↦ ([], s, record { context = refl; table = sym (append-nil s.table); used = refl; rest = refl; place = omega arith; good = g }, entry_stops s e bytes p)
      | inr a ↦
          let first = entry_found s a.0 g bytes a.1 in
          let rest = entries_stops n a.0 e first.1.good (bytes_after (flat_map entry (first.0 ∷ [])) a.0.rest (subst IsBytes first.1.rest bytes)) a.2 in
          (first.0 ∷ rest.0, rest.1, entries_then s a.0 rest.1 first.0 rest.0 first.1 rest.2, rest.3)
    ]

start_stops : (c : Context) (bytes : List ℕ) (e : Fault) → IsBytes bytes → start_in c bytes ≡ Err e → EndsField bytes e.offset
unfolding table_in
start_stops c bytes e fits h =
    elim (bind_err (uint_in (fresh c bytes)) (λ n. entries_in n.0 n.1) e h) [
      | inl p ↦ (Nothing, ap (λ (n : ℕ). take n bytes) (field_stops (fresh c bytes) (uint_at bytes) e p))
      | inr a ↦
          let f = field_ok (fresh c bytes) (uint_at bytes) a.0.0 a.0.1 a.1 in
          let w = uint_takes bytes (a.0.0, f.0) fits f.1 in
          let at : State = past (fresh c bytes) f.0 in
          let b = entries_stops a.0.0 at e (fresh_good c (drop f.0 bytes) (0 + f.0)) (bytes_after (uint a.0.0) (drop f.0 bytes) (subst IsBytes w.parts fits)) (ap (entries_in a.0.0) (sym f.2) ∙ a.2) in
          let entries : List ℕ = uint a.0.0 ++ flat_map entry b.0 in
          let front : List ℕ = entries ++ section_bytes b.3.section in
          let text : bytes ≡ front ++ b.3.more =
          w.parts ∙ ap (λ (x : List ℕ). uint a.0.0 ++ x) b.2.rest ∙ sym (append_assoc (uint a.0.0) (flat_map entry b.0) b.1.rest)
          ∙ ap (λ (x : List ℕ). entries ++ x) b.3.rest ∙ sym (append_assoc entries (section_bytes b.3.section) b.3.more) in
          let place : length front ≡ e.offset = omega (arith, b.3.place, b.2.place, w.len_is, length-append (uint a.0.0) (flat_map entry b.0), length-append entries (section_bytes b.3.section)) in
          (InTable a.0.0 b.0 b.3.section, ap (take e.offset) text ∙ take_at front b.3.more e.offset place)
    ]

-- ---- all faults

finish_stops : (s : State) (e : Fault) → finish_in s ≡ Err e → (e.offset ≡ 0) ⊎ (e.offset ≡ s.place)
finish_stops s e h =
    elim (chosen (nat_lt s.used (length s.table)) (Err (fault 0 TableUse)) (cond (nat_eq (length s.rest) 0) (Ok tt) (Err (fault s.place Tail))) (Err e) h) [
      | inl p ↦ inl (ap (λ (x : Fault). x.offset) (sym (err_is {A = Unit} (fault 0 TableUse) e p.1)))
      | inr p ↦ elim (chosen (nat_eq (length s.rest) 0) (Ok tt) (Err (fault s.place Tail)) (Err e) p.1) [
        | inl q ↦ absurd (ok_err tt e q.1)
        | inr q ↦ inr (ap (λ (x : Fault). x.offset) (sym (err_is {A = Unit} (fault s.place Tail) e q.1)))
      ]
    ]

-- a fault stands where a field begins
pub element_stops : {A : Type 0} (f : Format A) (c : Context) (bytes : List ℕ) (e : Fault) → Lawful f → IsBytes bytes → element_in f c bytes ≡ Err e → EndsField bytes e.offset
element_stops f c bytes e law fits h =
    elim (bind_err (start_in c bytes) (λ s. whole_in f s >>= λ x. Ok x.0) e h) [
      | inl p ↦ start_stops c bytes e fits p
      | inr s ↦ elim (bind_err (f.read s.0) (λ a. finish_in a.1 >>= λ _. Ok a) e (map_err (whole_in f s.0) (λ x. x.0) e s.2)) [
        | inl p ↦
            let stop = law.stops s.0 e p in
            subst (λ (n : ℕ). EndsField bytes n) stop.place (ends_data bytes stop.before stop.at (read_to c bytes s.0 stop.before stop.at fits s.1 stop.reads))
        | inr a ↦
            elim (finish_stops a.0.1 e (map_err (finish_in a.0.1) (λ _. a.0) e a.2)) [
              | inl z ↦ (Nothing, ap (λ (n : ℕ). take n bytes) z)
              | inr z ↦ subst (λ (n : ℕ). EndsField bytes n) (sym z) (ends_data bytes (f.items a.0.0) a.0.1 (read_to c bytes s.0 (f.items a.0.0) a.0.1 fits s.1 (law.takes s.0 a.0 a.1).0))
            ]
      ]
    ]

not_empty : (xs : List ℕ) → xs ≢ [] → length xs ≢ 0
not_empty xs some e = some (nil_from_length xs e)

-- what follows the spelling of a value is left over
pub element_left : {A : Type 0} (f : Format A) (c : Context) (a : A) (more bytes : List ℕ) → Lawful f → IsBytes bytes → InGrammar f c a → more ≢ [] → bytes ≡ spelling (f.items a) ++ more → element_in f c bytes ≡ Err (fault (length (spelling (f.items a))) Tail)
element_left f c a more bytes law fits g some e =
    let r = read_again f c a more bytes law g e in
    let is : List Item = f.items a in
    let t : State = r.1 in
    let to = read_to c bytes r.0 is t fits r.2.starts (law.takes r.0 (a, t) r.2.reads).0 in
    let all = all_used f c bytes a more r.0 t r.2 in
    let left : length t.rest ≢ 0 = subst (λ (x : List ℕ). length x ≢ 0) (sym r.2.rest) (not_empty more some) in
    let front : List ℕ = table_bytes t.table ++ data_from [] is in
    let place : t.place ≡ length (spelling is) = omega (arith, to.place, ap length (sym to.text ∙ e), length-append front t.rest, length-append (spelling is) more, ap length r.2.rest) in
    rw (r.2.starts, r.2.reads, le-ltb t.used (length t.table) (omega arith), ne_eqb (length t.rest) 0 left) (ap (λ (n : ℕ). Err (fault n Tail)) place)

-- an entry that no field uses goes before what is left over
pub element_unused : {A : Type 0} (f : Format A) (c : Context) (a : A) (unused : List Target) (more bytes : List ℕ) → Lawful f → InGrammar f c a → unused ≢ [] → IsTable c ((written nothing (f.items a)).table ++ unused) → bytes ≡ with_unused unused (f.items a) ++ more
    → element_in f c bytes ≡ Err (fault 0 TableUse)
element_unused f c a unused more bytes law g some table e =
    let is : List Item = f.items a in
    let all : List Target = table_from [] is ++ unused in
    let same : (written nothing is).table ++ unused ≡ all = ap (λ (w : Written). w.table ++ unused) (written_is is nothing) in
    let text : bytes ≡ table_bytes all ++ (data_from [] is ++ more) = e ∙ ap (λ (x : List ℕ). x ++ more) (written_with unused is) ∙ append_assoc (table_bytes all) (data_from [] is) more in
    let r = read_with f c a all unused more bytes law g.0 g.1 refl (subst (IsTable c) same table) text in
    let t : State = r.1 in
    let count : length unused ≢ 0 = λ z. some (nil_from_length unused z) in
    let lt : t.used < length t.table = omega (arith, count, r.2.used, ap length r.2.table_is, length-append (table_from [] is) unused) in
    rw (r.2.starts, r.2.reads, lt-ltb t.used (length t.table) lt) refl

-- ---- what a call returned, where it gives what the reading gives

pub stands_by : {A : Type 0} (f : Format A) (c : Context) (bytes : List ℕ) (r : Result A ElementFault) → Lawful f → IsBytes bytes → Gives_value (λ x. x) r (element_in f c bytes) → IfErr r (StandsAtField bytes)
stands_by f c bytes (Ok a) law fits h = tt
stands_by f c bytes (Err faults.NoMemory) law fits h = tt
stands_by f c bytes (Err (faults.Bad offset cause)) law fits h = element_stops f c bytes (fault offset cause) law fits h

pub given_by : {A : Type 0} (r : Result A ElementFault) (read other : Result A Fault) → Gives_value (λ x. x) r read → read ≡ other → Gives_value (λ x. x) r other
given_by {A = A} r read other h e = subst (λ (x : Result A Fault). Gives_value (λ y. y) r x) e h
