-- What is read from bytes as a list of fields is its spelling, and its spelling is read as the list.
use Rattle.std.proofs.Common.{◌≡◌, ℕ, ◌+◌, ◌<◌, ◌≤◌, List, [], ◌∷◌, ◌++◌, length, take, drop, Bool, true, false, cond, ltb, Option, Some, None, Result, Ok, Err, refl, sym, ap, subst, ◌∙◌, append_assoc, inl, inr, arith, ℤ}
use Rattle.std.specs.Prelude.{slice_get, nat_eq, nat_lt}
use Rattle.std.specs.List.{AllByRecursion}
use Rattle.std.proofs.lemmas.Bool.{cases_lt, le-ltb, lt-ltb, ltb-false, eqb-true, eq-eqb, ne_eqb}
use Rattle.std.proofs.lemmas.List.{append-nil, length-take, length-append}
use Rattle.std.proofs.lemmas.Option.{slice_get_within}
use Rattle.ui_frame.specs.declared.number.NumFault.{NumFault}
use Rattle.ui_frame.specs.Number.{uint}
use Rattle.ui_frame.specs.Reading.{◌>>=◌, uint_at, int_at, truth_at}
use Rattle.ui_frame.specs.Laws.{IsBytes, bind_ok, ok_is, chosen, uint_takes, int_takes, truth_takes, bytes_after}
use Rattle.ui_strpos.specs.declared.target.Target.{Target}
use Rattle.ui_strpos.specs.declared.fault.Cause.TheVariants.{BadSection, TableOrder}
use Rattle.ui_strpos.specs.Items.{Item, UInt, Int, Truth, Use, Written, target, place_in, after_use, table_by, bytes_by, with_item, written}
use Rattle.ui_strpos.specs.Reading.{Context, State, Fault, fault, field, past, uses, uint_in, int_in, truth_in, use_in, entry_index, used_index}
use Rattle.ui_strpos.specs.Format.{ItemFits, ReadsItem, Reads}
use Rattle.ui_strpos.specs.Tables.{IsDistinct, place_take, take_next}

abbrev pub table_from : List Target → List Item → List Target
table_from table [] = table
table_from table (i ∷ is) = table_from (table_by table i) is

abbrev pub data_from : List Target → List Item → List ℕ
data_from table [] = []
data_from table (i ∷ is) = bytes_by table i ++ data_from (table_by table i) is

pub written_is : (is : List Item) (w : Written) → written w is ≡ record { table = table_from w.table is; bytes = w.bytes ++ data_from w.table is }
written_is [] w = ap (λ (d : List ℕ). record { table = w.table; bytes = d }) (sym (append-nil w.bytes))
written_is (i ∷ is) w = written_is is (with_item w i) ∙ ap (λ (d : List ℕ). record { table = table_from (table_by w.table i) is; bytes = d }) (append_assoc w.bytes (bytes_by w.table i) (data_from (table_by w.table i) is))

-- a table only grows
grown_use : (is : List Item) (table : List Target) (t : Target) (b : Bool) → ((table' : List Target) → (more : List Target) × (table_from table' is ≡ table' ++ more)) → (more : List Target) × (table_from (cond b table (table ++ t ∷ [])) is ≡ table ++ more)
grown_use is table t true rest = rest table
grown_use is table t false rest = let r = rest (table ++ t ∷ []) in (t ∷ r.0, r.1 ∙ append_assoc table (t ∷ []) r.0)

pub grown : (is : List Item) (table : List Target) → (more : List Target) × (table_from table is ≡ table ++ more)
grown [] table = ([], sym (append-nil table))
grown (UInt n ∷ is) table = grown is table
grown (Int z ∷ is) table = grown is table
grown (Truth b ∷ is) table = grown is table
grown (Use s k ∷ is) table = grown_use is table (target s k) (ltb (place_in table (target s k)) (length table)) (grown is)

abbrev pub seen : State → List Target
seen s = take s.used s.table

-- the table of a reader is in order
pub record Good (s : State) : Type 0 where
  pub within : s.used ≤ length s.table
  pub distinct : IsDistinct s.table
  pub valid : (k : ℕ) (t : Target) → slice_get s.table k ≡ Some t → ItemFits s.context (Use t.section t.index)

pub seen_length : (s : State) → Good s → length (seen s) ≡ s.used
seen_length s g = let w = g.within in omega (arith, length-take s.used s.table)

pub record SpelledItem (s : State) (i : Item) (t : State) : Type 0 where
  pub context : t.context ≡ s.context
  pub table : t.table ≡ s.table
  pub used : table_by (seen s) i ≡ seen t
  pub rest : s.rest ≡ bytes_by (seen s) i ++ t.rest
  pub place : t.place ≡ s.place + length (bytes_by (seen s) i)
  pub fits : ItemFits s.context i
  pub good : Good t

pub field_ok : {A : Type 0} (s : State) (r : Result (A × ℕ) NumFault) (a : A) (t : State) → field s r ≡ Ok (a, t) → (len : ℕ) × (r ≡ Ok (a, len)) × (t ≡ past s len)
field_ok {A = A} s (Ok r) a t e =
    let same = ok_is {F = Fault} (r.0, past s r.1) (a, t) e in
    (r.1, ap (λ (x : A × State). Ok (x.0, r.1)) same, sym (ap (λ (x : A × State). x.1) same))
field_ok {A = A} s (Err d) a t e = absurd cc

pub past_good : (s : State) (len : ℕ) → Good s → Good (past s len)
past_good s len g = record { within = g.within; distinct = g.distinct; valid = g.valid }

entry_ok : (section place used n k : ℕ) (o : Option Target) → entry_index section place used n o ≡ Ok k → (o ≡ Some (target section k)) × (n ≤ used)
entry_ok section place used n k None e = absurd cc
entry_ok section place used n k (Some t) e =
    elim (chosen (nat_eq t.section section) (cond (nat_lt used n) (Err (fault place TableOrder)) (Ok t.index)) (Err (fault place BadSection)) (Ok k) e) [
      | inl p ↦ elim (chosen (nat_lt used n) (Err (fault place TableOrder)) (Ok t.index) (Ok k) p.1) [
        | inl q ↦ absurd cc
        | inr q ↦
            let same : t.section ≡ section = eqb-true t.section section p.0 in
            let index = ok_is {F = Fault} t.index k q.1 in
            (ap (λ (x : ℕ). Some (target x t.index)) same ∙ ap (λ (x : ℕ). Some (target section x)) index, ltb-false used n q.0)
      ]
      | inr p ↦ absurd cc
    ]

pub after_old : (table : List Target) (t : Target) → place_in table t < length table → after_use table t ≡ table
after_old table t lt = rw (lt-ltb (place_in table t) (length table) lt) refl

pub after_new : (table : List Target) (t : Target) → place_in table t ≡ length table → after_use table t ≡ table ++ t ∷ []
after_new table t e = rw (le-ltb (place_in table t) (length table) (omega arith)) refl

pub uses_old : (s : State) (n : ℕ) → n < s.used → uses s n ≡ s
uses_old s n lt = rw (ne_eqb n s.used (λ e. omega arith)) refl

abbrev pub one_more : State → State
one_more s = record { context = s.context; table = s.table; used = s.used + 1; place = s.place; rest = s.rest }

pub uses_new : (s : State) (n : ℕ) → n ≡ s.used → uses s n ≡ one_more s
uses_new s n e = rw (eq-eqb n s.used e) refl

-- a use at a place of the table
use_spelled : (s : State) (len n section k : ℕ) → Good s → slice_get s.table n ≡ Some (target section k) → n ≤ s.used → s.rest ≡ uint n ++ drop len s.rest → length (uint n) ≡ len → SpelledItem s (Use section k) (uses (past s len) n)
use_spelled s len n section k g there le rest len_is =
    let t : Target = target section k in
    let at : place_in (seen s) t ≡ n = place_take s.used s.table t g.within ∙ (let d = g.distinct n t there in omega arith) in
    let size = seen_length s g in
    elim (cases_lt n s.used) [
      | inl lt ↦
          rw (uses_old (past s len) n lt) (record { context = refl; table = refl; used = after_old (seen s) t (omega arith); rest = rw at rest; place = rw (at, len_is) refl; fits = g.valid n t there; good = past_good s len g })
      | inr ge ↦
          let last : n ≡ s.used = omega arith in
          let inside = slice_get_within s.table n t there in
          let next : take (s.used + 1) s.table ≡ seen s ++ t ∷ [] = take_next s.table s.used t (ap (slice_get s.table) (sym last) ∙ there) in
          rw (uses_new (past s len) n last) (record { context = refl; table = refl; used = after_new (seen s) t (omega arith) ∙ sym next; rest = rw at rest; place = rw (at, len_is) refl; fits = g.valid n t there; good = record { within = omega arith; distinct = g.distinct; valid = g.valid } })
    ]

uint_found : (s : State) (n : ℕ) (t : State) → Good s → IsBytes s.rest → uint_in s ≡ Ok (n, t) → SpelledItem s (UInt n) t
uint_found s n t g bytes e =
    let f = field_ok s (uint_at s.rest) n t e in
    let w = uint_takes s.rest (n, f.0) bytes f.1 in
    subst (λ (u : State). SpelledItem s (UInt n) u) (sym f.2) (record { context = refl; table = refl; used = refl; rest = w.parts; place = rw w.len_is refl; fits = omega (arith, w.bound); good = past_good s f.0 g })

int_found : (s : State) (z : ℤ) (t : State) → Good s → IsBytes s.rest → int_in s ≡ Ok (z, t) → SpelledItem s (Int z) t
int_found s z t g bytes e =
    let f = field_ok s (int_at s.rest) z t e in
    let w = int_takes s.rest (z, f.0) bytes f.1 in
    subst (λ (u : State). SpelledItem s (Int z) u) (sym f.2) (record { context = refl; table = refl; used = refl; rest = w.0.parts; place = rw w.0.len_is refl; fits = w.1; good = past_good s f.0 g })

truth_found : (s : State) (b : Bool) (t : State) → Good s → truth_in s ≡ Ok (b, t) → SpelledItem s (Truth b) t
truth_found s b t g e =
    let f = field_ok s (truth_at s.rest) b t e in
    let w = truth_takes s.rest (b, f.0) f.1 in
    subst (λ (u : State). SpelledItem s (Truth b) u) (sym f.2) (record { context = refl; table = refl; used = refl; rest = w.parts; place = rw w.len_is refl; fits = tt; good = past_good s f.0 g })

use_found : (section : ℕ) (s : State) (k : ℕ) (t : State) → Good s → IsBytes s.rest → use_in section s ≡ Ok (k, t) → SpelledItem s (Use section k) t
unfolding use_in
use_found section s k t g bytes e =
    let a = bind_ok (uint_in s) (λ n. used_index section s.place s.used s.table n.0 >>= λ index. Ok (index, uses n.1 n.0)) (k, t) e in
    let f = field_ok s (uint_at s.rest) a.0.0 a.0.1 a.1 in
    let w = uint_takes s.rest (a.0.0, f.0) bytes f.1 in
    let b = bind_ok (used_index section s.place s.used s.table a.0.0) (λ index. Ok (index, uses a.0.1 a.0.0)) (k, t) a.2 in
    let entry = entry_ok section s.place s.used a.0.0 b.0 (slice_get s.table a.0.0) b.1 in
    let there = use_spelled s f.0 a.0.0 section b.0 g entry.0 entry.1 w.parts w.len_is in
    let moved : (b.0, uses (past s f.0) a.0.0) ≡ (k, t) = ap (λ (u : State). (b.0, uses u a.0.0)) (sym f.2) ∙ ok_is {F = Fault} (b.0, uses a.0.1 a.0.0) (k, t) b.2 in
    subst (λ (x : ℕ × State). SpelledItem s (Use section x.0) x.1) moved there

item_found : (i : Item) (s t : State) → Good s → IsBytes s.rest → ReadsItem s i t → SpelledItem s i t
item_found (UInt n) s t g bytes r = uint_found s n t g bytes r
item_found (Int z) s t g bytes r = int_found s z t g bytes r
item_found (Truth b) s t g bytes r = truth_found s b t g r
item_found (Use section k) s t g bytes r = use_found section s k t g bytes r

pub record Spelled (s : State) (is : List Item) (t : State) : Type 0 where
  pub context : t.context ≡ s.context
  pub table : t.table ≡ s.table
  pub used : table_from (seen s) is ≡ seen t
  pub rest : s.rest ≡ data_from (seen s) is ++ t.rest
  pub place : t.place ≡ s.place + length (data_from (seen s) is)
  pub fits : AllByRecursion (ItemFits s.context) is
  pub good : Good t

pub data_found : (is : List Item) (s t : State) → Good s → IsBytes s.rest → Reads s is t → Spelled s is t
data_found [] s t g bytes r = subst (λ (u : State). Spelled s [] u) (sym r) (record { context = refl; table = refl; used = refl; rest = refl; place = omega arith; fits = tt; good = g })
data_found (i ∷ is) s t g bytes r =
    let a = item_found i s r.0 g bytes r.1 in
    let b = data_found is r.0 t a.good (bytes_after (bytes_by (seen s) i) r.0.rest (subst IsBytes a.rest bytes)) r.2 in
    record {
      context = b.context ∙ a.context;
      table = b.table ∙ a.table;
      used = ap (λ (x : List Target). table_from x is) a.used ∙ b.used;
      rest = a.rest ∙ ap (λ (x : List ℕ). bytes_by (seen s) i ++ x) (b.rest ∙ ap (λ (x : List Target). data_from x is ++ t.rest) (sym a.used)) ∙ sym (append_assoc (bytes_by (seen s) i) (data_from (table_by (seen s) i) is) t.rest);
      place = (let first = a.place in let others = b.place in let same = ap (λ (x : List Target). length (data_from x is)) (sym a.used) in omega (arith, same, length-append (bytes_by (seen s) i) (data_from (table_by (seen s) i) is)));
      fits = (a.fits, subst (λ (c : Context). AllByRecursion (ItemFits c) is) a.context b.fits);
      good = b.good;
    }
