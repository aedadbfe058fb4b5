-- The spelling of a list of fields is read as the list.
use Rattle.std.proofs.Common.{◌≡◌, ℕ, ◌+◌, ◌<◌, ◌≤◌, ◌^◌, List, [], ◌∷◌, ◌++◌, length, take, drop, Bool, Some, Ok, refl, sym, ap, subst, ◌∙◌, append_assoc, inl, inr, arith, ℤ}
use Rattle.std.specs.Prelude.{slice_get}
use Rattle.std.specs.List.{AllByRecursion}
use Rattle.std.proofs.lemmas.Bool.{cases_lt, le-ltb, eq-eqb}
use Rattle.std.proofs.lemmas.List.{drop_at, take-append-drop}
use Rattle.std.proofs.lemmas.Option.{slice_get_within}
use Rattle.ui_frame.specs.Number.{uint, int, truth, zigzag}
use Rattle.ui_frame.specs.Reading.{uint_at, int_at, truth_at}
use Rattle.ui_frame.specs.Laws.{uint_again, int_again, truth_again}
use Rattle.ui_strpos.specs.declared.target.Target.{Target}
use Rattle.ui_strpos.specs.Items.{Item, UInt, Int, Truth, Use, target, place_in, after_use, table_by, bytes_by}
use Rattle.ui_strpos.specs.Reading.{Context, State, field, past, uses, use_in}
use Rattle.ui_strpos.specs.Format.{ItemFits, ReadsItem, Reads}
use Rattle.ui_strpos.specs.Tables.{place_within, found, take_next, get_append_left, get_append_seam}
use Rattle.ui_strpos.specs.Bytes.{table_from, data_from, grown, seen, Good, seen_length, past_good, after_old, after_new, uses_old, uses_new, one_more}

-- a reader that has read a field
pub record Goes (s : State) (i : Item) (more : List ℕ) (t : State) : Type 0 where
  pub reads : ReadsItem s i t
  pub context : t.context ≡ s.context
  pub table : t.table ≡ s.table
  pub used : seen t ≡ table_by (seen s) i
  pub rest : t.rest ≡ more
  pub good : Good t

pub rest_after : (text more bytes : List ℕ) → bytes ≡ text ++ more → drop (length text) bytes ≡ more
rest_after text more bytes e = ap (drop (length text)) e ∙ drop_at text more (length text) refl

uint_goes : (s : State) (n : ℕ) (more : List ℕ) → Good s → n < 2 ^ 64 → s.rest ≡ uint n ++ more → Goes s (UInt n) more (past s (length (uint n)))
uint_goes s n more g lt e =
    let r : uint_at s.rest ≡ Ok (n, length (uint n)) = ap uint_at e ∙ uint_again n more lt in
    record { reads = ap (field s) r; context = refl; table = refl; used = refl; rest = rest_after (uint n) more s.rest e; good = past_good s (length (uint n)) g }

int_goes : (s : State) (z : ℤ) (more : List ℕ) → Good s → zigzag z < 2 ^ 64 → s.rest ≡ int z ++ more → Goes s (Int z) more (past s (length (int z)))
int_goes s z more g lt e =
    let r : int_at s.rest ≡ Ok (z, length (int z)) = ap int_at e ∙ int_again z more lt in
    record { reads = ap (field s) r; context = refl; table = refl; used = refl; rest = rest_after (int z) more s.rest e; good = past_good s (length (int z)) g }

truth_goes : (s : State) (b : Bool) (more : List ℕ) → Good s → s.rest ≡ truth b ++ more → Goes s (Truth b) more (past s (length (truth b)))
truth_goes s b more g e =
    let r : truth_at s.rest ≡ Ok (b, length (truth b)) = ap truth_at e ∙ truth_again b more in
    record { reads = ap (field s) r; context = refl; table = refl; used = refl; rest = rest_after (truth b) more s.rest e; good = past_good s (length (truth b)) g }

-- an entry of a front is one of the table
get_front : (table front : List Target) (u k : ℕ) (t : Target) → take u table ≡ front → slice_get front k ≡ Some t → slice_get table k ≡ Some t
get_front table front u k t e there =
    let w = slice_get_within front k t there in
    ap (λ (x : List Target). slice_get x k) (sym (take-append-drop u table)) ∙ ap (λ (x : List Target). slice_get (x ++ drop u table) k) e ∙ get_append_left front (drop u table) k w ∙ there

use_reads : (s : State) (n section k : ℕ) (more : List ℕ) → n < 2 ^ 64 → slice_get s.table n ≡ Some (target section k) → n ≤ s.used → s.rest ≡ uint n ++ more → use_in section s ≡ Ok (k, uses (past s (length (uint n))) n)
unfolding use_in
use_reads s n section k more lt there le e =
    let r : uint_at s.rest ≡ Ok (n, length (uint n)) = ap uint_at e ∙ uint_again n more lt in
    rw (r, there, eq-eqb section section refl, le-ltb s.used n le) refl

-- where the table goes on, each use goes to the entry that the table has for it
use_goes : (s : State) (section k u : ℕ) (more : List ℕ) (tail : List Target) → Good s → length s.table < 2 ^ 64 → s.rest ≡ uint (place_in (seen s) (target section k)) ++ more
    → after_use (seen s) (target section k) ++ tail ≡ take u s.table → (t : State) × Goes s (Use section k) more t
use_goes s section k u more tail g small e on =
    let t : Target = target section k in
    let n : ℕ = place_in (seen s) t in
    let size = seen_length s g in
    let within = g.within in
    let le = place_within (seen s) t in
    elim (cases_lt n (length (seen s))) [
      | inl lt ↦
          let there = get_front s.table (seen s) s.used n t refl (found (seen s) t lt) in
          let next : State = past s (length (uint n)) in
          let same : uses next n ≡ next = uses_old next n (omega arith) in
          (next, record { reads = use_reads s n section k more (omega arith) there (omega arith) e ∙ ap (λ (x : State). Ok (k, x)) same; context = refl; table = refl; used = sym (after_old (seen s) t lt); rest = rest_after (uint n) more s.rest e; good = past_good s (length (uint n)) g })
      | inr ge ↦
          let last : n ≡ length (seen s) = omega arith in
          let new : after_use (seen s) t ≡ seen s ++ t ∷ [] = after_new (seen s) t last in
          let front : take u s.table ≡ seen s ++ t ∷ tail = sym on ∙ ap (λ (x : List Target). x ++ tail) new ∙ append_assoc (seen s) (t ∷ []) tail in
          let there : slice_get s.table n ≡ Some t = get_front s.table (seen s ++ t ∷ tail) u n t front (ap (slice_get (seen s ++ t ∷ tail)) last ∙ get_append_seam (seen s) t tail) in
          let inside = slice_get_within s.table n t there in
          let at : n ≡ s.used = omega arith in
          let next : State = past s (length (uint n)) in
          let same : uses next n ≡ one_more next = uses_new next n at in
          let took : take (s.used + 1) s.table ≡ seen s ++ t ∷ [] = take_next s.table s.used t (ap (slice_get s.table) (sym at) ∙ there) in
          (one_more next, record { reads = use_reads s n section k more (omega arith) there (omega arith) e ∙ ap (λ (x : State). Ok (k, x)) same; context = refl; table = refl; used = took ∙ sym new; rest = rest_after (uint n) more s.rest e; good = record { within = omega arith; distinct = g.distinct; valid = g.valid } })
    ]

item_goes : (i : Item) (is : List Item) (s : State) (u : ℕ) (more : List ℕ) → Good s → length s.table < 2 ^ 64 → ItemFits s.context i → s.rest ≡ bytes_by (seen s) i ++ more
    → table_from (table_by (seen s) i) is ≡ take u s.table → (t : State) × Goes s i more t
item_goes (UInt n) is s u more g small fits e on = (past s (length (uint n)), uint_goes s n more g fits e)
item_goes (Int z) is s u more g small fits e on = (past s (length (int z)), int_goes s z more g fits e)
item_goes (Truth b) is s u more g small fits e on = (past s (length (truth b)), truth_goes s b more g e)
item_goes (Use section k) is s u more g small fits e on =
    let tail = grown is (after_use (seen s) (target section k)) in
    use_goes s section k u more tail.0 g small e (sym tail.1 ∙ on)

pub record GoesAll (s : State) (is : List Item) (u : ℕ) (more : List ℕ) (t : State) : Type 0 where
  pub reads : Reads s is t
  pub context : t.context ≡ s.context
  pub table : t.table ≡ s.table
  pub used : seen t ≡ take u s.table
  pub rest : t.rest ≡ more
  pub good : Good t

pub data_goes : (is : List Item) (s : State) (u : ℕ) (more : List ℕ) → Good s → length s.table < 2 ^ 64 → AllByRecursion (ItemFits s.context) is → s.rest ≡ data_from (seen s) is ++ more
    → table_from (seen s) is ≡ take u s.table → (t : State) × GoesAll s is u more t
data_goes [] s u more g small fits e on = (s, record { reads = refl; context = refl; table = refl; used = on; rest = e; good = g })
data_goes (i ∷ is) s u more g small fits e on =
    let parts : s.rest ≡ bytes_by (seen s) i ++ (data_from (table_by (seen s) i) is ++ more) = e ∙ append_assoc (bytes_by (seen s) i) (data_from (table_by (seen s) i) is) more in
    let a = item_goes i is s u (data_from (table_by (seen s) i) is ++ more) g small fits.0 parts on in
    let b = data_goes is a.0 u more a.1.good (subst (λ (x : List Target). length x < 2 ^ 64) (sym a.1.table) small) (subst (λ (c : Context). AllByRecursion (ItemFits c) is) (sym a.1.context) fits.1)
    (a.1.rest ∙ ap (λ (x : List Target). data_from x is ++ more) (sym a.1.used))
    (ap (λ (x : List Target). table_from x is) a.1.used ∙ on ∙ ap (take u) (sym a.1.table)) in
    (b.0, record { reads = (a.0, a.1.reads, b.1.reads); context = b.1.context ∙ a.1.context; table = b.1.table ∙ a.1.table; used = b.1.used ∙ ap (take u) a.1.table; rest = b.1.rest; good = b.1.good })
