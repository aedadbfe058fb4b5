-- The entries of a map of numbers.
use Rattle.std.proofs.Common.{◌≡◌, ℕ, Bool, true, false, cond, ◌||◌, List, [], ◌∷◌, map, option_map, Option, Some, None, Vec, refl, ap, ◌∙◌}
use Rattle.std.specs.Prelude.{is_some}
use Rattle.std.specs.declared.alloc.Global.{Global}
use Rattle.std.specs.Ordering.{nat_cmp, eq_by_cmp}
use Rattle.std.specs.Map.{lookup}
use Rattle.std.specs.List.Sorted.{IsStrictlySortedBy}
use Rattle.std.specs.BTreeMap.{is_at, insert_entry}
use Rattle.std.specs.Cmp.Lexicographic.{slice_cmp, nat_list_cmp_total}
use Rattle.std.specs.FinMap.{get, insert, empty, get-empty, get-insert, keys}
use Rattle.std.proofs.lemmas.Simd.{map-map}
use Rattle.std.proofs.lemmas.Map.Text.{is_eq-slice_cmp}
use Rattle.ui_base.specs.Entries.{bytes_of}
use Rattle.ui_base.proofs.EntryLemmas.{map_of-insert, get-map_of, has-map_of, keys-map_of}
use Rattle.ui_forms.specs.Numbers.{Numbered, has, numbers_of}
use Rattle.ui_forms.specs.Form.{is_among}
use Rattle.ui_forms.specs.Choosing.{IsSet}
use Rattle.ui_forms.specs.Sums.{nothing, with_name}

abbrev pub Entry : Type 0
Entry = Vec ℕ Global × ℕ

-- to insert an entry is to insert its number
pub numbers_of-insert : (es : List Entry) (k : Vec ℕ Global) (v : ℕ) → numbers_of (insert_entry (λ x y. slice_cmp nat_cmp x.items y.items) es k v) ≡ insert (numbers_of es) k.items v
unfolding numbers_of
numbers_of-insert es k v = map_of-insert bytes_of (λ n. n) es k v

itself : (o : Option ℕ) → option_map (λ n. n) o ≡ o
itself None = refl
itself (Some n) = refl

-- a text is looked up among the entries
pub get_numbers_of : (es : List Entry) (q : List ℕ) → get (numbers_of es) q ≡ (lookup (is_at (λ (k : Vec ℕ Global). slice_cmp nat_cmp q k.items)) es)
unfolding numbers_of
get_numbers_of es q = get-map_of bytes_of (λ n. n) es q ∙ itself _

-- a text that is there
pub is_there : (es : List Entry) (k : Vec ℕ Global) → is_some (get (numbers_of es) k.items) ≡ is_some (lookup (is_at (λ (x : Vec ℕ Global). slice_cmp nat_cmp k.items x.items)) es)
unfolding numbers_of
is_there es k = has-map_of bytes_of (λ (n : ℕ). n) es k.items

pub numbers_of-nothing : numbers_of [] ≡ empty
unfolding numbers_of
numbers_of-nothing = refl

-- the texts of a map in order
pub keys-numbers_of : (es : List Entry) → IsStrictlySortedBy (λ (x y : Vec ℕ Global). slice_cmp nat_cmp x.items y.items) (map (λ e. e.0) es) → keys (numbers_of es) ≡ map (λ (e : Entry). e.0.items) es
unfolding numbers_of
keys-numbers_of es h = keys-map_of bytes_of (λ (n : ℕ). n) es h ∙ map-map bytes_of (λ (e : Entry). e.0) es

abbrev pub text_at : Entry → List ℕ
text_at e = e.0.items

-- ---- sets of texts

some_or : (b : Bool) (n : ℕ) (o : Option ℕ) → is_some (cond b (Some n) o) ≡ (b || is_some o)
some_or true n o = refl
some_or false n o = refl

has_more : (m : Numbered) (text : List ℕ) (n : ℕ) (q : List ℕ) → has (insert m text n) q ≡ with_name text (has m) q
has_more m text n q =
    ap is_some (get-insert nat_list_cmp_total m text n q)
    ∙ some_or (eq_by_cmp (slice_cmp nat_cmp) q text) n (get m q)
    ∙ ap (λ b. b || is_some (get m q)) (is_eq-slice_cmp q text)

-- one text more is there
pub has-insert : (m : Numbered) (text : List ℕ) (n : ℕ) → has (insert m text n) ≡ with_name text (has m)
has-insert m text n = λ i q. has_more m text n q i

has_none : (q : List ℕ) → has empty q ≡ nothing q
has_none q = ap is_some (get-empty (slice_cmp nat_cmp) q)

pub has-empty : has empty ≡ nothing
has-empty = λ i q. has_none q i

-- a set of texts is one as a function
pub has-set : (m : Numbered) (texts : List (List ℕ)) → IsSet m texts → has m ≡ is_among texts
has-set m texts s = λ i q. s.same q i
