-- Strings and files that are given numbers.
use Rattle.std.proofs.Common.{◌≡◌, ℕ, zero, suc, ◌+◌, ◌*◌, ◌^◌, ◌<◌, ◌≤◌, Bool, true, false, cond, not, ◌&&◌, List, [], ◌∷◌, ◌++◌, map, take, length, get_or, Some, pos, negsuc, Vec, inl, inr, refl, sym, ap, ◌∙◌, subst, arith, append_assoc, lit≤}
use Rattle.std.specs.Prelude.{bytes_eq, slice_get, slice_index, nat_eq, nat_le}
use Rattle.std.specs.List.{AllByRecursion, IsDistinct, flat_map, list_any}
use Rattle.std.specs.Cmp.Lexicographic.{pointwise}
use Rattle.std.proofs.Math.ListN.{get_or-append}
use Rattle.std.proofs.lemmas.List.{append-nil, length-append, length-map, map-append, take_more}
use Rattle.std.proofs.lemmas.Slice.Eq.{bytes_eq-Decides}
use Rattle.std.proofs.lemmas.Bool.{and_parts, cases_lt, eqb-true, leb-true, lt-ltb, le-leb, ne_eqb}
use Rattle.indexmap.specs.IndexSet.{insert_key}
use Rattle.ui_base.specs.Paths.{is_path, is_reserved, has_segments}
use Rattle.ui_strpos.specs.Elements.{is_some_text}
use Rattle.ui_eobj.specs.Values.{is_big, magnitude, magnitude_from}
use Rattle.ui_eobj.specs.declared.root.BelowEl.{BelowEl}
use Rattle.ui_eobj.specs.declared.value.ValueEl.{ValueEl}
use Rattle.ui_eobj.specs.declared.value.ValueEl.TheVariants as value
use Rattle.std.specs.FinMap.{entries, len-entries}
use Rattle.std.specs.List.Sorted.{IsStrictlySortedBy}
use Rattle.std.specs.Ordering.{nat_cmp}
use Rattle.std.specs.declared.cmp.Ordering.{Ordering}
use Rattle.std.specs.Cmp.Lexicographic.{slice_cmp}
use Rattle.std.specs.Map.Iter.{deref_pair}
use Rattle.std.specs.declared.alloc.Global.{Global}
use denote.Ref.{Bor}
use Rattle.ui_exports.specs.Export.{Declaration, Export}
use Rattle.ui_exports.specs.Constants.{declaration, entry_of, declarations_of}
use Rattle.ui_exports.proofs.Entries.{entries-declarations_of, names-entry_of}
use Rattle.ui_exports.specs.declared.package.Constant.{Constant}
use Rattle.ui_consts.specs.declared.numbered.Entry as rust
use Rattle.ui_exports.specs.Linked.{Below, below}
use Rattle.ui_exports.specs.declared.linked.Below.{Below as Held}
use Rattle.ui_consts.specs.Elements.{Entry}
use Rattle.ui_consts.specs.Record.{below_uses, entry_uses, text_of}
use Rattle.ui_consts.specs.Size.{HasName, HasNames, IsBelow, IsSmallExport}
use Rattle.ui_consts.specs.Numbering.{Covers, Grown, GrownFiles, IsPlace, IsValueOf, IsEntryOf, AreEntries, IsFile, NumbersConstants, IsBelowOf, AreBelow, NumbersBelow, IsMapOf, entry}
use Rattle.ui_consts.proofs.UseLemmas.{covers_none, more_below_used, more_files_used, more_used, no_files}

-- ---- one text

some_is : {X : Type 0} (x y : X) → Some x ≡ Some y → x ≡ y
some_is x y h = cc

get_is : {X : Type 0} (xs : List X) (i : ℕ) (d k : X) → slice_get xs i ≡ Some k → get_or xs i d ≡ k
get_is [] i d k e = absurd cc
get_is (x ∷ xs) zero d k e = some_is x k e
get_is (x ∷ xs) (suc i) d k e = get_is xs i d k e

pub place_is : (old new : List (List ℕ)) (text key : List ℕ) (place : ℕ) → key ≡ text → place < length new → (k : List ℕ) × (slice_get new place ≡ Some k) × (pointwise nat_eq key k ≡ true) → IsPlace text place new
place_is old new text key place same there stored = record { there = there; is = get_is new place [] stored.0 stored.1 ∙ sym ((bytes_eq-Decides key stored.0).0 stored.2) ∙ same }

pub grown_is : (old new : List (List ℕ)) (key text : List ℕ) → key ≡ text → length text ≤ 4096 → new ≡ insert_key (pointwise nat_eq) old key → IsDistinct (pointwise nat_eq) new → Grown 1 old new
grown_is old new key text same short is apart = by (list_any (pointwise nat_eq key) old) is
  where
    by : (b : Bool) → new ≡ cond b old (old ++ key ∷ []) → Grown 1 old new
    by true e = record { more = []; grown = e ∙ sym (append-nil old); few = lit≤ tt; short = tt; apart = λ h. apart }
    by false e = record { more = key ∷ []; grown = e; few = lit≤ tt; short = (omega (arith, ap length same), tt); apart = λ h. apart }

-- ---- more texts

pub all_append : {X : Type 0} (P : X → Type 0) (xs ys : List X) → AllByRecursion P xs → AllByRecursion P ys → AllByRecursion P (xs ++ ys)
all_append P [] ys a b = b
all_append P (x ∷ xs) ys a b = (a.0, all_append P xs ys a.1 b)

pub grown_none : (n : ℕ) (s t : List (List ℕ)) → t ≡ s → Grown n s t
grown_none n s t e = record { more = []; grown = e ∙ sym (append-nil s); few = omega arith; short = tt; apart = λ h. subst (IsDistinct bytes_eq) (sym e) h }

pub grown_then : (n m k : ℕ) (s t u : List (List ℕ)) → n + m ≤ k → Grown n s t → Grown m t u → Grown k s u
grown_then n m k s t u h a b = record {
  more = a.more ++ b.more;
  grown = b.grown ∙ ap (λ xs. xs ++ b.more) a.grown ∙ append_assoc s a.more b.more;
  few = omega (arith, length-append a.more b.more, a.few, b.few);
  short = all_append (λ text. length text ≤ 4096) a.more b.more a.short b.short;
  apart = λ h. b.apart (a.apart h);
}

pub longer : (n : ℕ) (s t : List (List ℕ)) → Grown n s t → length t ≤ length s + n
longer n s t g = omega (arith, ap length g.grown, length-append s g.more, g.few)

pub place_later : (n place : ℕ) (text : List ℕ) (s t : List (List ℕ)) → Grown n s t → IsPlace text place s → IsPlace text place t
place_later n place text s t g p = record {
  there = omega (arith, p.there, ap length g.grown, length-append s g.more);
  is = ap (λ xs. get_or xs place []) g.grown ∙ get_or-append s g.more [] place p.there ∙ p.is;
}

-- a text that is there stays
stays : (n k : ℕ) (s t : List (List ℕ)) → Grown n s t → k < length s → (k < length t) × (get_or t k [] ≡ get_or s k [])
stays n k s t g h = (omega (arith, ap length g.grown, length-append s g.more), ap (λ xs. get_or xs k []) g.grown ∙ get_or-append s g.more [] k h)

pub value_later : (n m : ℕ) (v : ValueEl) (s t : List (List ℕ)) → Grown n s t → IsValueOf s v m → IsValueOf t v m
value_later n m (value.Int64 (pos k)) s t g h = h
value_later n m (value.Int64 (negsuc k)) s t g h = absurd h
value_later n m (value.Big k true) s t g h = absurd h
value_later n m (value.Big k false) s t g h = (let k_stays = stays n k s t g h.0 in (k_stays.0, ap (is_big false) k_stays.1 ∙ h.1, ap magnitude k_stays.1 ∙ h.2))

pub file_later : (n : ℕ) (s t : List (List ℕ)) (files : List ℕ) → Grown n s t → AllByRecursion (IsFile s) files → AllByRecursion (IsFile t) files
file_later n s t [] g h = tt
file_later n s t (f ∷ fs) g h = (let f_stays = stays n f s t g h.0.0 in (f_stays.0, ap is_some_text f_stays.1 ∙ h.0.1), file_later n s t fs g h.1)

pub entry_later : (n : ℕ) (s t : List (List ℕ)) (bs more cs : List ℕ) (e : Entry) (d : List ℕ × Declaration) → Grown n s t → cs ≡ bs ++ more → IsEntryOf s bs e d → IsEntryOf t cs e d
entry_later n s t bs more cs e d g grown is =
    let base : get_or cs e.base 0 ≡ get_or bs e.base 0 = ap (λ xs. get_or xs e.base 0) grown ∙ get_or-append bs more 0 e.base is.base in
    record {
      name = place_later n e.name d.0 s t g is.name;
      base = omega (arith, is.base, ap length grown, length-append bs more);
      file = subst (λ (k : ℕ). IsPlace d.1.file k t) (sym base) (place_later n (get_or bs e.base 0) d.1.file s t g is.file);
      line = is.line;
      column = is.column;
      value = value_later n d.1.value e.value s t g is.value;
    }

pub entries_later : (n : ℕ) (s t : List (List ℕ)) (bs more cs : List ℕ) (es : List Entry) (ds : List (List ℕ × Declaration)) → Grown n s t → cs ≡ bs ++ more → AreEntries s bs es ds → AreEntries t cs es ds
entries_later n s t bs more cs [] [] g grown h = tt
entries_later n s t bs more cs [] (d ∷ ds) g grown h = absurd h
entries_later n s t bs more cs (e ∷ es) [] g grown h = absurd h
entries_later n s t bs more cs (e ∷ es) (d ∷ ds) g grown h = (entry_later n s t bs more cs e d g grown h.0, entries_later n s t bs more cs es ds g grown h.1)

entries_push : (s : List (List ℕ)) (bs : List ℕ) (es : List Entry) (ds : List (List ℕ × Declaration)) (e : Entry) (d : List ℕ × Declaration) → AreEntries s bs es ds → IsEntryOf s bs e d → AreEntries s bs (es ++ e ∷ []) (ds ++ d ∷ [])
entries_push s bs [] [] e d h is = (is, tt)
entries_push s bs [] (x ∷ ds) e d h is = absurd h
entries_push s bs (x ∷ es) [] e d h is = absurd h
entries_push s bs (x ∷ es) (y ∷ ds) e d h is = (h.0, entries_push s bs es ds e d h.1 is)

pub same_count : (s : List (List ℕ)) (bs : List ℕ) (es : List Entry) (ds : List (List ℕ × Declaration)) → AreEntries s bs es ds → length es ≡ length ds
same_count s bs [] [] h = refl
same_count s bs [] (d ∷ ds) h = absurd h
same_count s bs (e ∷ es) [] h = absurd h
same_count s bs (e ∷ es) (d ∷ ds) h = ap suc (same_count s bs es ds h.1)

-- ---- a value

times : ℕ → ℕ → ℕ
times zero n = n
times (suc k) n = times k (256 * n)

times_more : (k n m : ℕ) → n ≤ m → times k n ≤ times k m
unfolding times
times_more zero n m h = h
times_more (suc k) n m h = times_more k (256 * n) (256 * m) (omega arith)

times_le : (k n : ℕ) (bytes : List ℕ) → k ≤ length bytes → times k n ≤ magnitude_from n bytes
unfolding times magnitude_from
times_le zero n [] h = omega arith
times_le zero n (b ∷ bs) h = omega (arith, times_le zero (256 * n + b) bs (omega arith))
times_le (suc k) n [] h = absurd (omega arith)
times_le (suc k) n (b ∷ bs) h = omega (arith, times_more k (256 * n) (256 * n + b) (omega arith), times_le k (256 * n + b) bs (omega arith))

sixteen : times 16 1 ≡ 2 ^ 128
unfolding times
sixteen = refl

pub magnitude_short : (bytes : List ℕ) (n : ℕ) → magnitude bytes ≡ n → (slice_index bytes 0 ≡ 0 → ⊥) → n < 2 ^ 127 → length bytes ≤ 4096
unfolding magnitude_from
magnitude_short [] n is first small = lit≤ tt
magnitude_short (b ∷ bs) n is first small = elim (cases_lt (length bs) 16) [
  | inl le ↦ omega arith
  | inr gt ↦
      let least : times 16 1 ≤ times 16 (256 * 0 + b) = times_more 16 1 (256 * 0 + b) (at_least_one b first) in
      let most : times 16 (256 * 0 + b) ≤ magnitude_from (256 * 0 + b) bs = times_le 16 (256 * 0 + b) bs (omega arith) in
      absurd (omega (arith, least, most, is, sixteen))
]
  where
    at_least_one : (k : ℕ) → (k ≡ 0 → ⊥) → 1 ≤ 256 * 0 + k
    at_least_one zero h = absurd (h refl)
    at_least_one (suc k) h = omega arith

pub big_is : (bytes : List ℕ) (n : ℕ) → magnitude bytes ≡ n → (slice_index bytes 0 ≡ 0 → ⊥) → 2 ^ 63 ≤ n → n < 2 ^ 127 → is_big false bytes ≡ true
big_is bytes n is first low high =
    rw (ne_eqb (slice_index bytes 0) 0 first, is, le-leb (2 ^ 63) n low, lt-ltb n (2 ^ 127) high) refl

pub value_is : (bytes text : List ℕ) (n k : ℕ) (s : List (List ℕ)) → text ≡ bytes → magnitude bytes ≡ n → (slice_index bytes 0 ≡ 0 → ⊥) → 2 ^ 63 ≤ n → n < 2 ^ 127 → IsPlace text k s → IsValueOf s (value.Big k false) n
value_is bytes text n k s same is first low high p =
    let at : text_of s k ≡ bytes = p.is ∙ same in
    (p.there, ap (is_big false) at ∙ big_is bytes n is first low high, ap magnitude at ∙ is)

-- ---- a file

pub files_is : (file text : List ℕ) (place : ℕ) (s : List (List ℕ)) (old new : List ℕ) → text ≡ file → new ≡ insert_key nat_eq old place → IsPlace text place s → GrownFiles file s old new
files_is file text place s old new same is p = by (list_any (nat_eq place) old) is
  where
    by : (b : Bool) → new ≡ cond b old (old ++ place ∷ []) → GrownFiles file s old new
    by true e = record { more = []; grown = e ∙ sym (append-nil old); few = lit≤ tt; files = tt }
    by false e = record { more = place ∷ []; grown = e; few = lit≤ tt; files = (subst (λ (t : List ℕ). IsPlace t place s) same p, tt) }

pub base_is : (file : List ℕ) (place base : ℕ) (s : List (List ℕ)) (new : List ℕ) → (k : ℕ) × (slice_get new base ≡ Some k) × (nat_eq place k ≡ true) → IsPlace file place s → IsPlace file (get_or new base 0) s
base_is file place base s new stored p =
    let same : get_or new base 0 ≡ place = get_is new base 0 stored.0 stored.1 ∙ sym (eqb-true place stored.0 stored.2) in
    subst (λ (k : ℕ). IsPlace file k s) (sym same) p

pub files_later : (n : ℕ) (file : List ℕ) (s t : List (List ℕ)) (old new : List ℕ) → Grown n s t → GrownFiles file s old new → GrownFiles file t old new
files_later n file s t old new g f = record { more = f.more; grown = f.grown; few = f.few; files = all f.more f.files }
  where
    all : (fs : List ℕ) → AllByRecursion (λ k. IsPlace file k s) fs → AllByRecursion (λ k. IsPlace file k t) fs
    all [] h = tt
    all (k ∷ ks) h = (place_later n k file s t g h.0, all ks h.1)

-- ---- a constant

pub entry_is : (name : List ℕ) (d : Declaration) (e : Entry) (file : List ℕ) (s1 s2 s3 : List (List ℕ)) (bs : List ℕ) → file ≡ d.file → Grown 1 s1 s2 → Grown 1 s2 s3 → e.base < length bs → IsPlace file (get_or bs e.base 0) s1 → IsPlace name e.name s2 → IsValueOf s3 e.value d.value → e.line ≡ d.line → e.column ≡ d.column → IsEntryOf s3 bs e (name, d)
entry_is name d e file s1 s2 s3 bs same g h base at named valued line column = record {
  name = place_later 1 e.name name s2 s3 h named;
  base = base;
  file = subst (λ (t : List ℕ). IsPlace t (get_or bs e.base 0) s3) same (place_later 1 (get_or bs e.base 0) file s2 s3 h (place_later 1 (get_or bs e.base 0) file s1 s2 g at));
  line = line;
  column = column;
  value = valued;
}

-- ---- constants so far

pub constants_none : (s : List (List ℕ)) (es : List Entry) (bs : List ℕ) → es ≡ [] → bs ≡ [] → NumbersConstants [] es bs s s
constants_none s es bs none no_bases = record {
  texts = grown_none 0 s s refl;
  entries = subst (λ xs. AreEntries s bs xs []) (sym none) tt;
  files = subst (AllByRecursion (IsFile s)) (sym no_bases) tt;
  few = omega (arith, ap length no_bases);
  apart = subst (IsDistinct nat_eq) (sym no_bases) no_files;
  used = covers_none (bs ++ flat_map entry_uses es) (length s) (length s) (omega arith);
  files_used = covers_none (map (λ e. e.base) es) 0 (length bs) (omega (arith, ap length no_bases));
}

new_files : (name : List ℕ) (s : List (List ℕ)) (fs : List ℕ) → is_some_text name ≡ true → AllByRecursion (λ k. IsPlace name k s) fs → AllByRecursion (IsFile s) fs
new_files name s [] some h = tt
new_files name s (f ∷ fs) some h = ((h.0.there, ap is_some_text h.0.is ∙ some), new_files name s fs some h.1)

pub constants_more : (ds : List (List ℕ × Declaration)) (es : List Entry) (bs cs : List ℕ) (s t u : List (List ℕ)) (e : Entry) (d : List ℕ × Declaration) → is_some_text d.1.file ≡ true → NumbersConstants ds es bs s t → Grown 3 t u → GrownFiles d.1.file u bs cs → IsEntryOf u cs e d
    → IsDistinct nat_eq cs → Covers (cs ++ entry_uses e) (length t) (length u) → Covers (e.base ∷ []) (length bs) (length cs) → NumbersConstants (ds ++ d ∷ []) (es ++ e ∷ []) cs s u
constants_more ds es bs cs s t u e d some so_far g f is apart used file_used = record {
  texts = grown_then (3 * length ds) 3 (3 * length (ds ++ d ∷ [])) s t u (omega (arith, length-append ds (d ∷ []))) so_far.texts g;
  entries = entries_push u cs es ds e d (entries_later 3 t u bs f.more cs es ds g f.grown so_far.entries) is;
  files = subst (AllByRecursion (IsFile u)) (sym f.grown) (all_append (IsFile u) bs f.more (file_later 3 t u bs g so_far.files) (new_files d.1.file u f.more some f.files));
  few = omega (arith, so_far.few, ap length f.grown, length-append bs f.more, f.few, length-append ds (d ∷ []));
  apart = apart;
  used = more_used bs f.more cs es e (length s) (length t) (length u) f.grown so_far.used used;
  files_used = more_files_used es e (length bs) (length cs) so_far.files_used file_used;
}

-- ---- packages below

pub path_short : (path : List ℕ) → is_path path ≡ true → length path ≤ 4096
unfolding is_path
path_short path h = omega (arith, leb-true (length path) 255 (and_parts (nat_le (length path) 255) (not (is_reserved path)) (and_parts (nat_le (length path) 255 && not (is_reserved path)) (has_segments path) h).0).0)

pub below_later : (n : ℕ) (s t : List (List ℕ)) (bs : List BelowEl) (ds : List Below) → Grown n s t → AreBelow s bs ds → AreBelow t bs ds
below_later n s t [] [] g h = tt
below_later n s t [] (d ∷ ds) g h = absurd h
below_later n s t (b ∷ bs) [] g h = absurd h
below_later n s t (b ∷ bs) (d ∷ ds) g h = (record { path = place_later n b.path d.path s t g h.0.path; print = place_later n b.print d.print s t g h.0.print; direct = h.0.direct }, below_later n s t bs ds g h.1)

below_push : (s : List (List ℕ)) (bs : List BelowEl) (ds : List Below) (b : BelowEl) (d : Below) → AreBelow s bs ds → IsBelowOf s b d → AreBelow s (bs ++ b ∷ []) (ds ++ d ∷ [])
below_push s [] [] b d h is = (is, tt)
below_push s [] (x ∷ ds) b d h is = absurd h
below_push s (x ∷ bs) [] b d h is = absurd h
below_push s (x ∷ bs) (y ∷ ds) b d h is = (h.0, below_push s bs ds b d h.1 is)

pub below_none : (s : List (List ℕ)) (bs : List BelowEl) → bs ≡ [] → NumbersBelow [] bs s s
below_none s bs none = record { texts = grown_none 0 s s refl; below = subst (λ xs. AreBelow s xs []) (sym none) tt; used = covers_none (flat_map below_uses bs) (length s) (length s) (omega arith) }

pub below_more : (ds : List Held) (i : ℕ) (bs new : List BelowEl) (s t u : List (List ℕ)) (b : BelowEl) (d x : Held) → i < length ds → d ≡ get_or ds i x → new ≡ bs ++ b ∷ [] → NumbersBelow (map below (take i ds)) bs s t → Grown 2 t u → IsBelowOf u b (below d) → Covers (below_uses b) (length t) (length u) → NumbersBelow (map below (take (i + 1) ds)) new s u
below_more ds i bs new s t u b d x h at pushed so_far g is used =
    let more : map below (take (i + 1) ds) ≡ map below (take i ds) ++ below d ∷ [] = ap (map below) (take_more ds i x h ∙ ap (λ y. take i ds ++ y ∷ []) (sym at)) ∙ map-append below (take i ds) (d ∷ []) in
    subst (λ (xs : List Below). NumbersBelow xs new s u) (sym more) (subst (λ (ys : List BelowEl). NumbersBelow (map below (take i ds) ++ below d ∷ []) ys s u) (sym pushed)
    (record {
      texts = grown_then (2 * length (map below (take i ds))) 2 (2 * length (map below (take i ds) ++ below d ∷ [])) s t u (omega (arith, length-append (map below (take i ds)) (below d ∷ []))) so_far.texts g;
      below = below_push u bs (map below (take i ds)) b (below d) (below_later 2 t u bs (map below (take i ds)) g so_far.below) is;
      used = more_below_used bs b (length s) (length t) (length u) so_far.used used;
    }))

pub below_room : (ds : List Held) (i : ℕ) (bs : List BelowEl) (s t : List (List ℕ)) → length s ≤ 2 ^ 14 → length ds ≤ 1024 → i < length ds → NumbersBelow (map below (take i ds)) bs s t → length t < 2 ^ 30
below_room ds i bs s t room few h so_far = omega (arith, longer _ s t so_far.texts, length-map (take i ds) below, length-take-le i ds)
  where
    length-take-le : (k : ℕ) (xs : List Held) → length (take k xs) ≤ k
    length-take-le zero xs = omega arith
    length-take-le (suc k) [] = omega arith
    length-take-le (suc k) (x ∷ xs) = omega (arith, length-take-le k xs)

pub below_at : (ds : List Held) (i : ℕ) (d x : Held) → AllByRecursion IsBelow (map below ds) → i < length ds → d ≡ get_or ds i x → IsBelow (below d)
below_at [] i d x all h e = absurd (omega arith)
below_at (y ∷ ds) zero d x all h e = subst (λ (z : Held). IsBelow (below z)) (sym e) all.0
below_at (y ∷ ds) (suc i) d x all h e = below_at ds i d x all.1 (omega arith) e

pub below_all : (ds : List Held) (i : ℕ) (bs : List BelowEl) (s t : List (List ℕ)) → i ≡ length ds → NumbersBelow (map below (take i ds)) bs s t → NumbersBelow (map below ds) bs s t
below_all ds i bs s t e h = subst (λ (xs : List Held). NumbersBelow (map below xs) bs s t) (whole ds i (omega arith)) h
  where
    whole : (xs : List Held) (k : ℕ) → length xs ≤ k → take k xs ≡ xs
    whole [] zero g = refl
    whole [] (suc k) g = refl
    whole (x ∷ xs) zero g = absurd (omega arith)
    whole (x ∷ xs) (suc k) g = ap (λ ys. x ∷ ys) (whole xs k (omega arith))

-- ---- the loop over the map

abbrev Kept : Type 0
Kept = List (Vec ℕ Global × Constant)

abbrev Item : Type 0
Item = Bor (Vec ℕ Global) × Bor Constant

abbrev pub shown : Item → List ℕ × Declaration
shown p = entry_of (deref_pair p)

abbrev ByName : Vec ℕ Global → Vec ℕ Global → Ordering
ByName x y = slice_cmp nat_cmp x.items y.items

shown-map : (ps : List Item) → map shown ps ≡ map entry_of (map deref_pair ps)
shown-map [] = refl
shown-map (p ∷ ps) = ap (λ (qs : List (List ℕ × Declaration)). shown p ∷ qs) (shown-map ps)

kept_is : (e : Export) (kept : Kept) → declarations_of kept ≡ e.decls → IsStrictlySortedBy (λ (x y : Vec ℕ Global). slice_cmp nat_cmp x.items y.items) (map (λ q. q.0) kept) → entries e.decls ≡ map entry_of kept
kept_is e kept decls sorted = ap entries (sym decls) ∙ entries-declarations_of kept sorted

pub item_at : (P : List ℕ × Declaration → Type 0) (e : Export) (kept : Kept) (k : ℕ) (p : Item) (text : List ℕ) → AllByRecursion P (entries e.decls) → declarations_of kept ≡ e.decls → IsStrictlySortedBy (λ (x y : Vec ℕ Global). slice_cmp nat_cmp x.items y.items) (map (λ q. q.0) kept) → slice_get kept k ≡ Some (deref_pair p) → text ≡ p.0.now.items → P (text, declaration p.1.now)
item_at P e kept k p text all decls sorted found same =
    subst (λ (t : List ℕ). P (t, declaration p.1.now)) (sym same) (at kept k (subst (AllByRecursion P) (kept_is e kept decls sorted) all) found)
  where
    at : (ps : Kept) (i : ℕ) → AllByRecursion P (map entry_of ps) → slice_get ps i ≡ Some (deref_pair p) → P (shown p)
    at [] i all h = absurd cc
    at (q ∷ qs) zero all h = subst (λ r. P (entry_of r)) (some_is q (deref_pair p) h) all.0
    at (q ∷ qs) (suc i) all h = at qs i all.1 h

pub loop_room : (e : Export) (kept : Kept) (ps : List Item) (es : List Entry) (bs : List ℕ) (s t : List (List ℕ)) → IsSmallExport e → declarations_of kept ≡ e.decls → IsStrictlySortedBy (λ (x y : Vec ℕ Global). slice_cmp nat_cmp x.items y.items) (map (λ q. q.0) kept) → length ps < length kept → length s ≤ 2 → NumbersConstants (map shown ps) es bs s t → (length t < 2 ^ 30) × (length bs < 2 ^ 30)
loop_room e kept ps es bs s t small decls sorted h room so_far =
    let few : length kept ≤ 4096 = omega (arith, small.few, len-entries e.decls, ap length (kept_is e kept decls sorted), length-map kept entry_of) in
    let count = length-map ps shown in
    (omega (arith, longer (3 * length (map shown ps)) s t so_far.texts), omega (arith, so_far.few))

pub loop_next : (e : Export) (kept : Kept) (ps : List Item) (p : Item) (text : List ℕ) (es new : List rust.Entry) (x : rust.Entry) (bs cs : List ℕ) (s t u : List (List ℕ)) → HasNames e → declarations_of kept ≡ e.decls → IsStrictlySortedBy (λ (x y : Vec ℕ Global). slice_cmp nat_cmp x.items y.items) (map (λ q. q.0) kept) → slice_get kept (length ps) ≡ Some (deref_pair p) → text ≡ p.0.now.items → new ≡ es ++ x ∷ []
    → NumbersConstants (map shown ps) (map entry es) bs s t → Grown 3 t u → GrownFiles (declaration p.1.now).file u bs cs → IsEntryOf u cs (entry x) (text, declaration p.1.now)
    → IsDistinct nat_eq cs → Covers (cs ++ entry_uses (entry x)) (length t) (length u) → Covers (x.base ∷ []) (length bs) (length cs) → NumbersConstants (map shown (ps ++ p ∷ [])) (map entry new) cs s u
loop_next e kept ps p text es new x bs cs s t u names decls sorted found same pushed so_far g f is apart used file_used =
    let named = item_at HasName e kept (length ps) p text names.entries decls sorted found same in
    let next : NumbersConstants (map shown ps ++ shown p ∷ []) (map entry es ++ entry x ∷ []) cs s u =
    constants_more (map shown ps) (map entry es) bs cs s t u (entry x) (shown p) named.file so_far g f (subst (λ (t : List ℕ). IsEntryOf u cs (entry x) (t, declaration p.1.now)) same is) apart used file_used in
    subst (λ (xs : List Entry). NumbersConstants (map shown (ps ++ p ∷ [])) xs cs s u) (sym (ap (map entry) pushed ∙ map-append entry es (x ∷ [])))
    (subst (λ (ds : List (List ℕ × Declaration)). NumbersConstants ds (map entry es ++ entry x ∷ []) cs s u) (sym (map-append shown ps (p ∷ []))) next)

pub loop_end : (e : Export) (kept : Kept) (ps : List Item) (es : List Entry) (bs cs : List ℕ) (s t : List (List ℕ)) → declarations_of kept ≡ e.decls → IsStrictlySortedBy (λ (x y : Vec ℕ Global). slice_cmp nat_cmp x.items y.items) (map (λ q. q.0) kept) → map deref_pair ps ≡ kept → cs ≡ bs → NumbersConstants (map shown ps) es bs s t → NumbersConstants (entries e.decls) es cs s t
loop_end e kept ps es bs cs s t decls sorted all same so_far =
    subst (λ (ys : List ℕ). NumbersConstants (entries e.decls) es ys s t) (sym same)
    (subst (λ (ds : List (List ℕ × Declaration)). NumbersConstants ds es bs s t) (shown-map ps ∙ ap (map entry_of) all ∙ sym (kept_is e kept decls sorted)) so_far)

pub kept_map : (e : Export) (kept : Kept) → declarations_of kept ≡ e.decls → IsStrictlySortedBy (λ (x y : Vec ℕ Global). slice_cmp nat_cmp x.items y.items) (map (λ q. q.0) kept) → IsMapOf (entries e.decls) e.decls
unfolding declarations_of
kept_map e kept decls sorted =
    let same : entries e.decls ≡ map entry_of kept = ap entries (sym decls) ∙ entries-declarations_of kept sorted in
    subst (λ (ds : List (List ℕ × Declaration)). IsMapOf ds e.decls) (sym same) (record { names = names-entry_of kept sorted; whole = decls })
