-- A numbered package stands for what is to be written.
use Rattle.std.proofs.Common.{◌≡◌, ℕ, ◌+◌, ◌*◌, ◌^◌, ◌<◌, ◌≤◌, List, [], ◌∷◌, ◌++◌, map, length, get_or, Some, pos, negsuc, refl, sym, ap, ◌∙◌, subst, arith, append_assoc, lit<}
use Rattle.std.specs.Prelude.{bytes_eq, nat_eq, true, false}
use Rattle.std.specs.List.{AllByRecursion, IsDistinct, flat_map, range_with_len}
use Rattle.std.specs.List.Sorted.{IsStrictlySortedBy}
use Rattle.std.specs.Ordering.{nat_cmp}
use Rattle.std.specs.Cmp.Lexicographic.{slice_cmp}
use Rattle.std.specs.FinMap.{entries, from_entries, len-entries}
use Rattle.std.proofs.lemmas.List.{append-nil, length-map, length-append}
use Rattle.std.proofs.lemmas.List.FromFn.{length-range_with_len}
use Rattle.ui_strpos.specs.Reading.{Context}
use Rattle.ui_strpos.specs.Format.{InGrammar}
use Rattle.ui_base.specs.Names.{is_name}
use Rattle.ui_base.specs.Paths.{is_path}
use Rattle.ui_strpos.specs.Elements.{is_some_text, posbase, name}
use Rattle.ui_eobj.specs.Objects.{constant}
use Rattle.ui_eobj.specs.Roots.{public_root}
use Rattle.ui_eobj.specs.declared.root.BelowEl.{BelowEl}
use Rattle.ui_eobj.specs.declared.value.ValueEl.{ValueEl}
use Rattle.ui_eobj.specs.declared.value.ValueEl.TheVariants as value
use Rattle.ui_exports.specs.Export.{Declaration, Export}
use Rattle.ui_exports.specs.Linked.{Below, Linked}
use Rattle.ui_consts.specs.Elements.{Elements, Entry, spelled, spelled_as, base_of, name_of, object_of, types_of, use_of}
use Rattle.ui_consts.specs.Record.{AllUsed, Fits, IsPositive, base_uses, below_by, below_uses, declared_by, entry_uses, meaning, name_at, number, over, string_uses, text_of, value_of}
use Rattle.ui_consts.specs.Size.{HasName, IsSmall, IsSmallEntry}
use Rattle.ui_consts.specs.Numbering.{AreBelow, AreEntries, Covers, Grown, IsEntryOf, IsFile, IsMapOf, IsPlace, IsValueOf, Numbers, NumbersBelow, NumbersConstants, elements_of, entry}
use Rattle.ui_consts.specs.declared.numbered.Numbered.{Numbered}
use Rattle.ui_consts.proofs.GrammarLemmas.{Over, base_in, name_in, object_in, package_in, private_in, public_in}
use Rattle.ui_consts.proofs.NumberingLemmas.{entries_later, file_later, grown_then, longer, place_later, same_count}
use Rattle.ui_consts.proofs.UseLemmas.{covers_both}

-- ---- what values and constants stand for

value_is : (strings : List (List ℕ)) (v : ValueEl) (n : ℕ) → IsValueOf strings v n → value_of strings v ≡ Some n
value_is strings (value.Int64 (pos m)) n h = ap (λ (k : ℕ). Some k) h.0
value_is strings (value.Int64 (negsuc m)) n h = absurd h
value_is strings (value.Big k true) n h = absurd h
value_is strings (value.Big k false) n h = ap (λ (m : ℕ). Some m) h.2

entry_means : (strings : List (List ℕ)) (bases : List ℕ) (e : Entry) (d : List ℕ × Declaration) → IsEntryOf strings bases e d → declared_by strings bases e ≡ d
entry_means strings bases e d is =
    let amount : number (value_of strings e.value) ≡ d.1.value = ap number (value_is strings e.value d.1.value is.value) in
    λ i. (is.name.is i, record { file = is.file.is i; line = is.line i; column = is.column i; value = amount i })

entries_mean : (strings : List (List ℕ)) (bases : List ℕ) (es : List Entry) (ds : List (List ℕ × Declaration)) → AreEntries strings bases es ds → map (declared_by strings bases) es ≡ ds
entries_mean strings bases [] [] h = refl
entries_mean strings bases [] (d ∷ ds) h = absurd h
entries_mean strings bases (e ∷ es) [] h = absurd h
entries_mean strings bases (e ∷ es) (d ∷ ds) h = λ i. entry_means strings bases e d h.0 i ∷ entries_mean strings bases es ds h.1 i

names_are : (strings : List (List ℕ)) (bases : List ℕ) (es : List Entry) (ds : List (List ℕ × Declaration)) → AreEntries strings bases es ds → map (λ e. text_of strings e.name) es ≡ map (λ d. d.0) ds
names_are strings bases [] [] h = refl
names_are strings bases [] (d ∷ ds) h = absurd h
names_are strings bases (e ∷ es) [] h = absurd h
names_are strings bases (e ∷ es) (d ∷ ds) h = λ i. h.0.name.is i ∷ names_are strings bases es ds h.1 i

below_means : (strings : List (List ℕ)) (bs : List BelowEl) (ds : List Below) → AreBelow strings bs ds → map (below_by strings) bs ≡ ds
below_means strings [] [] h = refl
below_means strings [] (d ∷ ds) h = absurd h
below_means strings (b ∷ bs) [] h = absurd h
below_means strings (b ∷ bs) (d ∷ ds) h = λ i. record { path = h.0.path.is i; print = h.0.print.is i; direct = h.0.direct i } ∷ below_means strings bs ds h.1 i

below_count : (strings : List (List ℕ)) (bs : List BelowEl) (ds : List Below) → AreBelow strings bs ds → length bs ≡ length ds
below_count strings bs ds h = sym (length-map bs (below_by strings)) ∙ ap length (below_means strings bs ds h)

positive : (strings : List (List ℕ)) (bases : List ℕ) (es : List Entry) (ds : List (List ℕ × Declaration)) → AreEntries strings bases es ds → AllByRecursion (IsPositive strings) es
positive strings bases [] [] h = tt
positive strings bases [] (d ∷ ds) h = tt
positive strings bases (e ∷ es) [] h = absurd h
positive strings bases (e ∷ es) (d ∷ ds) h = ((d.1.value, value_is strings e.value d.1.value h.0.value), positive strings bases es ds h.1)

-- ---- each in its grammar

module _ (c : Context) (strings : List (List ℕ)) (bases : List ℕ) (count types : ℕ) (texts : c.texts ≡ strings) (is_over : Over c (length strings) (length bases) count types) (few : length strings ≤ 2 ^ 14) (few_bases : length bases ≤ 4096) (few_entries : count ≤ 4096) where
  bases_fit : (fs : List ℕ) → AllByRecursion (IsFile strings) fs → AllByRecursion (λ file. InGrammar posbase c (base_of file)) fs
  bases_fit [] h = tt
  bases_fit (f ∷ fs) h =
      (base_in c (length strings) (length bases) count types is_over (omega arith) (omega arith) (omega arith) f h.0.0 (subst (λ (xs : List (List ℕ)). is_some_text (text_of xs f) ≡ true) (sym texts) h.0.1), bases_fit fs h.1)

  names_fit : (es : List Entry) (ds : List (List ℕ × Declaration)) → AreEntries strings bases es ds → AllByRecursion HasName ds → AllByRecursion (λ e. InGrammar name c (name_of e)) es
  names_fit [] ds h named = tt
  names_fit (e ∷ es) [] h named = absurd h
  names_fit (e ∷ es) (d ∷ ds) h named =
      (name_in c (length strings) (length bases) count types is_over (omega arith) (omega arith) (omega arith) e h.0.name.there (ap (λ (xs : List (List ℕ)). is_name (text_of xs e.name)) texts ∙ ap is_name h.0.name.is ∙ named.0.name), names_fit es ds h.1 named.1)

  objects_fit : 0 < types → (es : List Entry) (ds : List (List ℕ × Declaration)) → AreEntries strings bases es ds → AllByRecursion IsSmallEntry ds → AllByRecursion (λ e. InGrammar constant c (object_of e)) es
  objects_fit some [] ds h small = tt
  objects_fit some (e ∷ es) [] h small = absurd h
  objects_fit some (e ∷ es) (d ∷ ds) h small = (
    object_in c (length strings) (length bases) count types is_over (omega arith) (omega arith) (omega arith) e d.1.value (ap length texts) h.0.base some
        (omega (arith, h.0.line, small.0.line)) (omega (arith, h.0.line, small.0.line_fits)) (omega (arith, h.0.column, small.0.column)) (omega (arith, h.0.column, small.0.column_fits))
        (subst (λ (xs : List (List ℕ)). IsValueOf xs e.value d.1.value) (sym texts) h.0.value),
    objects_fit some es ds h.1 small.1,
  )

-- the Type is there where a constant is
objects_all : (c : Context) (strings : List (List ℕ)) (bases : List ℕ) (count : ℕ) (es : List Entry) (ds : List (List ℕ × Declaration)) → c.texts ≡ strings → Over c (length strings) (length bases) count (length (types_of es)) → length strings ≤ 2 ^ 14 → length bases ≤ 4096 → count ≤ 4096 → AreEntries strings bases es ds → AllByRecursion IsSmallEntry ds → AllByRecursion (λ e. InGrammar constant c (object_of e)) es
objects_all c strings bases count [] ds texts is_over few few_bases few_entries h small = tt
objects_all c strings bases count (e ∷ es) ds texts is_over few few_bases few_entries h small = objects_fit c strings bases count 1 texts is_over few few_bases few_entries (lit< tt) (e ∷ es) ds h small

-- ---- the order of the public root

whole_from : (xs : List (List ℕ)) (front : List (List ℕ)) (a : ℕ) → a ≡ length front → map (λ place. get_or (front ++ xs) place []) (range_with_len a (length xs)) ≡ xs
whole_from [] front a e = refl
whole_from (x ∷ xs) front a e =
    let first : get_or (front ++ x ∷ xs) a [] ≡ x = ap (λ k. get_or (front ++ x ∷ xs) k []) e ∙ seam front in
    let regroup : front ++ x ∷ xs ≡ (front ++ x ∷ []) ++ xs = sym (append_assoc front (x ∷ []) xs) in
    let rest : map (λ place. get_or (front ++ x ∷ xs) place []) (range_with_len (a + 1) (length xs)) ≡ xs =
    ap (λ ys. map (λ place. get_or ys place []) (range_with_len (a + 1) (length xs))) regroup ∙ whole_from xs (front ++ x ∷ []) (a + 1) (omega (arith, length-append front (x ∷ []))) in
    λ i. first i ∷ rest i
  where
    seam : (ys : List (List ℕ)) → get_or (ys ++ x ∷ xs) (length ys) [] ≡ x
    seam [] = refl
    seam (y ∷ ys) = seam ys

whole : (xs : List (List ℕ)) → map (λ place. get_or xs place []) (range_with_len 0 (length xs)) ≡ xs
whole xs = whole_from xs [] 0 refl

-- ---- the whole

texts_of : (x : Elements) → (over (spelled x)).texts ≡ x.strings
unfolding spelled
texts_of x = refl

is_over_of : (x : Elements) (count : ℕ) → length x.entries ≡ count → Over (over (spelled x)) (length x.strings) (length x.bases) count (length (types_of x.entries))
unfolding spelled
is_over_of x count same = record {
  strings_are = refl;
  bases_are = length-map x.bases (λ file. spelled_as posbase (base_of file));
  packages_are = refl;
  types_are = refl;
  objects_are = length-map x.entries (λ e. spelled_as constant (object_of e)) ∙ same;
}

distinct_none : IsDistinct bytes_eq []
unfolding IsDistinct
distinct_none = tt

fits_is : (x : Elements) (l : Linked) (count : ℕ) → IsSmall l → length x.entries ≡ count → x.order ≡ range_with_len 0 count → count ≤ 4096 → length x.strings ≤ 2 ^ 14 → length x.bases ≤ 4096 → IsDistinct bytes_eq x.strings → AllUsed (length x.strings) (string_uses x) → IsDistinct nat_eq x.bases → AllUsed (length x.bases) (base_uses x) → IsPlace l.export.path x.path x.strings → IsPlace l.export.name x.name x.strings
    → AreEntries x.strings x.bases x.entries (entries l.export.decls) → AllByRecursion (IsFile x.strings) x.bases → AreBelow x.strings x.below l.below → IsMapOf (entries l.export.decls) l.export.decls → Fits x
fits_is x l count small same order few few_strings few_bases apart strings_used files_apart files_used path its_name are files below is_map =
    let ds : List (List ℕ × Declaration) = entries l.export.decls in
    let c : Context = over (spelled x) in
    let texts = texts_of x in
    let is_over = is_over_of x count same in
    let names : map (λ e. text_of x.strings e.name) x.entries ≡ map (λ d. d.0) ds = names_are x.strings x.bases x.entries ds are in
    let name_count : count ≡ length (map (λ e. text_of x.strings e.name) x.entries) = sym same ∙ sym (length-map x.entries (λ e. text_of x.strings e.name)) in
    let listed : map (name_at x) x.order ≡ map (λ d. d.0) ds = ap (map (name_at x)) order ∙ ap (λ k. map (name_at x) (range_with_len 0 k)) name_count ∙ whole (map (λ e. text_of x.strings e.name) x.entries) ∙ names in
    record {
      apart = apart;
      strings_used = strings_used;
      files_apart = files_apart;
      files_used = files_used;
      bases = bases_fit c x.strings x.bases count (length (types_of x.entries)) texts is_over few_strings few_bases few x.bases files;
      its_package = package_in c (length x.strings) (length x.bases) count (length (types_of x.entries)) is_over (omega arith) (omega arith) (omega arith) x.path x.name path.there its_name.there
          (ap (λ (xs : List (List ℕ)). is_path (text_of xs x.path)) texts ∙ ap is_path path.is ∙ small.names.path) (ap (λ (xs : List (List ℕ)). is_name (text_of xs x.name)) texts ∙ ap is_name its_name.is ∙ small.names.name);
      names = names_fit c x.strings x.bases count (length (types_of x.entries)) texts is_over few_strings few_bases few x.entries ds are small.names.entries;
      objects = objects_all c x.strings x.bases count x.entries ds texts is_over few_strings few_bases few are small.export.entries;
      values = positive x.strings x.bases x.entries ds are;
      public_root = subst (λ (ks : List ℕ). InGrammar public_root c (record { pkg = 0; objects = map use_of ks })) (sym order) (public_in c (length x.strings) (length x.bases) count (length (types_of x.entries)) is_over (omega arith) (omega arith) (omega arith) few);
      private_root = private_in c (length x.strings) (length x.bases) count (length (types_of x.entries)) is_over (omega arith) (omega arith) (omega arith) x.below l.below (ap length texts) (omega (arith, below_count x.strings x.below l.below below, small.few_below))
          (subst (λ (xs : List (List ℕ)). AreBelow xs x.below l.below) (sym texts) below) small.below;
      all = ap length order ∙ length-range_with_len 0 count ∙ sym same;
      ascending = subst (IsStrictlySortedBy (slice_cmp nat_cmp)) (sym listed) is_map.names;
    }

means_is : (x : Elements) (l : Linked) → IsPlace l.export.path x.path x.strings → IsPlace l.export.name x.name x.strings → AreEntries x.strings x.bases x.entries (entries l.export.decls) → AreBelow x.strings x.below l.below → IsMapOf (entries l.export.decls) l.export.decls → meaning x ≡ l
unfolding meaning
means_is x l path its_name are below is_map =
    let decls : from_entries {R = slice_cmp nat_cmp} (map (declared_by x.strings x.bases) x.entries) ≡ l.export.decls = ap (from_entries {R = slice_cmp nat_cmp}) (entries_mean x.strings x.bases x.entries (entries l.export.decls) are) ∙ is_map.whole in
    λ i. record { export = record { path = path.is i; name = its_name.is i; decls = decls i }; below = below_means x.strings x.below l.below below i }

pub numbers_is : (n : Numbered) (l : Linked) (s0 s1 s2 s3 s4 : List (List ℕ)) → IsSmall l → s0 ≡ [] → n.strings.items ≡ s4 → Grown 1 s0 s1 → IsPlace l.export.path n.path s1 → Covers (n.path ∷ []) (length s0) (length s1) → Grown 1 s1 s2 → IsPlace l.export.name n.name s2 → Covers (n.name ∷ []) (length s1) (length s2)
    → NumbersConstants (entries l.export.decls) (map entry n.entries.items) n.bases.items s2 s3 → IsMapOf (entries l.export.decls) l.export.decls → NumbersBelow l.below n.below.below s3 s4 → Numbers n l
numbers_is n l s0 s1 s2 s3 s4 small empty same g1 path path_used g2 its_name name_used constants is_map belows =
    let ds : List (List ℕ × Declaration) = entries l.export.decls in
    let es : List Entry = map entry n.entries.items in
    let x : Elements = elements_of n in
    let gb : Grown (2 * length l.below) s3 s4 = belows.texts in
    let g24 : Grown (3 * length ds + 2 * length l.below) s2 s4 = grown_then (3 * length ds) (2 * length l.below) (3 * length ds + 2 * length l.below) s2 s3 s4 (omega arith) constants.texts gb in
    let g14 : Grown (1 + (3 * length ds + 2 * length l.below)) s1 s4 = grown_then 1 (3 * length ds + 2 * length l.below) (1 + (3 * length ds + 2 * length l.below)) s1 s2 s4 (omega arith) g2 g24 in
    let g04 : Grown (2 + (3 * length ds + 2 * length l.below)) s0 s4 = grown_then 1 (1 + (3 * length ds + 2 * length l.below)) (2 + (3 * length ds + 2 * length l.below)) s0 s1 s4 (omega arith) g1 g14 in
    let few : length ds ≤ 4096 = omega (arith, small.export.few, len-entries l.export.decls) in
    let size : length s4 ≤ 2 ^ 14 = omega (arith, longer (2 + (3 * length ds + 2 * length l.below)) s0 s4 g04, ap length empty, small.few_below) in
    let are4 : AreEntries s4 n.bases.items es ds = entries_later (2 * length l.below) s3 s4 n.bases.items [] n.bases.items es ds gb (sym (append-nil n.bases.items)) constants.entries in
    let are : AreEntries x.strings n.bases.items es ds = subst (λ (xs : List (List ℕ)). AreEntries xs n.bases.items es ds) (sym same) are4 in
    let path4 : IsPlace l.export.path n.path x.strings = subst (λ (xs : List (List ℕ)). IsPlace l.export.path n.path xs) (sym same) (place_later (1 + (3 * length ds + 2 * length l.below)) n.path l.export.path s1 s4 g14 path) in
    let name4 : IsPlace l.export.name n.name x.strings = subst (λ (xs : List (List ℕ)). IsPlace l.export.name n.name xs) (sym same) (place_later (3 * length ds + 2 * length l.below) n.name l.export.name s2 s4 g24 its_name) in
    let below4 : AreBelow x.strings n.below.below l.below = subst (λ (xs : List (List ℕ)). AreBelow xs n.below.below l.below) (sym same) belows.below in
    let files : AllByRecursion (IsFile x.strings) n.bases.items = subst (λ (xs : List (List ℕ)). AllByRecursion (IsFile xs) n.bases.items) (sym same) (file_later (2 * length l.below) s3 s4 n.bases.items gb constants.files) in
    let count : length es ≡ length n.entries.items = length-map n.entries.items entry in
    let count_ds : length es ≡ length ds = same_count x.strings n.bases.items es ds are in
    let apart : IsDistinct bytes_eq x.strings = subst (IsDistinct bytes_eq) (sym same) (g04.apart (subst (IsDistinct bytes_eq) (sym empty) distinct_none)) in
    let short : AllByRecursion (λ text. length text ≤ 4096) x.strings = subst (AllByRecursion (λ text. length text ≤ 4096)) (sym (same ∙ g04.grown ∙ ap (λ xs. xs ++ g04.more) empty)) g04.short in
    let used : Covers (string_uses x) (length s0) (length s4) =
    covers_both (n.path ∷ n.name ∷ []) ((n.bases.items ++ flat_map entry_uses es) ++ flat_map below_uses n.below.below) (length s0) (length s2) (length s4) (covers_both (n.path ∷ []) (n.name ∷ []) (length s0) (length s1) (length s2) path_used name_used)
    (covers_both (n.bases.items ++ flat_map entry_uses es) (flat_map below_uses n.below.below) (length s2) (length s3) (length s4) constants.used belows.used) in
    let strings_used : AllUsed (length x.strings) (string_uses x) = λ k high. used k (omega (arith, ap length empty)) (omega (arith, high, ap length same)) in
    let files_used : AllUsed (length x.bases) (base_uses x) = λ k high. constants.files_used k (omega arith) high in
    record {
      fits = fits_is x l (length n.entries.items) small count refl (omega arith) (omega (arith, ap length same)) (omega (arith, constants.few)) apart strings_used constants.apart files_used path4 name4 are files below4 is_map;
      means = means_is x l path4 name4 are below4 is_map;
      strings = omega (arith, ap length same);
      short = short;
      bases = omega (arith, constants.few);
      few = omega arith;
      below = omega (arith, below_count x.strings n.below.below l.below below4, small.few_below);
    }

pub before_below : (l : Linked) (e : Export) (es : List Entry) (bs : List ℕ) (s0 s1 s2 s3 : List (List ℕ)) → IsSmall l → e ≡ l.export → s0 ≡ [] → Grown 1 s0 s1 → Grown 1 s1 s2 → NumbersConstants (entries e.decls) es bs s2 s3 → length s3 ≤ 2 ^ 14
before_below l e es bs s0 s1 s2 s3 small same empty g1 g2 constants =
    let count : length (entries e.decls) ≡ length (entries l.export.decls) = ap (λ (x : Export). length (entries x.decls)) same in
    omega (arith, longer 1 s0 s1 g1, longer 1 s1 s2 g2, longer (3 * length (entries e.decls)) s2 s3 constants.texts, ap length empty, count, small.export.few, len-entries l.export.decls)

pub numbers_all : (n : Numbered) (l : Linked) (e : Export) (ds : List Below) (p q : List ℕ) (bs : List BelowEl) (s0 s1 s2 s3 s4 : List (List ℕ)) → IsSmall l → e ≡ l.export → ds ≡ l.below → p ≡ e.path → q ≡ e.name → bs ≡ n.below.below → s0 ≡ [] → n.strings.items ≡ s4 → Grown 1 s0 s1 → IsPlace p n.path s1 → Covers (n.path ∷ []) (length s0) (length s1) → Grown 1 s1 s2 → IsPlace q n.name s2 → Covers (n.name ∷ []) (length s1) (length s2)
    → NumbersConstants (entries e.decls) (map entry n.entries.items) n.bases.items s2 s3 → IsMapOf (entries e.decls) e.decls → NumbersBelow ds bs s3 s4 → Numbers n l
numbers_all n l e ds p q bs s0 s1 s2 s3 s4 small export below path its_name els empty same g1 path_is path_used g2 name_is name_used constants is_map belows =
    numbers_is n l s0 s1 s2 s3 s4 small empty same g1 (subst (λ (t : List ℕ). IsPlace t n.path s1) (path ∙ ap (λ (x : Export). x.path) export) path_is) path_used g2 (subst (λ (t : List ℕ). IsPlace t n.name s2) (its_name ∙ ap (λ (x : Export). x.name) export) name_is) name_used
    (subst (λ (x : Export). NumbersConstants (entries x.decls) (map entry n.entries.items) n.bases.items s2 s3) export constants) (subst (λ (x : Export). IsMapOf (entries x.decls) x.decls) export is_map)
    (subst (λ (xs : List Below). NumbersBelow xs n.below.below s3 s4) below (subst (λ (ys : List BelowEl). NumbersBelow ds ys s3 s4) els belows))
