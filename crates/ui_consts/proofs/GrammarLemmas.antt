-- The elements of a numbered package are in their grammars.
use Rattle.std.proofs.Common.{◌≡◌, ℕ, zero, suc, ◌+◌, ◌^◌, ◌<◌, ◌≤◌, Bool, true, false, cond, not, ◌&&◌, ◌||◌, List, [], ◌∷◌, ◌++◌, map, length, Option, Some, None, pos, negsuc, refl, ap, ◌∙◌, arith, lit<, lit≤}
use Rattle.std.specs.Prelude.{bytes_eq, nat_le, codes}
use Rattle.std.specs.List.{AllByRecursion, flat_map, range_with_len}
use Rattle.std.specs.List.Sorted.{IsStrictlySortedBy}
use Rattle.std.specs.Ordering.{nat_cmp, is_lt}
use Rattle.std.specs.declared.cmp.Ordering.TheVariants.{Less}
use Rattle.std.specs.Cmp.Lexicographic.{slice_cmp}
use Rattle.std.proofs.lemmas.Bool.{and_parts, lt-ltb, eq-eqb}
use Rattle.std.proofs.lemmas.List.{length-map}
use Rattle.std.proofs.lemmas.List.FromFn.{length-range_with_len}
use Rattle.ui_base.specs.Names.{is_name}
use Rattle.ui_base.specs.Paths.{is_path, is_reserved, has_segments}
use Rattle.ui_strpos.specs.Items.{Item, written, nothing}
use Rattle.ui_strpos.specs.Whole.{table_is}
use Rattle.ui_strpos.specs.Reading.{Context, count_of, text_of}
use Rattle.ui_strpos.specs.Format.{InGrammar, ItemFits, fits_by, items_by}
use Rattle.ui_strpos.specs.Elements.{is_some_text, is_builtin, is_package_path, is_package_name, posbase, pkg, name}
use Rattle.ui_strpos.specs.declared.fault.Cause.{Cause}
use Rattle.ui_strpos.specs.declared.fault.Cause.TheVariants.{BadText, WrongCount}
use Rattle.ui_eobj.specs.Values.{is_big, is_magnitude, whole_value}
use Rattle.ui_eobj.specs.Objects.{constant, place_number}
use Rattle.ui_eobj.specs.Roots.{object_use, public_root, private_root, below_entry, is_print, is_before}
use Rattle.ui_eobj.specs.declared.root.BelowEl.{BelowEl}
use Rattle.ui_eobj.specs.declared.value.ValueEl.{ValueEl}
use Rattle.ui_eobj.specs.declared.value.ValueEl.TheVariants as value
use Rattle.ui_exports.specs.Linked.{Below}
use Rattle.ui_consts.specs.Elements.{Entry, base_of, name_of, object_of, use_of}
use Rattle.ui_consts.specs.Size.{IsBelow, IsListed}
use Rattle.ui_consts.specs.Numbering.{AreBelow, IsBelowOf, IsValueOf}
use Rattle.ui_consts.proofs.SpellingSizes.{length-table_from}
use Rattle.ui_consts.proofs.WriteLemmas.{items-constant, items-private, items-public}

-- a table has at most as many entries as there are fields
table_small : (is : List Item) → length is ≤ 2 ^ 20 → length (written nothing is).table < 2 ^ 64
table_small is h = omega (arith, ap length (table_is is), length-table_from is [])

passes : (b : Bool) (d : Cause) → b ≡ true → cond b None (Some d) ≡ None
passes b d e = ap (λ (x : Bool). cond x None (Some d)) e

passes_both : (a b : Bool) (d e : Cause) → a ≡ true → b ≡ true → cond a (cond b None (Some d)) (Some e) ≡ None
passes_both a b d e p q = ap (λ (x : Bool). cond x (cond b None (Some d)) (Some e)) p ∙ ap (λ (x : Bool). cond x None (Some d)) q

-- the numbers of elements, and the Strings, that a file is read over
pub record Over (c : Context) (strings bases entries types : ℕ) : Type 0 where
  pub strings_are : count_of c 0 ≡ strings
  pub bases_are : count_of c 2 ≡ bases
  pub packages_are : count_of c 3 ≡ 1
  pub types_are : count_of c 5 ≡ types
  pub objects_are : count_of c 6 ≡ entries

module _ (c : Context) (strings bases entries types : ℕ) (over : Over c strings bases entries types) (small : strings < 2 ^ 64) (small_bases : bases < 2 ^ 64) (small_entries : entries < 2 ^ 64) where
  -- the use of a String
  text_fits : (k : ℕ) → k < strings → (0 < 10) × (k < count_of c 0) × (k < 2 ^ 64)
  text_fits k h = (lit< tt, omega (arith, over.strings_are), omega arith)

  pub base_in : (file : ℕ) → file < strings → is_some_text (text_of c file) ≡ true → InGrammar posbase c (base_of file)
  base_in file h some = ((passes (is_some_text (text_of c file)) BadText some, refl), (text_fits file h, (tt, tt)), table_small (posbase.items (base_of file)) (lit≤ tt))

  no_builtin : (path : List ℕ) → is_path path ≡ true → is_builtin path ≡ false
  unfolding is_path
  no_builtin path h = first (is_builtin path) (bytes_eq path (codes "unsafe")) (bytes_eq path (codes "C")) ((and_parts (nat_le (length path) 255) (not (is_reserved path)) (and_parts (nat_le (length path) 255 && not (is_reserved path)) (has_segments path) h).0).1)
    where
      first : (a b d : Bool) → not ((a || b) || d) ≡ true → a ≡ false
      first true b d e = absurd cc
      first false b d e = refl

  pub package_in : (path its_name : ℕ) → path < strings → its_name < strings → is_path (text_of c path) ≡ true → is_name (text_of c its_name) ≡ true → InGrammar pkg c (record { path = path; name = its_name })
  package_in path its_name hp hn valid named =
      let plain = no_builtin (text_of c path) valid in
      let one : is_package_path (text_of c path) ≡ true = ap (λ (b : Bool). b || is_path (text_of c path)) plain ∙ valid in
      let two : is_package_name (text_of c path) (text_of c its_name) ≡ true = ap (λ (b : Bool). cond b (is_builtin (text_of c its_name)) (is_name (text_of c its_name))) plain ∙ named in
      ((passes (is_package_path (text_of c path)) BadText one, passes (is_package_name (text_of c path) (text_of c its_name)) BadText two), (text_fits path hp, (text_fits its_name hn, tt)), table_small (pkg.items (record { path = path; name = its_name })) (lit≤ tt))

  pub name_in : (e : Entry) → e.name < strings → is_name (text_of c e.name) ≡ true → InGrammar name c (name_of e)
  name_in e h named =
      ((refl, (passes (is_name (text_of c e.name)) BadText named, refl)), ((lit< tt, omega (arith, over.packages_are), lit< tt), (text_fits e.name h, (lit< tt, tt))), table_small (name.items (name_of e)) (lit≤ tt))

  number_in : (n : ℕ) → 1 ≤ n → n < 2 ^ 32 → place_number c n ≡ None
  number_in n low high = rw (lt-ltb 0 n (omega arith), lt-ltb n (2 ^ 32) high) refl

  magnitude_in : (bytes : List ℕ) → is_big false bytes ≡ true → is_magnitude bytes ≡ true
  magnitude_in bytes h = ap (λ (b : Bool). b || is_big true bytes) h

  value_fits : (v : ValueEl) (n : ℕ) → IsValueOf c.texts v n → whole_value.fits c v
  value_fits (value.Int64 (pos m)) n h = (refl, (refl, refl))
  value_fits (value.Int64 (negsuc m)) n h = absurd h
  value_fits (value.Big k true) n h = absurd h
  value_fits (value.Big k false) n h = (refl, (refl, (passes (is_magnitude (text_of c k)) BadText (magnitude_in (text_of c k) h.1), passes (is_big false (text_of c k)) BadText h.1)))

  value_items : (v : ValueEl) (n : ℕ) → length c.texts ≡ strings → IsValueOf c.texts v n → AllByRecursion (ItemFits c) (whole_value.items v)
  value_items (value.Int64 (pos m)) n same h = (tt, (lit< tt, (omega (arith, h.1), tt)))
  value_items (value.Int64 (negsuc m)) n same h = absurd h
  value_items (value.Big k true) n same h = absurd h
  value_items (value.Big k false) n same h = (tt, (lit< tt, (text_fits k (omega (arith, same, h.0)), (tt, tt))))

  pub object_in : (e : Entry) (n : ℕ) → length c.texts ≡ strings → e.base < bases → 0 < types → 1 ≤ e.line → e.line < 2 ^ 32 → 1 ≤ e.column → e.column < 2 ^ 32 → IsValueOf c.texts e.value n → InGrammar constant c (object_of e)
  object_in e n same base some l1 l2 c1 c2 valued = (
    ((refl, (refl, (number_in e.line l1 l2, number_in e.column c1 c2))), ((refl, refl), value_fits e.value n valued)),
    (tt, ((lit< tt, omega (arith, over.bases_are), omega arith), (omega arith, (omega arith, (tt, ((lit< tt, omega (arith, over.types_are), lit< tt), value_items e.value n same valued)))))),
    table_small (constant.items (object_of e)) (omega (arith, items-constant e)),
  )

  uses_fit : (a n : ℕ) → AllByRecursion (object_use.fits c) (map use_of (range_with_len a n))
  uses_fit a zero = tt
  uses_fit a (suc n) = ((refl, (refl, refl)), uses_fit (a + 1) n)

  all_both : (xs ys : List Item) → AllByRecursion (ItemFits c) xs → AllByRecursion (ItemFits c) ys → AllByRecursion (ItemFits c) (xs ++ ys)
  all_both [] ys a b = b
  all_both (x ∷ xs) ys a b = (a.0, all_both xs ys a.1 b)

  uses_items : (a n : ℕ) → a + n ≤ entries → AllByRecursion (ItemFits c) (flat_map object_use.items (map use_of (range_with_len a n)))
  uses_items a zero h = tt
  uses_items a (suc n) h = (tt, ((lit< tt, omega (arith, over.objects_are), omega arith), (lit< tt, uses_items (a + 1) n (omega arith))))

  pub public_in : entries ≤ 4096 → InGrammar public_root c (record { pkg = 0; objects = map use_of (range_with_len 0 entries) })
  public_in few =
      let count : length (map use_of (range_with_len 0 entries)) ≡ entries = length-map (range_with_len 0 entries) use_of ∙ length-range_with_len 0 entries in (
        (refl, (refl, uses_fit 0 entries)),
        ((lit< tt, omega (arith, over.packages_are), lit< tt), (tt, (omega (arith, count), uses_items 0 entries (omega arith)))),
        table_small (public_root.items (record { pkg = 0; objects = map use_of (range_with_len 0 entries) })) (omega (arith, items-public (range_with_len 0 entries), length-range_with_len 0 entries)),
      )

  -- an entry after the one before it
  abbrev after : Option BelowEl → List ℕ → Type 0
  after None path = Unit {0}
  after (Some b) path = slice_cmp nat_cmp (text_of c b.path) path ≡ Less

  next_in : (before : Option BelowEl) (b : BelowEl) (d : Below) → IsBelowOf c.texts b d → IsBelow d → after before d.path → (below_entry before).fits c b
  next_in None b d is good later = (passes (is_path (text_of c b.path)) BadText (ap is_path is.path.is ∙ good.path), (passes (is_print (text_of c b.print)) BadText (eq-eqb (length (text_of c b.print)) 8 (ap length is.print.is ∙ good.print)), refl))
  next_in (Some a) b d is good later =
      let path : is_path (text_of c b.path) ≡ true = ap is_path is.path.is ∙ good.path in
      let less : is_before (text_of c a.path) (text_of c b.path) ≡ true = ap (λ (t : List ℕ). is_lt (slice_cmp nat_cmp (text_of c a.path) t)) is.path.is ∙ ap is_lt later in
      (passes_both (is_path (text_of c b.path)) (is_before (text_of c a.path) (text_of c b.path)) WrongCount BadText path less, (passes (is_print (text_of c b.print)) BadText (eq-eqb (length (text_of c b.print)) 8 (ap length is.print.is ∙ good.print)), refl))

  below_fits : (before : Option BelowEl) (bs : List BelowEl) (ds : List Below) → AreBelow c.texts bs ds → AllByRecursion IsBelow ds → AllByRecursion (λ path. after before path) (map (λ d. d.path) ds) → IsStrictlySortedBy (slice_cmp nat_cmp) (map (λ d. d.path) ds) → fits_by below_entry c before bs
  unfolding IsStrictlySortedBy
  below_fits before [] [] h good later sorted = tt
  below_fits before [] (d ∷ ds) h good later sorted = tt
  below_fits before (b ∷ bs) [] h good later sorted = absurd h
  below_fits before (b ∷ bs) (d ∷ ds) h good later sorted =
      (next_in before b d h.0 good.0 later.0, below_fits (Some b) bs ds h.1 good.1 (behind (map (λ d. d.path) ds) sorted.0) sorted.1)
    where
      behind : (ps : List (List ℕ)) → AllByRecursion (λ p. slice_cmp nat_cmp d.path p ≡ Less) ps → AllByRecursion (λ path. after (Some b) path) ps
      behind [] k = tt
      behind (p ∷ ps) k = (ap (λ (t : List ℕ). slice_cmp nat_cmp t p) h.0.path.is ∙ k.0, behind ps k.1)

  below_items : (before : Option BelowEl) (bs : List BelowEl) (ds : List Below) → length c.texts ≡ strings → AreBelow c.texts bs ds → AllByRecursion (ItemFits c) (items_by below_entry before bs)
  below_items before [] ds same h = tt
  below_items before (b ∷ bs) [] same h = absurd h
  below_items before (b ∷ bs) (d ∷ ds) same h = (text_fits b.path (omega (arith, same, h.0.path.there)), (text_fits b.print (omega (arith, same, h.0.print.there)), (tt, below_items (Some b) bs ds same h.1)))

  pub private_in : (bs : List BelowEl) (ds : List Below) → length c.texts ≡ strings → length bs ≤ 1024 → AreBelow c.texts bs ds → IsListed ds → InGrammar private_root c (record { below = bs })
  private_in bs ds same few h listed =
      (below_fits None bs ds h listed.each (anything (map (λ d. d.path) ds)) listed.ascending, (omega arith, below_items None bs ds same h), table_small (private_root.items (record { below = bs })) (omega (arith, items-private None bs)))
    where
      anything : (ps : List (List ℕ)) → AllByRecursion (λ path. after None path) ps
      anything [] = tt
      anything (p ∷ ps) = (tt, anything ps)
