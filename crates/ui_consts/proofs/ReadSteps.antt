-- Steps of the reader.
use Rattle.std.proofs.Common.{◌≡◌, ℕ, zero, suc, ◌+◌, ◌-◌, ◌^◌, ◌<◌, ◌≤◌, Bool, true, false, cond, not, List, [], ◌∷◌, ◌++◌, map, take, length, get_or, option_map, Option, Some, None, refl, sym, ap, ◌∙◌, subst, arith}
use Rattle.std.specs.Prelude.{bytes_eq, slice_get, slice_index, nat_eq, nat_le, nat_lt, IfSome}
use Rattle.std.specs.Option.{option_and_then}
use Rattle.std.specs.FinMap.{from_entries, insert}
use Rattle.std.proofs.lemmas.Bool.{and_parts, eqb-true, ltb-true, ne_eqb, eq-eqb}
use Rattle.std.proofs.lemmas.List.{take_more, map-append}
use Rattle.ui_frame.specs.Container.{Parts, section}
use Rattle.ui_frame.specs.declared.section.Section.TheVariants.{Name, Obj}
use Rattle.ui_strpos.specs.declared.fault.Cause.{Cause}
use Rattle.ui_strpos.specs.declared.fault.Cause.TheVariants.{BadText}
use Rattle.ui_strpos.specs.Reading.{Context, text_of}
use Rattle.ui_strpos.specs.Format.{fits_by}
use Rattle.ui_eobj.specs.Values.{is_big, magnitude, whole_value}
use Rattle.ui_eobj.specs.Objects.{constant}
use Rattle.ui_eobj.specs.Roots.{below_entry, is_print, private_root}
use Rattle.ui_eobj.specs.declared.root.PrivateRootEl.{PrivateRootEl}
use Rattle.ui_eobj.specs.declared.object.ConstEl.{ConstEl}
use Rattle.ui_eobj.specs.declared.root.BelowEl.{BelowEl}
use Rattle.ui_eobj.specs.declared.value.ValueEl.{ValueEl}
use Rattle.ui_eobj.specs.declared.value.ValueEl.TheVariants as value
use Rattle.ui_exports.specs.Adding.{with_decls}
use Rattle.ui_exports.specs.Export.{Declaration, Declarations, Export}
use Rattle.ui_exports.specs.Linked.{Below, below}
use Rattle.ui_exports.specs.declared.linked.Below.{Below as Held}
use Rattle.ui_consts.specs.Elements.{type_bytes}
use Rattle.ui_consts.specs.Known.{HavePrints, IsSmallValue}
use Rattle.ui_consts.specs.Record.{below_by}
use Rattle.ui_consts.specs.Reading.{entry_in, entries_from, entries_in}

-- ---- elements that aren't there

pub none_there : (xs : List (List ℕ)) (k : ℕ) → None ≡ slice_get xs k → [] ≡ get_or xs k []
none_there [] k e = refl
none_there (x ∷ xs) zero e = absurd cc
none_there (x ∷ xs) (suc k) e = none_there xs k e

pub no_type : (xs : List (List ℕ)) (k : ℕ) → None ≡ slice_get xs k → false ≡ bytes_eq (get_or xs k []) type_bytes
no_type xs k e = ap (λ (t : List ℕ). bytes_eq t type_bytes) (none_there xs k e)

-- ---- what is known of elements that were read

passes : (b : Bool) (d : Cause) → cond b None (Some d) ≡ None → b ≡ true
passes true d e = refl
passes false d e = absurd cc

pub value_small : (c : Context) (o : ConstEl) → constant.fits c o → IsSmallValue c.texts o.value
value_small c o fits = by o.value fits.1.1
  where
    by : (v : ValueEl) → whole_value.fits c v → IsSmallValue c.texts v
    by (value.Int64 z) h = tt
    by (value.Big k true) h = tt
    by (value.Big k false) h =
        let big : is_big false (text_of c k) ≡ true = passes (is_big false (text_of c k)) BadText h.1.1.1 in
        let range = and_parts (nat_le (2 ^ 63) (magnitude (text_of c k))) (nat_lt (magnitude (text_of c k)) (2 ^ 127)) (and_parts (not (nat_eq (slice_index (text_of c k) 0) 0)) _ big).1 in
        ltb-true (magnitude (text_of c k)) (2 ^ 127) range.1

pub have_prints : (c : Context) (before : Option BelowEl) (bs : List BelowEl) → fits_by below_entry c before bs → HavePrints c.texts bs
have_prints c before [] fits = tt
have_prints c before (b ∷ bs) fits = (eqb-true (length (text_of c b.print)) 8 (passes (is_print (text_of c b.print)) BadText fits.0.1.0), have_prints c (Some b) bs fits.1)

-- ---- the packages below

pub print_at : (strings : List (List ℕ)) (bs : List BelowEl) (i : ℕ) (d : BelowEl) → HavePrints strings bs → i < length bs → length (get_or strings (get_or bs i d).print []) ≡ 8
print_at strings [] i d all h = absurd (omega arith)
print_at strings (b ∷ bs) zero d all h = all.0
print_at strings (b ∷ bs) (suc i) d all h = print_at strings bs i d all.1 (omega arith)

pub below_turn : (strings : List (List ℕ)) (bs : List BelowEl) (i : ℕ) (b d : BelowEl) (old new : List Held) (held : Held) → i < length bs → b ≡ get_or bs i d → new ≡ old ++ held ∷ [] → below held ≡ below_by strings b → map below old ≡ map (below_by strings) (take i bs) → map below new ≡ map (below_by strings) (take (i + 1) bs)
below_turn strings bs i b d old new held h is pushed same so_far =
    let more : take (i + 1) bs ≡ take i bs ++ b ∷ [] = take_more bs i d h ∙ ap (λ (x : BelowEl). take i bs ++ x ∷ []) (sym is) in
    ap (map below) pushed ∙ map-append below old (held ∷ [])
    ∙ ap (λ (xs : List Below). xs ++ below held ∷ []) so_far ∙ ap (λ (x : Below). map (below_by strings) (take i bs) ++ x ∷ []) same
    ∙ sym (map-append (below_by strings) (take i bs) (b ∷ [])) ∙ ap (map (below_by strings)) (sym more)

-- ---- the constants, from the last on

module _ (parts : Parts) (count : ℕ) where
  -- a package with the constants from a place on
  abbrev pub from_place : Export → ℕ → Option Export
  from_place e k = option_map (λ es. with_decls e (from_entries es)) (entries_from parts k (count - k))

  pub from_end : (e : Export) (k : ℕ) → e.decls ≡ from_entries [] → count ≤ k → Some e ≡ from_place e k
  unfolding entries_from
  from_end e k none h =
      let left : count - k ≡ 0 = omega arith in
      rw left (ap (λ (m : Declarations). Some (with_decls e m)) none)

  pub from_turn : (e now new : Export) (k : ℕ) (entry : List ℕ × Declaration) → 0 < k → k ≤ count → Some entry ≡ entry_in parts (k - 1) → new ≡ with_decls now (insert now.decls entry.0 entry.1) → Some now ≡ from_place e k → Some new ≡ from_place e (k - 1)
  unfolding entries_from
  from_turn e now new k entry some within is added so_far =
      let left : count - (k - 1) ≡ suc (count - k) = omega arith in
      let next : suc (k - 1) ≡ k = omega arith in
      rw (left, sym is, next) (more (entries_from parts k (count - k)) so_far)
    where
      more : (o : Option (List (List ℕ × Declaration))) → Some now ≡ option_map (λ es. with_decls e (from_entries es)) o → Some new ≡ option_map (λ es. with_decls e (from_entries es)) (option_map (λ es. entry ∷ es) o)
      more None h = absurd cc
      more (Some es) h =
          let same : now ≡ with_decls e (from_entries es) = cc in
          ap Some (added ∙ ap (λ (x : Export). with_decls x (insert x.decls entry.0 entry.1)) same)

  -- a place where no constant stands
  none_before : (k n : ℕ) → entries_from parts (suc k) n ≡ None → entries_from parts k (suc n) ≡ None
  unfolding entries_from
  none_before k n e = rw e (by (entry_in parts k))
    where
      by : (o : Option (List ℕ × Declaration)) → option_and_then (λ e. option_map (λ es. e ∷ es) None) o ≡ None
      by None = refl
      by (Some x) = refl

  none_all : (k n : ℕ) → entries_from parts k n ≡ None → entries_from parts 0 (k + n) ≡ None
  none_all zero n e = ap (entries_from parts 0) (omega arith) ∙ e
  none_all (suc k) n e = ap (entries_from parts 0) (omega arith) ∙ none_all k (suc n) (none_before k n e)

  pub from_none : (e : Export) (k : ℕ) → 0 < k → k ≤ count → None ≡ entry_in parts (k - 1) → None ≡ from_place e 0
  unfolding entries_from
  from_none e k some within is =
      let here : entries_from parts (k - 1) (suc (count - k)) ≡ None = rw (sym is) refl in
      let all : entries_from parts 0 (count - 0) ≡ None = ap (entries_from parts 0) (omega arith) ∙ none_all (k - 1) (suc (count - k)) here in
      rw all refl

-- as many Names as Objs, or not
pub all_of : (parts : Parts) (e : Export) (count : ℕ) → count ≡ length (section Name parts) → count ≡ length (section Obj parts) → from_place parts count e 0 ≡ option_map (λ es. with_decls e (from_entries es)) (entries_in parts)
all_of parts e count names objects =
    let left : count - 0 ≡ length (section Name parts) = omega arith in
    rw (eq-eqb (length (section Name parts)) (length (section Obj parts)) (sym names ∙ objects), left) refl

pub none_of : (parts : Parts) (e : Export) (count : ℕ) → count ≡ length (section Name parts) → (count ≡ length (section Obj parts) → ⊥) → None ≡ option_map (λ es. with_decls e (from_entries es)) (entries_in parts)
none_of parts e count names other = rw (ne_eqb (length (section Name parts)) (length (section Obj parts)) (λ same. other (names ∙ same))) refl

pub prints_of : (c : Context) (o : Option PrivateRootEl) (r : PrivateRootEl) (bs : List BelowEl) → o ≡ Some r → IfSome o (private_root.fits c) → bs ≡ r.below → HavePrints c.texts bs
prints_of c None r bs e h same = absurd cc
prints_of c (Some x) r bs e h same = subst (HavePrints c.texts) (sym (same ∙ sym (ap (λ (y : PrivateRootEl). y.below) (some_is x r e)))) (have_prints c None x.below h)
  where
    some_is : (x y : PrivateRootEl) → Some x ≡ Some y → x ≡ y
    some_is x y h = cc
