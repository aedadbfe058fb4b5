-- What elements stand for is read from them.
use Rattle.std.proofs.Common.{◌≡◌, ℕ, zero, suc, ◌+◌, ◌<◌, true, List, [], ◌∷◌, map, length, get_or, option_map, Option, Some, pos, eq-eqb, refl, sym, ap, ◌∙◌, arith}
use Rattle.std.specs.Prelude.{bytes_eq, slice_get}
use Rattle.std.specs.Option.{option_and_then}
use Rattle.std.specs.List.{AllByRecursion}
use Rattle.std.proofs.lemmas.List.{length-map}
use Rattle.ui_frame.specs.Container.{Parts, section}
use Rattle.ui_frame.specs.declared.section.Section.{Section}
use Rattle.ui_frame.specs.declared.section.Section.TheVariants.{Str, Meta, PosBase, Pkg, Name, Obj}
use Rattle.ui_strpos.specs.Items.{spelling}
use Rattle.ui_strpos.specs.Format.{Format, InGrammar, Lawful, element_in}
use Rattle.ui_strpos.specs.Whole.{element_again}
use Rattle.ui_strpos.specs.ElementLaws.{posbase_lawful, pkg_lawful, name_lawful}
use Rattle.ui_strpos.specs.Elements as one
use Rattle.ui_strpos.specs.declared.posbase.PosBaseEl.{PosBaseEl}
use Rattle.ui_strpos.specs.declared.pkg.PkgEl.{PkgEl}
use Rattle.ui_eobj.specs.ObjectLaws.{constant_lawful, private_root_lawful}
use Rattle.ui_eobj.specs.Objects as object
use Rattle.ui_eobj.specs.Roots as root
use Rattle.ui_eobj.specs.declared.value.ValueEl.TheVariants as value
use Rattle.ui_eobj.specs.declared.root.PrivateRootEl.{PrivateRootEl}
use Rattle.ui_exports.specs.Linked.{Linked}
use Rattle.ui_consts.specs.Elements.{Elements, Entry, spelled, spelled_as, base_of, package_of, name_of, object_of, private_of, types_of, type_bytes}
use Rattle.ui_consts.specs.Record.{Fits, IsPositive, StandsFor, declared_by, below_by, meaning, number, over, text_of, value_of}
use Rattle.ui_consts.specs.Reading.{read_of, element, text_in, package_in, const_name, name_in, file_in, is_whole_type, declared, object_in, entry_in, entries_from, entries_in, export_in, below_in, record_in}

-- an element that stands at a place is read there
again : {A : Type 0} (f : Format A) (parts : Parts) (s : Section) (k : ℕ) (a : A) → Lawful f → InGrammar f (over parts) a → slice_get (section s parts) k ≡ Some (spelling (f.items a)) → element f parts s k ≡ Some a
unfolding element
again f parts s k a law fits there =
    ap (option_and_then (λ bytes. read_of (element_in f (over parts) bytes))) there ∙ ap read_of (element_again f (over parts) a (spelling (f.items a)) law fits refl)

-- an item of a list that was mapped
mapped_at : {A B : Type 0} (f : A → B) (P : A → Type 0) (xs : List A) (k : ℕ) (d : A) → AllByRecursion P xs → k < length xs → P (get_or xs k d) × (slice_get (map f xs) k ≡ Some (f (get_or xs k d)))
mapped_at f P [] k d all h = absurd (omega arith)
mapped_at f P (x ∷ xs) zero d all h = (all.0, refl)
mapped_at f P (x ∷ xs) (suc k) d all h = mapped_at f P xs k d all.1 (omega arith)

all_at : {A : Type 0} (P : A → Type 0) (xs : List A) (k : ℕ) (d : A) → AllByRecursion P xs → k < length xs → P (get_or xs k d)
all_at P [] k d all h = absurd (omega arith)
all_at P (x ∷ xs) zero d all h = all.0
all_at P (x ∷ xs) (suc k) d all h = all_at P xs k d all.1 (omega arith)

none : Entry
none = record { name = 0; base = 0; line = 0; column = 0; value = value.Int64 (pos 0) }

module _ (x : Elements) (fits : Fits x) where
  abbrev parts : Parts
  parts = spelled x

  package-read : package_in parts ≡ Some (text_of x.strings x.path, text_of x.strings x.name)
  unfolding spelled
  package-read = ap (option_map (λ (p : PkgEl). (text_in parts p.path, text_in parts p.name))) (again one.pkg parts Pkg 0 (package_of x) pkg_lawful fits.its_package refl)

  below-read : below_in parts ≡ Some (map (below_by x.strings) x.below)
  unfolding below_in spelled
  below-read = ap (option_map (λ (r : PrivateRootEl). map (below_by (section Str parts)) r.below)) (again root.private_root parts Meta 1 (private_of x) private_root_lawful fits.private_root refl)

  name-read : (k : ℕ) → k < length x.entries → name_in parts k ≡ Some (text_of x.strings (get_or x.entries k none).name)
  unfolding spelled
  name-read k h =
      let at = mapped_at (λ e. spelled_as one.name (name_of e)) (λ e. InGrammar one.name (over parts) (name_of e)) x.entries k none fits.names h in
      ap (option_and_then (const_name parts)) (again one.name parts Name k (name_of (get_or x.entries k none)) name_lawful at.0 at.1)

  file-read : (k : ℕ) → k < length x.bases → file_in parts k ≡ Some (text_of x.strings (get_or x.bases k 0))
  unfolding spelled
  file-read k h =
      let at = mapped_at (λ file. spelled_as one.posbase (base_of file)) (λ file. InGrammar one.posbase (over parts) (base_of file)) x.bases k 0 fits.bases h in
      ap (option_map (λ (b : PosBaseEl). text_in parts b.file)) (again one.posbase parts PosBase k (base_of (get_or x.bases k 0)) posbase_lawful at.0 at.1)

  -- the Type of a constant is there
  whole-type : (es : List Entry) (k : ℕ) → k < length es → bytes_eq (text_of (types_of es) 0) type_bytes ≡ true
  whole-type [] k h = absurd (omega arith)
  whole-type (e ∷ es) k h = refl

  declared-read : (e : Entry) (n : ℕ) → InGrammar object.constant (over parts) (object_of e) → value_of x.strings e.value ≡ Some n → is_whole_type parts 0 ≡ true
      → declared parts (object_of e) ≡ Some (record { file = text_of x.strings (get_or x.bases e.base 0); line = e.line; column = e.column; value = n })
  unfolding spelled
  declared-read e n is value whole =
      let base : e.base < length x.bases = omega (arith, is.1.1.0.1, length-map x.bases (λ file. spelled_as one.posbase (base_of file))) in
      rw (whole, file-read e.base base, value) refl

  object-read : (k : ℕ) → k < length x.entries → object_in parts k ≡ Some (declared_by x.strings x.bases (get_or x.entries k none)).1
  unfolding spelled
  object-read k h =
      let e : Entry = get_or x.entries k none in
      let at = mapped_at (λ d. spelled_as object.constant (object_of d)) (λ d. InGrammar object.constant (over parts) (object_of d)) x.entries k none fits.objects h in
      let value = all_at (IsPositive x.strings) x.entries k none fits.values h in
      let is : declared parts (object_of e) ≡ Some (record { file = text_of x.strings (get_or x.bases e.base 0); line = e.line; column = e.column; value = value.0 }) = declared-read e value.0 at.0 value.1 (whole-type x.entries k h) in
      ap (option_and_then (declared parts)) (again object.constant parts Obj k (object_of e) constant_lawful at.0 at.1)
      ∙ is ∙ ap (λ (o : Option ℕ). Some (record { file = text_of x.strings (get_or x.bases e.base 0); line = e.line; column = e.column; value = number o })) (sym value.1)

  entry-read : (k : ℕ) → k < length x.entries → entry_in parts k ≡ Some (declared_by x.strings x.bases (get_or x.entries k none))
  unfolding entry_in
  entry-read k h = rw (name-read k h, object-read k h) refl

  entries-read : (k : ℕ) (es : List Entry) → ((j : ℕ) → j < length es → entry_in parts (k + j) ≡ Some (declared_by x.strings x.bases (get_or es j none))) → entries_from parts k (length es) ≡ Some (map (declared_by x.strings x.bases) es)
  unfolding entries_from
  entries-read k [] h = refl
  entries-read k (e ∷ es) h =
      let first : entry_in parts k ≡ Some (declared_by x.strings x.bases e) = ap (entry_in parts) (omega arith) ∙ h 0 (omega arith) in
      let rest = entries-read (suc k) es (λ j lt. ap (entry_in parts) (omega arith) ∙ h (suc j) (omega arith)) in
      rw (first, rest) refl

  all-read : entries_in parts ≡ Some (map (declared_by x.strings x.bases) x.entries)
  unfolding spelled
  all-read =
      let names = length-map x.entries (λ e. spelled_as one.name (name_of e)) in
      let objects = length-map x.entries (λ e. spelled_as object.constant (object_of e)) in
      rw (names, objects, eq-eqb (length x.entries) (length x.entries) refl) (entries-read 0 x.entries (λ j lt. ap (entry_in parts) (omega arith) ∙ entry-read j lt))

  record-read : record_in parts ≡ Some (meaning x)
  unfolding record_in export_in meaning
  record-read = rw (package-read, all-read, below-read) refl

-- parts that stand for what a file says are read as it
pub read_back : (ps : Parts) (l : Linked) → StandsFor ps l → record_in ps ≡ Some l
read_back ps l (x, fits, is, means) = ap record_in is ∙ record-read x fits ∙ ap Some means
