-- The files of a package are written: what stood for other packages still does, and its linked file stands for it.
use Rattle.std.proofs.Common.{◌≡◌, ◌∙◌, ap, sym, subst, refl, Bool, true, false, cond, List, [], ◌∷◌, map, Option, Some}
use Rattle.std.specs.Prelude.{is_some}
use Rattle.std.specs.List.{AllByRecursion}
use Rattle.std.specs.Cmp.Lexicographic.{nat_list_cmp_total}
use Rattle.std.specs.FinMap.{get, insert, contains_key, get-insert}
use Rattle.ui_store.specs.Files.{Files, put}
use Rattle.ui_exports.specs.Linked.{Linked}
use Rattle.ui_consts.specs.Record.{Holds}
use Rattle.ui_build.specs.Plan.{Text, Entry, Put}
use Rattle.ui_build.specs.Package.{unit_file, linked_file}
use Rattle.ui_build.specs.Build.{Packages}
use Rattle.ui_build.specs.Loading.{print_in, print_of, with_print, linked_as}
use Rattle.ui_build.specs.Stops.{IsFileOf, Puts}
use Rattle.ui_build.specs.Built.{SameSources, IsBuilt, AreBuilt, Stands}
use Rattle.ui_build.proofs.Keeping.{same_name, get_other, get_same, equal_names, linked_apart, unit_elsewhere, linked_elsewhere, keeps_sources}

-- ---- packages before

some_is : {X : Type 0} (x y : X) → Some x ≡ Some y → x ≡ y
some_is x y e = cc

pub kept_key : (packages : Packages) (path q : Text) (entry : Entry) → contains_key packages q ≡ true → contains_key (insert packages path entry) q ≡ true
kept_key packages path q entry h =
    ap is_some (get-insert nat_list_cmp_total packages path entry q)
    ∙ elim (same_name q path) as (λ b. is_some (cond b (Some entry) (get packages q)) ≡ true) [ true ↦ refl | false ↦ h ]

pub kept_keys : (packages : Packages) (path : Text) (entry : Entry) (below : List (Text × Bool)) → AllByRecursion (λ b. contains_key packages b.0 ≡ true) below → AllByRecursion (λ b. contains_key (insert packages path entry) b.0 ≡ true) below
kept_keys packages path entry [] h = tt
kept_keys packages path entry (b ∷ bs) h = (kept_key packages path b.0 entry h.0, kept_keys packages path entry bs h.1)

true_false : (b : Bool) → b ≡ true → b ≡ false → ⊥
true_false true p q = absurd cc
true_false false p q = absurd cc

-- a package that isn't there has another name
pub other_package : (packages : Packages) (q path : Text) → contains_key packages q ≡ true → contains_key packages path ≡ false → same_name q path ≡ false
other_package packages q path is_there is_not = elim (same_name q path) as (λ b. same_name q path ≡ b → b ≡ false) [
  | false ↦ λ _. refl
  | true ↦ λ e. absurd (true_false (contains_key packages path) (ap (contains_key packages) (sym (equal_names q path e)) ∙ is_there) is_not)
] refl

-- ---- fingerprints of the packages below

print_kept : (told : Files) (path bytes q : Text) → same_name q path ≡ false → print_of (insert told (linked_file path) bytes) q ≡ print_of told q
print_kept told path bytes q apart = ap print_in (get_other told (linked_file path) (linked_file q) bytes (linked_apart q path apart))

print_unit : (told : Files) (path bytes q : Text) → print_of (insert told (unit_file path) bytes) q ≡ print_of told q
print_unit told path bytes q = ap print_in (get_other told (unit_file path) (linked_file q) bytes refl)

prints_kept : (told : Files) (path bytes : Text) (packages : Packages) (below : List (Text × Bool)) → AllByRecursion (λ b. contains_key packages b.0 ≡ true) below → contains_key packages path ≡ false
    → map (with_print (insert told (linked_file path) bytes)) below ≡ map (with_print told) below
prints_kept told path bytes packages [] h apart = refl
prints_kept told path bytes packages (b ∷ bs) h apart =
    λ i. record { path = b.0; print = print_kept told path bytes b.0 (other_package packages b.0 path h.0 apart) i; direct = b.1 } ∷ prints_kept told path bytes packages bs h.1 apart i

prints_unit : (told : Files) (path bytes : Text) (below : List (Text × Bool)) → map (with_print (insert told (unit_file path) bytes)) below ≡ map (with_print told) below
prints_unit told path bytes [] = refl
prints_unit told path bytes (b ∷ bs) = λ i. record { path = b.0; print = print_unit told path bytes b.0 i; direct = b.1 } ∷ prints_unit told path bytes bs i

linked_kept : (told : Files) (path bytes : Text) (packages : Packages) (entry : Entry) → AllByRecursion (λ b. contains_key packages b.0 ≡ true) entry.below → contains_key packages path ≡ false
    → linked_as (insert told (linked_file path) bytes) entry ≡ linked_as told entry
linked_kept told path bytes packages entry h apart = λ i. record { export = entry.export; below = prints_kept told path bytes packages entry.below h apart i }

pub linked_unit : (told : Files) (path bytes : Text) (entry : Entry) → linked_as (insert told (unit_file path) bytes) entry ≡ linked_as told entry
linked_unit told path bytes entry = λ i. record { export = entry.export; below = prints_unit told path bytes entry.below i }

-- a file stands for the same over other files with the same fingerprints
pub file_over : (told other : Files) (bytes : Text) (entry : Entry) → linked_as told entry ≡ linked_as other entry → IsFileOf (Some other) bytes entry → IsFileOf (Some told) bytes entry
file_over told other bytes entry same file =
    let P : Linked → Type 0 = Holds bytes in
    record { are = file.are; holds = subst P (sym same) file.holds; short = file.short }

-- ---- both files are written

abbrev written : Files → Text → Text → Text → Files
written told path one two = insert (insert told (unit_file path) one) (linked_file path) two

there_before : (told : Files) (path q one two bytes : Text) → same_name q path ≡ false → get told (linked_file q) ≡ Some bytes → get (written told path one two) (linked_file q) ≡ Some bytes
there_before told path q one two bytes apart e = get_other (insert told (unit_file path) one) (linked_file path) (linked_file q) two (linked_apart q path apart) ∙ get_other told (unit_file path) (linked_file q) one refl ∙ e

linked_written : (told : Files) (path one two : Text) (packages : Packages) (entry : Entry) → AllByRecursion (λ b. contains_key packages b.0 ≡ true) entry.below → contains_key packages path ≡ false
    → linked_as (written told path one two) entry ≡ linked_as told entry
linked_written told path one two packages entry h apart = linked_kept (insert told (unit_file path) one) path two packages entry h apart ∙ linked_unit told path one entry

-- a package before
built_before : (told : Files) (packages : Packages) (path q one two : Text) (entry new : Entry) → contains_key packages path ≡ false → same_name q path ≡ false → IsBuilt told packages q entry → IsBuilt (written told path one two) (insert packages path new) q entry
built_before told packages path q one two entry new apart other b = record {
  bytes = b.bytes;
  there = there_before told path q one two b.bytes other b.there;
  file = file_over (written told path one two) told b.bytes entry (linked_written told path one two packages entry b.below apart) b.file;
  own = b.own;
  below = kept_keys packages path new entry.below b.below;
}

-- the package itself
built_now : (told : Files) (packages : Packages) (path one two : Text) (new : Entry) → contains_key packages path ≡ false → new.export.path ≡ path → AllByRecursion (λ b. contains_key packages b.0 ≡ true) new.below
    → IsFileOf (Some (insert told (unit_file path) one)) two new → IsBuilt (written told path one two) (insert packages path new) path new
built_now told packages path one two new apart own below file = record {
  bytes = two;
  there = get_same (insert told (unit_file path) one) (linked_file path) two;
  file = file_over (written told path one two) (insert told (unit_file path) one) two new (linked_kept (insert told (unit_file path) one) path two packages new below apart) file;
  own = own;
  below = kept_keys packages path new new.below below;
}

pub are_built : (told : Files) (packages : Packages) (path one two : Text) (new : Entry) → contains_key packages path ≡ false → new.export.path ≡ path → AllByRecursion (λ b. contains_key packages b.0 ≡ true) new.below
    → IsFileOf (Some (insert told (unit_file path) one)) two new → AreBuilt told packages → AreBuilt (written told path one two) (insert packages path new)
are_built told packages path one two new apart own below file before = λ q entry found.
    let at = sym (get-insert nat_list_cmp_total packages path new q) ∙ found in
    elim (same_name q path) as (λ b. same_name q path ≡ b → cond b (Some new) (get packages q) ≡ Some entry → IsBuilt (written told path one two) (insert packages path new) q entry) [
      | true ↦ λ e is.
          let P : Text → Type 0 = λ p. IsBuilt (written told path one two) (insert packages path new) p entry in
          let Q : Entry → Type 0 = λ x. IsBuilt (written told path one two) (insert packages path new) path x in
          subst P (sym (equal_names q path e)) (subst Q (some_is new entry is) (built_now told packages path one two new apart own below file))
      | false ↦ λ e is. built_before told packages path q one two entry new apart e (before q entry is)
    ] refl at

-- the same by the files that the plan of a package wrote
abbrev both_files : Text → Entry → List Put
both_files path entry = record { unit = unit_file path; linked = linked_file path; entry = entry } ∷ []

pub stands_put : (files told : Files) (packages : Packages) (path : Text) (new : Entry) (now : Option Files) → contains_key packages path ≡ false → new.export.path ≡ path → AllByRecursion (λ b. contains_key packages b.0 ≡ true) new.below
    → Puts (both_files path new) (Some told) now → SameSources files told → AreBuilt told packages → Stands files now (insert packages path new)
unfolding put
stands_put files told packages path new now apart own below puts same built =
    let file : IsFileOf (Some (insert told (unit_file path) puts.0)) puts.0 new = file_over (insert told (unit_file path) puts.0) told puts.0 new (linked_unit told path puts.0 new) puts.1 in (
      written told path puts.0 puts.0,
      puts.2,
      keeps_sources files (insert told (unit_file path) puts.0) (linked_file path) puts.0 (linked_elsewhere path) (keeps_sources files told (unit_file path) puts.0 (unit_elsewhere path) same),
      are_built told packages path puts.0 puts.0 new apart own below file built,
    )
