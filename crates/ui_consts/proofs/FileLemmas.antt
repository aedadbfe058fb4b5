-- The sections of a file, one after another.
use Rattle.std.proofs.Common.{◌≡◌, ℕ, ◌^◌, ◌≤◌, List, [], ◌∷◌, map, length, sym, ap, ◌∙◌, subst, arith, replicate, min}
use Rattle.std.specs.List.{AllByRecursion, range_with_len}
use Rattle.std.proofs.lemmas.List.FromFn.{length-range_with_len}
use Rattle.ui_frame.specs.Container.{Parts, no_elements}
use Rattle.ui_frame.specs.declared.section.Section.TheVariants.{Str, Meta, PosBase, Pkg, Name, Types, Obj, ObjExt, ObjDict}
use Rattle.ui_strpos.specs.Reading.{Context}
use Rattle.ui_strpos.specs.Format.{InGrammar}
use Rattle.ui_strpos.specs.Elements.{posbase, pkg, name}
use Rattle.ui_eobj.specs.Objects.{constant}
use Rattle.ui_eobj.specs.Roots.{public_root, private_root}
use Rattle.ui_eobj.specs.declared.root.ObjectUse.{ObjectUse}
use Rattle.std.specs.Prelude.{None}
use Rattle.ui_exports.specs.Linked.{Linked}
use Rattle.ui_consts.specs.Elements.{spelled, spelled_as, base_of, package_of, name_of, object_of, public_of, use_of, type_bytes, extension_bytes, dictionary_bytes}
use Rattle.ui_consts.specs.Record.{over}
use Rattle.ui_consts.specs.Numbering.{Numbers, elements_of, entry}
use Rattle.ui_consts.specs.Writing.{AddsAll, IsFront, IsMiddle, with_elements}
use Rattle.ui_consts.specs.declared.numbered.Numbered.{Numbered}
use Rattle.ui_consts.specs.declared.numbered.Entry.{Entry}
use Rattle.ui_consts.proofs.WriteLemmas.{front_is, items-private, items-public, middle_is, room_at_first, same_for_all, types-same}

module _ (x : Numbered) (l : Linked) (numbers : Numbers x l) where
  pub bases_ready : (bs : List ℕ) → bs ≡ x.bases.items → (c : Context) × AllByRecursion (λ file. InGrammar posbase c (base_of file)) bs
  bases_ready bs e = (over (spelled (elements_of x)), subst (AllByRecursion (λ file. InGrammar posbase (over (spelled (elements_of x))) (base_of file))) (sym e) numbers.fits.bases)

  pub names_ready : (es : List Entry) → es ≡ x.entries.items → (c : Context) × AllByRecursion (λ e. InGrammar name c (name_of e)) (map entry es)
  names_ready es e = (over (spelled (elements_of x)), subst (λ (fs : List Entry). AllByRecursion (λ e. InGrammar name (over (spelled (elements_of x))) (name_of e)) (map entry fs)) (sym e) numbers.fits.names)

  pub objects_ready : (es : List Entry) → es ≡ x.entries.items → (c : Context) × AllByRecursion (λ e. InGrammar constant c (object_of e)) (map entry es)
  objects_ready es e = (over (spelled (elements_of x)), subst (λ (fs : List Entry). AllByRecursion (λ e. InGrammar constant (over (spelled (elements_of x))) (object_of e)) (map entry fs)) (sym e) numbers.fits.objects)

  uses_are : (uses : List ObjectUse) (count : ℕ) → count ≡ length x.entries.items → uses ≡ map use_of (range_with_len 0 count) → uses ≡ (public_of (elements_of x)).objects
  uses_are uses count same e = e ∙ ap (λ (n : ℕ). map use_of (range_with_len 0 n)) same

  pub public_ready : (uses : List ObjectUse) (count : ℕ) → count ≡ length x.entries.items → uses ≡ map use_of (range_with_len 0 count) → (c : Context) × InGrammar public_root c (record { pkg = 0; objects = uses })
  public_ready uses count same e =
      (over (spelled (elements_of x)), subst (λ (us : List ObjectUse). InGrammar public_root (over (spelled (elements_of x))) (record { pkg = 0; objects = us })) (sym (uses_are uses count same e)) numbers.fits.public_root)

  pub public_few : (uses : List ObjectUse) (count : ℕ) → count ≡ length x.entries.items → uses ≡ map use_of (range_with_len 0 count) → length (public_root.items (record { pkg = 0; objects = uses })) ≤ 2 ^ 16
  public_few uses count same e =
      let n = items-public (range_with_len 0 (length x.entries.items)) in
      let few : length (public_root.items (record { pkg = 0; objects = map use_of (range_with_len 0 (length x.entries.items)) })) ≤ 2 ^ 16 = omega (arith, n, length-range_with_len 0 (length x.entries.items), numbers.few) in
      subst (λ (us : List ObjectUse). length (public_root.items (record { pkg = 0; objects = us })) ≤ 2 ^ 16) (sym (uses_are uses count same e)) few

  pub public_same : (uses : List ObjectUse) (count : ℕ) (old new : Parts) → count ≡ length x.entries.items → uses ≡ map use_of (range_with_len 0 count) → AddsAll Meta (spelled_as public_root (record { pkg = 0; objects = uses }) ∷ []) old new → AddsAll Meta (spelled_as public_root (public_of (elements_of x)) ∷ []) old new
  public_same uses count old new same e a = subst (λ (us : List ObjectUse). AddsAll Meta (spelled_as public_root (record { pkg = 0; objects = us }) ∷ []) old new) (uses_are uses count same e) a

  pub private_few : length (private_root.items x.below) ≤ 2 ^ 16
  private_few = omega (arith, items-private None x.below.below, numbers.below)

  pub front_ready : (ss : List (List ℕ)) (bs : List ℕ) (es : List Entry) (p0 p1 p2 p3 p4 : Parts) → ss ≡ x.strings.items → bs ≡ x.bases.items → es ≡ x.entries.items → p0 ≡ no_elements → AddsAll Str ss p0 p1 → AddsAll PosBase (map (λ file. spelled_as posbase (base_of file)) bs) p1 p2 → AddsAll Pkg (spelled_as pkg (package_of (elements_of x)) ∷ []) p2 p3 → AddsAll Name (map (λ e. spelled_as name (name_of e)) (map entry es)) p3 p4 → IsFront (elements_of x) p4
  front_ready ss bs es p0 p1 p2 p3 p4 a b c empty s1 s2 s3 s4 = record {
    is = front_is (elements_of x) p0 p1 p2 p3 p4 empty
        (s1.parts ∙ ap (λ (ts : List (List ℕ)). with_elements Str ts p0) a)
        (s2.parts ∙ ap (λ (fs : List ℕ). with_elements PosBase (map (λ file. spelled_as posbase (base_of file)) fs) p1) b)
        s3.parts
        (s4.parts ∙ ap (λ (fs : List Entry). with_elements Name (map (λ e. spelled_as name (name_of e)) (map entry fs)) p3) c);
    room = s4.room 6 (s3.room 7 (s2.room 8 (s1.room 9 (room_at_first p0 empty))));
  }

  pub middle_ready : (es : List Entry) (count k : ℕ) (p0 p1 p2 p3 p4 : Parts) → es ≡ x.entries.items → count ≡ length x.entries.items → k ≡ min count 1 → IsFront (elements_of x) p0 → AddsAll Types (replicate k type_bytes) p0 p1 → AddsAll Obj (map (λ e. spelled_as constant (object_of e)) (map entry es)) p1 p2 → AddsAll ObjExt (replicate count extension_bytes) p2 p3 → AddsAll ObjDict (replicate count dictionary_bytes) p3 p4 → IsMiddle (elements_of x) p4
  middle_ready es count k p0 p1 p2 p3 p4 a b one front s1 s2 s3 s4 = record {
    is = middle_is (elements_of x) p0 p1 p2 p3 p4 front.is
        (s1.parts ∙ ap (λ (ts : List (List ℕ)). with_elements Types ts p0) (types-same x.entries.items k (one ∙ ap (λ n. min n 1) b)))
        (s2.parts ∙ ap (λ (fs : List Entry). with_elements Obj (map (λ e. spelled_as constant (object_of e)) (map entry fs)) p1) a)
        (s3.parts ∙ ap (λ (ts : List (List ℕ)). with_elements ObjExt ts p2) (same_for_all extension_bytes x.entries.items count b))
        (s4.parts ∙ ap (λ (ts : List (List ℕ)). with_elements ObjDict ts p3) (same_for_all dictionary_bytes x.entries.items count b));
    room = s4.room 2 (s3.room 3 (s2.room 4 (s1.room 5 front.room)));
  }
