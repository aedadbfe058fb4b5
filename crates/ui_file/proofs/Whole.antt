-- A file is read exactly from its spelling.
use Rattle.std.proofs.Common.{◌≡◌, ℕ, zero, suc, Bool, true, false, List, [], ◌∷◌, Result, Ok, Err, length, get_or, refl, sym, ap, ◌∙◌, inl, inr, arith}
use Rattle.std.specs.Prelude.{nat_eq, ◌&&◌, slice_index_or}
use Rattle.std.specs.List.{AllByRecursion}
use Rattle.std.proofs.lemmas.Bool.{eqb-true, eq-eqb}
use Rattle.std.proofs.lemmas.List.{length-map}
use Rattle.ui_frame.specs.Laws.{IsBytes, chosen}
use Rattle.ui_frame.specs.Reading.{◌>>=◌}
use Rattle.ui_frame.specs.Container.{Parts, section}
use Rattle.ui_frame.specs.Sections.{number_of}
use Rattle.ui_frame.specs.declared.section.Section.{Section}
use Rattle.ui_frame.specs.declared.section.Section.TheVariants.{Str, Meta, PosBase, Pkg, Name, Types, Obj, ObjExt, ObjDict, Body}
use Rattle.ui_strpos.specs.Items.{spelling}
use Rattle.ui_strpos.specs.Contexts.{context}
use Rattle.ui_strpos.specs.Reading.{Fault}
use Rattle.ui_strpos.specs.Format.{Format, InGrammar, Lawful}
use Rattle.ui_strpos.specs.Whole.{element_again, element_found}
use Rattle.ui_strpos.specs.Elements as one
use Rattle.ui_strpos.specs.ElementLaws.{posbase_lawful, pkg_lawful, name_lawful}
use Rattle.ui_eobj.specs.Roots as root
use Rattle.ui_eobj.specs.ObjectLaws.{public_root_lawful, private_root_lawful}
use Rattle.ui_etype.specs.Types.{type_el}
use Rattle.ui_etype.specs.TypeLaws.{type_el_lawful}
use Rattle.ui_edecl.specs.Objects.{object}
use Rattle.ui_edecl.specs.Extensions.{extension}
use Rattle.ui_edecl.specs.Dictionaries.{dictionary}
use Rattle.ui_edecl.specs.DeclLaws.{object_lawful, extension_lawful, dictionary_lawful}
use Rattle.ui_file.specs.declared.file.File.{File}
use Rattle.ui_file.specs.declared.bad.BadFile.{BadFile}
use Rattle.ui_file.specs.Files.{spelled_all, spelled, plain, any_shape, object_shape, extension_shape, IsFile, SpellsFile, section_in, one_placed, root_in, counts_in, bodies_in, file_in}
use Rattle.ui_file.proofs.Sections.{section_again, section_found}

bind_ok : {A B F : Type 0} (r : Result A F) (f : A → Result B F) (y : B) → (r >>= f) ≡ Ok y → (x : A) × (r ≡ Ok x) × (f x ≡ Ok y)
bind_ok (Ok x) f y e = (x, refl, e)
bind_ok (Err d) f y e = absurd cc

and_then : {A B F : Type 0} (r : Result A F) (f : A → Result B F) (x : A) (y : B) → r ≡ Ok x → f x ≡ Ok y → (r >>= f) ≡ Ok y
and_then r f x y e h = rw e h

one_again : {A : Type 0} (s k : ℕ) (r : Result A Fault) (x : A) → r ≡ Ok x → one_placed s k r ≡ Ok x
one_again s k r x e = rw e refl

one_found : {A : Type 0} (s k : ℕ) (r : Result A Fault) (x : A) → one_placed s k r ≡ Ok x → r ≡ Ok x
one_found s k (Ok y) x e = cc
one_found s k (Err d) x e = absurd cc

-- ---- from the spelling

both_true : (a b : Bool) → a ≡ true → b ≡ true → (a && b) ≡ true
both_true a b e h = rw (e, h) refl

same_many : {A B : Type 0} (f : Format A) (g : Format B) (xs : List A) (ys : List B) → length xs ≡ length ys → nat_eq (length (spelled_all f xs)) (length (spelled_all g ys)) ≡ true
same_many f g xs ys e = eq-eqb _ _ (length-map xs (λ a. spelling (f.items a)) ∙ e ∙ sym (length-map ys (λ a. spelling (g.items a))))

counts_again : (x : File) → (length x.objects ≡ length x.names) × (length x.extensions ≡ length x.names) × (length x.dictionaries ≡ length x.names) → counts_in (spelled x) ≡ Ok tt
unfolding spelled
counts_again x m =
    let objects = same_many object one.name x.objects x.names m.0 in
    let extensions = same_many extension one.name x.extensions x.names m.1 in
    let dictionaries = same_many dictionary one.name x.dictionaries x.names m.2 in
    rw (objects, extensions, dictionaries) refl

public_again : (x : File) → IsFile (spelled x) x → root_in root.public_root 0 (spelled x) ≡ Ok x.public
unfolding spelled
public_again x h = one_again 1 0 _ x.public (element_again root.public_root (context 0 plain (spelled x)) x.public _ public_root_lawful h.public refl)

private_again : (x : File) → IsFile (spelled x) x → root_in root.private_root 1 (spelled x) ≡ Ok x.private
unfolding spelled
private_again x h = one_again 1 1 _ x.private (element_again root.private_root (context 1 plain (spelled x)) x.private _ private_root_lawful h.private refl)

bases_again : (x : File) → IsFile (spelled x) x → section_in one.posbase PosBase any_shape (spelled x) ≡ Ok x.bases
unfolding spelled
bases_again x h = section_again one.posbase 2 (λ k. context k plain (spelled x)) 0 x.bases posbase_lawful h.bases

packages_again : (x : File) → IsFile (spelled x) x → section_in one.pkg Pkg any_shape (spelled x) ≡ Ok x.packages
unfolding spelled
packages_again x h = section_again one.pkg 3 (λ k. context k plain (spelled x)) 0 x.packages pkg_lawful h.packages

names_again : (x : File) → IsFile (spelled x) x → section_in one.name Name any_shape (spelled x) ≡ Ok x.names
unfolding spelled
names_again x h = section_again one.name 4 (λ k. context k plain (spelled x)) 0 x.names name_lawful h.names

types_again : (x : File) → IsFile (spelled x) x → section_in type_el Types any_shape (spelled x) ≡ Ok x.types
unfolding spelled
types_again x h = section_again type_el 5 (λ k. context k plain (spelled x)) 0 x.types type_el_lawful h.types

objects_again : (x : File) → IsFile (spelled x) x → section_in object Obj (object_shape x.names (section ObjDict (spelled x))) (spelled x) ≡ Ok x.objects
unfolding spelled
objects_again x h = section_again object 6 (λ k. context k (object_shape x.names (section ObjDict (spelled x)) k) (spelled x)) 0 x.objects object_lawful h.objects

extensions_again : (x : File) → IsFile (spelled x) x → section_in extension ObjExt (extension_shape x.names (section ObjDict (spelled x)) x.objects) (spelled x) ≡ Ok x.extensions
unfolding spelled
extensions_again x h = section_again extension 7 (λ k. context k (extension_shape x.names (section ObjDict (spelled x)) x.objects k) (spelled x)) 0 x.extensions extension_lawful h.extensions

dictionaries_again : (x : File) → IsFile (spelled x) x → section_in dictionary ObjDict any_shape (spelled x) ≡ Ok x.dictionaries
unfolding spelled
dictionaries_again x h = section_again dictionary 8 (λ k. context k plain (spelled x)) 0 x.dictionaries dictionary_lawful h.dictionaries

bodies_again : (x : File) → bodies_in (spelled x) ≡ Ok tt
unfolding spelled
bodies_again x = refl

texts_of : (x : File) → section Str (spelled x) ≡ x.texts
unfolding spelled
texts_of x = refl

abbrev taken : File → Result File BadFile
taken x = Ok x

with_texts : (x : File) (texts : List (List ℕ)) → texts ≡ x.texts
    → taken (record { texts = texts; public = x.public; private = x.private; bases = x.bases; packages = x.packages; names = x.names; types = x.types; objects = x.objects; extensions = x.extensions; dictionaries = x.dictionaries }) ≡ taken x
with_texts x texts e = rw e refl

pub file_again : (x : File) → IsFile (spelled x) x → file_in (spelled x) ≡ Ok x
unfolding file_in
file_again x h =
    let parts = spelled x in
    and_then (counts_in parts) _ tt _ (counts_again x h.as_many)
    (and_then (root_in root.public_root 0 parts) _ x.public _ (public_again x h)
    (and_then (root_in root.private_root 1 parts) _ x.private _ (private_again x h)
    (and_then (section_in one.posbase PosBase any_shape parts) _ x.bases _ (bases_again x h)
    (and_then (section_in one.pkg Pkg any_shape parts) _ x.packages _ (packages_again x h)
    (and_then (section_in one.name Name any_shape parts) _ x.names _ (names_again x h)
    (and_then (section_in type_el Types any_shape parts) _ x.types _ (types_again x h)
    (and_then (section_in object Obj (object_shape x.names (section ObjDict parts)) parts) _ x.objects _ (objects_again x h)
    (and_then (section_in extension ObjExt (extension_shape x.names (section ObjDict parts) x.objects) parts) _ x.extensions _ (extensions_again x h)
    (and_then (section_in dictionary ObjDict any_shape parts) _ x.dictionaries _ (dictionaries_again x h)
    (and_then (bodies_in parts) _ tt _ (bodies_again x)
    (with_texts x _ (texts_of x))))))))))))

-- ---- from the bytes

bytes_at : (xs : List (List ℕ)) (k : ℕ) → AllByRecursion IsBytes xs → IsBytes (get_or xs k [])
bytes_at [] k h = tt
bytes_at (x ∷ xs) zero h = h.0
bytes_at (x ∷ xs) (suc k) h = bytes_at xs k h.1

two_of : (xs : List (List ℕ)) → length xs ≡ 2 → xs ≡ get_or xs 0 [] ∷ get_or xs 1 [] ∷ []
two_of [] e = absurd cc
two_of (x ∷ []) e = absurd cc
two_of (x ∷ y ∷ []) e = refl
two_of (x ∷ y ∷ z ∷ xs) e = absurd cc

root_found : {A : Type 0} (f : Format A) (k : ℕ) (parts : Parts) (x : A) → Lawful f → AllByRecursion IsBytes (section Meta parts) → root_in f k parts ≡ Ok x
    → InGrammar f (context k plain parts) x × (get_or (section Meta parts) k [] ≡ spelling (f.items x))
root_found f k parts x law bytes e = element_found f (context k plain parts) x (get_or (section Meta parts) k []) law (bytes_at (section Meta parts) k bytes) (one_found 1 k _ x e)

empty : (xs : List (List ℕ)) → length xs ≡ 0 → xs ≡ []
empty [] e = refl
empty (x ∷ xs) e = absurd cc

bodies_found : (parts : Parts) → bodies_in parts ≡ Ok tt → section Body parts ≡ []
bodies_found parts e = elim (chosen (nat_eq (length (section Body parts)) 0) _ _ (Ok tt) e) [
  | inl p ↦ empty (section Body parts) (eqb-true _ _ p.0)
  | inr p ↦ absurd (let z = p.1 in cc)
]

and_parts : (a b : Bool) → (a && b) ≡ true → (a ≡ true) × (b ≡ true)
and_parts true b e = (refl, e)
and_parts false b e = absurd cc

counts_found : (parts : Parts) → counts_in parts ≡ Ok tt
    → (length (section Meta parts) ≡ 2) × (length (section Obj parts) ≡ length (section Name parts)) × (length (section ObjExt parts) ≡ length (section Name parts)) × (length (section ObjDict parts) ≡ length (section Name parts))
counts_found parts e = elim (chosen (nat_eq (length (section Meta parts)) 2) _ _ (Ok tt) e) [
  | inl p ↦ elim (chosen (nat_eq (length (section Obj parts)) (length (section Name parts)) && (nat_eq (length (section ObjExt parts)) (length (section Name parts)) && nat_eq (length (section ObjDict parts)) (length (section Name parts)))) _ _ (Ok tt) p.1) [
    | inl q ↦ (let a = and_parts _ _ q.0 in let b = and_parts _ _ a.1 in (eqb-true _ _ p.0, eqb-true _ _ a.0, eqb-true _ _ b.0, eqb-true _ _ b.1))
    | inr q ↦ absurd (let z = q.1 in cc)
  ]
  | inr p ↦ absurd (let z = p.1 in cc)
]

as_many : {A B : Type 0} (f : Format A) (g : Format B) (xs : List A) (ys : List B) (bs cs : List (List ℕ)) → bs ≡ spelled_all f xs → cs ≡ spelled_all g ys → length bs ≡ length cs → length xs ≡ length ys
as_many f g xs ys bs cs e h m = sym (length-map xs (λ a. spelling (f.items a))) ∙ sym (ap length e) ∙ m ∙ ap length h ∙ length-map ys (λ a. spelling (g.items a))

ten_found : (parts : Parts) (x : File)
    → parts ≡ section Str parts ∷ section Meta parts ∷ section PosBase parts ∷ section Pkg parts ∷ section Name parts ∷ section Types parts ∷ section Obj parts ∷ section ObjExt parts ∷ section ObjDict parts ∷ section Body parts ∷ []
    → ((s : Section) → AllByRecursion IsBytes (section s parts)) → file_in parts ≡ Ok x → SpellsFile parts x
unfolding file_in spelled
ten_found parts x ten bytes e =
    let counted = bind_ok (counts_in parts) _ x e in
    let public = bind_ok (root_in root.public_root 0 parts) _ x counted.2 in
    let private = bind_ok (root_in root.private_root 1 parts) _ x public.2 in
    let bases = bind_ok (section_in one.posbase PosBase any_shape parts) _ x private.2 in
    let packages = bind_ok (section_in one.pkg Pkg any_shape parts) _ x bases.2 in
    let names = bind_ok (section_in one.name Name any_shape parts) _ x packages.2 in
    let types = bind_ok (section_in type_el Types any_shape parts) _ x names.2 in
    let objects = bind_ok (section_in object Obj (object_shape names.0 (section ObjDict parts)) parts) _ x types.2 in
    let extensions = bind_ok (section_in extension ObjExt (extension_shape names.0 (section ObjDict parts) objects.0) parts) _ x objects.2 in
    let dictionaries = bind_ok (section_in dictionary ObjDict any_shape parts) _ x extensions.2 in
    let bodies = bind_ok (bodies_in parts) _ x dictionaries.2 in
    let counts = counts_found parts counted.1 in
    let meta_bytes = bytes Meta in
    let is_public = root_found root.public_root 0 parts public.0 public_root_lawful meta_bytes public.1 in
    let is_private = root_found root.private_root 1 parts private.0 private_root_lawful meta_bytes private.1 in
    let is_bases = section_found one.posbase 2 (λ k. context k plain parts) 0 (section PosBase parts) bases.0 posbase_lawful (bytes PosBase) bases.1 in
    let is_packages = section_found one.pkg 3 (λ k. context k plain parts) 0 (section Pkg parts) packages.0 pkg_lawful (bytes Pkg) packages.1 in
    let is_names = section_found one.name 4 (λ k. context k plain parts) 0 (section Name parts) names.0 name_lawful (bytes Name) names.1 in
    let is_types = section_found type_el 5 (λ k. context k plain parts) 0 (section Types parts) types.0 type_el_lawful (bytes Types) types.1 in
    let is_objects = section_found object 6 (λ k. context k (object_shape names.0 (section ObjDict parts) k) parts) 0 (section Obj parts) objects.0 object_lawful (bytes Obj) objects.1 in
    let is_extensions =
    section_found extension 7 (λ k. context k (extension_shape names.0 (section ObjDict parts) objects.0 k) parts) 0 (section ObjExt parts) extensions.0 extension_lawful (bytes ObjExt) extensions.1 in
    let is_dictionaries = section_found dictionary 8 (λ k. context k plain parts) 0 (section ObjDict parts) dictionaries.0 dictionary_lawful (bytes ObjDict) dictionaries.1 in
    let none = bodies_found parts bodies.1 in
    let metas = two_of (section Meta parts) counts.0 in
    rw (← ok_is _ x bodies.2) (
      ten
          ∙ (λ i.
          section Str parts
          ∷ (metas ∙ (λ j. is_public.1 j ∷ is_private.1 j ∷ [])) i
          ∷ is_bases.0 i
          ∷ is_packages.0 i
          ∷ is_names.0 i
          ∷ is_types.0 i
          ∷ is_objects.0 i
          ∷ is_extensions.0 i
          ∷ is_dictionaries.0 i
          ∷ none i
          ∷ []),
      record {
        as_many = (as_many object one.name objects.0 names.0 _ _ is_objects.0 is_names.0 counts.1, as_many extension one.name extensions.0 names.0 _ _ is_extensions.0 is_names.0 counts.2, as_many dictionary one.name dictionaries.0 names.0 _ _ is_dictionaries.0 is_names.0 counts.3);
        public = is_public.0;
        private = is_private.0;
        bases = is_bases.1;
        packages = is_packages.1;
        names = is_names.1;
        types = is_types.1;
        objects = is_objects.1;
        extensions = is_extensions.1;
        dictionaries = is_dictionaries.1;
      },
    )
  where
    ok_is : (y z : File) → taken y ≡ taken z → y ≡ z
    ok_is y z e = cc

ten_sections : (parts : Parts) → length parts ≡ 10
    → parts ≡ section Str parts ∷ section Meta parts ∷ section PosBase parts ∷ section Pkg parts ∷ section Name parts ∷ section Types parts ∷ section Obj parts ∷ section ObjExt parts ∷ section ObjDict parts ∷ section Body parts ∷ []
ten_sections [] e = absurd cc
ten_sections (a ∷ []) e = absurd cc
ten_sections (a ∷ b ∷ []) e = absurd cc
ten_sections (a ∷ b ∷ c ∷ []) e = absurd cc
ten_sections (a ∷ b ∷ c ∷ d ∷ []) e = absurd cc
ten_sections (a ∷ b ∷ c ∷ d ∷ f ∷ []) e = absurd cc
ten_sections (a ∷ b ∷ c ∷ d ∷ f ∷ g ∷ []) e = absurd cc
ten_sections (a ∷ b ∷ c ∷ d ∷ f ∷ g ∷ h ∷ []) e = absurd cc
ten_sections (a ∷ b ∷ c ∷ d ∷ f ∷ g ∷ h ∷ k ∷ []) e = absurd cc
ten_sections (a ∷ b ∷ c ∷ d ∷ f ∷ g ∷ h ∷ k ∷ l ∷ []) e = absurd cc
ten_sections (a ∷ b ∷ c ∷ d ∷ f ∷ g ∷ h ∷ k ∷ l ∷ m ∷ []) e = refl
ten_sections (a ∷ b ∷ c ∷ d ∷ f ∷ g ∷ h ∷ k ∷ l ∷ m ∷ n ∷ more) e = absurd (omega (arith, e))

section_bytes : (parts : Parts) (k : ℕ) → AllByRecursion (AllByRecursion IsBytes) parts → AllByRecursion IsBytes (slice_index_or parts k [])
section_bytes [] k h = tt
section_bytes (p ∷ ps) zero h = h.0
section_bytes (p ∷ ps) (suc k) h = section_bytes ps k h.1

pub file_found : (parts : Parts) (x : File) → length parts ≡ 10 → AllByRecursion (AllByRecursion IsBytes) parts → file_in parts ≡ Ok x → SpellsFile parts x
file_found parts x ten bytes e = ten_found parts x (ten_sections parts ten) (λ s. section_bytes parts (number_of s) bytes) e
