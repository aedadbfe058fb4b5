-- The stages of reading are the whole, and a stage that fails is where it fails.
use Rattle.std.proofs.Common.{◌≡◌, ℕ, List, Result, Ok, Err, refl, sym, ap, subst, ◌∙◌}
use Rattle.ui_frame.specs.Reading.{◌>>=◌}
use Rattle.ui_frame.specs.Container.{Parts, section}
use Rattle.ui_frame.specs.declared.section.Section.TheVariants.{Str, PosBase, Pkg, Name, Types, Obj, ObjExt, ObjDict}
use Rattle.ui_strpos.specs.Elements as one
use Rattle.ui_strpos.specs.declared.name.NameEl.{NameEl}
use Rattle.ui_strpos.specs.declared.pkg.PkgEl.{PkgEl}
use Rattle.ui_strpos.specs.declared.posbase.PosBaseEl.{PosBaseEl}
use Rattle.ui_eobj.specs.Roots as root
use Rattle.ui_eobj.specs.declared.root.PublicRootEl.{PublicRootEl}
use Rattle.ui_eobj.specs.declared.root.PrivateRootEl.{PrivateRootEl}
use Rattle.ui_etype.specs.Types.{type_el}
use Rattle.ui_etype.specs.declared.types.TypeEl.{TypeEl}
use Rattle.ui_edecl.specs.Objects.{object}
use Rattle.ui_edecl.specs.Extensions.{extension}
use Rattle.ui_edecl.specs.Dictionaries.{dictionary}
use Rattle.ui_edecl.specs.declared.object.ObjEl.{ObjEl}
use Rattle.ui_edecl.specs.declared.extension.ObjExtEl.{ObjExtEl}
use Rattle.ui_edecl.specs.declared.dictionary.DictEl.{DictEl}
use Rattle.ui_file.specs.Files.{counts_in, root_in, section_in, any_shape, object_shape, extension_shape}
use Rattle.ui_file.specs.Files.{bodies_in, file_in}
use Rattle.ui_file.specs.declared.file.File.{File}
use Rattle.ui_file.specs.declared.bad.BadFile.{BadFile}
use Rattle.ui_sections.specs.Told.{FailsAs}
use Rattle.ui_sections.specs.Stages.{roots_in, front_in, declared_in, file_of}
use Rattle.ui_sections.specs.declared.fault.ValidFault.{ValidFault}
use Rattle.ui_sections.specs.declared.fault.ValidFault.TheVariants as told
use Rattle.ui_sections.specs.declared.read.Roots.{Roots}
use Rattle.ui_sections.specs.declared.read.Front.{Front}
use Rattle.ui_sections.specs.declared.read.Declared.{Declared}

pub regrouped : {A B C E : Type 0} (m : Result A E) (f : A → Result B E) (g : B → Result C E)
    → ((m >>= f) >>= g) ≡ (m >>= λ x. f x >>= g)
regrouped (Ok x) f g = refl
regrouped (Err e) f g = refl

pub first_fails : {A B : Type 0} (e : ValidFault) (r : Result A BadFile)
    (f : A → Result B BadFile) → FailsAs e r → FailsAs e (r >>= f)
first_fails told.NoMemory r f h = tt
first_fails (told.Bad b) r f h = ap (λ (s : Result _ BadFile). s >>= f) h

abbrev pub whole : Parts → Result File BadFile
whole parts = roots_in parts >>= λ r. front_in parts >>= λ f. declared_in f.names parts >>= λ d.
    Ok (file_of r f d)

-- a stage's steps, and what follows it
three : {A B C R X E : Type 0} (a : Result A E) (b : Result B E) (c : Result C E) (mk : B → C → R)
    (k : R → Result X E)
    → ((a >>= λ u. b >>= λ x. c >>= λ y. Ok (mk x y)) >>= k)
    ≡ (a >>= λ u. b >>= λ x. c >>= λ y. k (mk x y))
three (Err e) b c mk k = refl
three (Ok u) (Err e) c mk k = refl
three (Ok u) (Ok x) (Err e) mk k = refl
three (Ok u) (Ok x) (Ok y) mk k = refl

four : {A B C D R X E : Type 0} (a : Result A E) (b : Result B E) (c : Result C E) (d : Result D E)
    (mk : A → B → C → D → R) (k : R → Result X E)
    → ((a >>= λ w. b >>= λ x. c >>= λ y. d >>= λ z. Ok (mk w x y z)) >>= k)
    ≡ (a >>= λ w. b >>= λ x. c >>= λ y. d >>= λ z. k (mk w x y z))
four (Err e) b c d mk k = refl
four (Ok w) (Err e) c d mk k = refl
four (Ok w) (Ok x) (Err e) d mk k = refl
four (Ok w) (Ok x) (Ok y) (Err e) mk k = refl
four (Ok w) (Ok x) (Ok y) (Ok z) mk k = refl

last : {A B C D R X E : Type 0} (a : Result A E) (b : A → Result B E) (c : Result C E)
    (d : Result D E)
    (mk : A → B → C → R) (k : R → Result X E)
    → ((a >>= λ w. b w >>= λ x. c >>= λ y. d >>= λ z. Ok (mk w x y)) >>= k)
    ≡ (a >>= λ w. b w >>= λ x. c >>= λ y. d >>= λ z. k (mk w x y))
last (Err e) b c d mk k = refl
last {B = B} {C = C} {D = D} {R = R} {X = X} {E = E} (Ok w) b c d mk k = at (b w) c d
  where
    at : (x : Result B E) (c : Result C E) (d : Result D E)
        → ((x >>= λ x. c >>= λ y. d >>= λ z. Ok (mk w x y)) >>= k)
        ≡ (x >>= λ x. c >>= λ y. d >>= λ z. k (mk w x y))
    at (Err e) c d = refl
    at (Ok x) (Err e) d = refl
    at (Ok x) (Ok y) (Err e) = refl
    at (Ok x) (Ok y) (Ok z) = refl

module _ (parts : Parts) where
  abbrev counted : Result (Unit {0}) BadFile
  counted = counts_in parts

  abbrev public_read : Result PublicRootEl BadFile
  public_read = root_in root.public_root 0 parts

  abbrev private_read : Result PrivateRootEl BadFile
  private_read = root_in root.private_root 1 parts

  abbrev bases_read : Result (List PosBaseEl) BadFile
  bases_read = section_in one.posbase PosBase any_shape parts

  abbrev packages_read : Result (List PkgEl) BadFile
  packages_read = section_in one.pkg Pkg any_shape parts

  abbrev names_read : Result (List NameEl) BadFile
  names_read = section_in one.name Name any_shape parts

  abbrev types_read : Result (List TypeEl) BadFile
  types_read = section_in type_el Types any_shape parts

  abbrev objects_by : List NameEl → Result (List ObjEl) BadFile
  objects_by ns = section_in object Obj (object_shape ns (section ObjDict parts)) parts

  abbrev extensions_by : List NameEl → List ObjEl → Result (List ObjExtEl) BadFile
  extensions_by ns os = section_in extension ObjExt
      (extension_shape ns (section ObjDict parts) os) parts

  abbrev dictionaries_read : Result (List DictEl) BadFile
  dictionaries_read = section_in dictionary ObjDict any_shape parts

  abbrev roots_of : PublicRootEl → PrivateRootEl → Roots
  roots_of p q = record { texts = section Str parts; public = p; private = q }

  abbrev front_of : List PosBaseEl → List PkgEl → List NameEl → List TypeEl → Front
  front_of b k n t = record { bases = b; packages = k; names = n; types = t }

  abbrev declared_of : List ObjEl → List ObjExtEl → List DictEl → Declared
  declared_of o x d = record { objects = o; extensions = x; dictionaries = d }

  abbrev after_front : Roots → Front → Result File BadFile
  after_front r f = declared_in f.names parts >>= λ d. Ok (file_of r f d)

  abbrev after_roots : Roots → Result File BadFile
  after_roots r = front_in parts >>= λ f. after_front r f

  third : (r : Roots) (f : Front) → after_front r f
      ≡ (objects_by f.names >>= λ o. extensions_by f.names o >>= λ x. dictionaries_read >>= λ d.
      bodies_in parts >>= λ z. Ok (file_of r f (declared_of o x d)))
  unfolding declared_in
  third r f =
      last (objects_by f.names) (extensions_by f.names) dictionaries_read
      (bodies_in parts) declared_of
      (λ d. Ok (file_of r f d))

  second : (r : Roots) → after_roots r
      ≡ (bases_read >>= λ b. packages_read >>= λ k. names_read >>= λ n. types_read >>= λ t.
      after_front r (front_of b k n t))
  unfolding front_in
  second r = four bases_read packages_read names_read types_read front_of (λ f. after_front r f)

  first : whole parts
      ≡ (counted >>= λ u. public_read >>= λ p. private_read >>= λ q. after_roots (roots_of p q))
  unfolding roots_in
  first = three counted public_read private_read roots_of after_roots

  pub in_stages : whole parts ≡ file_in parts
  unfolding file_in
  in_stages =
      first
      ∙ (λ i. counted >>= λ u. public_read >>= λ p. private_read >>= λ q. second (roots_of p q) i)
      ∙ (λ i. counted >>= λ u. public_read >>= λ p. private_read >>= λ q.
      bases_read >>= λ b. packages_read >>= λ k. names_read >>= λ n. types_read >>= λ t.
      third (roots_of p q) (front_of b k n t) i)

-- ---- each stage, step by step

module _ (parts : Parts) (e : ValidFault) where
  pub counts_fail : FailsAs e (counts_in parts) → FailsAs e (roots_in parts)
  unfolding roots_in
  counts_fail h = first_fails e (counts_in parts) _ h

  pub public_fails : counts_in parts ≡ Ok tt → FailsAs e (root_in root.public_root 0 parts)
      → FailsAs e (roots_in parts)
  unfolding roots_in
  public_fails c h = rw c (first_fails e (root_in root.public_root 0 parts) _ h)

  pub private_fails : (a : PublicRootEl) → counts_in parts ≡ Ok tt
      → root_in root.public_root 0 parts ≡ Ok a
      → FailsAs e (root_in root.private_root 1 parts) → FailsAs e (roots_in parts)
  unfolding roots_in
  private_fails a c p h = rw (c, p) (first_fails e (root_in root.private_root 1 parts) _ h)

  pub bases_fail : FailsAs e (section_in one.posbase PosBase any_shape parts)
      → FailsAs e (front_in parts)
  unfolding front_in
  bases_fail h = first_fails e (section_in one.posbase PosBase any_shape parts) _ h

  pub packages_fail : (a : List PosBaseEl) → section_in one.posbase PosBase any_shape parts ≡ Ok a
      → FailsAs e (section_in one.pkg Pkg any_shape parts) → FailsAs e (front_in parts)
  unfolding front_in
  packages_fail a p h = rw p (first_fails e (section_in one.pkg Pkg any_shape parts) _ h)

  pub names_fail : (a : List PosBaseEl) (b : List PkgEl)
      → section_in one.posbase PosBase any_shape parts ≡ Ok a
      → section_in one.pkg Pkg any_shape parts ≡ Ok b
      → FailsAs e (section_in one.name Name any_shape parts)
      → FailsAs e (front_in parts)
  unfolding front_in
  names_fail a b p q h = rw (p, q) (first_fails e (section_in one.name Name any_shape parts) _ h)

  pub types_fail : (a : List PosBaseEl) (b : List PkgEl) (c : List NameEl)
      → section_in one.posbase PosBase any_shape parts ≡ Ok a
      → section_in one.pkg Pkg any_shape parts ≡ Ok b
      → section_in one.name Name any_shape parts ≡ Ok c
      → FailsAs e (section_in type_el Types any_shape parts)
      → FailsAs e (front_in parts)
  unfolding front_in
  types_fail a b c p q r h = rw (p, q, r)
      (first_fails e (section_in type_el Types any_shape parts) _ h)

  module _ (names : List NameEl) where
    abbrev objects_read : Result (List ObjEl) BadFile
    objects_read = section_in object Obj (object_shape names (section ObjDict parts)) parts

    abbrev extensions_read : List ObjEl → Result (List ObjExtEl) BadFile
    extensions_read os = section_in extension ObjExt
        (extension_shape names (section ObjDict parts) os) parts

    pub objects_fail : FailsAs e objects_read → FailsAs e (declared_in names parts)
    unfolding declared_in
    objects_fail h = first_fails e objects_read _ h

    pub extensions_fail : (os : List ObjEl) → objects_read ≡ Ok os → FailsAs e (extensions_read os)
        → FailsAs e (declared_in names parts)
    unfolding declared_in
    extensions_fail os p h = rw p (first_fails e (extensions_read os) _ h)

    pub dictionaries_fail : (os : List ObjEl) (xs : List ObjExtEl) → objects_read ≡ Ok os
        → extensions_read os ≡ Ok xs → FailsAs e (section_in dictionary ObjDict any_shape parts)
        → FailsAs e (declared_in names parts)
    unfolding declared_in
    dictionaries_fail os xs p q h =
        rw (p, q) (first_fails e (section_in dictionary ObjDict any_shape parts) _ h)

    pub bodies_fail : (os : List ObjEl) (xs : List ObjExtEl) (ds : List DictEl) → objects_read
        ≡ Ok os
        → extensions_read os ≡ Ok xs → section_in dictionary ObjDict any_shape parts ≡ Ok ds
        → FailsAs e (bodies_in parts) → FailsAs e (declared_in names parts)
    unfolding declared_in
    bodies_fail os xs ds p q r h = rw (p, q, r) (first_fails e (bodies_in parts) _ h)

  -- ---- the whole

  pub roots_fail : FailsAs e (roots_in parts) → FailsAs e (file_in parts)
  roots_fail h =
      subst (λ (r : Result File BadFile). FailsAs e r) (in_stages parts)
      (first_fails e (roots_in parts) _ h)

  pub front_fails : (r : Roots) → roots_in parts ≡ Ok r → FailsAs e (front_in parts)
      → FailsAs e (file_in parts)
  front_fails r p h =
      subst (λ (r : Result File BadFile). FailsAs e r) (in_stages parts)
      (rw p (first_fails e (front_in parts) _ h))

  pub declared_fail : (r : Roots) (f : Front) → roots_in parts ≡ Ok r → front_in parts ≡ Ok f
      → FailsAs e (declared_in f.names parts) → FailsAs e (file_in parts)
  declared_fail r f p q h =
      subst (λ (r : Result File BadFile). FailsAs e r) (in_stages parts)
      (rw (p, q) (first_fails e (declared_in f.names parts) _ h))

module _ (parts : Parts) where
  pub roots_read : (a : PublicRootEl) (b : PrivateRootEl) (ts : List (List ℕ)) → counts_in parts
      ≡ Ok tt
      → root_in root.public_root 0 parts ≡ Ok a → root_in root.private_root 1 parts ≡ Ok b
      → ts ≡ section Str parts → roots_in parts
      ≡ Ok (record { texts = ts; public = a; private = b })
  unfolding roots_in
  roots_read a b ts c p q t = rw (c, p, q, t) refl

  pub front_read : (a : List PosBaseEl) (b : List PkgEl) (c : List NameEl) (d : List TypeEl)
      → section_in one.posbase PosBase any_shape parts ≡ Ok a
      → section_in one.pkg Pkg any_shape parts ≡ Ok b
      → section_in one.name Name any_shape parts ≡ Ok c → section_in type_el Types any_shape parts
      ≡ Ok d
      → front_in parts ≡ Ok (record { bases = a; packages = b; names = c; types = d })
  unfolding front_in
  front_read a b c d p q r s = rw (p, q, r, s) refl

  pub declared_read : (names : List NameEl) (os : List ObjEl) (xs : List ObjExtEl)
      (ds : List DictEl)
      → section_in object Obj (object_shape names (section ObjDict parts)) parts ≡ Ok os
      → section_in extension ObjExt (extension_shape names (section ObjDict parts) os) parts ≡ Ok xs
      → section_in dictionary ObjDict any_shape parts ≡ Ok ds → bodies_in parts ≡ Ok tt
      → declared_in names parts ≡ Ok (record { objects = os; extensions = xs; dictionaries = ds })
  unfolding declared_in
  declared_read names os xs ds p q r s = rw (p, q, r, s) refl

  pub file_read : (r : Roots) (f : Front) (d : Declared) → roots_in parts ≡ Ok r → front_in parts
      ≡ Ok f
      → declared_in f.names parts ≡ Ok d → file_in parts ≡ Ok (file_of r f d)
  file_read r f d p q s = sym (in_stages parts) ∙ rw (p, q, s) refl
