-- What the linked files of the imports give is what the sources alone give.
use Rattle.std.proofs.Common.{◌≡◌, ◌∙◌, ap, sym, subst, refl, length, ◌≤◌, ◌++◌, ℕ, zero, suc, Bool, true, false, cond, List, [], ◌∷◌, map, Some, Result, Ok, Err, arith}
use Rattle.std.specs.Prelude.{bytes_eq, find, flat_map, Contains, ◌||◌}
use Rattle.std.specs.Option.{option_and_then}
use Rattle.std.specs.List.{AllByRecursion, list_any}
use Rattle.std.specs.Cmp.Lexicographic.{bytes_decides}
use Rattle.std.specs.FinMap.{contains_key, len, len-entries, entries}
use Rattle.std.proofs.lemmas.Bool.{le-ltb}
use Rattle.std.proofs.lemmas.List.{map-append}
use Rattle.ui_store.specs.Files.{Files}
use Rattle.ui_exports.specs.Export.{Export}
use Rattle.ui_exports.specs.Linked.{Linked, Below}
use Rattle.ui_forms.specs.Laws.{ImportsAreFound}
use Rattle.ui_forms.specs.Form.{Form as SourceForm, imported}
use Rattle.ui_forms.specs.Verdict.{environment_of, verdict, constant_in, IsLocal}
use Rattle.ui_below.specs.Claims.{claims, claims_of, indirect}
use Rattle.ui_below.specs.Join.{joined, marked, JoinedAsMarked, MarksThePaths}
use Rattle.ui_build.specs.Plan.{Text, Refusal, TooMany, Entry, Plan, or_fault, done, settled, ◌>>=◌}
use Rattle.ui_sources.specs.Sources.{SourceFile}
use Rattle.ui_build.specs.Package.{folder, find as find_sources, form_or, read_form}
use Rattle.ui_build.specs.Build.{Packages, package_limit, values, value_in, brings, below_in, not_direct, below_of, reads, judged}
use Rattle.ui_build.specs.Loading.{Imports, print_of, with_print, linked_as, mark_of, load_all, or_apart, with_export, judged_with, judgement, prepared}
use Rattle.ui_build.specs.Built.{AreBuilt, imports_found, IsReady}
use Rattle.ui_build.proofs.Forms.{all_append, form_imports}
use Rattle.ui_build.proofs.Plans.{bind_same, bind_assoc}
use Rattle.ui_build.proofs.Within.{len_within}
use Rattle.ui_build.proofs.Linking.{Containers, Records, entry_at, entry_there, linked_at, load_all-built}

abbrev pub AreThere : Packages → List Text → Type 0
AreThere packages paths = AllByRecursion (λ q. contains_key packages q ≡ true) paths

abbrev pub files_of : Files → Packages → List Text → List Linked
files_of told packages paths = map (linked_at told packages) paths

abbrev pub prints_of : Files → List Text → List Text
prints_of told paths = map (print_of told) paths

abbrev pub claims_at : Files → Packages → List Text → List Below
claims_at told packages paths = claims (files_of told packages paths) (prints_of told paths)

-- ---- what the files claim

-- a claim about a package that is there names the fingerprint of its linked file
pub record IsKnown (told : Files) (packages : Packages) (c : Below) : Type 0 where
  pub there : contains_key packages c.path ≡ true
  pub print : c.print ≡ print_of told c.path

known_below : (told : Files) (packages : Packages) (below : List (Text × Bool)) → AllByRecursion (λ b. contains_key packages b.0 ≡ true) below → AllByRecursion (IsKnown told packages) (map indirect (map (with_print told) below))
known_below told packages [] h = tt
known_below told packages (b ∷ bs) h = (record { there = h.0; print = refl }, known_below told packages bs h.1)

pub known_claims : (told : Files) (packages : Packages) (paths : List Text) → AreBuilt told packages → AreThere packages paths → AllByRecursion (IsKnown told packages) (claims_at told packages paths)
known_claims told packages [] built h = tt
known_claims told packages (q ∷ qs) built h =
    let b = built q (entry_at packages q) (entry_there packages q h.0) in
    all_append (IsKnown told packages) (claims_of (linked_at told packages q) (print_of told q)) (claims_at told packages qs)
    (record { there = ap (contains_key packages) b.own ∙ h.0; print = ap (print_of told) (sym b.own) }, known_below told packages (entry_at packages q).below b.below)
    (known_claims told packages qs built h.1)

marks_below : (told : Files) (below : List (Text × Bool)) → map mark_of (map indirect (map (with_print told) below)) ≡ map not_direct below
marks_below told [] = refl
marks_below told (b ∷ bs) = ap (λ ms. not_direct b ∷ ms) (marks_below told bs)

-- their paths and marks are those by the sources
pub marks_claims : (told : Files) (packages : Packages) (paths : List Text) → AreBuilt told packages → AreThere packages paths → map mark_of (claims_at told packages paths) ≡ flat_map (brings packages) paths
marks_claims told packages [] built h = refl
marks_claims told packages (q ∷ qs) built h =
    let e = entry_at packages q in
    let b = built q e (entry_there packages q h.0) in
    map-append mark_of (claims_of (linked_at told packages q) (print_of told q)) (claims_at told packages qs)
    ∙ ap (λ ms. map mark_of (claims_of (linked_at told packages q) (print_of told q)) ++ ms) (marks_claims told packages qs built h.1)
    ∙ ap (λ ms. ms ++ flat_map (brings packages) qs) (λ i. (b.own i, true) ∷ (marks_below told e.below ∙ ap below_in (sym (entry_there packages q h.0))) i)

known_prints : (told : Files) (packages : Packages) (cs : List Below) → AllByRecursion (IsKnown told packages) cs → AllByRecursion (λ c. c.print ≡ print_of told c.path) cs
known_prints told packages [] h = tt
known_prints told packages (c ∷ cs) h = (h.0.print, known_prints told packages cs h.1)

true_false : (b : Bool) → b ≡ true → b ≡ false → ⊥
true_false true p q = absurd cc
true_false false p q = absurd cc

other_path : (packages : Packages) (own path : Text) → contains_key packages own ≡ false → contains_key packages path ≡ true → bytes_eq own path ≡ false
other_path packages own path apart there = elim (bytes_eq own path) as (λ b. bytes_eq own path ≡ b → b ≡ false) [
  | false ↦ λ _. refl
  | true ↦ λ e. absurd (true_false (contains_key packages own) (ap (contains_key packages) ((bytes_decides own path).0 e) ∙ there) apart)
] refl

known_others : (told : Files) (packages : Packages) (own : Text) (cs : List Below) → contains_key packages own ≡ false → AllByRecursion (IsKnown told packages) cs → AllByRecursion (λ c. bytes_eq own c.path ≡ false) cs
known_others told packages own [] apart h = tt
known_others told packages own (c ∷ cs) apart h = (other_path packages own c.path apart h.0.there, known_others told packages own cs apart h.1)

-- ---- the list of the packages below isn't too long

pub marked_there : (packages : Packages) (q : Text) (cs : List Below) (told : Files) → AllByRecursion (IsKnown told packages) cs → list_any (λ (m : Text × Bool). bytes_eq q m.0) (map mark_of cs) ≡ true → contains_key packages q ≡ true
marked_there packages q [] told h e = absurd cc
marked_there packages q (c ∷ cs) told h e = elim (bytes_eq q c.path) as (λ b. bytes_eq q c.path ≡ b → (b || list_any (λ (m : Text × Bool). bytes_eq q m.0) (map mark_of cs)) ≡ true → contains_key packages q ≡ true) [
  | true ↦ λ same _. ap (contains_key packages) ((bytes_decides q c.path).0 same) ∙ h.0.there
  | false ↦ λ _ rest. marked_there packages q cs told h.1 rest
] refl e

few_marked : (told : Files) (packages : Packages) (cs : List Below) → MarksThePaths → AllByRecursion (IsKnown told packages) cs → len (marked (map mark_of cs)) ≤ len packages
few_marked told packages cs marks h = len_within (marked (map mark_of cs)) packages (λ q there. marked_there packages q cs told h (sym (marks (map mark_of cs) q) ∙ there))

-- ---- the values of constants

contained : (packages : Packages) (paths : List Text) (p : Text) → AreThere packages paths → Contains paths p → contains_key packages p ≡ true
contained packages [] p h c = absurd (omega (arith, c.1))
contained packages (q ∷ qs) p h (zero, k, e) = ap (contains_key packages) (sym e) ∙ h.0
contained packages (q ∷ qs) p h (suc i, k, e) = contained packages qs p h.1 (i, omega (arith, k), e)

abbrev is_of : Text → Linked → Bool
is_of p l = bytes_eq l.export.path p

later : (q p : Text) (qs : List Text) → bytes_eq q p ≡ false → Contains (q ∷ qs) p → Contains qs p
later q p qs apart (zero, k, e) = absurd (true_false (bytes_eq q p) ((bytes_decides q p).1 e) apart)
later q p qs apart (suc i, k, e) = (i, omega (arith, k), e)

found_file : (told : Files) (packages : Packages) (paths : List Text) (p : Text) → AreBuilt told packages → AreThere packages paths → Contains paths p → find (is_of p) (files_of told packages paths) ≡ Some (linked_at told packages p)
found_file told packages [] p built h c = absurd (omega (arith, c.1))
found_file told packages (q ∷ qs) p built h c =
    let b = built q (entry_at packages q) (entry_there packages q h.0) in
    elim (bytes_eq q p) as (λ t. bytes_eq q p ≡ t → find (is_of p) (files_of told packages (q ∷ qs)) ≡ Some (linked_at told packages p)) [
      | true ↦ λ same. ap (λ t. cond t (Some (linked_at told packages q)) (find (is_of p) (files_of told packages qs))) (ap (λ x. bytes_eq x p) b.own ∙ same) ∙ ap (λ x. Some (linked_at told packages x)) ((bytes_decides q p).0 same)
      | false ↦ λ apart. ap (λ t. cond t (Some (linked_at told packages q)) (find (is_of p) (files_of told packages qs))) (ap (λ x. bytes_eq x p) b.own ∙ apart) ∙ found_file told packages qs p built h.1 (later q p qs apart c)
    ] refl

same_values : (told : Files) (packages : Packages) (paths : List Text) (p name : Text) → AreBuilt told packages → AreThere packages paths → Contains paths p → environment_of (files_of told packages paths) p name ≡ values packages p name
same_values told packages paths p name built h c =
    ap (option_and_then (λ (l : Linked). constant_in l.export.decls name)) (found_file told packages paths p built h c)
    ∙ ap (value_in name) (sym (entry_there packages p (contained packages paths p h c)))

-- ---- the judgement

-- the laws of the crates below
pub record Laws : Type 0 where
  pub containers : Containers
  pub records : Records
  pub joins : JoinedAsMarked
  pub marks : MarksThePaths
  pub local : IsLocal
  pub found : ImportsAreFound

abbrev list_by : Files → Packages → SourceForm → List Below
list_by told packages form = map (with_print told) (below_of packages form)

joined_by : (laws : Laws) (told : Files) (packages : Packages) (own : Text) (form : SourceForm) → AreBuilt told packages → AreThere packages (imported form) → contains_key packages own ≡ false
    → joined own (claims_at told packages (imported form)) ≡ Ok (list_by told packages form)
joined_by laws told packages own form built h apart =
    let cs = claims_at told packages (imported form) in
    let known = known_claims told packages (imported form) built h in
    laws.joins own cs (print_of told) (known_prints told packages cs known) (known_others told packages own cs apart known)
    ∙ ap (λ ms. Ok (map (with_print told) (entries (marked ms)))) (marks_claims told packages (imported form) built h)

as_long : {X Y : Type 0} (f : X → Y) (xs : List X) → length (map f xs) ≡ length xs
as_long f [] = refl
as_long f (x ∷ xs) = ap suc (as_long f xs)

few_listed : (laws : Laws) (told : Files) (packages : Packages) (form : SourceForm) → AreBuilt told packages → AreThere packages (imported form) → length (list_by told packages form) ≤ len packages
few_listed laws told packages form built h =
    let cs = claims_at told packages (imported form) in
    let known = known_claims told packages (imported form) built h in
    let P : List (Text × Bool) → Type 0 = λ ms. length (map (with_print told) (entries (marked ms))) ≤ len packages in
    let Q : ℕ → Type 0 = λ n. n ≤ len packages in
    subst P (marks_claims told packages (imported form) built h) (subst Q (len-entries (marked (map mark_of cs)) ∙ sym (as_long (with_print told) (entries (marked (map mark_of cs))))) (few_marked told packages cs laws.marks known))

kept_list : (path : Text) (below : List Below) → length below ≤ package_limit → or_apart path (Ok below) ≡ Ok below
kept_list path below h = ap (λ b. cond b (Err TooMany) (Ok below)) (le-ltb package_limit (length below) h)

judgement_by : (laws : Laws) (told : Files) (packages : Packages) (own : Text) (form : SourceForm) → AreBuilt told packages → AreThere packages (imported form) → contains_key packages own ≡ false → len packages ≤ package_limit
    → judgement own form (files_of told packages (imported form), prints_of told (imported form)) ≡ with_export (list_by told packages form) (or_fault (verdict (values packages) form))
unfolding judgement
judgement_by laws told packages own form built h apart few =
    let files = files_of told packages (imported form) in
    let listed : or_apart own (joined own (claims_at told packages (imported form))) ≡ Ok (list_by told packages form) =
    ap (or_apart own) (joined_by laws told packages own form built h apart) ∙ kept_list own (list_by told packages form) (omega (arith, few_listed laws told packages form built h, few)) in
    ap (judged_with form files) listed
    ∙ ap (λ v. with_export (list_by told packages form) (or_fault v)) (laws.local (environment_of files) (values packages) form (λ p name c. same_values told packages (imported form) p name built h c))

-- ---- the plan

settled_export : (told : Files) (below : List (Text × Bool)) (r : Result Export Refusal) → settled (with_export (map (with_print told) below) r) ≡ (settled r >>= λ export. done (linked_as told (record { export = export; below = below })))
settled_export told below (Ok export) = refl
settled_export told below (Err refusal) = refl

ok_is : {X : Type 0} (x y : X) → ◌≡◌ {A = Result X Refusal} (Ok x) (Ok y) → x ≡ y
ok_is x y e = cc

settled_value : (r : Result SourceForm Refusal) (form : SourceForm) → (settled r).value ≡ Ok form → r ≡ Ok form
settled_value (Ok f) form e = ap Ok (ok_is f form e)
settled_value (Err refusal) form e = absurd cc

pub found_imports : (laws : Laws) (path : Text) (p : Plan (List SourceFile)) (form : SourceForm) → (p >>= λ sources. settled (form_or path sources)).value ≡ Ok form → imports_found path p.value ≡ imported form
found_imports laws path p form e = by p.value e
  where
    by : (v : Result (List SourceFile) Refusal) → (record { value = v; asks = p.asks; puts = p.puts } >>= λ sources. settled (form_or path sources)).value ≡ Ok form → imports_found path v ≡ imported form
    by (Ok sources) h = form_imports laws.found path sources form (settled_value (form_or path sources) form h)
    by (Err refusal) h = absurd cc

abbrev judged_form : Packages → SourceForm → Plan Entry
judged_form packages form = reads (imported form) >>= λ _. settled (or_fault (verdict (values packages) form)) >>= λ export. done (record { export = export; below = below_of packages form })

by_form : (laws : Laws) (told : Files) (packages : Packages) (own : Text) (form : SourceForm) → AreBuilt told packages → AreThere packages (imported form) → contains_key packages own ≡ false → len packages ≤ package_limit
    → (load_all told ([], []) (imported form) >>= λ imports. settled (judgement own form imports)) ≡ (judged_form packages form >>= λ entry. done (linked_as told entry))
by_form laws told packages own form built h apart few =
    let paths = imported form in
    let files = files_of told packages paths in
    let prints = prints_of told paths in
    let verdict_is = or_fault (verdict (values packages) form) in
    ap (λ (p : Plan Imports). p >>= λ imports. settled (judgement own form imports)) (load_all-built told packages paths [] [] laws.containers laws.records built h)
    ∙ bind_assoc (reads paths) (λ _. done (files, prints)) (λ imports. settled (judgement own form imports))
    ∙ ap (λ r. reads paths >>= λ _. settled r) (judgement_by laws told packages own form built h apart few)
    ∙ ap (λ (p : Plan Linked). reads paths >>= λ _. p) (settled_export told (below_of packages form) verdict_is)
    ∙ ap (λ (p : Plan Linked). reads paths >>= λ _. p) (sym (bind_assoc (settled verdict_is) (λ export. done (record { export = export; below = below_of packages form })) (λ entry. done (linked_as told entry))))
    ∙ sym (bind_assoc (reads paths) (λ _. settled verdict_is >>= λ export. done (record { export = export; below = below_of packages form })) (λ entry. done (linked_as told entry)))

-- A package that may be compiled is prepared from its linked files as it is judged by the sources alone.
pub sufficient : (laws : Laws) (files told : Files) (packages : Packages) (path : Text) → IsReady files told packages path → prepared told path ≡ (judged files packages path >>= λ entry. done (linked_as told entry))
sufficient laws files told packages path ready =
    ap (λ (p : Plan (List SourceFile)). (p >>= λ sources. settled (form_or path sources)) >>= λ form. load_all told ([], []) (imported form) >>= λ imports. settled (judgement path form imports)) (ready.same path)
    ∙ bind_same (read_form files path) (λ form. load_all told ([], []) (imported form) >>= λ imports. settled (judgement path form imports)) (λ form. judged_form packages form >>= λ entry. done (linked_as told entry))
    (λ form is.
    let P : List Text → Type 0 = AreThere packages in
    by_form laws told packages path form ready.built (subst P (found_imports laws path (find_sources files (folder path)) form is) ready.imports) ready.apart ready.few)
    ∙ sym (bind_assoc (read_form files path) (judged_form packages) (λ entry. done (linked_as told entry)))
