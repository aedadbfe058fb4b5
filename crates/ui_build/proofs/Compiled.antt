-- A package is compiled: the outcome is that by the sources alone, and what it stands for is written.
use Rattle.std.proofs.Common.{◌≡◌, ◌∙◌, ap, sym, subst, refl, length, ◌≤◌, Bool, true, false, List, [], ◌∷◌, map, Option, Some, IfSome, Result, Ok, Err}
use Rattle.std.specs.Prelude.{◌||◌}
use Rattle.std.specs.List.{AllByRecursion, list_any}
use Rattle.std.specs.Cmp.{eq_by_cmp_equiv}
use Rattle.std.specs.Cmp.Lexicographic.{nat_list_cmp_total}
use Rattle.std.specs.FinMap.{entries, insert, contains_key, contains_key-keys}
use Rattle.ui_store.specs.Files.{Files}
use Rattle.ui_frame.specs.Laws.{IsBytes}
use Rattle.ui_exports.specs.Linked.{Linked}
use Rattle.ui_consts.specs.Record.{Holds}
use Rattle.ui_forms.specs.Form.{Form as SourceForm, imported}
use Rattle.ui_forms.specs.Verdict.{verdict}
use Rattle.ui_below.specs.Join.{marked}
use Rattle.ui_build.specs.Plan.{Text, Refusal, Entry, Plan, or_fault, done, settled, ◌>>=◌}
use Rattle.ui_build.specs.Package.{folder, find, read_form, file_limit, unit_file, linked_file}
use Rattle.ui_build.specs.Build.{Packages, below_of, reads, values, judged, write_files, compile}
use Rattle.ui_build.specs.Loading.{with_print, linked_as, mark_of, entry_of, prepared}
use Rattle.ui_build.specs.Stops.{State, IsFileOf, Puts, Ends, DoesStop, Does, DoesSeen}
use Rattle.ui_build.specs.Built.{IsReady, AreBuilt, Stands}
use Rattle.ui_build.specs.declared.stop.Stop.{Stop}
use Rattle.ui_build.proofs.Steps.{does_then, does_stop, ends_none, ends_mapped, stop_mapped, bind_ok}
use Rattle.ui_build.proofs.Keeping.{same_name}
use Rattle.ui_build.proofs.Written.{stands_put}
use Rattle.ui_build.proofs.Sufficient.{Laws, AreThere, sufficient, found_imports, known_claims, marks_claims, claims_at, marked_there}

-- ---- what is written

pub file_of : (files : Option Files) (told : Files) (bytes : Text) (l : Linked) (entry : Entry) → files ≡ Some told → l ≡ linked_as told entry → IsBytes bytes → Holds bytes l → length bytes ≤ file_limit → IsFileOf files bytes entry
file_of files told bytes l entry at is are holds short =
    let P : Option Files → Type 0 = λ f. IfSome f (λ t. Holds bytes (linked_as t entry)) in
    let Q : Linked → Type 0 = Holds bytes in
    record { are = are; holds = subst P (sym at) (subst Q is holds); short = short }

-- ---- an entry and its linked file

marks_of : (told : Files) (below : List (Text × Bool)) → map mark_of (map (with_print told) below) ≡ below
marks_of told [] = refl
marks_of told (b ∷ bs) = ap (λ ms. b ∷ ms) (marks_of told bs)

entry_is : (told : Files) (entry : Entry) → entry_of (linked_as told entry) ≡ entry
entry_is told entry = λ i. record { export = entry.export; below = marks_of told entry.below i }

ok_is : {X : Type 0} (x y : X) → ◌≡◌ {A = Result X Refusal} (Ok x) (Ok y) → x ≡ y
ok_is x y e = cc

-- ---- the packages below are among those before

keys_there : {X : Type 0} (packages : Packages) (es : List (Text × X)) → ((q : Text) → list_any (same_name q) (map (λ e. e.0) es) ≡ true → contains_key packages q ≡ true) → AllByRecursion (λ e. contains_key packages e.0 ≡ true) es
keys_there packages [] h = tt
keys_there packages (e ∷ es) h = (
  h e.0 (ap (λ b. b || list_any (same_name e.0) (map (λ x. x.0) es)) ((eq_by_cmp_equiv nat_list_cmp_total).refl e.0)),
  keys_there packages es (λ q k. h q (ap (λ b. same_name q e.0 || b) k ∙ or_true (same_name q e.0))),
)
  where
    or_true : (b : Bool) → (b || true) ≡ true
    or_true true = refl
    or_true false = refl

below_form : (laws : Laws) (told : Files) (packages : Packages) (form : SourceForm) → AreBuilt told packages → AreThere packages (imported form) → AllByRecursion (λ b. contains_key packages b.0 ≡ true) (below_of packages form)
below_form laws told packages form built h =
    let cs = claims_at told packages (imported form) in
    let P : List (Text × Bool) → Type 0 = λ ms. AllByRecursion (λ b. contains_key packages b.0 ≡ true) (entries (marked ms)) in
    subst P (marks_claims told packages (imported form) built h)
    (keys_there packages (entries (marked (map mark_of cs))) (λ q k. marked_there packages q cs told (known_claims told packages (imported form) built h) (sym (laws.marks (map mark_of cs) q) ∙ contains_key-keys (marked (map mark_of cs)) q ∙ k)))

judged_below : (laws : Laws) (files told : Files) (packages : Packages) (path : Text) (entry : Entry) → IsReady files told packages path → (judged files packages path).value ≡ Ok entry → AllByRecursion (λ b. contains_key packages b.0 ≡ true) entry.below
judged_below laws files told packages path entry ready is =
    let a = bind_ok (read_form files path) (λ form. reads (imported form) >>= λ _. settled (or_fault (verdict (values packages) form)) >>= λ export. done (record { export = export; below = below_of packages form })) entry is in
    let b = bind_ok (reads (imported a.0)) (λ _. settled (or_fault (verdict (values packages) a.0)) >>= λ export. done (record { export = export; below = below_of packages a.0 })) entry a.2 in
    let c = bind_ok (settled (or_fault (verdict (values packages) a.0))) (λ export. done (record { export = export; below = below_of packages a.0 })) entry b.2 in
    let there : AreThere packages (imported a.0) = (let P : List Text → Type 0 = AreThere packages in subst P (found_imports laws path (find files (folder path)) a.0 a.1) ready.imports) in
    let Q : Entry → Type 0 = λ x. AllByRecursion (λ b. contains_key packages b.0 ≡ true) x.below in
    subst Q (ok_is (record { export = c.0; below = below_of packages a.0 }) entry c.2) (below_form laws told packages a.0 ready.built there)

-- ---- the plan of a package that may be compiled

-- what was prepared is the linked file of what is judged
pub record Prepared (files told : Files) (packages : Packages) (path : Text) (l : Linked) (old mid : State) : Type 0 where
  pub entry : Entry
  pub value : (judged files packages path).value ≡ Ok entry
  pub linked : l ≡ linked_as told entry
  pub ends : Ends (judged files packages path) old mid
  pub below : AllByRecursion (λ b. contains_key packages b.0 ≡ true) entry.below

told_is : {A X : Type 0} (view : A → X) (p : Files → Plan X) (old new : State) (told : Files) (r : Result A Stop) → old.files ≡ Some told → DoesSeen view p old new r → Does view (p told) old new r
told_is view p old new told r at d = let P : Option Files → Type 0 = λ f. IfSome f (λ t. Does view (p t) old new r) in subst P at d

pub prepared_ok : (laws : Laws) (files told : Files) (packages : Packages) (path : Text) (l : Linked) (old mid : State) → old.files ≡ Some told → IsReady files told packages path → DoesSeen (λ (x : Linked). x) (λ t. prepared t path) old mid (Ok l) → Prepared files told packages path l old mid
prepared_ok laws files told packages path l old mid at ready does =
    let q = judged files packages path in
    let P : Plan Linked → Type 0 = λ p. Does (λ (x : Linked). x) p old mid (Ok l) in
    let d = subst P (sufficient laws files told packages path ready) (told_is (λ (x : Linked). x) (λ t. prepared t path) old mid told (Ok l) at does) in
    let a = bind_ok q (λ entry. done (linked_as told entry)) l d.0 in
    record {
      entry = a.0;
      value = a.1;
      linked = sym (ok_is (linked_as told a.0) l a.2);
      ends = ends_mapped q (linked_as told) old mid d.1;
      below = judged_below laws files told packages path a.0 ready a.1;
    }

pub prepared_stop : (laws : Laws) (files told : Files) (packages : Packages) (path : Text) (old new : State) (s : Stop) → old.files ≡ Some told → IsReady files told packages path → DoesSeen (λ (x : Linked). x) (λ t. prepared t path) old new (Err s) → DoesStop (compile files packages path) old new s
prepared_stop laws files told packages path old new s at ready does =
    let q = judged files packages path in
    let P : Plan Linked → Type 0 = λ p. DoesStop p old new s in
    does_stop q (λ entry. write_files path entry >>= λ _. done entry) old new s
    (stop_mapped q (linked_as told) old new s (subst P (sufficient laws files told packages path ready) (told_is (λ (x : Linked). x) (λ t. prepared t path) old new told (Err s) at does)))

pub compile_stop : (files told : Files) (packages : Packages) (path : Text) (l : Linked) (old mid new : State) (s : Stop) (p : Prepared files told packages path l old mid) → DoesStop (write_files path p.entry) mid new s → DoesStop (compile files packages path) old new s
compile_stop files told packages path l old mid new s p d =
    does_then (λ (x : Entry). x) entry_of (judged files packages path) (λ entry. write_files path entry >>= λ _. done entry) old mid new p.entry (Err s) (p.value, p.ends)
    (does_stop (write_files path p.entry) (λ (u : Unit {0}). done p.entry) mid new s d)

pub compile_ok : (files told : Files) (packages : Packages) (path : Text) (l : Linked) (old mid new : State) (p : Prepared files told packages path l old mid) → Does (λ (u : Unit {0}). tt {0}) (write_files path p.entry) mid new (Ok tt) → Does entry_of (compile files packages path) old new (Ok l)
compile_ok files told packages path l old mid new p d =
    does_then (λ (x : Entry). x) entry_of (judged files packages path) (λ entry. write_files path entry >>= λ _. done entry) old mid new p.entry (Ok l) (p.value, p.ends)
    (does_then (λ (u : Unit {0}). tt {0}) entry_of (write_files path p.entry) (λ (u : Unit {0}). done p.entry) mid new new tt (Ok l) d (ap Ok (sym (entry_is told p.entry) ∙ ap entry_of (sym p.linked)), ends_none p.entry new))

pub compile_stands : (files told : Files) (packages : Packages) (path : Text) (l : Linked) (old mid new : State) (p : Prepared files told packages path l old mid) → mid.files ≡ Some told → IsReady files told packages path → l.export.path ≡ path
    → Ends (write_files path p.entry) mid new → Stands files new.files (insert packages path (entry_of l))
compile_stands files told packages path l old mid new p at ready own ends =
    let P : Entry → Type 0 = λ e. Stands files new.files (insert packages path e) in
    let Q : Option Files → Type 0 = λ f. Puts (record { unit = unit_file path; linked = linked_file path; entry = p.entry } ∷ []) f new.files in
    subst P (sym (entry_is told p.entry) ∙ ap entry_of (sym p.linked))
    (stands_put files told packages path p.entry new.files ready.apart (ap (λ (x : Linked). x.export.path) (sym p.linked) ∙ own) p.below (subst Q at ends.files) ready.same ready.built)
