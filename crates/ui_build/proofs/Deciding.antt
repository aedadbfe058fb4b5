-- What decides a build: its turns are enough, its sources decide, and it is refused by these.
use Rattle.std.proofs.Common.{◌≡◌, ◌∙◌, ap, sym, subst, refl, ℕ, zero, suc, ◌+◌, ◌≤◌, Bool, true, false, cond, List, [], ◌∷◌, ◌++◌, ◌⊎◌, inl, inr, Option, Some, None, Result, Ok, Err, arith, append_assoc, append-nil}
use Rattle.std.specs.Prelude.{nat_lt, bytes_eq, filter, is_some}
use Rattle.std.specs.FinMap.{contains_key, empty, get, insert, len}
use Rattle.ui_store.specs.Files.{Files, listing, reading}
use Rattle.ui_store.specs.declared.fault.StoreFault.{StoreFault}
use Rattle.ui_store.specs.declared.fault.StoreFault.TheVariants as fault
use Rattle.ui_store.specs.declared.store.AskKind.TheVariants as ask
use Rattle.ui_base.specs.declared.fault.Fault.{Fault}
use Rattle.ui_exports.specs.Export.{Export}
use Rattle.ui_sources.specs.Sources.{SourceFile, source_limit}
use Rattle.ui_forms.specs.Form.{Form as SourceForm, imported}
use Rattle.ui_forms.specs.Verdict.{verdict}
use Rattle.ui_order.specs.Steps.{has}
use Rattle.ui_order.specs.Found.{Found, IsFound, begun, found_count, least_unread, with_imports}
use Rattle.ui_order.specs.Laws.{ReadsOneMore}
use Rattle.ui_order.specs.Order.{Arrangement, cycle, paths, arranged}
use Rattle.ui_build.specs.Plan.{Text, Refusal, NoFile, Faulty, TooMany, Cycle, Entry, Plan, or_fault, done, settled, next, ◌>>=◌, asking}
use Rattle.ui_build.specs.Package.{folder, linked_file, file_in, find, form_or, imports_in, is_source, list_folder, listed_as, read_as, read_file, read_form, read_source, read_sources, some_source}
use Rattle.ui_build.specs.Build.{Packages, below_of, build, build_order, compile, compile_all, discover, discover_next, discover_one, export_or, judged, order_or, ordered, package_limit, reads, values, within_limit, write_files}
use Rattle.ui_build.specs.Built.{SameSources}
use Rattle.ui_build.specs.Laws.{IsOfSources, IsSourceName}
use Rattle.ui_build.proofs.Steps.{bind_ok}
use Rattle.ui_build.proofs.Hearing.{no_form_by}
use Rattle.ui_build.proofs.Ordered.{keys_more, no_key}
use Rattle.ui_build.proofs.Discovered.{IsKnown, Orders, known_begun, known_next, limited, order_of_build}

-- ---- one step and the next

abbrev joined : {X Y : Type 0} → Plan X → Plan Y → Plan Y
joined p q = record { value = q.value; asks = p.asks ++ q.asks; puts = p.puts ++ q.puts }

next_same : {X Y : Type 0} (v : Result X Refusal) (f g : X → Plan Y) → ((x : X) → v ≡ Ok x → f x ≡ g x) → next v f ≡ next v g
next_same (Ok x) f g h = h x refl
next_same (Err r) f g h = refl

then_same : {X Y : Type 0} (p : Plan X) (f g : X → Plan Y) → ((x : X) → p.value ≡ Ok x → f x ≡ g x) → (p >>= f) ≡ (p >>= g)
then_same p f g h = ap (joined p) (next_same p.value f g h)

both_same : {X Y : Type 0} (p q : Plan X) (f g : X → Plan Y) → p ≡ q → ((x : X) → f x ≡ g x) → (p >>= f) ≡ (q >>= g)
both_same {X} p q f g e h = ap (λ (r : Plan X). r >>= f) e ∙ then_same q f g (λ x _. h x)

-- ---- turns

read_one : (files : Files) (root : Text) (found x : Found) (path : Text) → ReadsOneMore → IsFound root found → least_unread found ≡ Some path → (discover_one files found path).value ≡ Ok x → len x.read ≡ len found.read + 1
read_one files root found x path one is least e =
    let a = bind_ok (find files (folder path)) (λ sources. settled (within_limit (with_imports found path (imports_in path sources)))) x e in
    let b = limited (with_imports found path (imports_in path a.0)) x a.2 in
    let P : Found → Type 0 = λ f. len f.read ≡ len found.read + 1 in
    subst P b.0 (one root found path (imports_in path a.0) is least)

enough : (laws : Orders) (one : ReadsOneMore) (files : Files) (root : Text) (m n : ℕ) (found : Found) → IsKnown files root found → suc package_limit ≤ len found.read + n → n ≤ m → discover m files found ≡ discover n files found
unfolding discover
enough laws one files root m zero found known full le = (let few = known.few in absurd (omega (arith, few, full)))
enough laws one files root zero (suc n) found known full le = absurd (omega (arith, le))
enough laws one files root (suc m) (suc n) found known full le =
    elim (least_unread found) as (λ o. least_unread found ≡ o → discover_next (discover m files) files found o ≡ discover_next (discover n files) files found o) [
      | None ↦ λ _. refl
      | Some path ↦ λ is. then_same (discover_one files found path) (discover m files) (discover n files)
          (λ x e. let more = read_one files root found x path one known.is_found is e in enough laws one files root m n x (known_next laws files root found x path known e) (omega (arith, full, more)) (omega (arith, le)))
    ] refl

pub turns_enough : Orders → ReadsOneMore → (files : Files) (root : Text) (turns : ℕ) → suc package_limit ≤ turns → discover turns files (begun root) ≡ discover (suc package_limit) files (begun root)
turns_enough laws one files root turns le = enough laws one files root turns (suc package_limit) (begun root) (known_begun laws files root) (omega arith) le

-- ---- sources

abbrev finding : Found → Text → Plan (List SourceFile) → Plan Found
finding found path p = p >>= λ sources. settled (within_limit (with_imports found path (imports_in path sources)))

found_same : (files told : Files) → SameSources files told → (n : ℕ) (found : Found) → discover n told found ≡ discover n files found
unfolding discover
found_same files told same zero found = refl
found_same files told same (suc n) found =
    elim (least_unread found) as (λ o. discover_next (discover n told) told found o ≡ discover_next (discover n files) files found o) [
      | None ↦ refl
      | Some path ↦ both_same (discover_one told found path) (discover_one files found path) (discover n told) (discover n files) (ap (finding found path) (same path)) (found_same files told same n)
    ]

order_same : (files told : Files) → SameSources files told → (root : Text) → build_order told root ≡ build_order files root
order_same files told same root = ap (λ (p : Plan Found). p >>= λ found. settled (ordered found.read)) (found_same files told same (suc package_limit) (begun root))

abbrev judging : Packages → Text → Plan (List SourceFile) → Plan Entry
judging packages path p =
    (p >>= λ sources. settled (form_or path sources)) >>= λ form. reads (imported form) >>= λ _. settled (or_fault (verdict (values packages) form)) >>= λ export. done (record { export = export; below = below_of packages form })

abbrev compiling : Packages → Text → Plan (List SourceFile) → Plan Entry
compiling packages path p = judging packages path p >>= λ entry. write_files path entry >>= λ _. done entry

all_same : (files told : Files) → SameSources files told → (order : List Text) (packages : Packages) → compile_all told packages order ≡ compile_all files packages order
unfolding compile_all
all_same files told same [] packages = refl
all_same files told same (path ∷ rest) packages =
    both_same (compile told packages path) (compile files packages path) (λ entry. compile_all told (insert packages path entry) rest) (λ entry. compile_all files (insert packages path entry) rest) (ap (compiling packages path) (same path)) (λ entry. all_same files told same rest (insert packages path entry))

abbrev ending : Text → Plan Packages → Plan Export
ending root p = p >>= λ packages. asking (ask.Read, linked_file root) (export_or root (get packages root))

pub build_same : (files told : Files) (root : Text) → SameSources files told → build told root ≡ build files root
build_same files told root same =
    both_same (build_order told root) (build_order files root) (λ order. ending root (compile_all told empty order)) (λ order. ending root (compile_all files empty order)) (order_same files told same root) (λ order. ap (ending root) (all_same files told same order empty))

-- ---- refusals

abbrev failing : {X : Type 0} → Refusal → Result X Refusal
failing r = Err r

err_is : {X : Type 0} (a b : Refusal) → failing {X = X} a ≡ failing b → a ≡ b
err_is a b e = cc

no_err : {X : Type 0} (x : X) (r : Refusal) → ◌≡◌ {A = Result X Refusal} (Ok x) (Err r) → ⊥
no_err x r e = absurd cc

refused_in : {X Y : Type 0} (p : Plan X) (f : X → Plan Y) (r : Refusal) → (p >>= f).value ≡ Err r → (p.value ≡ Err r) ⊎ ((x : X) × (p.value ≡ Ok x) × ((f x).value ≡ Err r))
refused_in {X} {Y} p f r e = at p.value e
  where
    at : (v : Result X Refusal) → (next v f).value ≡ Err r → (v ≡ Err r) ⊎ ((x : X) × (v ≡ Ok x) × ((f x).value ≡ Err r))
    at (Ok x) h = inr (x, refl, h)
    at (Err q) h = inl (ap (failing {X = X}) (err_is {X = Y} q r h))

settled_value : {X : Type 0} (v : Result X Refusal) → (settled v).value ≡ v
settled_value (Ok x) = refl
settled_value (Err r) = refl

of_name : (name : Text) (r : Refusal) → IsSourceName name → NoFile name ≡ r → IsOfSources r
of_name name r is e = subst IsOfSources e is

listed_refused : (name : Text) (v : Result (List Text) StoreFault) (r : Refusal) → listed_as name v ≡ Err r → NoFile name ≡ r
listed_refused name (Ok names) r e = absurd (no_err names r e)
listed_refused name (Err f) r e = err_is {X = List Text} (NoFile name) r e

read_refused : (name : Text) (v : Result Text StoreFault) (r : Refusal) → read_as name v ≡ Err r → NoFile name ≡ r
read_refused name (Ok bytes) r e = absurd (no_err {X = Option Text} (Some bytes) r e)
read_refused name (Err fault.TooLong) r e = absurd (no_err {X = Option Text} None r e)
read_refused name (Err fault.Missing) r e = err_is {X = Option Text} (NoFile name) r e
read_refused name (Err fault.Failed) r e = err_is {X = Option Text} (NoFile name) r e
read_refused name (Err fault.NoMemory) r e = err_is {X = Option Text} (NoFile name) r e

source_refused : (files : Files) (path part : Text) (r : Refusal) → (read_source files (file_in (folder path) part)).value ≡ Err r → IsOfSources r
source_refused files path part r e =
    let name : Text = file_in (folder path) part in
    elim (refused_in (read_file files name source_limit) (λ bytes. done (name, bytes)) r e) [
      | inl h ↦ of_name name r (path, inr (part, refl)) (read_refused name (reading files name source_limit) r h)
      | inr (x, is, h) ↦ absurd (no_err {X = SourceFile} (name, x) r h)
    ]

sources_refused : (files : Files) (path : Text) (names : List Text) (sources : List SourceFile) (r : Refusal) → (read_sources files (folder path) sources names).value ≡ Err r → IsOfSources r
unfolding read_sources
sources_refused files path [] sources r e = absurd (no_err sources r e)
sources_refused files path (name ∷ names) sources r e =
    elim (refused_in (read_source files (file_in (folder path) name)) (λ source. read_sources files (folder path) (sources ++ source ∷ []) names) r e) [
      | inl h ↦ source_refused files path name r h
      | inr (x, is, h) ↦ sources_refused files path names (sources ++ x ∷ []) r h
    ]

some_refused : (path : Text) (sources : List SourceFile) (r : Refusal) → (some_source (folder path) sources).value ≡ Err r → IsOfSources r
some_refused path [] r e = of_name (folder path) r (path, inl refl) (err_is {X = List SourceFile} (NoFile (folder path)) r e)
some_refused path (source ∷ sources) r e = absurd (no_err {X = List SourceFile} (source ∷ sources) r e)

find_refused : (files : Files) (path : Text) (r : Refusal) → (find files (folder path)).value ≡ Err r → IsOfSources r
find_refused files path r e =
    elim (refused_in (list_folder files (folder path)) (λ names. read_sources files (folder path) [] (filter is_source names) >>= λ sources. some_source (folder path) sources) r e) [
      | inl h ↦ of_name (folder path) r (path, inl refl) (listed_refused (folder path) (listing files (folder path)) r h)
      | inr (names, is, h) ↦ elim (refused_in (read_sources files (folder path) [] (filter is_source names)) (λ sources. some_source (folder path) sources) r h) [
        | inl k ↦ sources_refused files path (filter is_source names) [] r k
        | inr (sources, found, k) ↦ some_refused path sources r k
      ]
    ]

-- discovery and the order

many_refused : (b : Bool) (found : Found) (r : Refusal) → (settled (cond b (failing {X = Found} TooMany) (Ok found))).value ≡ Err r → IsOfSources r
many_refused true found r e = subst IsOfSources (err_is {X = Found} TooMany r e) tt
many_refused false found r e = absurd (no_err found r e)

found_refused : (files : Files) (n : ℕ) (found : Found) (r : Refusal) → (discover n files found).value ≡ Err r → IsOfSources r
unfolding discover
found_refused files zero found r e = subst IsOfSources (err_is {X = Found} TooMany r e) tt
found_refused files (suc n) found r e =
    elim (least_unread found) as (λ o. (discover_next (discover n files) files found o).value ≡ Err r → IsOfSources r) [
      | None ↦ λ h. absurd (no_err found r h)
      | Some path ↦ λ h. elim (refused_in (discover_one files found path) (discover n files) r h) [
        | inl one ↦ elim (refused_in (find files (folder path)) (λ sources. settled (within_limit (with_imports found path (imports_in path sources)))) r one) [
          | inl k ↦ find_refused files path r k
          | inr (sources, is, k) ↦ many_refused (nat_lt package_limit (found_count (with_imports found path (imports_in path sources)))) (with_imports found path (imports_in path sources)) r k
        ]
        | inr (x, is, k) ↦ found_refused files n x r k
      ]
    ] e

cycle_refused : (a : Arrangement) (r : Refusal) → (settled (order_or a)).value ≡ Err r → IsOfSources r
cycle_refused (cycle p) r e = subst IsOfSources (err_is {X = List Text} (Cycle p) r e) tt
cycle_refused (paths ps) r e = absurd (no_err ps r e)

order_refused : (files : Files) (root : Text) (r : Refusal) → (build_order files root).value ≡ Err r → IsOfSources r
order_refused files root r e =
    elim (refused_in (discover (suc package_limit) files (begun root)) (λ found. settled (ordered found.read)) r e) [
      | inl h ↦ found_refused files (suc package_limit) (begun root) r h
      | inr (found, is, h) ↦ cycle_refused (arranged found.read) r h
    ]

-- compiling

form_refused : (path : Text) (sources : List SourceFile) (r : Refusal) → (settled (form_or path sources)).value ≡ Err r → IsOfSources r
form_refused path sources r e =
    elim (no_form_by path sources r (sym (settled_value (form_or path sources)) ∙ e)) [
      | inl (none, eq) ↦ of_name (folder path) r (path, inl refl) (sym eq)
      | inr (inl (fault, eq)) ↦ subst IsOfSources (sym eq) tt
      | inr (inr (pos, eq)) ↦ subst IsOfSources (sym eq) tt
    ]

never_reads : (ps : List Text) (r : Refusal) → (reads ps).value ≡ Err r → ⊥
unfolding reads
never_reads [] r e = no_err (tt {0}) r e
never_reads (path ∷ rest) r e =
    elim (refused_in (asking (ask.Read, linked_file path) (Ok (tt {0}))) (λ _. reads rest) r e) [
      | inl h ↦ no_err (tt {0}) r h
      | inr (x, is, h) ↦ never_reads rest r h
    ]

fault_refused : (v : Result Export Fault) (r : Refusal) → (settled (or_fault v)).value ≡ Err r → IsOfSources r
fault_refused (Ok export) r e = absurd (no_err export r e)
fault_refused (Err fault) r e = subst IsOfSources (err_is {X = Export} (Faulty fault) r e) tt

abbrev entry_from : Packages → SourceForm → Export → Plan Entry
entry_from packages form export = done (record { export = export; below = below_of packages form })

abbrev checked : Packages → SourceForm → Plan Entry
checked packages form = settled (or_fault (verdict (values packages) form)) >>= entry_from packages form

checked_refused : (packages : Packages) (form : SourceForm) (r : Refusal) → (checked packages form).value ≡ Err r → IsOfSources r
checked_refused packages form r e =
    elim (refused_in (settled (or_fault (verdict (values packages) form))) (entry_from packages form) r e) [
      | inl h ↦ fault_refused (verdict (values packages) form) r h
      | inr (export, is, h) ↦ absurd (no_err {X = Entry} (record { export = export; below = below_of packages form }) r h)
    ]

judged_refused : (files : Files) (packages : Packages) (path : Text) (r : Refusal) → (judged files packages path).value ≡ Err r → IsOfSources r
judged_refused files packages path r e =
    elim (refused_in (read_form files path) (λ form. reads (imported form) >>= λ _. checked packages form) r e) [
      | inl h ↦ elim (refused_in (find files (folder path)) (λ sources. settled (form_or path sources)) r h) [
        | inl k ↦ find_refused files path r k
        | inr (sources, is, k) ↦ form_refused path sources r k
      ]
      | inr (form, is, h) ↦ elim (refused_in (reads (imported form)) (λ _. checked packages form) r h) [
        | inl k ↦ absurd (never_reads (imported form) r k)
        | inr (x, read, k) ↦ checked_refused packages form r k
      ]
    ]

compile_refused : (files : Files) (packages : Packages) (path : Text) (r : Refusal) → (compile files packages path).value ≡ Err r → IsOfSources r
compile_refused files packages path r e =
    elim (refused_in (judged files packages path) (λ entry. write_files path entry >>= λ _. done entry) r e) [
      | inl h ↦ judged_refused files packages path r h
      | inr (entry, is, h) ↦ absurd (no_err entry r h)
    ]

all_refused : (files : Files) (order : List Text) (packages : Packages) (r : Refusal) → (compile_all files packages order).value ≡ Err r → IsOfSources r
unfolding compile_all
all_refused files [] packages r e = absurd (no_err packages r e)
all_refused files (path ∷ rest) packages r e =
    elim (refused_in (compile files packages path) (λ entry. compile_all files (insert packages path entry) rest) r e) [
      | inl h ↦ compile_refused files packages path r h
      | inr (entry, is, h) ↦ all_refused files rest (insert packages path entry) r h
    ]

-- the packages that were compiled are those of the order

packages_are : (a b : Packages) → ◌≡◌ {A = Result Packages Refusal} (Ok a) (Ok b) → a ≡ b
packages_are a b e = cc

all_keys : (files : Files) (so_far rest : List Text) (packages x : Packages) → ((q : Text) → contains_key packages q ≡ has bytes_eq so_far q) → (compile_all files packages rest).value ≡ Ok x → (q : Text) → contains_key x q ≡ has bytes_eq (so_far ++ rest) q
unfolding compile_all
all_keys files so_far [] packages x keys e q = ap (λ (m : Packages). contains_key m q) (sym (packages_are packages x e)) ∙ keys q ∙ ap (λ ps. has bytes_eq ps q) (sym (append-nil so_far))
all_keys files so_far (path ∷ rest) packages x keys e q =
    let a = bind_ok (compile files packages path) (λ entry. compile_all files (insert packages path entry) rest) x e in
    all_keys files (so_far ++ path ∷ []) rest (insert packages path a.0) x (keys_more packages so_far path a.0 keys) a.2 q ∙ ap (λ ps. has bytes_eq ps q) (append_assoc so_far (path ∷ []) rest)

never_missing : (root : Text) (o : Option Entry) (r : Refusal) → is_some o ≡ true → export_or root o ≡ Err r → ⊥
never_missing root None r there e = absurd cc
never_missing root (Some entry) r there e = no_err entry.export r e

pub build_refused : Orders → (files : Files) (root : Text) (r : Refusal) → (build files root).value ≡ Err r → IsOfSources r
build_refused laws files root r e =
    elim (refused_in (build_order files root) (λ order. ending root (compile_all files empty order)) r e) [
      | inl h ↦ order_refused files root r h
      | inr (order, is, h) ↦ elim (refused_in (compile_all files empty order) (λ packages. asking (ask.Read, linked_file root) (export_or root (get packages root))) r h) [
        | inl k ↦ all_refused files order empty r k
        | inr (packages, built, k) ↦
            let there : contains_key packages root ≡ true = all_keys files [] order empty packages no_key built root ∙ (order_of_build laws files root order is).has_root in
            absurd (never_missing root (get packages root) r there k)
      ]
    ]
