-- What was written is what the linked file stands for.
use Rattle.std.proofs.Common.{◌≡◌, ◌∙◌, ap, sym, subst, refl, length, ◌≤◌, ◌++◌, ℕ, true, cond, List, [], ◌∷◌, map, Option, Some, None, Ok, Err, append_assoc, append-nil}
use Rattle.std.specs.Prelude.{is_some}
use Rattle.std.specs.List.{AllByRecursion}
use Rattle.std.specs.FinMap.{empty, get, contains_key}
use Rattle.std.specs.Cmp.Lexicographic.{nat_list_eq_equiv}
use Rattle.std.proofs.lemmas.Bool.{le-ltb}
use Rattle.ui_store.specs.Files.{Files, reading, within}
use Rattle.ui_store.specs.declared.fault.StoreFault.TheVariants as fault
use Rattle.ui_store.specs.declared.store.AskKind.TheVariants as ask
use Rattle.ui_frame.specs.Container.{Parts, IsContainer, fingerprint}
use Rattle.ui_frame.specs.Opening.{first_failing, parts_in}
use Rattle.ui_frame.specs.Laws.{IsBytes}
use Rattle.ui_exports.specs.Linked.{Linked}
use Rattle.ui_consts.specs.Record.{StandsFor}
use Rattle.ui_consts.specs.Reading.{record_in}
use Rattle.ui_build.specs.Plan.{Text, BadElement, Entry, Plan, done, settled, ◌>>=◌, asking}
use Rattle.ui_build.specs.Package.{linked_file, file_limit, read_as}
use Rattle.ui_build.specs.Build.{Packages, reads}
use Rattle.ui_build.specs.Loading.{Loaded, print_in, print_of, linked_as, load, load_all, with_loaded, recorded, opened, or_element}
use Rattle.ui_build.specs.Built.{IsBuilt, AreBuilt}

-- the laws of containers
pub record Containers : Type 0 where
  pub passes : (bytes : Text) (parts : Parts) → IsContainer bytes parts → first_failing bytes ≡ None
  pub found : (bytes : Text) → IsBytes bytes → first_failing bytes ≡ None → IsContainer bytes (parts_in bytes)
  pub one : (bytes : Text) (parts other : Parts) → IsContainer bytes parts → IsContainer bytes other → parts ≡ other

-- the law of records: what parts stand for is found
abbrev pub Records : Type 0
Records = (parts : Parts) (l : Linked) → StandsFor parts l → record_in parts ≡ Some l

-- what a container that was opened stands for
pub recorded-container : (laws : Containers) (name path bytes : Text) (parts : Parts) → IsBytes bytes → IsContainer bytes parts → recorded name path (Some bytes) ≡ or_element name path (fingerprint parts) (record_in parts)
unfolding recorded
recorded-container laws name path bytes parts are is =
    let passed = laws.passes bytes parts is in
    ap (opened name path bytes) passed ∙ ap (λ p. or_element name path (fingerprint p) (record_in p)) (laws.one bytes (parts_in bytes) parts (laws.found bytes are passed) is)

-- the fingerprint of a container's bytes
pub container_print : (laws : Containers) (bytes : Text) (parts : Parts) → IsBytes bytes → IsContainer bytes parts → parts_in bytes ≡ parts
container_print laws bytes parts are is = laws.one bytes (parts_in bytes) parts (laws.found bytes are (laws.passes bytes parts is)) is

same_path : (name print : Text) (l : Linked) → or_element name l.export.path print (Some l) ≡ Ok (l, print)
same_path name print l = ap (λ b. cond b (Ok (l, print)) (Err (BadElement name))) (nat_list_eq_equiv.refl l.export.path)

recorded-file : (path bytes : Text) (l : Linked) (parts : Parts) → Containers → Records → IsBytes bytes → IsContainer bytes parts → StandsFor parts l → l.export.path ≡ path → recorded (linked_file path) path (Some bytes) ≡ Ok (l, fingerprint (parts_in bytes))
recorded-file path bytes l parts laws law are is stands own =
    let P : Text → Type 0 = λ p. recorded (linked_file path) p (Some bytes) ≡ Ok (l, fingerprint (parts_in bytes)) in
    subst P own
    (recorded-container laws (linked_file path) l.export.path bytes parts are is ∙ ap (or_element (linked_file path) l.export.path (fingerprint parts)) (law parts l stands) ∙ same_path (linked_file path) (fingerprint parts) l
    ∙ ap (λ p. Ok (l, fingerprint p)) (sym (container_print laws bytes parts are is)))

reading_there : (files : Files) (name bytes : Text) (limit : ℕ) → get files name ≡ Some bytes → length bytes ≤ limit → reading files name limit ≡ Ok bytes
unfolding reading
reading_there files name bytes limit e h = ap (within limit) e ∙ ap (λ b. cond b (Err fault.TooLong) (Ok bytes)) (le-ltb limit (length bytes) h)

-- a linked file that stands for an entry is read as it
pub load-built : (told : Files) (packages : Packages) (path : Text) (entry : Entry) → Containers → Records → IsBuilt told packages path entry → load told path ≡ asking (ask.Read, linked_file path) (Ok (linked_as told entry, print_of told path))
load-built told packages path entry laws law b =
    ap (λ r. asking (ask.Read, linked_file path) (read_as (linked_file path) r) >>= λ bytes. settled (recorded (linked_file path) path bytes)) (reading_there told (linked_file path) b.bytes file_limit b.there b.file.short)
    ∙ ap (λ r. asking (ask.Read, linked_file path) (Ok (Some b.bytes)) >>= λ (bytes : Option Text). settled r) (recorded-file path b.bytes (linked_as told entry) b.file.holds.0 laws law b.file.are b.file.holds.1 b.file.holds.2 b.own)
    ∙ ap (λ p. asking (ask.Read, linked_file path) (Ok (linked_as told entry, print_in p))) (sym b.there)

-- ---- the entries of packages

abbrev pub entry_or : Option Entry → Entry
entry_or (Some entry) = entry
entry_or None = record { export = record { path = []; name = []; decls = empty }; below = [] }

abbrev pub entry_at : Packages → Text → Entry
entry_at packages path = entry_or (get packages path)

is_entry : (o : Option Entry) → is_some o ≡ true → o ≡ Some (entry_or o)
is_entry None e = absurd cc
is_entry (Some entry) e = refl

pub entry_there : (packages : Packages) (path : Text) → contains_key packages path ≡ true → get packages path ≡ Some (entry_at packages path)
entry_there packages path h = is_entry (get packages path) h

abbrev pub linked_at : Files → Packages → Text → Linked
linked_at told packages path = linked_as told (entry_at packages path)

-- the linked files of packages that are built are read as what these stand for
abbrev after_call : {Y : Type 0} → Text → Plan Y → Plan Y
after_call path n = record { value = n.value; asks = (ask.Read, linked_file path) ∷ n.asks; puts = n.puts }

pub load_all-built : (told : Files) (packages : Packages) (paths : List Text) (files : List Linked) (prints : List Text) → Containers → Records → AreBuilt told packages → AllByRecursion (λ q. contains_key packages q ≡ true) paths
    → load_all told (files, prints) paths ≡ (reads paths >>= λ _. done (files ++ map (linked_at told packages) paths, prints ++ map (print_of told) paths))
unfolding load_all reads
load_all-built told packages [] files prints laws law built h = λ i. done (sym (append-nil files) i, sym (append-nil prints) i)
load_all-built told packages (q ∷ qs) files prints laws law built h =
    let l = linked_at told packages q in
    let p = print_of told q in
    ap (λ (one : Plan Loaded). one >>= λ x. load_all told (with_loaded (files, prints) x) qs) (load-built told packages q (entry_at packages q) laws law (built q (entry_at packages q) (entry_there packages q h.0)))
    ∙ ap (after_call q) (load_all-built told packages qs (files ++ l ∷ []) (prints ++ p ∷ []) laws law built h.1)
    ∙ ap (λ (x : List Linked × List Text). after_call q (reads qs >>= λ _. done x)) (λ i. (append_assoc files (l ∷ []) (map (linked_at told packages) qs) i, append_assoc prints (p ∷ []) (map (print_of told) qs) i))
