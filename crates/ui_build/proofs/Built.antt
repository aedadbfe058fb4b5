-- A package and the packages below it are built.
use Rattle.std.proofs.Common.{◌≡◌, ◌∙◌, ap, sym, subst, refl, ℕ, suc, ◌≤◌, length, List, [], ◌∷◌, map, Option, Some, None, IfSome, Result, Ok, Err, true}
use Rattle.std.specs.Prelude.{String, string_bytes, Vec}
use Rattle.std.specs.declared.alloc.Global.{Global}
use Rattle.std.specs.FinMap.{empty, get, contains_key}
use Rattle.ui_store.specs.Files.{Files}
use Rattle.ui_store.specs.Calls.{Calls}
use Rattle.ui_store.specs.declared.store.AskKind.TheVariants as ask
use Rattle.ui_exports.specs.Export.{Export}
use Rattle.ui_exports.specs.Linked.{Linked}
use Rattle.ui_order.specs.Tables.{texts}
use Rattle.ui_build.specs.Plan.{Text, Refusal, Plan, asking, ◌>>=◌}
use Rattle.ui_build.specs.Package.{linked_file}
use Rattle.ui_build.specs.Build.{Packages, package_limit, compile_all, export_or, build_order, build}
use Rattle.ui_build.specs.Loading as plans
use Rattle.ui_build.specs.Loading.{linked_as, print_of, load}
use Rattle.ui_build.specs.Views.{loaded_of}
use Rattle.ui_build.specs.Stops.{State, state, DoesStop, Does, DoesSeen, Carries, refusal_of}
use Rattle.ui_build.specs.Built.{IsInOrder, Stands, Compiled}
use Rattle.ui_build.specs.declared.loading.Loaded.{Loaded}
use Rattle.ui_build.specs.declared.stop.Stop.{Stop}
use Rattle.ui_build.specs.declared.stop.Stop.TheVariants as stop
use Rattle.ui_build.proofs.Steps.{does_then, does_stop}
use Rattle.ui_build.proofs.Linking.{Containers, Records, load-built, entry_at, entry_there}
use Rattle.ui_build.proofs.Discovered.{Orders, IsOrderOf, order_of_build}

abbrev Order : Type 0
Order = Vec (String Global) Global

abbrev kept : Export → Export
kept e = e

-- what compiling the packages of an order did
abbrev pub CompilesAll : State → State → Order → Result (Unit {0}) Stop → Type 0
CompilesAll old new order r = (files : Files) → old.files ≡ Some files → IsInOrder files [] (texts order) → length order.items ≤ package_limit → Carries (Compiled files (texts order) new.files) (compile_all files empty (texts order)) old new r

as_long : {X Y : Type 0} (f : X → Y) (xs : List X) → length (map f xs) ≡ length xs
as_long f [] = refl
as_long f (x ∷ xs) = ap suc (as_long f xs)

carried : (files : Files) (path : Text) (order : Order) (old new : State) (r : Result (Unit {0}) Stop) → old.files ≡ Some files → IsOrderOf files path (texts order) → CompilesAll old new order r → Carries (Compiled files (texts order) new.files) (compile_all files empty (texts order)) old new r
carried files path order old new r at is c = let P : ℕ → Type 0 = λ n. n ≤ package_limit in c files at is.sorted (subst P (as_long string_bytes order.items) is.few)

-- what follows the order, and what follows the packages
abbrev and_read : Text → Packages → Plan Export
and_read path packages = asking (ask.Read, linked_file path) (export_or path (get packages path))

abbrev and_compile : Files → Text → List Text → Plan Export
and_compile files path order = compile_all files empty order >>= λ packages. and_read path packages

pub build_compile_stop : (laws : Orders) (path : Text) (order : Order) (files mid : Option Files) (asked mid_asked : Calls) (new : State) (s : Stop) → mid ≡ files → DoesSeen texts (λ told. build_order told path) (state files asked) (state mid mid_asked) (Ok order)
    → CompilesAll (state mid mid_asked) new order (Err s) → DoesSeen kept (λ told. build told path) (state files asked) new (Err s)
build_compile_stop laws path order None mid asked mid_asked new s same d c = tt
build_compile_stop laws path order (Some told) mid asked mid_asked new s same d c =
    let old : State = state (Some told) asked in
    let two : State = state mid mid_asked in
    does_then texts kept (build_order told path) (and_compile told path) old two new order (Err s) d
    (does_stop (compile_all told empty (texts order)) (and_read path) two new s (carried told path order two new (Err s) same (order_of_build laws told path (texts order) d.0) c))

-- ---- the linked file of the root

ok_is : {X : Type 0} (x y : X) → ◌≡◌ {A = Result X Refusal} (Ok x) (Ok y) → x ≡ y
ok_is x y e = cc

root_there : (path : Text) (packages : Packages) → contains_key packages path ≡ true → export_or path (get packages path) ≡ Ok (entry_at packages path).export
root_there path packages h = ap (export_or path) (entry_there packages path h)

abbrev reading : {X : Type 0} → Text → X → Plan X
reading path x = asking (ask.Read, linked_file path) (Ok x)

read_stop : (path : Text) (x : plans.Loaded) (e : Export) (old new : State) (s : Stop) → DoesStop (reading path x) old new s → DoesStop (reading path e) old new s
read_stop path x e old new (stop.Refused r) d = absurd (never d.0)
  where
    never : ◌≡◌ {A = Result plans.Loaded Refusal} (Ok x) (Err (refusal_of r)) → ⊥
    never h = absurd cc
read_stop path x e old new (stop.ReadFault n) d = record { asked = d.asked; files = d.files }
read_stop path x e old new (stop.WriteFault n) d = record { asked = d.asked; files = d.files }
read_stop path x e old new stop.NoMemory d = record { asked = d.asked; files = d.files }

-- the built root is loaded
loads_root : (containers : Containers) (records : Records) (files : Files) (path : Text) (packages : Packages) (two new : State) (r : Result Loaded Stop) → contains_key packages path ≡ true → Stands files two.files packages → DoesSeen loaded_of (λ told. load told path) two new r
    → (l : Linked) × (print : Text) × (l.export ≡ (entry_at packages path).export) × Does loaded_of (reading path (l, print)) two new r
loads_root containers records files path packages two new r there stands does =
    let e = entry_at packages path in
    let told = stands.0 in
    let P : Option Files → Type 0 = λ f. IfSome f (λ t. Does loaded_of (load t path) two new r) in
    let Q : Plan plans.Loaded → Type 0 = λ p. Does loaded_of p two new r in
    (linked_as told e, print_of told path, refl, subst Q (load-built told packages path e containers records (stands.3 path e (entry_there packages path there))) (subst P stands.1 does))

root_key : (files : Files) (path : Text) (order : Order) (packages : Packages) (now : Option Files) → IsOrderOf files path (texts order) → Compiled files (texts order) now packages → contains_key packages path ≡ true
root_key files path order packages now is c = c.1 path ∙ is.has_root

pub build_load_stop : (laws : Orders) (containers : Containers) (records : Records) (path : Text) (order : Order) (files mid : Option Files) (asked mid_asked : Calls) (two new : State) (s : Stop) → mid ≡ files → DoesSeen texts (λ told. build_order told path) (state files asked) (state mid mid_asked) (Ok order)
    → CompilesAll (state mid mid_asked) two order (Ok tt) → DoesSeen loaded_of (λ told. load told path) two new (Err s) → DoesSeen kept (λ told. build told path) (state files asked) new (Err s)
build_load_stop laws containers records path order None mid asked mid_asked two new s same d c load = tt
build_load_stop laws containers records path order (Some told) mid asked mid_asked two new s same d c load =
    let old : State = state (Some told) asked in
    let one : State = state mid mid_asked in
    let is = order_of_build laws told path (texts order) d.0 in
    let k = carried told path order one two (Ok tt) same is c in
    let there = root_key told path order k.0 two.files is k.3 in
    let l = loads_root containers records told path k.0 two new (Err s) there k.3.0 load in
    let P : Result Export Refusal → Type 0 = λ v. DoesStop (asking (ask.Read, linked_file path) v) two new s in
    does_then texts kept (build_order told path) (and_compile told path) old one new order (Err s) d
    (does_then (λ (x : Packages). x) kept (compile_all told empty (texts order)) (and_read path) one two new k.0 (Err s) (k.1, k.2)
    (subst P (sym (root_there path k.0 there)) (read_stop path (l.0, l.1) (entry_at k.0 path).export two new s l.3)))

pub build_ok : (laws : Orders) (containers : Containers) (records : Records) (path : Text) (order : Order) (loaded : Loaded) (files mid : Option Files) (asked mid_asked : Calls) (two new : State) → mid ≡ files → DoesSeen texts (λ told. build_order told path) (state files asked) (state mid mid_asked) (Ok order)
    → CompilesAll (state mid mid_asked) two order (Ok tt) → DoesSeen loaded_of (λ told. load told path) two new (Ok loaded) → DoesSeen kept (λ told. build told path) (state files asked) new (Ok loaded.linked.export)
build_ok laws containers records path order loaded None mid asked mid_asked two new same d c load = tt
build_ok laws containers records path order loaded (Some told) mid asked mid_asked two new same d c load =
    let old : State = state (Some told) asked in
    let one : State = state mid mid_asked in
    let is = order_of_build laws told path (texts order) d.0 in
    let k = carried told path order one two (Ok tt) same is c in
    let there = root_key told path order k.0 two.files is k.3 in
    let l = loads_root containers records told path k.0 two new (Ok loaded) there k.3.0 load in
    let export : (entry_at k.0 path).export ≡ loaded.linked.export = sym l.2 ∙ ap (λ (x : plans.Loaded). x.0.export) (ok_is (l.0, l.1) (loaded_of loaded) l.3.0) in
    let P : Result Export Refusal → Type 0 = λ v. Does kept (asking (ask.Read, linked_file path) v) two new (Ok loaded.linked.export) in
    does_then texts kept (build_order told path) (and_compile told path) old one new order (Ok loaded.linked.export) d
    (does_then (λ (x : Packages). x) kept (compile_all told empty (texts order)) (and_read path) one two new k.0 (Ok loaded.linked.export) (k.1, k.2)
    (subst P (sym (root_there path k.0 there)) (ap Ok export, record { asked = l.3.1.asked; files = l.3.1.files })))
