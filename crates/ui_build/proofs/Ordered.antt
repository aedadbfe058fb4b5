-- Packages are compiled in their order: what stands so far, and that the rest does the same as the whole.
use Rattle.std.proofs.Common.{◌≡◌, ◌∙◌, ap, sym, subst, refl, ℕ, ◌+◌, ◌<◌, ◌≤◌, length, true, false, cond, Bool, List, [], ◌∷◌, ◌++◌, drop, take, get_or, map, Option, Some, None, Result, Ok, Err, arith, append-nil}
use Rattle.std.specs.Prelude.{String, string_bytes, bytes_eq, is_some, ◌||◌}
use Rattle.std.specs.List.{AllByRecursion}
use Rattle.std.specs.declared.alloc.Global.{Global}
use Rattle.std.specs.Cmp.Lexicographic.{nat_list_cmp_total, bytes_decides}
use Rattle.std.specs.FinMap.{empty, get, insert, contains_key, get-insert, len, len-insert, get-empty, len-empty}
use Rattle.std.specs.Ordering.{nat_cmp}
use Rattle.std.specs.Cmp.Lexicographic.{slice_cmp}
use Rattle.std.proofs.lemmas.List.{map-append, take_more, take-append-drop}
use Rattle.std.proofs.lemmas.List.Folds.{list_any-append}
use Rattle.ui_store.specs.Calls.{Calls}
use Rattle.ui_store.specs.Files.{Files}
use Rattle.ui_exports.specs.Linked.{Linked}
use Rattle.ui_order.specs.Steps.{has}
use Rattle.ui_build.specs.Plan.{Text, Entry}
use Rattle.ui_build.specs.Build.{Packages, package_limit, compile, compile_all}
use Rattle.ui_build.specs.Loading.{entry_of}
use Rattle.ui_build.specs.Stops.{State, state, Does, DoesStop, Carries}
use Rattle.ui_build.specs.Built.{AreBuilt, IsReady, IsInOrder, Stands, Compiled, imports_by}
use Rattle.ui_build.specs.declared.stop.Stop.{Stop}
use Rattle.ui_build.proofs.Steps.{carries_then, does_stop, ends_none}
use Rattle.ui_build.proofs.Keeping.{same_name, equal_names, names_equal}
use Rattle.ui_build.proofs.LoadingAll.{Names, paths_from, path_here}

abbrev pub before : Names → ℕ → List Text
before names i = map string_bytes (take i names)

before_more : (names : Names) (i : ℕ) (d : String Global) → i < length names → before names (i + 1) ≡ before names i ++ string_bytes (get_or names i d) ∷ []
before_more names i d h = ap (map string_bytes) (take_more names i d h) ∙ map-append string_bytes (take i names) (get_or names i d ∷ [])

-- What stands when the packages before a place are compiled.
pub record CompilesOn (files : Files) (names : Names) (initial : State) (i : ℕ) (now : State) : Type 0 where
  pub packages : Packages
  pub stands : Stands files now.files packages
  pub keys : (q : Text) → contains_key packages q ≡ has bytes_eq (before names i) q
  pub few : len packages ≤ i
  pub sorted : IsInOrder files (before names i) (paths_from names i)
  pub rest : (new : State) (r : Result (Unit {0}) Stop) → Carries (Compiled files (map string_bytes names) new.files) (compile_all files packages (paths_from names i)) now new r → Carries (Compiled files (map string_bytes names) new.files) (compile_all files empty (paths_from names 0)) initial new r

pub no_key : (q : Text) → contains_key (empty {X = Entry} {R = slice_cmp nat_cmp}) q ≡ false
no_key q = ap is_some (get-empty (slice_cmp nat_cmp) q)

nothing_built : (files : Files) → AreBuilt files empty
nothing_built files = λ path entry found. absurd (none entry (sym (get-empty (slice_cmp nat_cmp) path) ∙ found))
  where
    none : (entry : Entry) → None ≡ Some entry → ⊥
    none entry e = absurd cc

pub compiles_first : (files : Files) (names : Names) (asked : Calls) → IsInOrder files [] (map string_bytes names) → CompilesOn files names (state (Some files) asked) 0 (state (Some files) asked)
compiles_first files names asked sorted = record {
  packages = empty;
  stands = (files, refl, λ path. refl, nothing_built files);
  keys = λ q. no_key q;
  few = let e = len-empty (slice_cmp nat_cmp) Entry in omega (arith, e);
  sorted = sorted;
  rest = λ new r c. c;
}

there_all : (packages : Packages) (so_far paths : List Text) → ((q : Text) → contains_key packages q ≡ has bytes_eq so_far q) → AllByRecursion (λ q. has bytes_eq so_far q ≡ true) paths → AllByRecursion (λ q. contains_key packages q ≡ true) paths
there_all packages so_far [] keys h = tt
there_all packages so_far (p ∷ ps) keys h = (keys p ∙ h.0, there_all packages so_far ps keys h.1)

sorted_here : (files : Files) (names : Names) (i : ℕ) (d : String Global) → i < length names → IsInOrder files (before names i) (paths_from names i) → IsInOrder files (before names i) (string_bytes (get_or names i d) ∷ paths_from names (i + 1))
sorted_here files names i d h s = let P : List Text → Type 0 = IsInOrder files (before names i) in subst P (path_here names i d h) s

pub is_ready : (files : Files) (names : Names) (initial now : State) (i : ℕ) (d : String Global) → i < length names → length names ≤ package_limit → (on : CompilesOn files names initial i now) → IsReady files on.stands.0 on.packages (string_bytes (get_or names i d))
is_ready files names initial now i d h few on =
    let s = sorted_here files names i d h on.sorted in
    let path = string_bytes (get_or names i d) in
    record {
      same = on.stands.2;
      built = on.stands.3;
      imports = there_all on.packages (before names i) (imports_by files path) on.keys s.1;
      apart = on.keys path ∙ s.0;
      few = omega (arith, on.few, h, few);
    }

bytes_same : (q p : Text) → bytes_eq q p ≡ same_name q p
bytes_same q p = by (same_name q p) refl
  where
    by : (b : Bool) → same_name q p ≡ b → bytes_eq q p ≡ b
    by true e = (bytes_decides q p).1 (equal_names q p e)
    by false e = not_true (bytes_eq q p) (λ t. differ (names_equal q p ((bytes_decides q p).0 t)) e)
      where
        not_true : (b : Bool) → (b ≡ true → ⊥) → b ≡ false
        not_true true n = absurd (n refl)
        not_true false n = refl

        differ : same_name q p ≡ true → same_name q p ≡ false → ⊥
        differ a b = absurd cc

or_key : (b : Bool) (c : Bool) (o : Option Entry) (e : Entry) → is_some o ≡ c → is_some (cond b (Some e) o) ≡ (c || (b || false))
or_key true true o e h = refl
or_key true false o e h = refl
or_key false true o e h = h
or_key false false o e h = h

pub keys_more : (packages : Packages) (so_far : List Text) (path : Text) (entry : Entry) → ((q : Text) → contains_key packages q ≡ has bytes_eq so_far q) → (q : Text) → contains_key (insert packages path entry) q ≡ has bytes_eq (so_far ++ path ∷ []) q
keys_more packages so_far path entry keys q =
    ap is_some (get-insert nat_list_cmp_total packages path entry q) ∙ or_key (same_name q path) (has bytes_eq so_far q) (get packages q) entry (keys q)
    ∙ ap (λ b. has bytes_eq so_far q || (b || false)) (sym (bytes_same q path)) ∙ sym (list_any-append (bytes_eq q) so_far (path ∷ []))

-- one package was compiled
pub compiles_next : (files : Files) (names : Names) (initial now mid : State) (i : ℕ) (d : String Global) (l : Linked) → i < length names → length names ≤ package_limit → (on : CompilesOn files names initial i now)
    → Does entry_of (compile files on.packages (string_bytes (get_or names i d))) now mid (Ok l) → Stands files mid.files (insert on.packages (string_bytes (get_or names i d)) (entry_of l)) → CompilesOn files names initial (i + 1) mid
unfolding compile_all
compiles_next files names initial now mid i d l h few on does stands =
    let path = string_bytes (get_or names i d) in
    let s = sorted_here files names i d h on.sorted in
    let apart : contains_key on.packages path ≡ false = on.keys path ∙ s.0 in
    let more = before_more names i d h in
    let P : List Text → Type 0 = λ b. (q : Text) → contains_key (insert on.packages path (entry_of l)) q ≡ has bytes_eq b q in
    let Q : List Text → Type 0 = λ b. IsInOrder files b (paths_from names (i + 1)) in
    let longer : len (insert on.packages path (entry_of l)) ≡ len on.packages + 1 = len-insert nat_list_cmp_total on.packages path (entry_of l) ∙ ap (λ b. cond b (len on.packages) (len on.packages + 1)) apart in
    record {
      packages = insert on.packages path (entry_of l);
      stands = stands;
      keys = subst P (sym more) (keys_more on.packages (before names i) path (entry_of l) on.keys);
      few = omega (arith, longer, on.few);
      sorted = subst Q (sym more) s.2;
      rest = λ new r c.
          let R : List Text → Type 0 = λ ps. Carries (Compiled files (map string_bytes names) new.files) (compile_all files on.packages ps) now new r in
          on.rest new r (subst R (sym (path_here names i d h))
          (carries_then (Compiled files (map string_bytes names) new.files) (compile files on.packages path) (λ entry. compile_all files (insert on.packages path entry) (paths_from names (i + 1))) (entry_of l) now mid new r does.0 does.1 c));
    }

-- one package was not
pub compiles_stop : (files : Files) (names : Names) (initial now new : State) (i : ℕ) (d : String Global) (s : Stop) → i < length names → (on : CompilesOn files names initial i now) → DoesStop (compile files on.packages (string_bytes (get_or names i d))) now new s
    → DoesStop (compile_all files empty (paths_from names 0)) initial new s
unfolding compile_all
compiles_stop files names initial now new i d s h on does =
    let path = string_bytes (get_or names i d) in
    let R : List Text → Type 0 = λ ps. DoesStop (compile_all files on.packages ps) now new s in
    on.rest new (Err s) (subst R (sym (path_here names i d h)) (does_stop (compile files on.packages path) (λ entry. compile_all files (insert on.packages path entry) (paths_from names (i + 1))) now new s does))

whole : (names : Names) (i : ℕ) → drop i names ≡ [] → take i names ≡ names
whole names i none = sym (append-nil (take i names)) ∙ ap (λ r. take i names ++ r) (sym none) ∙ take-append-drop i names

-- none is left
pub compiles_last : (files : Files) (names : Names) (initial now : State) (i : ℕ) → drop i names ≡ [] → CompilesOn files names initial i now → Carries {A = Unit {0}} (Compiled files (map string_bytes names) now.files) (compile_all files empty (paths_from names 0)) initial now (Ok tt)
unfolding compile_all
compiles_last files names initial now i none on =
    let R : List Text → Type 0 = λ ps. Carries {A = Unit {0}} (Compiled files (map string_bytes names) now.files) (compile_all files on.packages ps) now now (Ok tt) in
    let K : List (String Global) → Type 0 = λ ns. (q : Text) → contains_key on.packages q ≡ has bytes_eq (map string_bytes ns) q in
    on.rest now (Ok tt) (subst R (sym (ap (map string_bytes) none)) (on.packages, refl, ends_none on.packages now, (on.stands, subst K (whole names i none) on.keys)))

-- ---- the same by what a call says of the path at hand

abbrev pub CompileDoes : State → State → Result Linked Stop → Text → Type 0
CompileDoes now new r path = (files told : Files) (packages : Packages) → now.files ≡ Some told → IsReady files told packages path → Does entry_of (compile files packages path) now new r

abbrev pub CompileStands : State → State → Linked → Text → Type 0
CompileStands now new l path = (files told : Files) (packages : Packages) → now.files ≡ Some told → IsReady files told packages path → Stands files new.files (insert packages path (entry_of l))

ready_at : (files : Files) (names : Names) (initial now : State) (i : ℕ) (d : String Global) (path : Text) → i < length names → length names ≤ package_limit → path ≡ string_bytes (get_or names i d) → (on : CompilesOn files names initial i now) → IsReady files on.stands.0 on.packages path
ready_at files names initial now i d path h few is on = let P : Text → Type 0 = IsReady files on.stands.0 on.packages in subst P (sym is) (is_ready files names initial now i d h few on)

pub compiled_next : (files : Files) (names : Names) (initial now mid : State) (i : ℕ) (d : String Global) (path : Text) (l : Linked) → i < length names → length names ≤ package_limit → path ≡ string_bytes (get_or names i d) → CompileDoes now mid (Ok l) path → CompileStands now mid l path
    → CompilesOn files names initial i now → CompilesOn files names initial (i + 1) mid
compiled_next files names initial now mid i d path l h few is does stands on =
    let ready = ready_at files names initial now i d path h few is on in
    let D : Text → Type 0 = λ t. Does entry_of (compile files on.packages t) now mid (Ok l) in
    let S : Text → Type 0 = λ t. Stands files mid.files (insert on.packages t (entry_of l)) in
    compiles_next files names initial now mid i d l h few on (subst D is (does files on.stands.0 on.packages on.stands.1 ready)) (subst S is (stands files on.stands.0 on.packages on.stands.1 ready))

pub compiled_stop : (files : Files) (names : Names) (initial now new : State) (i : ℕ) (d : String Global) (path : Text) (s : Stop) → i < length names → length names ≤ package_limit → path ≡ string_bytes (get_or names i d) → CompileDoes now new (Err s) path
    → CompilesOn files names initial i now → DoesStop (compile_all files empty (paths_from names 0)) initial new s
compiled_stop files names initial now new i d path s h few is does on =
    let D : Text → Type 0 = λ t. DoesStop (compile files on.packages t) now new s in
    compiles_stop files names initial now new i d s h on (subst D is (does files on.stands.0 on.packages on.stands.1 (ready_at files names initial now i d path h few is on)))
