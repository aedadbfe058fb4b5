-- What discovery heard, and why it was refused by that.
use Rattle.std.proofs.Common.{◌≡◌, ◌∙◌, ap, sym, subst, refl, ℕ, zero, suc, ◌+◌, ◌≤◌, true, false, cond, List, [], ◌++◌, Some, None, Result, Ok, Err, arith, add-one}
use Rattle.std.specs.Prelude.{nat_lt, Vec}
use Rattle.std.specs.declared.alloc.Global.{Global}
use Rattle.std.specs.Ordering.{nat_cmp}
use Rattle.std.specs.Cmp.Lexicographic.{slice_cmp}
use Rattle.std.specs.FinMap.{len, len-empty}
use Rattle.std.proofs.lemmas.Bool.{ltb-false}
use Rattle.ui_store.specs.Told.{more_none}
use Rattle.ui_store.specs.Calls.{Hearing, Hearings}
use Rattle.ui_order.specs.Found.{Found, IsFound, begun, found_count, least_unread, with_imports}
use Rattle.ui_order.specs.Laws.{BeginsFound, KeepsFound, ReadsOneMore}
use Rattle.ui_build.specs.Plan.{Text, Refusal, TooMany}
use Rattle.ui_build.specs.Package.{folder, imports_in}
use Rattle.ui_build.specs.Build.{package_limit, within_limit, ordered}
use Rattle.ui_build.specs.Sources.{sources_of}
use Rattle.ui_build.specs.Stops.{SettlesStop}
use Rattle.ui_build.specs.Heard.{HearsIn, FindsSources, FindsOne, FindsIn, FindsAll, FindsOrder}
use Rattle.ui_build.specs.Refused.{By, LacksSources, LacksOne, LacksPackages, LacksOrder}
use Rattle.ui_sources.specs.declared.source.SourceFile.{SourceFile as InMemory}
use Rattle.ui_build.specs.declared.stop.Stop.{Stop}
use Rattle.ui_build.specs.declared.stop.Stop.TheVariants as stop
use Rattle.ui_build.proofs.Discovered.{begun_few}
use Rattle.ui_build.proofs.Hearing.{both_told, stopped_as, heard_first, heard_by, heard_value}

-- ---- one package

abbrev Sources : Text → Hearings → Hearings → Vec InMemory Global → Type 0
Sources folder old new v = HearsIn (λ (w : Vec InMemory Global). FindsSources folder (sources_of w)) (LacksSources folder) old new (Ok v)

pub one_unfound : {A B : Type 0} (one : A → List Hearing → Type 0) (gives : B → List Hearing → Type 0) (found : Found) (path : Text) (s : Stop) (old new : Hearings) → HearsIn one (LacksSources (folder path)) old new (Err s) → HearsIn gives (LacksOne found path) old new (Err s)
one_unfound one gives found path s old new h = heard_first one gives (LacksSources (folder path)) (FindsSources (folder path)) (λ sources. By (within_limit (with_imports found path (imports_in path sources)))) s old new h

pub one_too_many : {B : Type 0} (gives : B → List Hearing → Type 0) (found : Found) (path : Text) (v : Vec InMemory Global) (s : Stop) (old new : Hearings) → Sources (folder path) old new v
    → SettlesStop (within_limit (with_imports found path (imports_in path (sources_of v)))) s → HearsIn gives (LacksOne found path) old new (Err s)
one_too_many gives found path v s old new f is = heard_by sources_of gives (LacksSources (folder path)) (LacksSources (folder path)) (FindsSources (folder path)) (λ sources. within_limit (with_imports found path (imports_in path sources))) v s old new f is

pub one_found : (found : Found) (path : Text) (v : Vec InMemory Global) (more : Found) (old new : Hearings) → Sources (folder path) old new v
    → within_limit (with_imports found path (imports_in path (sources_of v))) ≡ Ok more → HearsIn (FindsOne found path) (LacksOne found path) old new (Ok more)
one_found found path v more old new f is =
    heard_value (λ (w : Vec InMemory Global). FindsSources (folder path) (sources_of w)) (FindsOne found path) (LacksSources (folder path)) (LacksOne found path) v more old new new refl
    (λ x finds. record { sources = sources_of v; finds = finds; within = is }) f

-- ---- turns

-- what so many turns heard
abbrev pub Turned : Text → ℕ → Found → Hearings → Hearings → Type 0
Turned root turns found old new = HearsIn {X = Unit {0}} (λ u. FindsIn turns root found) (LacksPackages root) old new (Ok tt)

pub turned_none : (root : Text) (found : Found) (old : Hearings) → found ≡ begun root → Turned root 0 found old old
turned_none root found old is = record { heard = []; told = sym (more_none old); ends = (is, refl) }

pub turned_more : (root : Text) (turns : ℕ) (before found : Found) (path : Text) (old mid new : Hearings) → least_unread before ≡ Some path → Turned root turns before old mid → HearsIn (FindsOne before path) (LacksOne before path) mid new (Ok found) → Turned root (turns + 1) found old new
turned_more root turns before found path old mid new least f one =
    let P : ℕ → Type 0 = λ n. FindsIn n root found (f.heard ++ one.heard) in
    record {
      heard = f.heard ++ one.heard;
      told = both_told old mid new f.heard one.heard f.told one.told;
      ends = subst P (sym (add-one turns)) (before, path, f.heard, one.heard, refl, f.ends, least, one.ends);
    }

pub turned_stop : {A B : Type 0} (one : A → List Hearing → Type 0) (gives : B → List Hearing → Type 0) (root : Text) (turns : ℕ) (before : Found) (path : Text) (s : Stop) (old mid new : Hearings) → least_unread before ≡ Some path
    → Turned root turns before old mid → HearsIn one (LacksOne before path) mid new (Err s) → HearsIn gives (LacksPackages root) old new (Err s)
turned_stop one gives root turns before path s old mid new least f h =
    let refused : (q : Refusal) → LacksOne before path q h.heard → LacksPackages root q (f.heard ++ h.heard) = λ q by. record { value = before; first = f.heard; last = h.heard; whole = refl; given = (turns, f.ends); refused = (path, least, by) } in
    record {
      heard = f.heard ++ h.heard;
      told = both_told old mid new f.heard h.heard f.told h.told;
      ends = stopped_as (LacksOne before path) (LacksPackages root) h.heard (f.heard ++ h.heard) s refused h.ends;
    }

pub turned_memory : {B : Type 0} (gives : B → List Hearing → Type 0) (root : Text) (turns : ℕ) (found : Found) (old new : Hearings) → Turned root turns found old new → HearsIn gives (LacksPackages root) old new (Err stop.NoMemory)
turned_memory gives root turns found old new f = record { heard = f.heard; told = f.told; ends = tt }

pub turned_all : (root : Text) (turns : ℕ) (found : Found) (old new : Hearings) → least_unread found ≡ None → Turned root turns found old new → HearsIn (FindsAll root) (LacksPackages root) old new (Ok found)
turned_all root turns found old new none f = record { heard = f.heard; told = f.told; ends = record { finds = (turns, f.ends); all = none } }

-- ---- a turn is left

found_is : (a b : Found) → ◌≡◌ {A = Result Found Refusal} (Ok a) (Ok b) → a ≡ b
found_is a b e = cc

-- what is within the limit
pub within_is : (found x : Found) → within_limit found ≡ Ok x → (found ≡ x) × (found_count found ≤ package_limit)
within_is found x e = elim (nat_lt package_limit (found_count found)) as (λ b. nat_lt package_limit (found_count found) ≡ b → ◌≡◌ {A = Result Found Refusal} (cond b (Err TooMany) (Ok found)) (Ok x) → (found ≡ x) × (found_count found ≤ package_limit)) [
  | true ↦ λ _ h. absurd (never x h)
  | false ↦ λ l h. (found_is found x h, ltb-false package_limit (found_count found) l)
] refl e
  where
    never : (x : Found) → ◌≡◌ {A = Result Found Refusal} (Err TooMany) (Ok x) → ⊥
    never x h = absurd cc

-- how much is found after so many turns
record Counted (root : Text) (turns : ℕ) (found : Found) : Type 0 where
  is_found : IsFound root found
  read : len found.read ≡ turns
  few : found_count found ≤ package_limit

counted_begun : (root : Text) → BeginsFound → Counted root 0 (begun root)
unfolding begun
counted_begun root begins = record { is_found = begins root; read = len-empty (slice_cmp nat_cmp) (List Text); few = begun_few root }

counted : (begins : BeginsFound) (keeps : KeepsFound) (one : ReadsOneMore) (root : Text) (turns : ℕ) (found : Found) (heard : List Hearing) → FindsIn turns root found heard → Counted root turns found
counted begins keeps one root zero found heard f = let P : Found → Type 0 = Counted root 0 in subst P (sym f.0) (counted_begun root begins)
counted begins keeps one root (suc turns) found heard f =
    let before = counted begins keeps one root turns f.0 f.2 f.5 in
    let sources = f.7.sources in
    let is = within_is (with_imports f.0 f.1 (imports_in f.1 sources)) found f.7.within in
    let P : Found → Type 0 = Counted root (suc turns) in
    subst P is.0 (record {
      is_found = keeps root f.0 f.1 (imports_in f.1 sources) before.is_found;
      read = one root f.0 f.1 (imports_in f.1 sources) before.is_found f.6 ∙ add-one (len f.0.read) ∙ ap suc before.read;
      few = is.1;
    })

-- as many turns as packages may be found, and one more, are never used up
pub over : {B : Type 0} (gives : B → List Hearing → Type 0) (begins : BeginsFound) (keeps : KeepsFound) (one : ReadsOneMore) (root : Text) (turns : ℕ) (found : Found) (s : Stop) (old new : Hearings) → suc package_limit ≤ turns → Turned root turns found old new → HearsIn gives (LacksPackages root) old new (Err s)
over gives begins keeps one root turns found s old new full f =
    let all = counted begins keeps one root turns found f.heard f.ends in
    let read = all.read in
    let few = all.few in
    absurd (omega (arith, read, few, full))

-- ---- the order

abbrev Discovered : Text → Hearings → Hearings → Found → Type 0
Discovered root old new found = HearsIn (FindsAll root) (LacksPackages root) old new (Ok found)

pub order_unfound : {A B : Type 0} (one : A → List Hearing → Type 0) (gives : B → List Hearing → Type 0) (root : Text) (s : Stop) (old new : Hearings) → HearsIn one (LacksPackages root) old new (Err s) → HearsIn gives (LacksOrder root) old new (Err s)
order_unfound one gives root s old new h = heard_first one gives (LacksPackages root) (FindsAll root) (λ found. By (ordered found.read)) s old new h

pub order_none : {B : Type 0} (gives : B → List Hearing → Type 0) (root : Text) (found : Found) (s : Stop) (old new : Hearings) → Discovered root old new found → SettlesStop (ordered found.read) s → HearsIn gives (LacksOrder root) old new (Err s)
order_none gives root found s old new f is = heard_by (λ (x : Found). x) gives (LacksPackages root) (LacksPackages root) (FindsAll root) (λ x. ordered x.read) found s old new f is

pub order_found : {A : Type 0} (view : A → List Text) (root : Text) (found : Found) (a : A) (old new : Hearings) → Discovered root old new found → ordered found.read ≡ Ok (view a) → HearsIn (λ x. FindsOrder root (view x)) (LacksOrder root) old new (Ok a)
order_found view root found a old new f is = heard_value (FindsAll root) (λ x. FindsOrder root (view x)) (LacksPackages root) (LacksOrder root) found a old new new refl (λ x finds. record { found = found; finds = finds; ordered = is }) f
