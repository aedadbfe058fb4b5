-- How discovery goes on.
use Rattle.std.proofs.Common.{◌≡◌, ◌∙◌, ap, sym, subst, refl, ℕ, zero, suc, ◌+◌, ◌-◌, ◌<◌, ◌≤◌, ◌++◌, [], ◌∷◌, length, map, take, get_or, append-nil, List, Option, Some, None, Result, Ok, Err, arith}
use Rattle.std.specs.Prelude.{String, string_bytes}
use Rattle.std.specs.declared.alloc.Global.{Global}
use Rattle.std.proofs.lemmas.List.{map-append, take_more, take-append-drop}
use Rattle.ui_store.specs.Files.{Files}
use Rattle.ui_store.specs.Calls.{Calls}
use Rattle.ui_order.specs.Found.{Found, begun, least_unread}
use Rattle.ui_build.specs.Plan.{Text, TooMany, ◌>>=◌}
use Rattle.ui_build.specs.Build.{package_limit, discover, discover_next, discover_one}
use Rattle.ui_build.specs.Stops.{State, state, DoesSeen}
use Rattle.ui_build.specs.declared.stop.Refusal.TheVariants as told
use Rattle.ui_build.specs.declared.stop.Stop.{Stop}
use Rattle.ui_build.specs.declared.stop.Stop.TheVariants as stop
use Rattle.ui_build.proofs.Reading.{nothing_left}
use Rattle.ui_build.proofs.Steps.{told_stop, told_then, told_none, told_done, told_refused}

abbrev kept : Found → Found
kept found = found

-- what is left to find does the same as the whole, in at most so many turns
abbrev pub Finds : Text → State → ℕ → Found → State → Type 0
Finds root initial turns found now =
    (new : State) (r : Result Found Stop) → DoesSeen kept (λ files. discover turns files found) now new r → DoesSeen kept (λ files. discover (suc package_limit) files (begun root)) initial new r

pub finds_first : (root : Text) (initial : State) (found : Found) → found ≡ begun root → Finds root initial (suc package_limit) found initial
finds_first root initial found is = λ new r d. let P : Found → Type 0 = λ f. DoesSeen kept (λ files. discover (suc package_limit) files f) initial new r in subst P is d

finds_path : (n : ℕ) (found : Found) (path : Text) (old new : State) (r : Result Found Stop) → least_unread found ≡ Some path → DoesSeen kept (λ files. discover_one files found path >>= discover n files) old new r → DoesSeen kept (λ files. discover (suc n) files found) old new r
unfolding discover
finds_path n found path old new r is d = let P : Option Text → Type 0 = λ o. DoesSeen kept (λ files. discover_next (discover n files) files found o) old new r in subst P (sym is) d

pub finds_next : {A : Type 0} (view : A → Found) (root : Text) (initial : State) (n : ℕ) (found : Found) (path : Text) (files mid : Option Files) (asked mid_asked : Calls) (a : A) → least_unread found ≡ Some path → mid ≡ files → Finds root initial (suc n) found (state files asked)
    → DoesSeen view (λ f. discover_one f found path) (state files asked) (state mid mid_asked) (Ok a) → Finds root initial n (view a) (state mid mid_asked)
finds_next view root initial n found path files mid asked mid_asked a is same rest does = λ new r d.
    rest new r (finds_path n found path (state files asked) new r is (told_then view kept (λ f. discover_one f found path) (λ f. discover n f) files mid asked mid_asked new a r same does d))

pub finds_stop : {A : Type 0} (view : A → Found) (root : Text) (initial : State) (n : ℕ) (found : Found) (path : Text) (files : Option Files) (asked : Calls) (new : State) (s : Stop) → least_unread found ≡ Some path → Finds root initial (suc n) found (state files asked)
    → DoesSeen view (λ f. discover_one f found path) (state files asked) new (Err s) → DoesSeen kept (λ f. discover (suc package_limit) f (begun root)) initial new (Err s)
finds_stop view root initial n found path files asked new s is rest does =
    rest new (Err s) (finds_path n found path (state files asked) new (Err s) is (told_stop view kept (λ f. discover_one f found path) (λ f. discover n f) files asked new s does))

pub finds_none : (root : Text) (initial : State) (turns : ℕ) (found : Found) (files : Option Files) (asked : Calls) → Finds root initial turns found (state files asked) → DoesSeen kept (λ f. discover (suc package_limit) f (begun root)) initial (state files asked) (Err stop.NoMemory)
finds_none root initial turns found files asked rest = rest (state files asked) (Err stop.NoMemory) (told_none kept (λ f. discover turns f found) files asked)

-- nothing is unread
finds_end : (n : ℕ) (found : Found) (files : Option Files) (asked : Calls) → least_unread found ≡ None → DoesSeen kept (λ f. discover (suc n) f found) (state files asked) (state files asked) (Ok found)
unfolding discover
finds_end n found files asked is =
    let P : Option Text → Type 0 = λ o. DoesSeen kept (λ f. discover_next (discover n f) f found o) (state files asked) (state files asked) (Ok found) in
    subst P (sym is) (told_done kept found found files asked refl)

pub finds_all : (root : Text) (initial : State) (n : ℕ) (found : Found) (files : Option Files) (asked : Calls) → least_unread found ≡ None → Finds root initial (suc n) found (state files asked) → DoesSeen kept (λ f. discover (suc package_limit) f (begun root)) initial (state files asked) (Ok found)
finds_all root initial n found files asked is rest = rest (state files asked) (Ok found) (finds_end n found files asked is)

-- no turn is left
finds_too_many : (found : Found) (files : Option Files) (asked : Calls) → DoesSeen kept (λ f. discover zero f found) (state files asked) (state files asked) (Err (stop.Refused told.TooMany))
unfolding discover
finds_too_many found files asked = told_refused kept TooMany told.TooMany files asked refl

pub finds_over : (root : Text) (initial : State) (turns : ℕ) (found : Found) (files : Option Files) (asked : Calls) → turns ≡ 0 → Finds root initial turns found (state files asked) → DoesSeen kept (λ f. discover (suc package_limit) f (begun root)) initial (state files asked) (Err (stop.Refused told.TooMany))
finds_over root initial turns found files asked none rest =
    let P : ℕ → Type 0 = λ n. DoesSeen kept (λ f. discover n f found) (state files asked) (state files asked) (Err (stop.Refused told.TooMany)) in
    rest (state files asked) (Err (stop.Refused told.TooMany)) (subst P (sym none) (finds_too_many found files asked))

-- the turns that are left at a turn
pub left_at : (i : ℕ) → i < 1025 → 1025 - i ≡ suc (1024 - i)
left_at i h = omega arith

pub left_next : (i : ℕ) → 1024 - i ≡ 1025 - (i + 1)
left_next i = omega arith

pub finds_turns : (root : Text) (initial : State) (a b : ℕ) (found : Found) (now : State) → a ≡ b → Finds root initial a found now → Finds root initial b found now
finds_turns root initial a b found now e f = let P : ℕ → Type 0 = λ n. Finds root initial n found now in subst P e f

-- ---- names that are copied

pub copied_more : (names copies : List (String Global)) (i : ℕ) (d s : String Global) → i < length names → string_bytes s ≡ string_bytes (get_or names i d) → map string_bytes copies ≡ map string_bytes (take i names) → map string_bytes (copies ++ s ∷ []) ≡ map string_bytes (take (i + 1) names)
copied_more names copies i d s h same so_far =
    map-append string_bytes copies (s ∷ []) ∙ ap (λ ns. ns ++ string_bytes s ∷ []) so_far ∙ ap (λ n. map string_bytes (take i names) ++ n ∷ []) same
    ∙ sym (ap (map string_bytes) (take_more names i d h) ∙ map-append string_bytes (take i names) (get_or names i d ∷ []))

pub copied_all : (names : List (String Global)) (i : ℕ) → length names ≤ i → map string_bytes (take i names) ≡ map string_bytes names
copied_all names i h = ap (map string_bytes) (sym (append-nil (take i names)) ∙ ap (λ r. take i names ++ r) (sym (nothing_left names i h)) ∙ take-append-drop i names)
