-- How the linked files read so far follow from the paths so far.
use Rattle.std.proofs.Common.{◌≡◌, ◌∙◌, ap, sym, subst, refl, ℕ, zero, suc, ◌+◌, ◌<◌, length, true, false, ◌&&◌, Bool, List, [], ◌∷◌, ◌++◌, drop, take, get_or, map, Option, Result, Ok, Err, add-one, arith, append_assoc, append-nil}
use Rattle.std.specs.Prelude.{String, string_bytes, nat_eq}
use Rattle.std.specs.List.{AllByRecursion, list_all}
use Rattle.std.specs.declared.alloc.Global.{Global}
use Rattle.std.proofs.Math.Seq.{drop-cons}
use Rattle.std.proofs.lemmas.List.{map-append, take_more}
use Rattle.std.proofs.lemmas.List.Folds.{list_all-append}
use Rattle.ui_base.specs.Paths.{is_path}
use Rattle.ui_store.specs.Files.{Files}
use Rattle.ui_store.specs.Calls.{Calls}
use Rattle.ui_exports.specs.Linked.{Linked, Below}
use Rattle.ui_consts.specs.Size.{IsListed, IsBelow}
use Rattle.ui_below.specs.Claims.{claims, claims_of, indirect}
use Rattle.ui_build.specs.Plan.{Text}
use Rattle.ui_build.specs.Loading as plans
use Rattle.ui_build.specs.Loading.{load, load_all, with_loaded}
use Rattle.ui_build.specs.Views.{loaded_of, imports_of, is_sound}
use Rattle.ui_build.specs.Stops.{State, state, DoesSeen}
use Rattle.ui_build.specs.declared.loading.Loaded.{Loaded}
use Rattle.ui_build.specs.declared.loading.Imports.{Imports}
use Rattle.ui_build.specs.declared.stop.Stop.{Stop}
use Rattle.ui_build.specs.declared.stop.Stop.TheVariants as stop
use Rattle.ui_build.proofs.Steps.{told_stop, told_then, told_none, told_done}

abbrev pub Names : Type 0
Names = List (String Global)

abbrev pub paths_from : Names → ℕ → List Text
paths_from names i = map string_bytes (drop i names)

pub path_here : (names : Names) (i : ℕ) (d : String Global) → i < length names → paths_from names i ≡ string_bytes (get_or names i d) ∷ paths_from names (i + 1)
path_here names i d h = ap (map string_bytes) (drop-cons names i d h) ∙ ap (λ k. string_bytes (get_or names i d) ∷ paths_from names k) (sym (add-one i))

-- what is left to read does the same as the whole
abbrev pub GoesOn : Names → State → ℕ → plans.Imports → State → Type 0
GoesOn names initial i so_far now =
    (new : State) (r : Result Imports Stop) → DoesSeen imports_of (λ told. load_all told so_far (paths_from names i)) now new r → DoesSeen imports_of (λ told. load_all told ([], []) (paths_from names 0)) initial new r

loads_one : (path : Text) (rest : List Text) (so_far : plans.Imports) (files mid : Option Files) (asked mid_asked : Calls) (new : State) (l : Loaded) (r : Result Imports Stop) → mid ≡ files
    → DoesSeen loaded_of (λ told. load told path) (state files asked) (state mid mid_asked) (Ok l) → DoesSeen imports_of (λ told. load_all told (with_loaded so_far (loaded_of l)) rest) (state mid mid_asked) new r
    → DoesSeen imports_of (λ told. load_all told so_far (path ∷ rest)) (state files asked) new r
unfolding load_all
loads_one path rest so_far files mid asked mid_asked new l r same d e =
    told_then loaded_of imports_of (λ told. load told path) (λ told one. load_all told (with_loaded so_far one) rest) files mid asked mid_asked new l r same d e

stops_one : (path : Text) (rest : List Text) (so_far : plans.Imports) (files : Option Files) (asked : Calls) (new : State) (s : Stop) → DoesSeen loaded_of (λ told. load told path) (state files asked) new (Err s)
    → DoesSeen imports_of (λ told. load_all told so_far (path ∷ rest)) (state files asked) new (Err s)
unfolding load_all
stops_one path rest so_far files asked new s d = told_stop loaded_of imports_of (λ told. load told path) (λ told one. load_all told (with_loaded so_far one) rest) files asked new s d

pub goes_next : (names : Names) (initial : State) (files mid : Option Files) (asked mid_asked : Calls) (i : ℕ) (d : String Global) (so_far : plans.Imports) (l : Loaded) → i < length names → mid ≡ files
    → GoesOn names initial i so_far (state files asked) → DoesSeen loaded_of (λ told. load told (string_bytes (get_or names i d))) (state files asked) (state mid mid_asked) (Ok l) → GoesOn names initial (i + 1) (with_loaded so_far (loaded_of l)) (state mid mid_asked)
goes_next names initial files mid asked mid_asked i d so_far l h same rest read = λ new r does.
    let P : List Text → Type 0 = λ ns. DoesSeen imports_of (λ told. load_all told so_far ns) (state files asked) new r in
    rest new r (subst P (sym (path_here names i d h)) (loads_one (string_bytes (get_or names i d)) (paths_from names (i + 1)) so_far files mid asked mid_asked new l r same read does))

pub goes_stop : (names : Names) (initial : State) (files : Option Files) (asked : Calls) (new : State) (i : ℕ) (d : String Global) (so_far : plans.Imports) (s : Stop) → i < length names
    → GoesOn names initial i so_far (state files asked) → DoesSeen loaded_of (λ told. load told (string_bytes (get_or names i d))) (state files asked) new (Err s) → DoesSeen imports_of (λ told. load_all told ([], []) (paths_from names 0)) initial new (Err s)
goes_stop names initial files asked new i d so_far s h rest read =
    let P : List Text → Type 0 = λ ns. DoesSeen imports_of (λ told. load_all told so_far ns) (state files asked) new (Err s) in
    rest new (Err s) (subst P (sym (path_here names i d h)) (stops_one (string_bytes (get_or names i d)) (paths_from names (i + 1)) so_far files asked new s read))

pub goes_none : (names : Names) (initial : State) (files : Option Files) (asked : Calls) (i : ℕ) (so_far : plans.Imports) → GoesOn names initial i so_far (state files asked)
    → DoesSeen imports_of (λ told. load_all told ([], []) (paths_from names 0)) initial (state files asked) (Err stop.NoMemory)
goes_none names initial files asked i so_far rest = rest (state files asked) (Err stop.NoMemory) (told_none imports_of (λ told. load_all told so_far (paths_from names i)) files asked)

all_loaded : (i : Imports) (files : Option Files) (asked : Calls) → DoesSeen imports_of (λ told. load_all told (imports_of i) []) (state files asked) (state files asked) (Ok i)
unfolding load_all
all_loaded i files asked = told_done imports_of (imports_of i) i files asked refl

pub goes_last : (names : Names) (initial : State) (files : Option Files) (asked : Calls) (i : ℕ) (v : Imports) → drop i names ≡ [] → GoesOn names initial i (imports_of v) (state files asked)
    → DoesSeen imports_of (λ told. load_all told ([], []) (paths_from names 0)) initial (state files asked) (Ok v)
goes_last names initial files asked i v end rest =
    let P : List Text → Type 0 = λ ns. DoesSeen imports_of (λ told. load_all told (imports_of v) ns) (state files asked) (state files asked) (Ok v) in
    rest (state files asked) (Ok v) (subst P (sym (ap (map string_bytes) end)) (all_loaded v files asked))

-- ---- their paths

pub path_more : (names : Names) (i : ℕ) (d : String Global) (files : List Linked) (l : Linked) → i < length names → map (λ x. x.export.path) files ≡ map string_bytes (take i names) → l.export.path ≡ string_bytes (get_or names i d)
    → map (λ x. x.export.path) (files ++ l ∷ []) ≡ map string_bytes (take (i + 1) names)
path_more names i d files l h is own =
    map-append (λ (x : Linked). x.export.path) files (l ∷ []) ∙ ap (λ ps. ps ++ l.export.path ∷ []) is ∙ ap (λ p. map string_bytes (take i names) ++ p ∷ []) own
    ∙ sym (ap (map string_bytes) (take_more names i d h) ∙ map-append string_bytes (take i names) (get_or names i d ∷ []))

pub paired_more : {X Y : Type 0} (xs : List X) (ys : List Y) (x : X) (y : Y) → length xs ≡ length ys → length (xs ++ x ∷ []) ≡ length (ys ++ y ∷ [])
paired_more [] [] x y e = refl
paired_more [] (b ∷ bs) x y e = absurd (omega (arith, e))
paired_more (a ∷ xs) [] x y e = absurd (omega (arith, e))
paired_more (a ∷ xs) (b ∷ bs) x y e = ap suc (paired_more xs bs x y (omega (arith, e)))

-- ---- what they claim is sound

abbrev pub are_sound : List Below → Bool
are_sound cs = list_all (λ (c : Below). is_sound c.path c.print) cs

claims_more : (files : List Linked) (prints : List Text) (l : Linked) (p : Text) → length files ≡ length prints → claims (files ++ l ∷ []) (prints ++ p ∷ []) ≡ claims files prints ++ claims_of l p
claims_more [] [] l p e = append-nil (claims_of l p)
claims_more [] (q ∷ qs) l p e = absurd (omega (arith, e))
claims_more (f ∷ fs) [] l p e = absurd (omega (arith, e))
claims_more (f ∷ fs) (q ∷ qs) l p e = ap (λ cs. claims_of f q ++ cs) (claims_more fs qs l p (omega (arith, e))) ∙ sym (append_assoc (claims_of f q) (claims fs qs) (claims_of l p))

both_true : (a b : Bool) → a ≡ true → b ≡ true → (a && b) ≡ true
both_true true b p q = q
both_true false b p q = absurd cc

eight : (n : ℕ) → n ≡ 8 → nat_eq n 8 ≡ true
eight n e = ap (λ m. nat_eq m 8) e

sound_below : (below : List Below) → AllByRecursion IsBelow below → are_sound (map indirect below) ≡ true
sound_below [] h = refl
sound_below (b ∷ bs) h = both_true (is_sound b.path b.print) (are_sound (map indirect bs)) (both_true (is_path b.path) (nat_eq (length b.print) 8) h.0.path (eight (length b.print) h.0.print)) (sound_below bs h.1)

pub sound_more : (files : List Linked) (prints : List Text) (l : Linked) (p : Text) → length files ≡ length prints → are_sound (claims files prints) ≡ true → IsListed l.below → is_path l.export.path ≡ true → length p ≡ 8
    → are_sound (claims (files ++ l ∷ []) (prints ++ p ∷ [])) ≡ true
sound_more files prints l p paired so_far listed valid size =
    ap are_sound (claims_more files prints l p paired) ∙ list_all-append (λ (c : Below). is_sound c.path c.print) (claims files prints) (claims_of l p)
    ∙ both_true (are_sound (claims files prints)) (are_sound (claims_of l p)) so_far (both_true (is_sound l.export.path p) (are_sound (map indirect l.below)) (both_true (is_path l.export.path) (nat_eq (length p) 8) valid (eight (length p) size)) (sound_below l.below listed.each))

-- the path at a place is valid
pub valid_at : (names : Names) (i : ℕ) (d : String Global) → i < length names → AllByRecursion (λ p. is_path p ≡ true) (map string_bytes names) → is_path (string_bytes (get_or names i d)) ≡ true
valid_at [] i d h all = absurd (omega (arith, h))
valid_at (n ∷ ns) zero d h all = all.0
valid_at (n ∷ ns) (suc i) d h all = valid_at ns i d (omega (arith, h)) all.1
