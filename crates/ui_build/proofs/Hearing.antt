-- How what steps heard joins, and why a step was refused by it.
use Rattle.std.proofs.Common.{◌≡◌, ◌∙◌, ap, sym, subst, refl, ℕ, ◌+◌, ◌<◌, length, take, drop, get_or, Bool, true, false, cond, List, [], ◌∷◌, ◌++◌, map, ◌⊎◌, inl, inr, Option, Some, None, option_map, Result, Ok, Err, append_assoc, append-nil, add-one}
use Rattle.std.specs.Prelude.{filter, String, string_bytes, bytes_eq, Vec}
use Rattle.std.specs.declared.alloc.Global.{Global}
use Rattle.std.proofs.Math.Seq.{drop-cons}
use Rattle.std.proofs.lemmas.List.{map-append, take_more, take-append-drop}
use Rattle.std.proofs.lemmas.List.Elements.{filter-append}
use Rattle.ui_store.specs.Told.{more, more_none, more_twice}
use Rattle.ui_store.specs.Files.{texts}
use Rattle.ui_store.specs.Calls.{Hearing, Hearings}
use Rattle.ui_store.specs.declared.store.AskKind.TheVariants as ask
use Rattle.ui_store.specs.declared.store.Given.TheVariants as given
use Rattle.ui_frame.specs.Container.{fingerprint}
use Rattle.ui_frame.specs.Opening.{first_failing, parts_in}
use Rattle.ui_frame.specs.declared.frame.FrameFault.{FrameFault}
use Rattle.ui_base.specs.declared.fault.Fault.{Fault}
use Rattle.ui_exports.specs.Linked.{Linked}
use Rattle.ui_base.specs.declared.value.Pos.{Pos}
use Rattle.ui_sources.specs.Sources.{SourceFile, Trees, trees_of}
use Rattle.ui_forms.specs.Form.{Form as SourceForm, imported}
use Rattle.ui_consts.specs.Reading.{record_in}
use Rattle.ui_build.specs.Plan.{Text, Refusal, NoFile, Faulty, Form, TooLong, BadFrame, BadElement, TooMany, Cycle, Stale, Plan}
use Rattle.ui_build.specs.Package.{folder, file_in, linked_file, is_source, form_by, form_or, or_form, some_source}
use Rattle.ui_build.specs.Loading.{Loaded, Imports, with_loaded, recorded, opened, or_element, judgement}
use Rattle.ui_build.specs.Sources.{sources_of}
use Rattle.ui_build.specs.Stops.{SettlesStop, refusal_of}
use Rattle.ui_build.specs.Heard.{HearsIn, IsNoRefusal, StoppedBy, FindsSources, ReadsSources, ReadsForm, HasRead, HasListed, HearsPackage, LoadsAll, LoadsImports, Loads, Compiles, CompilesAll, FindsOrder, Builds, heard_source, names_of, pairs_of}
use Rattle.ui_build.specs.Refused.{By, EitherRefused, LacksFolder, LacksFile, LacksSource, LacksSources, LacksForm, BadLinked, BadImports, BadPackage, BadPackages, LacksOrder, BuildRefused}
use Rattle.ui_sources.specs.declared.source.SourceFile.{SourceFile as InMemory}
use Rattle.ui_build.specs.declared.stop.Refusal.TheVariants as told
use Rattle.ui_build.specs.declared.stop.Stop.{Stop}
use Rattle.ui_build.specs.declared.stop.Stop.TheVariants as stop
use Rattle.ui_build.proofs.Reading.{some_source-none, sources_from, source_here}

-- ---- what stopped a step

abbrev failing : {X : Type 0} → Refusal → Result X Refusal
failing r = Err r

-- a refusal in the place of another
pub stopped_as : (P Q : Refusal → List Hearing → Type 0) (a b : List Hearing) (s : Stop) → ((r : Refusal) → P r a → Q r b) → StoppedBy P s a → StoppedBy Q s b
stopped_as P Q a b (stop.Refused r) f by = f (refusal_of r) by
stopped_as P Q a b (stop.ReadFault name) f by = tt
stopped_as P Q a b (stop.WriteFault name) f by = tt
stopped_as P Q a b stop.NoMemory f by = tt

no_refusal : (P : Refusal → List Hearing → Type 0) (heard : List Hearing) (s : Stop) → IsNoRefusal s → StoppedBy P s heard
no_refusal P heard (stop.Refused r) by = absurd by
no_refusal P heard (stop.ReadFault name) by = tt
no_refusal P heard (stop.WriteFault name) by = tt
no_refusal P heard stop.NoMemory by = tt

-- a result of no step
settled_stop : {X Y : Type 0} (given : X → List Hearing → Type 0) (first : Refusal → List Hearing → Type 0) (result : X → Result Y Refusal) (x : X) (heard : List Hearing) (s : Stop) → given x heard → SettlesStop (result x) s → StoppedBy (EitherRefused first given (λ y. By (result y))) s heard
settled_stop given first result x heard (stop.Refused r) g is = inr (record { value = x; first = heard; last = []; whole = sym (append-nil heard); given = g; refused = (is, refl) })
settled_stop given first result x heard (stop.ReadFault name) g is = tt
settled_stop given first result x heard (stop.WriteFault name) g is = tt
settled_stop given first result x heard stop.NoMemory g is = tt

-- ---- steps

-- nothing was heard
pub heard_none : {X : Type 0} (gives : X → List Hearing → Type 0) (refuses : Refusal → List Hearing → Type 0) (s : Stop) (old new : Hearings) → new ≡ old → IsNoRefusal s → HearsIn gives refuses old new (Err s)
heard_none gives refuses s old new same by = record { heard = []; told = same ∙ sym (more_none old); ends = no_refusal refuses [] s by }

-- a step that was stopped as another
pub heard_same : {A B : Type 0} (one : A → List Hearing → Type 0) (gives : B → List Hearing → Type 0) (refuses : Refusal → List Hearing → Type 0) (s : Stop) (old new : Hearings) → HearsIn one refuses old new (Err s) → HearsIn gives refuses old new (Err s)
heard_same one gives refuses s old new h = record { heard = h.heard; told = h.told; ends = h.ends }

pub both_told : (old mid new : Hearings) (a b : List Hearing) → mid ≡ more old a → new ≡ more mid b → new ≡ more old (a ++ b)
both_told old mid new a b p q = q ∙ ap (λ o. more o b) p ∙ more_twice old a b

-- a step that gave a value, and the next
pub heard_then : {A B C : Type 0} (first : A → List Hearing → Type 0) (next : B → List Hearing → Type 0) (gives : C → List Hearing → Type 0) (p q refuses : Refusal → List Hearing → Type 0) (a : A) (b : B) (c : C) (old mid new : Hearings)
    → ((x y : List Hearing) → first a x → next b y → gives c (x ++ y)) → HearsIn first p old mid (Ok a) → HearsIn next q mid new (Ok b) → HearsIn gives refuses old new (Ok c)
heard_then first next gives p q refuses a b c old mid new join f n = record { heard = f.heard ++ n.heard; told = both_told old mid new f.heard n.heard f.told n.told; ends = join f.heard n.heard f.ends n.ends }

-- the same, and nothing more was heard
pub heard_value : {A B : Type 0} (first : A → List Hearing → Type 0) (gives : B → List Hearing → Type 0) (p refuses : Refusal → List Hearing → Type 0) (a : A) (b : B) (old mid new : Hearings) → new ≡ mid → ((x : List Hearing) → first a x → gives b x) → HearsIn first p old mid (Ok a) → HearsIn gives refuses old new (Ok b)
heard_value first gives p refuses a b old mid new same by f = record { heard = f.heard; told = same ∙ f.told; ends = by f.heard f.ends }

pub heard_then_none : {A B : Type 0} (first : A → List Hearing → Type 0) (gives : B → List Hearing → Type 0) (p refuses : Refusal → List Hearing → Type 0) (a : A) (s : Stop) (old mid new : Hearings) → new ≡ mid → IsNoRefusal s → HearsIn first p old mid (Ok a) → HearsIn gives refuses old new (Err s)
heard_then_none first gives p refuses a s old mid new same by f = record { heard = f.heard; told = same ∙ f.told; ends = no_refusal refuses f.heard s by }

-- the first of two steps was stopped
pub heard_first : {A B X : Type 0} (one : A → List Hearing → Type 0) (gives : B → List Hearing → Type 0) (first : Refusal → List Hearing → Type 0) (given : X → List Hearing → Type 0) (next : X → Refusal → List Hearing → Type 0) (s : Stop) (old new : Hearings)
    → HearsIn one first old new (Err s) → HearsIn gives (EitherRefused first given next) old new (Err s)
heard_first one gives first given next s old new h = record { heard = h.heard; told = h.told; ends = stopped_as first (EitherRefused first given next) h.heard h.heard s (λ r by. inl by) h.ends }

-- the first gave a value, and the next was stopped
pub heard_second : {A B C X : Type 0} (view : A → X) (two : B → List Hearing → Type 0) (gives : C → List Hearing → Type 0) (p first : Refusal → List Hearing → Type 0) (given : X → List Hearing → Type 0) (next : X → Refusal → List Hearing → Type 0) (a : A) (s : Stop) (old mid new : Hearings)
    → HearsIn (λ x. given (view x)) p old mid (Ok a) → HearsIn two (next (view a)) mid new (Err s) → HearsIn gives (EitherRefused first given next) old new (Err s)
heard_second view two gives p first given next a s old mid new f n = record {
  heard = f.heard ++ n.heard;
  told = both_told old mid new f.heard n.heard f.told n.told;
  ends = stopped_as (next (view a)) (EitherRefused first given next) n.heard (f.heard ++ n.heard) s (λ r by. inr (record { value = view a; first = f.heard; last = n.heard; whole = refl; given = f.ends; refused = by })) n.ends;
}

-- the first gave a value, and nothing more was heard
pub heard_by : {A C X Y : Type 0} (view : A → X) (gives : C → List Hearing → Type 0) (p first : Refusal → List Hearing → Type 0) (given : X → List Hearing → Type 0) (result : X → Result Y Refusal) (a : A) (s : Stop) (old new : Hearings)
    → HearsIn (λ x. given (view x)) p old new (Ok a) → SettlesStop (result (view a)) s → HearsIn gives (EitherRefused first given (λ x. By (result x))) old new (Err s)
heard_by view gives p first given result a s old new f is = record { heard = f.heard; told = f.told; ends = settled_stop given first result (view a) f.heard s f.ends is }

-- ---- sources

abbrev Names : Type 0
Names = List (String Global)

-- the sources among the names up to a place
abbrev sources_to : Names → ℕ → List Text
sources_to names i = filter is_source (map string_bytes (take i names))

one_more : (names : Names) (i : ℕ) (d : String Global) → i < length names → sources_to names (i + 1) ≡ sources_to names i ++ filter is_source (string_bytes (get_or names i d) ∷ [])
one_more names i d h =
    ap (λ ns. filter is_source (map string_bytes ns)) (take_more names i d h) ∙ ap (filter is_source) (map-append string_bytes (take i names) (get_or names i d ∷ []))
    ∙ filter-append is_source (map string_bytes (take i names)) (string_bytes (get_or names i d) ∷ [])

no_source_more : (names : Names) (i : ℕ) (d : String Global) → i < length names → is_source (string_bytes (get_or names i d)) ≡ false → sources_to names (i + 1) ≡ sources_to names i
no_source_more names i d h e = one_more names i d h ∙ ap (λ b. sources_to names i ++ cond b (string_bytes (get_or names i d) ∷ []) []) e ∙ append-nil (sources_to names i)

source_more : (names : Names) (i : ℕ) (d : String Global) → i < length names → is_source (string_bytes (get_or names i d)) ≡ true → sources_to names (i + 1) ≡ sources_to names i ++ string_bytes (get_or names i d) ∷ []
source_more names i d h e = one_more names i d h ∙ ap (λ b. sources_to names i ++ cond b (string_bytes (get_or names i d) ∷ []) []) e

-- what was heard of the sources read so far
pub record ReadSoFar (folder : Text) (names : Names) (i : ℕ) (sources : List SourceFile) (old now : Hearings) : Type 0 where
  pub told : now ≡ more old (map heard_source sources)
  pub parts : names_of sources ≡ map (file_in folder) (sources_to names i)

pub so_far_first : (folder : Text) (names : Names) (old : Hearings) → ReadSoFar folder names 0 [] old old
so_far_first folder names old = record { told = sym (more_none old); parts = refl }

pub so_far_past : (folder : Text) (names : Names) (i : ℕ) (d : String Global) (sources : List SourceFile) (old now : Hearings) → i < length names → is_source (string_bytes (get_or names i d)) ≡ false → ReadSoFar folder names i sources old now → ReadSoFar folder names (i + 1) sources old now
so_far_past folder names i d sources old now h e r = record { told = r.told; parts = r.parts ∙ ap (map (file_in folder)) (sym (no_source_more names i d h e)) }

next_told : (sources : List SourceFile) (s : SourceFile) (old now new : Hearings) → now ≡ more old (map heard_source sources) → (heard : List Hearing) → new ≡ more now heard → heard ≡ heard_source s ∷ [] → new ≡ more old (map heard_source (sources ++ s ∷ []))
next_told sources s old now new p heard q e = both_told old now new (map heard_source sources) heard p q ∙ ap (λ h. more old (map heard_source sources ++ h)) e ∙ ap (more old) (sym (map-append heard_source sources (s ∷ [])))

pub so_far_next : {X : Type 0} (view : X → SourceFile) (p : Refusal → List Hearing → Type 0) (folder : Text) (names : Names) (i : ℕ) (d : String Global) (sources : List SourceFile) (x : X) (old now new : Hearings) → i < length names → is_source (string_bytes (get_or names i d)) ≡ true → (view x).0 ≡ file_in folder (string_bytes (get_or names i d))
    → ReadSoFar folder names i sources old now → HearsIn (λ y. HasRead (view y)) p now new (Ok x) → ReadSoFar folder names (i + 1) (sources ++ view x ∷ []) old new
so_far_next view p folder names i d sources x old now new h e name r read = record {
  told = next_told sources (view x) old now new r.told read.heard read.told read.ends;
  parts = map-append (λ (s : SourceFile). s.0) sources (view x ∷ []) ∙ ap (λ ns. ns ++ (view x).0 ∷ []) r.parts ∙ ap (λ n. map (file_in folder) (sources_to names i) ++ n ∷ []) name
      ∙ sym (map-append (file_in folder) (sources_to names i) (string_bytes (get_or names i d) ∷ [])) ∙ ap (map (file_in folder)) (sym (source_more names i d h e));
}

-- the sources among the names, where one of them is at a place
parts_at : (names : Names) (i : ℕ) (d : String Global) → i < length names → is_source (string_bytes (get_or names i d)) ≡ true
    → filter is_source (map string_bytes names) ≡ sources_to names i ++ string_bytes (get_or names i d) ∷ sources_from names (i + 1)
parts_at names i d h e =
    ap (λ ns. filter is_source (map string_bytes ns)) (sym (take-append-drop i names)) ∙ ap (filter is_source) (map-append string_bytes (take i names) (drop i names))
    ∙ filter-append is_source (map string_bytes (take i names)) (map string_bytes (drop i names)) ∙ ap (λ ns. sources_to names i ++ ns) (source_here names i d h e)

-- one of them isn't there
pub so_far_stop : {X Y : Type 0} (read : X → List Hearing → Type 0) (gives : Y → List Hearing → Type 0) (folder : Text) (names : Names) (i : ℕ) (d : String Global) (sources : List SourceFile) (s : Stop) (old now new : Hearings) → i < length names → is_source (string_bytes (get_or names i d)) ≡ true
    → ReadSoFar folder names i sources old now → HearsIn read (LacksFile (file_in folder (string_bytes (get_or names i d)))) now new (Err s) → HearsIn gives (LacksSource folder (filter is_source (map string_bytes names))) old new (Err s)
so_far_stop read gives folder names i d sources s old now new lt e r h =
    let name = string_bytes (get_or names i d) in
    let refused : (q : Refusal) → LacksFile (file_in folder name) q h.heard → LacksSource folder (filter is_source (map string_bytes names)) q (map heard_source sources ++ h.heard) = λ q by. record {
      front = sources_to names i;
      at = name;
      rest = sources_from names (i + 1);
      parts = parts_at names i d lt e;
      first = map heard_source sources;
      last = h.heard;
      whole = refl;
      given = (sources, record { whole = refl; parts = r.parts });
      refused = by;
    } in
    record {
      heard = map heard_source sources ++ h.heard;
      told = both_told old now new (map heard_source sources) h.heard r.told h.told;
      ends = stopped_as (LacksFile (file_in folder name)) (LacksSource folder (filter is_source (map string_bytes names))) h.heard (map heard_source sources ++ h.heard) s refused h.ends;
    }

pub so_far_none : {Y : Type 0} (gives : Y → List Hearing → Type 0) (refuses : Refusal → List Hearing → Type 0) (folder : Text) (names : Names) (i : ℕ) (sources : List SourceFile) (old now : Hearings) → ReadSoFar folder names i sources old now → HearsIn gives refuses old now (Err stop.NoMemory)
so_far_none gives refuses folder names i sources old now r = record { heard = map heard_source sources; told = r.told; ends = tt }

pub so_far_last : (folder : Text) (names : Names) (i : ℕ) (v : Vec InMemory Global) (old now : Hearings) → take i names ≡ names → ReadSoFar folder names i (sources_of v) old now
    → HearsIn (λ (w : Vec InMemory Global). ReadsSources folder (filter is_source (map string_bytes names)) (sources_of w)) (LacksSource folder (filter is_source (map string_bytes names))) old now (Ok v)
so_far_last folder names i v old now all r = record {
  heard = map heard_source (sources_of v);
  told = r.told;
  ends = record { whole = refl; parts = r.parts ∙ ap (λ ns. map (file_in folder) (filter is_source (map string_bytes ns))) all };
}

-- a folder was listed, and its sources read
pub finds : (folder : Text) (names : List Text) (sources : List SourceFile) (a b : List Hearing) → HasListed folder names a → ReadsSources folder (filter is_source names) sources b → FindsSources folder sources (a ++ b)
finds folder names sources a b listed read = record { names = names; whole = ap (λ x. x ++ b) listed ∙ ap (λ x. (ask.List, folder, given.Names names) ∷ x) read.whole; parts = read.parts }

-- a folder that isn't there
pub find_unlisted : {A B : Type 0} (one : A → List Hearing → Type 0) (gives : B → List Hearing → Type 0) (folder : Text) (s : Stop) (old new : Hearings) → HearsIn one (LacksFolder folder) old new (Err s) → HearsIn gives (LacksSources folder) old new (Err s)
find_unlisted one gives folder s old new h = heard_first one gives (LacksFolder folder) (HasListed folder) _ s old new h

abbrev Listed : Text → Hearings → Hearings → Vec (String Global) Global → Type 0
Listed folder old new names = HearsIn (λ (ns : Vec (String Global) Global). HasListed folder (texts ns)) (LacksFolder folder) old new (Ok names)

-- a file in it that isn't there
pub find_unread : {B C : Type 0} (two : B → List Hearing → Type 0) (gives : C → List Hearing → Type 0) (folder : Text) (names : Vec (String Global) Global) (s : Stop) (old mid new : Hearings)
    → Listed folder old mid names → HearsIn two (LacksSource folder (filter is_source (texts names))) mid new (Err s) → HearsIn gives (LacksSources folder) old new (Err s)
find_unread two gives folder names s old mid new l h =
    let later : HearsIn gives (EitherRefused (LacksSource folder (filter is_source (texts names))) (ReadsSources folder (filter is_source (texts names))) (λ sources. By (some_source folder sources).value)) mid new (Err s) =
    heard_first two gives (LacksSource folder (filter is_source (texts names))) (ReadsSources folder (filter is_source (texts names))) (λ sources. By (some_source folder sources).value) s mid new h in
    heard_second texts gives gives (LacksFolder folder) (LacksFolder folder) (HasListed folder) (λ ns. EitherRefused (LacksSource folder (filter is_source ns)) (ReadsSources folder (filter is_source ns)) (λ sources. By (some_source folder sources).value)) names s old mid new l later

-- a folder without sources
pub find_empty : {Y : Type 0} (gives : Y → List Hearing → Type 0) (folder : Text) (name : String Global) (names : Vec (String Global) Global) (v : Vec InMemory Global) (old mid new : Hearings) → string_bytes name ≡ folder → length v.items ≡ 0
    → Listed folder old mid names → HearsIn (λ (w : Vec InMemory Global). ReadsSources folder (filter is_source (texts names)) (sources_of w)) (LacksSource folder (filter is_source (texts names))) mid new (Ok v) → HearsIn gives (LacksSources folder) old new (Err (stop.Refused (told.NoFile name)))
find_empty gives folder name names v old mid new is none l r =
    let none_is : (some_source folder (sources_of v)).value ≡ Err (NoFile (string_bytes name)) = ap (λ (q : Plan (List SourceFile)). q.value) (some_source-none folder v.items none) ∙ ap (λ n. failing {X = List SourceFile} (NoFile n)) (sym is) in
    let later : HearsIn gives (EitherRefused (LacksSource folder (filter is_source (texts names))) (ReadsSources folder (filter is_source (texts names))) (λ sources. By (some_source folder sources).value)) mid new (Err (stop.Refused (told.NoFile name))) =
    heard_by sources_of gives (LacksSource folder (filter is_source (texts names))) (LacksSource folder (filter is_source (texts names))) (ReadsSources folder (filter is_source (texts names))) (λ sources. (some_source folder sources).value) v (stop.Refused (told.NoFile name)) mid new r none_is in
    heard_second texts gives gives (LacksFolder folder) (LacksFolder folder) (HasListed folder) (λ ns. EitherRefused (LacksSource folder (filter is_source ns)) (ReadsSources folder (filter is_source ns)) (λ sources. By (some_source folder sources).value)) names (stop.Refused (told.NoFile name)) old mid new l later

-- ---- the form of sources that were found

err_is : {X : Type 0} (x y : Refusal) → failing {X = X} x ≡ failing y → y ≡ x
err_is x y e = cc

-- A package has no form for want of sources, for their fault, or for what isn't taken.
abbrev pub IsNoForm : Text → List SourceFile → Refusal → Type 0
IsNoForm path sources r = ((sources ≡ []) × (r ≡ NoFile (folder path))) ⊎ (((fault : Fault) × (r ≡ Faulty fault)) ⊎ ((pos : Pos) × (r ≡ Form pos)))

abbrev pub IsNoFormOfTrees : Refusal → Type 0
IsNoFormOfTrees r = ((fault : Fault) × (r ≡ Faulty fault)) ⊎ ((pos : Pos) × (r ≡ Form pos))

not_formed : (found : Result SourceForm Pos) (r : Refusal) → or_form found ≡ Err r → IsNoFormOfTrees r
not_formed (Ok form) r e = absurd cc
not_formed (Err pos) r e = inr (pos, err_is {X = SourceForm} (Form pos) r e)

no_form : (path : Text) (found : Result Trees Fault) (r : Refusal) → form_by path found ≡ Err r → IsNoFormOfTrees r
no_form path (Ok trees) r e = not_formed _ r e
no_form path (Err fault) r e = inl (fault, err_is {X = SourceForm} (Faulty fault) r e)

pub no_form_by : (path : Text) (sources : List SourceFile) (r : Refusal) → form_or path sources ≡ Err r → IsNoForm path sources r
unfolding form_or
no_form_by path [] r e = inl (refl, err_is {X = SourceForm} (NoFile (folder path)) r e)
no_form_by path (source ∷ sources) r e = inr (no_form path (trees_of path (source ∷ sources)) r e)

-- a package without sources, or without a form
pub form_unfound : {A B : Type 0} (one : A → List Hearing → Type 0) (gives : B → List Hearing → Type 0) (path : Text) (s : Stop) (old new : Hearings) → HearsIn one (LacksSources (folder path)) old new (Err s) → HearsIn gives (LacksForm path) old new (Err s)
form_unfound one gives path s old new h = heard_first one gives (LacksSources (folder path)) (FindsSources (folder path)) (λ sources. By (form_or path sources)) s old new h

abbrev Sources : Text → Hearings → Hearings → Vec InMemory Global → Type 0
Sources folder old new v = HearsIn (λ (w : Vec InMemory Global). FindsSources folder (sources_of w)) (LacksSources folder) old new (Ok v)

pub form_unread : {B : Type 0} (gives : B → List Hearing → Type 0) (path : Text) (v : Vec InMemory Global) (s : Stop) (old new : Hearings) → Sources (folder path) old new v → SettlesStop (form_or path (sources_of v)) s → HearsIn gives (LacksForm path) old new (Err s)
form_unread gives path v s old new f is = heard_by sources_of gives (LacksSources (folder path)) (LacksSources (folder path)) (FindsSources (folder path)) (form_or path) v s old new f is

pub reads_form : (path : Text) (sources : List SourceFile) (form : SourceForm) (found : List Hearing) → form_or path sources ≡ Ok form → FindsSources (folder path) sources found → ReadsForm path form found
reads_form path sources form found is finds = record { sources = sources; found = finds; spelled = is }

-- ---- a linked file that was read

-- the refusals of a linked file
abbrev pub IsLinked : Refusal → Type 0
IsLinked (NoFile name) = ⊥
IsLinked (Form name) = ⊥
IsLinked (Faulty fault) = ⊥
IsLinked (TooLong name) = Unit {0}
IsLinked (BadFrame name fault) = Unit {0}
IsLinked (BadElement name) = Unit {0}
IsLinked TooMany = ⊥
IsLinked (Cycle path) = ⊥
IsLinked (Stale path first second) = ⊥

linked_is : (x y : Refusal) → failing {X = Loaded} x ≡ failing y → IsLinked x → IsLinked y
linked_is x y e h = subst IsLinked (sym (err_is {X = Loaded} x y e)) h

no_path : (name : Text) (loaded : Loaded) (b : Bool) (r : Refusal) → cond b (Ok loaded) (Err (BadElement name)) ≡ Err r → IsLinked r
no_path name loaded true r e = absurd cc
no_path name loaded false r e = linked_is (BadElement name) r e tt

no_element : (name path print : Text) (found : Option Linked) (r : Refusal) → or_element name path print found ≡ Err r → IsLinked r
no_element name path print (Some linked) r e = no_path name (linked, print) (bytes_eq linked.export.path path) r e
no_element name path print None r e = linked_is (BadElement name) r e tt

no_container : (name path bytes : Text) (failed : Option FrameFault) (r : Refusal) → opened name path bytes failed ≡ Err r → IsLinked r
no_container name path bytes (Some fault) r e = linked_is (BadFrame name fault) r e tt
no_container name path bytes None r e = no_element name path (fingerprint (parts_in bytes)) (record_in (parts_in bytes)) r e

pub recorded_refused : (name path : Text) (bytes : Option Text) (r : Refusal) → recorded name path bytes ≡ Err r → IsLinked r
unfolding recorded
recorded_refused name path None r e = linked_is (TooLong name) r e tt
recorded_refused name path (Some bytes) r e = no_container name path bytes (first_failing bytes) r e

abbrev content : Option (Vec ℕ Global) → Option Text
content o = option_map (λ v. v.items) o

-- a linked file that isn't there, or isn't that of the package
pub linked_unread : {A B : Type 0} (one : A → List Hearing → Type 0) (gives : B → List Hearing → Type 0) (path : Text) (s : Stop) (old new : Hearings) → HearsIn one (LacksFile (linked_file path)) old new (Err s) → HearsIn gives (BadLinked path) old new (Err s)
linked_unread one gives path s old new h = heard_first one gives (LacksFile (linked_file path)) (λ bytes. HasRead (linked_file path, bytes)) (λ bytes. By (recorded (linked_file path) path bytes)) s old new h

pub linked_bad : {B : Type 0} (gives : B → List Hearing → Type 0) (path : Text) (o : Option (Vec ℕ Global)) (s : Stop) (old new : Hearings) → HearsIn (λ (o : Option (Vec ℕ Global)). HasRead (linked_file path, content o)) (LacksFile (linked_file path)) old new (Ok o)
    → SettlesStop (recorded (linked_file path) path (content o)) s → HearsIn gives (BadLinked path) old new (Err s)
linked_bad gives path o s old new f is = heard_by content gives (LacksFile (linked_file path)) (LacksFile (linked_file path)) (λ bytes. HasRead (linked_file path, bytes)) (recorded (linked_file path) path) o s old new f is

too_long : (name path : Text) (loaded : Loaded) → recorded name path None ≡ Ok loaded → ⊥
unfolding recorded
too_long name path loaded e = absurd cc

-- a linked file that stands for a package
pub loads : (path : Text) (bytes : Option Text) (loaded : Loaded) (heard : List Hearing) → recorded (linked_file path) path bytes ≡ Ok loaded → HasRead (linked_file path, bytes) heard → Loads path loaded heard
loads path (Some bytes) loaded heard is read = record { bytes = bytes; whole = read; stands = is }
loads path None loaded heard is read = absurd (too_long (linked_file path) path loaded is)

-- ---- the linked files of imports, one after another

abbrev no_hearing : List Hearing
no_hearing = []

loads_one : (path : Text) (one : Loaded) (heard : List Hearing) → Loads path one heard → LoadsAll (path ∷ []) (one ∷ []) heard
loads_one path one heard loads = (heard, no_hearing, sym (append-nil heard), loads, refl)

loads_more : (paths : List Text) (all : List Loaded) (path : Text) (one : Loaded) (a b : List Hearing) → LoadsAll paths all a → Loads path one b → LoadsAll (paths ++ path ∷ []) (all ++ one ∷ []) (a ++ b)
loads_more [] [] path one a b h loads =
    let P : List Hearing → Type 0 = λ x. LoadsAll (path ∷ []) (one ∷ []) (x ++ b) in
    subst P (sym h) (loads_one path one b loads)
loads_more [] (x ∷ xs) path one a b h loads = absurd h
loads_more (p ∷ ps) [] path one a b h loads = absurd h
loads_more (p ∷ ps) (x ∷ xs) path one a b h loads = (h.0, h.1 ++ b, ap (λ y. y ++ b) h.2 ∙ append_assoc h.0 h.1 b, h.3, loads_more ps xs path one h.1 b h.4 loads)

-- the paths among the texts up to a place
abbrev paths_to : Names → ℕ → List Text
paths_to names i = map string_bytes (take i names)

path_more : (names : Names) (i : ℕ) (d : String Global) → i < length names → paths_to names (i + 1) ≡ paths_to names i ++ string_bytes (get_or names i d) ∷ []
path_more names i d h = ap (map string_bytes) (take_more names i d h) ∙ map-append string_bytes (take i names) (get_or names i d ∷ [])

-- what was heard of the linked files read so far
pub record LoadedSoFar (names : Names) (i : ℕ) (imports : Imports) (old now : Hearings) : Type 0 where
  pub all : List Loaded
  pub heard : List Hearing
  pub told : now ≡ more old heard
  pub loads : LoadsAll (paths_to names i) all heard
  pub are : imports ≡ pairs_of all

pub loaded_first : (names : Names) (old : Hearings) → LoadedSoFar names 0 ([], []) old old
loaded_first names old = record { all = []; heard = []; told = sym (more_none old); loads = refl; are = refl }

pub pair_is : (a b : List Linked) (x y : List Text) → a ≡ b → x ≡ y → (let p : Imports = (a, x) in p) ≡ (b, y)
pair_is a b x y e f = cc

pairs_more : (all : List Loaded) (one : Loaded) (imports : Imports) → imports ≡ pairs_of all → with_loaded imports one ≡ pairs_of (all ++ one ∷ [])
pairs_more all one imports e =
    ap (λ i. with_loaded i one) e ∙ pair_is (map (λ (l : Loaded). l.0) all ++ one.0 ∷ []) (map (λ (l : Loaded). l.0) (all ++ one ∷ [])) (map (λ (l : Loaded). l.1) all ++ one.1 ∷ []) (map (λ (l : Loaded). l.1) (all ++ one ∷ []))
    (sym (map-append (λ (l : Loaded). l.0) all (one ∷ []))) (sym (map-append (λ (l : Loaded). l.1) all (one ∷ [])))

pub loaded_next : {X : Type 0} (view : X → Loaded) (p : Refusal → List Hearing → Type 0) (names : Names) (i : ℕ) (d : String Global) (imports : Imports) (x : X) (old now new : Hearings) → i < length names
    → LoadedSoFar names i imports old now → HearsIn (λ y. Loads (string_bytes (get_or names i d)) (view y)) p now new (Ok x) → LoadedSoFar names (i + 1) (with_loaded imports (view x)) old new
loaded_next view p names i d imports x old now new h r read =
    let P : List Text → Type 0 = λ ps. LoadsAll ps (r.all ++ view x ∷ []) (r.heard ++ read.heard) in
    record {
      all = r.all ++ view x ∷ [];
      heard = r.heard ++ read.heard;
      told = both_told old now new r.heard read.heard r.told read.told;
      loads = subst P (sym (path_more names i d h)) (loads_more (paths_to names i) r.all (string_bytes (get_or names i d)) (view x) r.heard read.heard r.loads read.ends);
      are = pairs_more r.all (view x) imports r.are;
    }

-- the paths, where one of them is at a place
paths_at : (names : Names) (i : ℕ) (d : String Global) → i < length names → map string_bytes names ≡ paths_to names i ++ string_bytes (get_or names i d) ∷ map string_bytes (drop (i + 1) names)
paths_at names i d h =
    ap (map string_bytes) (sym (take-append-drop i names)) ∙ map-append string_bytes (take i names) (drop i names)
    ∙ ap (λ ns. paths_to names i ++ map string_bytes ns) (drop-cons names i d h ∙ ap (λ k. get_or names i d ∷ drop k names) (sym (add-one i)))

-- the linked file of one of them is bad
pub loaded_stop : {X Y : Type 0} (read : X → List Hearing → Type 0) (gives : Y → List Hearing → Type 0) (names : Names) (i : ℕ) (d : String Global) (imports : Imports) (s : Stop) (old now new : Hearings) → i < length names
    → LoadedSoFar names i imports old now → HearsIn read (BadLinked (string_bytes (get_or names i d))) now new (Err s) → HearsIn gives (BadImports (map string_bytes names)) old new (Err s)
loaded_stop read gives names i d imports s old now new lt r h =
    let path = string_bytes (get_or names i d) in
    let refused : (q : Refusal) → BadLinked path q h.heard → BadImports (map string_bytes names) q (r.heard ++ h.heard) = λ q by. record {
      front = paths_to names i;
      at = path;
      rest = map string_bytes (drop (i + 1) names);
      parts = paths_at names i d lt;
      first = r.heard;
      last = h.heard;
      whole = refl;
      given = (r.all, r.loads);
      refused = by;
    } in
    record {
      heard = r.heard ++ h.heard;
      told = both_told old now new r.heard h.heard r.told h.told;
      ends = stopped_as (BadLinked path) (BadImports (map string_bytes names)) h.heard (r.heard ++ h.heard) s refused h.ends;
    }

pub loaded_none : {Y : Type 0} (gives : Y → List Hearing → Type 0) (refuses : Refusal → List Hearing → Type 0) (names : Names) (i : ℕ) (imports : Imports) (old now : Hearings) → LoadedSoFar names i imports old now → HearsIn gives refuses old now (Err stop.NoMemory)
loaded_none gives refuses names i imports old now r = record { heard = r.heard; told = r.told; ends = tt }

pub loaded_last : {X : Type 0} (view : X → Imports) (x : X) (names : Names) (i : ℕ) (old now : Hearings) → take i names ≡ names → LoadedSoFar names i (view x) old now → HearsIn (λ y. LoadsImports (map string_bytes names) (view y)) (BadImports (map string_bytes names)) old now (Ok x)
loaded_last view x names i old now all r =
    let P : List (String Global) → Type 0 = λ ns. LoadsAll (map string_bytes ns) r.all r.heard in
    record { heard = r.heard; told = r.told; ends = record { all = r.all; loads = subst P all r.loads; are = r.are } }

-- ---- a package

hears_package : (path : Text) (form : SourceForm) (imports : Imports) (a b : List Hearing) → ReadsForm path form a → (l : LoadsImports (imported form) imports b) → HearsPackage path form l.all (a ++ b)
hears_package path form imports a b read l = record { sources = a; linked = b; whole = refl; read = read; loaded = l.loads }

abbrev Formed : Text → Hearings → Hearings → SourceForm → Type 0
Formed path old new form = HearsIn (ReadsForm path) (LacksForm path) old new (Ok form)

abbrev Imported : {A : Type 0} → (A → Imports) → SourceForm → Hearings → Hearings → A → Type 0
Imported view form old new a = HearsIn (λ x. LoadsImports (imported form) (view x)) (BadImports (imported form)) old new (Ok a)

-- a form was read and the linked files of its imports, and the package is what they say
pub heard_compiled : {A : Type 0} (view : A → Imports) (path : Text) (form : SourceForm) (a : A) (linked : Linked) (old mid new : Hearings) → judgement path form (view a) ≡ Ok linked
    → Formed path old mid form → Imported view form mid new a → HearsIn (Compiles path) (BadPackage path) old new (Ok linked)
heard_compiled view path form a linked old mid new is f l = record {
  heard = f.heard ++ l.heard;
  told = both_told old mid new f.heard l.heard f.told l.told;
  ends = record { form = form; imports = l.ends.all; hears = hears_package path form (view a) f.heard l.heard f.ends l.ends; judged = sym (ap (judgement path form) l.ends.are) ∙ is };
}

-- its form wasn't read
pub package_unread : {A B : Type 0} (one : A → List Hearing → Type 0) (gives : B → List Hearing → Type 0) (path : Text) (s : Stop) (old new : Hearings) → HearsIn one (LacksForm path) old new (Err s) → HearsIn gives (BadPackage path) old new (Err s)
package_unread one gives path s old new h = heard_first one gives (LacksForm path) (ReadsForm path) (λ form. EitherRefused (BadImports (imported form)) (LoadsImports (imported form)) (λ imports. By (judgement path form imports))) s old new h

-- an import wasn't
pub package_unloaded : {A B : Type 0} (two : A → List Hearing → Type 0) (gives : B → List Hearing → Type 0) (path : Text) (form : SourceForm) (s : Stop) (old mid new : Hearings) → Formed path old mid form → HearsIn two (BadImports (imported form)) mid new (Err s) → HearsIn gives (BadPackage path) old new (Err s)
package_unloaded two gives path form s old mid new f h =
    let later : HearsIn gives (EitherRefused (BadImports (imported form)) (LoadsImports (imported form)) (λ imports. By (judgement path form imports))) mid new (Err s) = heard_first two gives (BadImports (imported form)) (LoadsImports (imported form)) (λ imports. By (judgement path form imports)) s mid new h in
    heard_second (λ (f : SourceForm). f) gives gives (LacksForm path) (LacksForm path) (ReadsForm path) (λ f. EitherRefused (BadImports (imported f)) (LoadsImports (imported f)) (λ imports. By (judgement path f imports))) form s old mid new f later

-- the package is refused by what they say
pub package_refused : {A B : Type 0} (gives : B → List Hearing → Type 0) (view : A → Imports) (path : Text) (form : SourceForm) (a : A) (s : Stop) (old mid new : Hearings) → SettlesStop (judgement path form (view a)) s
    → Formed path old mid form → Imported view form mid new a → HearsIn gives (BadPackage path) old new (Err s)
package_refused gives view path form a s old mid new is f l =
    let later : HearsIn gives (EitherRefused (BadImports (imported form)) (LoadsImports (imported form)) (λ imports. By (judgement path form imports))) mid new (Err s) = heard_by view gives (BadImports (imported form)) (BadImports (imported form)) (LoadsImports (imported form)) (judgement path form) a s mid new l is in
    heard_second (λ (f : SourceForm). f) gives gives (LacksForm path) (LacksForm path) (ReadsForm path) (λ f. EitherRefused (BadImports (imported f)) (LoadsImports (imported f)) (λ imports. By (judgement path f imports))) form s old mid new f later

-- ---- packages, one after another

compiles_more : (paths : List Text) (path : Text) (linked : Linked) (a b : List Hearing) → CompilesAll paths a → Compiles path linked b → CompilesAll (paths ++ path ∷ []) (a ++ b)
compiles_more [] path linked a b h one =
    let P : List Hearing → Type 0 = λ x. CompilesAll (path ∷ []) (x ++ b) in
    subst P (sym h) (b, no_hearing, sym (append-nil b), (linked, one), refl)
compiles_more (p ∷ ps) path linked a b h one = (h.0, h.1 ++ b, ap (λ y. y ++ b) h.2 ∙ append_assoc h.0 h.1 b, h.3, compiles_more ps path linked h.1 b h.4 one)

-- what was heard of the packages compiled so far
pub record CompiledSoFar (names : Names) (i : ℕ) (old now : Hearings) : Type 0 where
  pub heard : List Hearing
  pub told : now ≡ more old heard
  pub compiles : CompilesAll (paths_to names i) heard

pub compiled_first : (names : Names) (old : Hearings) → CompiledSoFar names 0 old old
compiled_first names old = record { heard = []; told = sym (more_none old); compiles = refl }

pub compiled_next : (p : Refusal → List Hearing → Type 0) (names : Names) (i : ℕ) (d : String Global) (linked : Linked) (old now new : Hearings) → i < length names
    → CompiledSoFar names i old now → HearsIn (Compiles (string_bytes (get_or names i d))) p now new (Ok linked) → CompiledSoFar names (i + 1) old new
compiled_next p names i d linked old now new h r one =
    let P : List Text → Type 0 = λ ps. CompilesAll ps (r.heard ++ one.heard) in
    record {
      heard = r.heard ++ one.heard;
      told = both_told old now new r.heard one.heard r.told one.told;
      compiles = subst P (sym (path_more names i d h)) (compiles_more (paths_to names i) (string_bytes (get_or names i d)) linked r.heard one.heard r.compiles one.ends);
    }

-- one of them is refused
pub compiled_stop : {X Y : Type 0} (one : X → List Hearing → Type 0) (gives : Y → List Hearing → Type 0) (names : Names) (i : ℕ) (d : String Global) (s : Stop) (old now new : Hearings) → i < length names
    → CompiledSoFar names i old now → HearsIn one (BadPackage (string_bytes (get_or names i d))) now new (Err s) → HearsIn gives (BadPackages (map string_bytes names)) old new (Err s)
compiled_stop one gives names i d s old now new lt r h =
    let path = string_bytes (get_or names i d) in
    let refused : (q : Refusal) → BadPackage path q h.heard → BadPackages (map string_bytes names) q (r.heard ++ h.heard) = λ q by. record {
      front = paths_to names i;
      at = path;
      rest = map string_bytes (drop (i + 1) names);
      parts = paths_at names i d lt;
      first = r.heard;
      last = h.heard;
      whole = refl;
      given = r.compiles;
      refused = by;
    } in
    record {
      heard = r.heard ++ h.heard;
      told = both_told old now new r.heard h.heard r.told h.told;
      ends = stopped_as (BadPackage path) (BadPackages (map string_bytes names)) h.heard (r.heard ++ h.heard) s refused h.ends;
    }

pub compiled_last : {X : Type 0} (x : X) (names : Names) (i : ℕ) (old now : Hearings) → take i names ≡ names → CompiledSoFar names i old now → HearsIn (λ (y : X). CompilesAll (map string_bytes names)) (BadPackages (map string_bytes names)) old now (Ok x)
compiled_last x names i old now all r =
    let P : List (String Global) → Type 0 = λ ns. CompilesAll (map string_bytes ns) r.heard in
    record { heard = r.heard; told = r.told; ends = subst P all r.compiles }

-- ---- a build

abbrev Ordered : {A : Type 0} → (A → List Text) → Text → Hearings → Hearings → A → Type 0
Ordered view path old new a = HearsIn (λ x. FindsOrder path (view x)) (LacksOrder path) old new (Ok a)

abbrev AllCompiled : List Text → Hearings → Hearings → Type 0
AllCompiled order old new = HearsIn (λ (u : Unit {0}). CompilesAll order) (BadPackages order) old new (Ok tt)

pub heard_build : {A C : Type 0} (by : A → List Text) (view : C → Loaded) (p refuses : Refusal → List Hearing → Type 0) (path : Text) (a : A) (x : C) (old one two new : Hearings) → Ordered by path old one a → AllCompiled (by a) one two
    → HearsIn (λ y. Loads path (view y)) p two new (Ok x) → HearsIn (Builds path) refuses old new (Ok (view x).0.export)
heard_build by view p refuses path a x old one two new f k l = record {
  heard = f.heard ++ (k.heard ++ l.heard);
  told = both_told old one new f.heard (k.heard ++ l.heard) f.told (both_told one two new k.heard l.heard k.told l.told);
  ends = record { order = by a; root = view x; discovered = f.heard; compiled = k.heard; last = l.heard; whole = refl; finds = f.ends; compiles = k.ends; loads = l.ends; stands = refl };
}

-- the packages have no order
pub build_unordered : {A B : Type 0} (one : A → List Hearing → Type 0) (gives : B → List Hearing → Type 0) (path : Text) (s : Stop) (old new : Hearings) → HearsIn one (LacksOrder path) old new (Err s) → HearsIn gives (BuildRefused path) old new (Err s)
build_unordered one gives path s old new h = heard_first one gives (LacksOrder path) (FindsOrder path) (λ order. EitherRefused (BadPackages order) (λ (u : Unit {0}). CompilesAll order) (λ u. BadLinked path)) s old new h

-- one of them is refused
pub build_uncompiled : {A B C : Type 0} (by : A → List Text) (two : B → List Hearing → Type 0) (gives : C → List Hearing → Type 0) (path : Text) (a : A) (s : Stop) (old mid new : Hearings) → Ordered by path old mid a → HearsIn two (BadPackages (by a)) mid new (Err s) → HearsIn gives (BuildRefused path) old new (Err s)
build_uncompiled by two gives path a s old mid new f h =
    let later : HearsIn gives (EitherRefused (BadPackages (by a)) (λ (u : Unit {0}). CompilesAll (by a)) (λ u. BadLinked path)) mid new (Err s) = heard_first two gives (BadPackages (by a)) (λ (u : Unit {0}). CompilesAll (by a)) (λ u. BadLinked path) s mid new h in
    heard_second by gives gives (LacksOrder path) (LacksOrder path) (FindsOrder path) (λ order. EitherRefused (BadPackages order) (λ (u : Unit {0}). CompilesAll order) (λ u. BadLinked path)) a s old mid new f later

-- the linked file of the root is bad
pub build_unread : {A B C : Type 0} (by : A → List Text) (last : B → List Hearing → Type 0) (gives : C → List Hearing → Type 0) (path : Text) (a : A) (s : Stop) (old one two new : Hearings) → Ordered by path old one a → AllCompiled (by a) one two
    → HearsIn last (BadLinked path) two new (Err s) → HearsIn gives (BuildRefused path) old new (Err s)
build_unread by last gives path a s old one two new f k h =
    let later : HearsIn gives (EitherRefused (BadPackages (by a)) (λ (u : Unit {0}). CompilesAll (by a)) (λ u. BadLinked path)) one new (Err s) = heard_second (λ (u : Unit {0}). u) last gives (BadPackages (by a)) (BadPackages (by a)) (λ (u : Unit {0}). CompilesAll (by a)) (λ u. BadLinked path) tt s one two new k h in
    heard_second by gives gives (LacksOrder path) (LacksOrder path) (FindsOrder path) (λ order. EitherRefused (BadPackages order) (λ (u : Unit {0}). CompilesAll order) (λ u. BadLinked path)) a s old one new f later
