-- How the sources read so far follow from the names so far.
use Rattle.std.proofs.Common.{◌≡◌, ◌∙◌, ap, sym, subst, refl, ℕ, zero, suc, ◌+◌, ◌<◌, ◌≤◌, length, true, false, cond, List, [], ◌∷◌, ◌++◌, drop, get_or, map, Option, Result, Ok, Err, add-one, arith}
use Rattle.std.specs.Prelude.{filter, String, string_bytes, Vec}
use Rattle.std.specs.declared.alloc.Global.{Global}
use Rattle.std.proofs.Math.Seq.{drop-cons}
use Rattle.ui_store.specs.Files.{Files}
use Rattle.ui_store.specs.Calls.{Calls}
use Rattle.ui_build.specs.Plan.{Text, NoFile, done, refused}
use Rattle.ui_sources.specs.Sources.{SourceFile, source_of}
use Rattle.ui_build.specs.Package.{is_source, file_in, read_source, read_sources, some_source}
use Rattle.ui_build.specs.Sources.{sources_of}
use Rattle.ui_build.specs.Stops.{State, state, DoesSeen}
use Rattle.ui_sources.specs.declared.source.SourceFile.{SourceFile as InMemory}
use Rattle.ui_build.specs.declared.stop.Stop.{Stop}
use Rattle.ui_build.specs.declared.stop.Stop.TheVariants as stop
use Rattle.ui_build.proofs.Steps.{told_stop, told_then, told_none, told_done}

abbrev Names : Type 0
Names = List (String Global)

-- the sources among the names from a place on
abbrev pub sources_from : Names → ℕ → List Text
sources_from names i = filter is_source (map string_bytes (drop i names))

from_place : (names : Names) (i : ℕ) (d : String Global) → i < length names → sources_from names i ≡ cond (is_source (string_bytes (get_or names i d))) (string_bytes (get_or names i d) ∷ sources_from names (i + 1)) (sources_from names (i + 1))
from_place names i d h = ap (λ ns. filter is_source (map string_bytes ns)) (drop-cons names i d h) ∙ ap (λ k. cond (is_source (string_bytes (get_or names i d))) (string_bytes (get_or names i d) ∷ sources_from names k) (sources_from names k)) (sym (add-one i))

pub no_source_here : (names : Names) (i : ℕ) (d : String Global) → i < length names → is_source (string_bytes (get_or names i d)) ≡ false → sources_from names i ≡ sources_from names (i + 1)
no_source_here names i d h e = from_place names i d h ∙ ap (λ b. cond b (string_bytes (get_or names i d) ∷ sources_from names (i + 1)) (sources_from names (i + 1))) e

pub source_here : (names : Names) (i : ℕ) (d : String Global) → i < length names → is_source (string_bytes (get_or names i d)) ≡ true → sources_from names i ≡ string_bytes (get_or names i d) ∷ sources_from names (i + 1)
source_here names i d h e = from_place names i d h ∙ ap (λ b. cond b (string_bytes (get_or names i d) ∷ sources_from names (i + 1)) (sources_from names (i + 1))) e

-- what is left to read does the same as the whole
abbrev pub Continues : Text → Names → State → ℕ → List SourceFile → State → Type 0
Continues folder names initial i sources now =
    (new : State) (r : Result (Vec InMemory Global) Stop) → DoesSeen sources_of (λ told. read_sources told folder sources (sources_from names i)) now new r → DoesSeen sources_of (λ told. read_sources told folder [] (sources_from names 0)) initial new r

pub continues_first : (folder : Text) (names : Names) (initial : State) → Continues folder names initial 0 [] initial
continues_first folder names initial = λ new r d. d

pub continues_past : (folder : Text) (names : Names) (initial now : State) (i : ℕ) (d : String Global) (sources : List SourceFile) → i < length names → is_source (string_bytes (get_or names i d)) ≡ false → Continues folder names initial i sources now → Continues folder names initial (i + 1) sources now
continues_past folder names initial now i d sources h is_none rest = λ new r does.
    let P : List Text → Type 0 = λ ns. DoesSeen sources_of (λ told. read_sources told folder sources ns) now new r in
    rest new r (subst P (sym (no_source_here names i d h is_none)) does)

-- one source was read
reads_one : (folder name : Text) (names : List Text) (sources : List SourceFile) (files mid : Option Files) (asked mid_asked : Calls) (new : State) (s : InMemory) (r : Result (Vec InMemory Global) Stop) → mid ≡ files
    → DoesSeen source_of (λ told. read_source told (file_in folder name)) (state files asked) (state mid mid_asked) (Ok s) → DoesSeen sources_of (λ told. read_sources told folder (sources ++ source_of s ∷ []) names) (state mid mid_asked) new r
    → DoesSeen sources_of (λ told. read_sources told folder sources (name ∷ names)) (state files asked) new r
unfolding read_sources
reads_one folder name names sources files mid asked mid_asked new s r same d e =
    told_then source_of sources_of (λ told. read_source told (file_in folder name)) (λ told s. read_sources told folder (sources ++ s ∷ []) names) files mid asked mid_asked new s r same d e

stops_one : (folder name : Text) (names : List Text) (sources : List SourceFile) (files : Option Files) (asked : Calls) (new : State) (s : Stop) → DoesSeen source_of (λ told. read_source told (file_in folder name)) (state files asked) new (Err s)
    → DoesSeen sources_of (λ told. read_sources told folder sources (name ∷ names)) (state files asked) new (Err s)
unfolding read_sources
stops_one folder name names sources files asked new s d =
    told_stop source_of sources_of (λ told. read_source told (file_in folder name)) (λ told s. read_sources told folder (sources ++ s ∷ []) names) files asked new s d

pub continues_next : (folder : Text) (names : Names) (initial : State) (files mid : Option Files) (asked mid_asked : Calls) (i : ℕ) (d : String Global) (sources : List SourceFile) (s : InMemory) → i < length names → is_source (string_bytes (get_or names i d)) ≡ true → mid ≡ files
    → Continues folder names initial i sources (state files asked) → DoesSeen source_of (λ told. read_source told (file_in folder (string_bytes (get_or names i d)))) (state files asked) (state mid mid_asked) (Ok s)
    → Continues folder names initial (i + 1) (sources ++ source_of s ∷ []) (state mid mid_asked)
continues_next folder names initial files mid asked mid_asked i d sources s h is_one same rest read = λ new r does.
    let P : List Text → Type 0 = λ ns. DoesSeen sources_of (λ told. read_sources told folder sources ns) (state files asked) new r in
    rest new r (subst P (sym (source_here names i d h is_one)) (reads_one folder (string_bytes (get_or names i d)) (sources_from names (i + 1)) sources files mid asked mid_asked new s r same read does))

pub continues_stop : (folder : Text) (names : Names) (initial : State) (files : Option Files) (asked : Calls) (new : State) (i : ℕ) (d : String Global) (sources : List SourceFile) (s : Stop) → i < length names → is_source (string_bytes (get_or names i d)) ≡ true
    → Continues folder names initial i sources (state files asked) → DoesSeen source_of (λ told. read_source told (file_in folder (string_bytes (get_or names i d)))) (state files asked) new (Err s)
    → DoesSeen sources_of (λ told. read_sources told folder [] (sources_from names 0)) initial new (Err s)
continues_stop folder names initial files asked new i d sources s h is_one rest read =
    let P : List Text → Type 0 = λ ns. DoesSeen sources_of (λ told. read_sources told folder sources ns) (state files asked) new (Err s) in
    rest new (Err s) (subst P (sym (source_here names i d h is_one)) (stops_one folder (string_bytes (get_or names i d)) (sources_from names (i + 1)) sources files asked new s read))

-- memory ran out
pub continues_none : (folder : Text) (names : Names) (initial : State) (files : Option Files) (asked : Calls) (i : ℕ) (sources : List SourceFile) → Continues folder names initial i sources (state files asked)
    → DoesSeen sources_of (λ told. read_sources told folder [] (sources_from names 0)) initial (state files asked) (Err stop.NoMemory)
continues_none folder names initial files asked i sources rest = rest (state files asked) (Err stop.NoMemory) (told_none sources_of (λ told. read_sources told folder sources (sources_from names i)) files asked)

pub nothing_left : {X : Type 0} (xs : List X) (i : ℕ) → length xs ≤ i → drop i xs ≡ []
nothing_left [] zero h = refl
nothing_left [] (suc i) h = refl
nothing_left (x ∷ xs) zero h = absurd (omega (arith, h))
nothing_left (x ∷ xs) (suc i) h = nothing_left xs i (omega (arith, h))

-- no names are left
all_read : (folder : Text) (v : Vec InMemory Global) (files : Option Files) (asked : Calls) → DoesSeen sources_of (λ told. read_sources told folder (sources_of v) []) (state files asked) (state files asked) (Ok v)
unfolding read_sources
all_read folder v files asked = told_done sources_of (sources_of v) v files asked refl

none_from : (names : Names) (i : ℕ) → drop i names ≡ [] → sources_from names i ≡ []
none_from names i e = ap (λ ns. filter is_source (map string_bytes ns)) e

pub continues_last : (folder : Text) (names : Names) (initial : State) (files : Option Files) (asked : Calls) (i : ℕ) (v : Vec InMemory Global) → drop i names ≡ [] → Continues folder names initial i (sources_of v) (state files asked)
    → DoesSeen sources_of (λ told. read_sources told folder [] (sources_from names 0)) initial (state files asked) (Ok v)
continues_last folder names initial files asked i v end rest =
    let P : List Text → Type 0 = λ ns. DoesSeen sources_of (λ told. read_sources told folder (sources_of v) ns) (state files asked) (state files asked) (Ok v) in
    rest (state files asked) (Ok v) (subst P (sym (none_from names i end)) (all_read folder v files asked))

-- ---- a folder with or without sources

pub some_source-none : (folder : Text) (sources : List InMemory) → length sources ≡ 0 → some_source folder (map source_of sources) ≡ refused (NoFile folder)
some_source-none folder [] e = refl
some_source-none folder (s ∷ ss) e = absurd (omega (arith, e))

pub some_source-some : (folder : Text) (sources : List InMemory) → 0 < length sources → some_source folder (map source_of sources) ≡ done (map source_of sources)
some_source-some folder [] e = absurd (omega (arith, e))
some_source-some folder (s ∷ ss) e = refl
