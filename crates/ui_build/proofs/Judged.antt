-- What a package stands for by the linked files of its imports, and that it can be written.
use Rattle.std.proofs.Common.{◌≡◌, ◌∙◌, ap, sym, subst, refl, ℕ, suc, ◌≤◌, length, Bool, true, false, ◌&&◌, List, [], ◌∷◌, map, Result, Ok}
use Rattle.std.specs.Prelude.{nat_eq}
use Rattle.std.specs.List.{AllByRecursion, list_all}
use Rattle.std.specs.FinMap.{entries}
use Rattle.std.proofs.lemmas.Bool.{eqb-true}
use Rattle.ui_base.specs.Paths.{is_path}
use Rattle.ui_exports.specs.Export.{Declaration, Export}
use Rattle.ui_exports.specs.Linked.{Linked, Below}
use Rattle.ui_forms.specs.Form.{Form as SourceForm}
use Rattle.ui_forms.specs.Verdict.{environment_of, verdict}
use Rattle.ui_forms.specs.Size as forms
use Rattle.ui_consts.specs.Size.{IsSmallEntry, IsSmallExport, HasName, HasNames, IsBelow, IsSmall}
use Rattle.ui_below.specs.Claims.{claims}
use Rattle.ui_below.specs.Join.{joined, JoinedIsListed, JoinedHolds}
use Rattle.ui_build.specs.Plan.{Text, Refusal, or_fault}
use Rattle.ui_build.specs.Build.{package_limit}
use Rattle.ui_build.specs.Loading.{Imports, or_apart, with_export, judged_with, judgement}
use Rattle.ui_build.specs.Views.{is_sound}
use Rattle.ui_build.specs.Stops.{SettlesStop}
use Rattle.ui_build.specs.declared.stop.Stop.{Stop}
use Rattle.ui_build.specs.declared.stop.Stop.TheVariants as stop

abbrev list_in : Text → Imports → Result (List Below) Refusal
list_in path imports = or_apart path (joined path (claims imports.0 imports.1))

abbrev export_in : SourceForm → Imports → Result Export Refusal
export_in form imports = or_fault (verdict (environment_of imports.0) form)

pub judged_list_stop : (path : Text) (form : SourceForm) (imports : Imports) (s : Stop) → SettlesStop (list_in path imports) s → SettlesStop (judgement path form imports) s
unfolding judgement
judged_list_stop path form imports (stop.Refused r) e = ap (judged_with form imports.0) e
judged_list_stop path form imports (stop.ReadFault n) e = absurd e
judged_list_stop path form imports (stop.WriteFault n) e = absurd e
judged_list_stop path form imports stop.NoMemory e = tt

judged_at : (path : Text) (form : SourceForm) (imports : Imports) (below : List Below) → list_in path imports ≡ Ok below → judgement path form imports ≡ judged_with form imports.0 (Ok below)
unfolding judgement
judged_at path form imports below e = ap (judged_with form imports.0) e

abbrev linked_with : List Below → Result Export Refusal → Result Linked Refusal
linked_with below r = with_export below r

pub judged_export_stop : (path : Text) (form : SourceForm) (imports : Imports) (below : List Below) (s : Stop) → list_in path imports ≡ Ok below → SettlesStop (export_in form imports) s → SettlesStop (judgement path form imports) s
judged_export_stop path form imports below (stop.Refused r) is e = judged_at path form imports below is ∙ ap (linked_with below) e
judged_export_stop path form imports below (stop.ReadFault n) is e = absurd e
judged_export_stop path form imports below (stop.WriteFault n) is e = absurd e
judged_export_stop path form imports below stop.NoMemory is e = tt

pub judged_ok : (path : Text) (form : SourceForm) (imports : Imports) (below : List Below) (export : Export) → list_in path imports ≡ Ok below → export_in form imports ≡ Ok export → judgement path form imports ≡ Ok (record { export = export; below = below })
judged_ok path form imports below export is e = judged_at path form imports below is ∙ ap (linked_with below) e

-- ---- it can be written

first_true : (a b : Bool) → (a && b) ≡ true → a ≡ true
first_true true b e = refl
first_true false b e = absurd cc

second_true : (a b : Bool) → (a && b) ≡ true → b ≡ true
second_true true b e = e
second_true false b e = absurd cc

small_entries : (es : List (Text × Declaration)) → AllByRecursion forms.IsSmallEntry es → AllByRecursion IsSmallEntry es
small_entries [] h = tt
small_entries (e ∷ es) (s, rest) = (record { name = s.name; file = s.file; line = s.line; line_fits = s.line_fits; column = s.column; column_fits = s.column_fits; value = s.value }, small_entries es rest)

-- what a check bounds is what can be written
pub small_export : (e : Export) → forms.IsSmallExport e → IsSmallExport e
small_export e s = record { path = s.path; name = s.name; few = s.few; entries = small_entries (entries e.decls) s.entries }

named_entries : (es : List (Text × Declaration)) → AllByRecursion forms.IsSmallEntry es → AllByRecursion HasName es
named_entries [] h = tt
named_entries (e ∷ es) (s, rest) = (record { name = s.is_name; file = s.some_file }, named_entries es rest)

pub export_names : (e : Export) → forms.IsSmallExport e → HasNames e
export_names e s = record { path = s.is_path; name = s.is_name; entries = named_entries (entries e.decls) s.entries }

each_below : (below : List Below) → list_all (λ (b : Below). is_sound b.path b.print) below ≡ true → AllByRecursion IsBelow below
each_below [] h = tt
each_below (b ∷ bs) h =
    let a = first_true (is_sound b.path b.print) (list_all (λ (x : Below). is_sound x.path x.print) bs) h in
    (record { path = first_true (is_path b.path) (nat_eq (length b.print) 8) a; print = eqb-true (length b.print) 8 (second_true (is_path b.path) (nat_eq (length b.print) 8) a) }, each_below bs (second_true (is_sound b.path b.print) (list_all (λ (x : Below). is_sound x.path x.print) bs) h))

pub is_small : (own : Text) (cs below : List Below) (export : Export) → JoinedIsListed → JoinedHolds → list_all (λ (c : Below). is_sound c.path c.print) cs ≡ true → joined own cs ≡ Ok below → length below ≤ package_limit → IsSmallExport export → HasNames export
    → IsSmall (record { export = export; below = below })
is_small own cs below export listed holds sound is few small named = record {
  export = small;
  names = named;
  below = record { each = each_below below (holds is_sound own cs below sound is); ascending = listed own cs below is };
  few_below = few;
}

as_long : {X Y : Type 0} (f : X → Y) (xs : List X) → length (map f xs) ≡ length xs
as_long f [] = refl
as_long f (x ∷ xs) = ap suc (as_long f xs)

pub few_mapped : {X Y : Type 0} (f : X → Y) (xs : List X) (n : ℕ) → length xs ≤ n → length (map f xs) ≤ n
few_mapped f xs n h = let P : ℕ → Type 0 = λ m. m ≤ n in subst P (sym (as_long f xs)) h
