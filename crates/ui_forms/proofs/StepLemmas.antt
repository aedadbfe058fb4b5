-- Steps that may run out of memory.
use Rattle.std.proofs.Common.{◌≡◌, ℕ, ◌<◌, List, map, drop, length, get_or, Result, Err, ap}
use Rattle.ui_base.specs.declared.value.Spot.{Spot}
use Rattle.ui_base.specs.declared.value.Pos.{Pos}
use Rattle.ui_base.specs.Steps.{and_then, each}
use Rattle.ui_base.proofs.StepLemmas.{behind, each_refused}
use Rattle.ui_forms.specs.Choosing.{GivesForm, GivesPart}
use Rattle.ui_forms.specs.declared.fault.FormFault.{FormFault}
use Rattle.ui_forms.specs.declared.fault.FormFault.TheVariants as form
use Rattle.ui_forms.specs.declared.fault.PartFault.{PartFault}
use Rattle.ui_forms.specs.declared.fault.PartFault.TheVariants as part

pub part_stops : {A B : Type 0} (step : A → Result B Spot) (v : Result A Spot) (e : PartFault) → GivesPart v (Err e) → GivesPart (and_then step v) (Err e)
part_stops step v (part.NotTaken s) g = ap (and_then step) g
part_stops step v part.NoMemory g = tt

pub form_stops : {A B : Type 0} (step : A → Result B Pos) (v : Result A Pos) (e : FormFault) → GivesForm v (Err e) → GivesForm (and_then step v) (Err e)
form_stops step v (form.NotTaken p) g = ap (and_then step) g
form_stops step v form.NoMemory g = tt

pub each_part_stops : {X A B : Type 0} (f : X → A) (step : A → Result B Spot) (xs : List X) (i : ℕ) (ys : List B) (target : Result (List B) Spot) (x : X) (e : PartFault) → i < length xs → x ≡ get_or xs i x → behind ys (each step (map f (drop i xs))) ≡ target → GivesPart (step (f x)) (Err e) → GivesPart target (Err e)
each_part_stops f step xs i ys target x (part.NotTaken s) h is before g = each_refused f step xs i ys target x s h is before g
each_part_stops f step xs i ys target x part.NoMemory h is before g = tt

pub each_form_stops : {X A B : Type 0} (f : X → A) (step : A → Result B Pos) (xs : List X) (i : ℕ) (ys : List B) (target : Result (List B) Pos) (x : X) (e : FormFault) → i < length xs → x ≡ get_or xs i x → behind ys (each step (map f (drop i xs))) ≡ target → GivesForm (step (f x)) (Err e) → GivesForm target (Err e)
each_form_stops f step xs i ys target x (form.NotTaken p) h is before g = each_refused f step xs i ys target x p h is before g
each_form_stops f step xs i ys target x form.NoMemory h is before g = tt
