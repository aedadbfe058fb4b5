-- How a command's end follows from the end of its steps.
use Rattle.std.proofs.Common.{◌≡◌, ◌∙◌, ap, sym, subst, refl, ◌≤◌, Bool, true, false, cond, List, [], ◌⊎◌, inl, inr, Option, Some, None, IfSome, Result, Ok, Err, string_bytes, arith}
use Rattle.std.specs.Prelude.{ℕ, IfErr, String}
use Rattle.std.specs.declared.alloc.Global.{Global}
use Rattle.ui_store.specs.Causes.{Rose}
use Rattle.ui_store.specs.Told.{more, more_none}
use Rattle.ui_store.specs.Sinks.{Partly, partly_none}
use Rattle.ui_store.specs.Files.{Files}
use Rattle.ui_store.specs.Views.{SinkView}
use Rattle.ui_store.specs.Calls.{Hearing}
use Rattle.ui_exports.specs.Export.{Export}
use Rattle.ui_build.specs.Plan.{Text, Refusal, NoFile, Form, Faulty, TooLong, BadFrame, BadElement, TooMany, Cycle, Stale, Plan}
use Rattle.ui_build.specs.Dump.{IsOfFile, IsReadStop}
use Rattle.ui_top.specs.Answers.{answers}
use Rattle.ui_top.specs.Outcome.{Outcome, Command, Build, Dump, outcome, plan_of, queries_of, of_plan, ends_of, out_of, line_of, refused_as, refusal_line}
use Rattle.ui_build.specs.Stops.{State, seen, Ends, Stops, DoesStop, Does, DoesTold, HasCause, StopCause, refusal_of}
use Rattle.ui_top.specs.Ends.{Answered, EndsBy, EndsAnswered, EndsStopped, status_of, stop_line, answers_status, answers_line}
use Rattle.ui_build.specs.Heard.{Hears}
use Rattle.ui_top.specs.Scene.{Scene, Said, Reached, Excused, Reaches, Refuses, RefusedBy, ComesTo, Exported, RefusesPackage, FailsWriting, Caused, Runs, Completes, IsExcused}
use Rattle.ui_top.specs.declared.answers.Unanswered.{Unanswered}
use Rattle.ui_top.specs.declared.answers.Unanswered.TheVariants as unanswered
use Rattle.ui_top.specs.declared.status.Status.{Status}
use Rattle.ui_top.specs.declared.status.Status.TheVariants as status
use Rattle.ui_build.specs.declared.stop.Refusal.{Refusal as Told}
use Rattle.ui_build.specs.declared.stop.Stop.{Stop}
use Rattle.ui_build.specs.declared.stop.Stop.TheVariants as stop
use Rattle.ui_build.proofs.Steps.{asks_all, puts_all}

-- the store's part of a scene
abbrev store_of : Scene → State
store_of s = seen s.store

-- ---- a command that was stopped

refused_reaches : (queries : List Text) (plan : Plan Export) (old new : Scene) (r : Refusal) → plan.value ≡ Err r → Ends plan (store_of old) (store_of new) → new.out ≡ old.out → Said (refusal_line r) old new → Reached (of_plan queries plan) old new (refused_as r)
refused_reaches queries plan old new r is ends out said = record {
  status = ap (ends_of queries) (sym is);
  out = ap (λ (o : SinkView). o.written) out ∙ sym (more_none old.out.written) ∙ ap (λ v. more old.out.written (out_of queries v)) (sym is);
  line = (let P : Result Export Refusal → Type 0 = λ v. Said (line_of v) old new in subst P (sym is) said);
  done = record { asked = ends.asked; files = ends.files };
}

stops_excused : (queries : List Text) (plan : Plan Export) (old new : Scene) (ends : Status) → IsExcused ends → (ends ≡ status.OutFault → ⊥) → Stops plan (store_of old) (store_of new) → new.out ≡ old.out → Excused (of_plan queries plan) old new ends
stops_excused queries plan old new ends excused other stops out = record { excused = excused; out = partly_none old.out.written new.out.written _ (ap (λ (o : SinkView). o.written) out); asked = stops.asked; files = stops.files; done = λ e. absurd (other e) }

-- other ends than a fault of `out`
read_other : status.ReadFault ≡ status.OutFault → ⊥
read_other e = absurd cc

write_other : status.WriteFault ≡ status.OutFault → ⊥
write_other e = absurd cc

memory_other : status.NoMemory ≡ status.OutFault → ⊥
memory_other e = absurd cc

stop_reaches : (queries : List Text) (plan : Plan Export) (old new : Scene) (s : Stop) → DoesStop plan (store_of old) (store_of new) s → new.out ≡ old.out → Said (stop_line s) old new → Reaches (of_plan queries plan) old new (status_of s)
stop_reaches queries plan old new (stop.Refused r) does out said = inr (refused_reaches queries plan old new (refusal_of r) does.0 does.1 out said)
stop_reaches queries plan old new (stop.ReadFault name) does out said = inl (stops_excused queries plan old new status.ReadFault tt read_other does out)
stop_reaches queries plan old new (stop.WriteFault name) does out said = inl (stops_excused queries plan old new status.WriteFault tt write_other does out)
stop_reaches queries plan old new stop.NoMemory does out said = inl (stops_excused queries plan old new status.NoMemory tt memory_other does out)

-- what may stop a command before its answers
abbrev pub MayStop : Command → Stop → Type 0
MayStop (Build path queries) s = Unit {0}
MayStop (Dump path queries) s = IsReadStop s

abbrev MayRefuse : Command → Refusal → Type 0
MayRefuse (Build path queries) r = Unit {0}
MayRefuse (Dump path queries) r = IsOfFile r

may_refuse : (command : Command) (r : Told) → MayStop command (stop.Refused r) → MayRefuse command (refusal_of r)
may_refuse (Build path queries) r may = tt
may_refuse (Dump path queries) r may = may

-- what was heard is why
refuses : (command : Command) (old new : Scene) (r : Refusal) (heard : List Hearing) → new.store.heard ≡ more old.store.heard heard → RefusedBy command r heard → Said (refusal_line r) old new → new.out ≡ old.out → Refuses command old new (refused_as r)
refuses command old new r heard told by said out = record { refusal = r; heard = heard; told = told; refused = by; status = refl; line = said; out = out }

refuses_package : (command : Command) (old new : Scene) (ends : Status) (r : Refusal) → (IsOfFile r → ⊥) → MayRefuse command r → Refuses command old new ends → RefusesPackage command old new ends
refuses_package (Build path queries) old new ends r other may by = by
refuses_package (Dump path queries) old new ends r other may by = absurd (other may)

refusal_caused : (command : Command) (old new : Scene) (r : Refusal) → MayRefuse command r → Refuses command old new (refused_as r) → Caused command old new (refused_as r)
refusal_caused command old new (NoFile name) may by = by
refusal_caused command old new (Form pos) may by = refuses_package command old new status.Refused (Form pos) (λ h. h) may by
refusal_caused command old new (Faulty fault) may by = refuses_package command old new status.Refused (Faulty fault) (λ h. h) may by
refusal_caused command old new (TooLong name) may by = by
refusal_caused command old new (BadFrame name fault) may by = by
refusal_caused command old new (BadElement name) may by = by
refusal_caused command old new TooMany may by = refuses_package command old new status.Refused TooMany (λ h. h) may by
refusal_caused command old new (Cycle at) may by = refuses_package command old new status.Refused (Cycle at) (λ h. h) may by
refusal_caused command old new (Stale at first second) may by = refuses_package command old new status.Stale (Stale at first second) (λ h. h) may by

-- a command that ended so by what it heard
abbrev CommandHears : Command → Scene → Scene → Result Export Stop → Type 0
CommandHears command old new result = Hears (ComesTo command) (RefusedBy command) old.store new.store result

fails_writing : (command : Command) (old new : Scene) (name : String Global) → MayStop command (stop.WriteFault name) → StopCause old.store new.store (stop.WriteFault name) → new.out ≡ old.out → Said (stop_line (stop.WriteFault name)) old new → FailsWriting command old new
fails_writing (Build path queries) old new name may cause out said = (cause.0, (string_bytes name, cause.1, said), out)
fails_writing (Dump path queries) old new name may cause out said = absurd may

stop_caused : (command : Command) (old new : Scene) (s : Stop) → MayStop command s → StopCause old.store new.store s → CommandHears command old new (Err s) → new.out ≡ old.out → Said (stop_line s) old new → Caused command old new (status_of s)
stop_caused command old new (stop.Refused r) may cause hears out said = refusal_caused command old new (refusal_of r) (may_refuse command r may) (refuses command old new (refusal_of r) hears.heard hears.told hears.ends said out)
stop_caused command old new (stop.ReadFault name) may cause hears out said = (cause.0, (string_bytes name, cause.1, said), out)
stop_caused command old new (stop.WriteFault name) may cause hears out said = fails_writing command old new name may cause out said
stop_caused command old new stop.NoMemory may cause hears out said = (said, inl out)

told_stop_reaches : (command : Command) (files : Option Files) (old new : Scene) (s : Stop) → IfSome files (λ told. DoesStop (plan_of told command) (store_of old) (store_of new) s) → new.out ≡ old.out → Said (stop_line s) old new
    → IfSome files (λ told. Reaches (outcome told command) old new (status_of s))
unfolding outcome
told_stop_reaches command None old new s does out said = tt
told_stop_reaches command (Some told) old new s does out said = stop_reaches (queries_of command) (plan_of told command) old new s does out said

-- what neither the store nor the answers changed
pub record Keeps (old new : Scene) : Type 0 where
  pub input : new.input ≡ old.input
  pub steps : new.steps ≡ old.steps

stop_runs : (command : Command) (old new : Scene) (s : Stop) (ends : Status) → DoesTold (λ (e : Export). e) (λ told. plan_of told command) old.store new.store (Err s) → MayStop command s
    → HasCause {X = Export} old.store new.store (Err s) → CommandHears command old new (Err s) → EndsStopped s old.out new.out old.err new.err ends → Keeps old new → Runs command old new ends
stop_runs command old new s ends does may cause hears by keeps =
    let P : Status → Type 0 = Runs command old new in
    let Q : ℕ → Type 0 = λ n. old.out.faults ≤ n in
    subst P (sym by.status) (record {
      reaches = told_stop_reaches command old.store.files old new s does by.out by.line;
      caused = stop_caused command old new s may cause.stop hears by.out by.line;
      store_count = cause.later;
      out_count = subst Q (sym (ap (λ (o : SinkView). o.faults) by.out)) (omega arith);
      err_count = by.line.later;
      input = keeps.input;
      steps = keeps.steps;
    })

-- ---- a command whose queries were answered

abbrev CommandAnswered : Export → List Text → Scene → Scene → Result Bool Unanswered → Type 0
CommandAnswered export queries old new answered = Answered export queries old.out new.out answered

answers_reached : (queries : List Text) (plan : Plan Export) (export : Export) (old new : Scene) (all : Bool) → plan.value ≡ Ok export → Ends plan (store_of old) (store_of new) → CommandAnswered export queries old new (Ok all) → Said [] old new → Reached (of_plan queries plan) old new (answers_status (Ok all))
answers_reached queries plan export old new true is ends a said = record {
  status = ap (λ b. cond b status.Ok status.QueryRefused) a.all ∙ ap (ends_of queries) (sym is);
  out = a.written ∙ ap (λ v. more old.out.written (out_of queries v)) (sym is);
  line = (let P : Result Export Refusal → Type 0 = λ v. Said (line_of v) old new in subst P (sym is) said);
  done = record { asked = ends.asked; files = ends.files };
}
answers_reached queries plan export old new false is ends a said = record {
  status = ap (λ b. cond b status.Ok status.QueryRefused) a.all ∙ ap (ends_of queries) (sym is);
  out = a.written ∙ ap (λ v. more old.out.written (out_of queries v)) (sym is);
  line = (let P : Result Export Refusal → Type 0 = λ v. Said (line_of v) old new in subst P (sym is) said);
  done = record { asked = ends.asked; files = ends.files };
}

answers_excused : (queries : List Text) (plan : Plan Export) (export : Export) (old new : Scene) (ends : Status) → IsExcused ends → plan.value ≡ Ok export → Ends plan (store_of old) (store_of new) → Partly old.out.written new.out.written (answers export queries) → Excused (of_plan queries plan) old new ends
answers_excused queries plan export old new ends excused is e part = record {
  excused = excused;
  out = (let P : Result Export Refusal → Type 0 = λ v. Partly old.out.written new.out.written (out_of queries v) in subst P (sym is) part);
  asked = asks_all plan.asks old.store.asked new.store.asked e.asked;
  files = puts_all plan.puts old.store.files new.store.files e.files;
  done = λ _. record { asked = e.asked; files = e.files };
}

answers_reach : (queries : List Text) (plan : Plan Export) (export : Export) (old new : Scene) (answered : Result Bool Unanswered) → plan.value ≡ Ok export → Ends plan (store_of old) (store_of new) → CommandAnswered export queries old new answered → Said (answers_line answered) old new → Reaches (of_plan queries plan) old new (answers_status answered)
answers_reach queries plan export old new (Ok all) is ends a said = inr (answers_reached queries plan export old new all is ends a said)
answers_reach queries plan export old new (Err unanswered.OutFault) is ends a said = inl (answers_excused queries plan export old new status.OutFault tt is ends a.part)
answers_reach queries plan export old new (Err unanswered.NoMemory) is ends a said = inl (answers_excused queries plan export old new status.NoMemory tt is ends a.part)

exported : (command : Command) (export : Export) (old new : Scene) → CommandHears command old new (Ok export) → Exported command export old new
exported command export old new hears = record { heard = hears.heard; told = hears.told; gives = hears.ends }

answers_caused : (command : Command) (export : Export) (old new : Scene) (answered : Result Bool Unanswered) → CommandHears command old new (Ok export) → CommandAnswered export (queries_of command) old new answered → Said (answers_line answered) old new → Caused command old new (answers_status answered)
answers_caused command export old new (Ok true) hears a said = record { export = export; exported = exported command export old new hears; status = ap (λ b. cond b status.Ok status.QueryRefused) a.all; out = a.written; line = said }
answers_caused command export old new (Ok false) hears a said = record { export = export; exported = exported command export old new hears; status = ap (λ b. cond b status.Ok status.QueryRefused) a.all; out = a.written; line = said }
answers_caused command export old new (Err unanswered.OutFault) hears a said = (a.fault refl, said, (export, exported command export old new hears, a.part))
answers_caused command export old new (Err unanswered.NoMemory) hears a said = (said, inr (export, exported command export old new hears, a.part))

told_answers_reach : (command : Command) (export : Export) (files : Option Files) (old new : Scene) (answered : Result Bool Unanswered) → IfSome files (λ told. Does (λ (e : Export). e) (plan_of told command) (store_of old) (store_of new) (Ok export)) → CommandAnswered export (queries_of command) old new answered → Said (answers_line answered) old new
    → IfSome files (λ told. Reaches (outcome told command) old new (answers_status answered))
unfolding outcome
told_answers_reach command export None old new answered does a said = tt
told_answers_reach command export (Some told) old new answered does a said = answers_reach (queries_of command) (plan_of told command) export old new answered does.0 does.1 a said

answer_runs : (command : Command) (export : Export) (old new : Scene) (ends : Status) → DoesTold (λ (e : Export). e) (λ told. plan_of told command) old.store new.store (Ok export) → old.store.faults ≤ new.store.faults
    → CommandHears command old new (Ok export) → EndsAnswered export (queries_of command) old.out new.out old.err new.err ends → Keeps old new → Runs command old new ends
answer_runs command export old new ends does later hears by keeps =
    let P : Status → Type 0 = Runs command old new in
    subst P (sym by.status) (record {
      reaches = told_answers_reach command export old.store.files old new by.answered does by.out by.line;
      caused = answers_caused command export old new by.answered hears by.out by.line;
      store_count = later;
      out_count = by.out.later;
      err_count = by.line.later;
      input = keeps.input;
      steps = keeps.steps;
    })

-- a command by what a package exports, or by what stopped it
pub runs : (command : Command) (old new : Scene) (result : Result Export Stop) (ends : Status) → DoesTold (λ (e : Export). e) (λ told. plan_of told command) old.store new.store result → IfErr result (MayStop command)
    → HasCause old.store new.store result → CommandHears command old new result → EndsBy result (queries_of command) old.out new.out old.err new.err ends → Keeps old new → Runs command old new ends
runs command old new (Ok export) ends does may cause hears by keeps = answer_runs command export old new ends does cause.later hears by keeps
runs command old new (Err s) ends does may cause hears by keeps = stop_runs command old new s ends does may cause hears by keeps

pub always : {X Y : Type 0} (result : Result X Y) → IfErr result (λ _. Unit {0})
always (Ok x) = tt
always (Err y) = tt

-- ---- where no device fails

-- a write failed only where the store's count rose
write_rose : (command : Command) (old new : Scene) → FailsWriting command old new → Rose old.store.faults new.store.faults
write_rose (Build path queries) old new fails = fails.0
write_rose (Dump path queries) old new fails = absurd fails

excused_completes : (command : Command) (want : Outcome) (old new : Scene) (ends : Status) → IsExcused ends → Caused command old new ends → ¬ (Rose old.store.faults new.store.faults) → ¬ (Rose old.out.faults new.out.faults) → (ends ≡ status.NoMemory) ⊎ Reached want old new ends
excused_completes command want old new status.ReadFault excused caused store out = absurd (store caused.0)
excused_completes command want old new status.WriteFault excused caused store out = absurd (store (write_rose command old new caused))
excused_completes command want old new status.OutFault excused caused store out = absurd (out caused.0)
excused_completes command want old new status.NoMemory excused caused store out = inl refl
excused_completes command want old new status.Ok excused caused store out = absurd excused
excused_completes command want old new status.Refused excused caused store out = absurd excused
excused_completes command want old new status.Usage excused caused store out = absurd excused
excused_completes command want old new status.NoFile excused caused store out = absurd excused
excused_completes command want old new status.BadFile excused caused store out = absurd excused
excused_completes command want old new status.Stale excused caused store out = absurd excused
excused_completes command want old new status.QueryRefused excused caused store out = absurd excused
excused_completes command want old new status.InputTooLong excused caused store out = absurd excused

reaches_completes : (command : Command) (want : Outcome) (old new : Scene) (ends : Status) → Reaches want old new ends → Caused command old new ends → ¬ (Rose old.store.faults new.store.faults) → ¬ (Rose old.out.faults new.out.faults) → (ends ≡ status.NoMemory) ⊎ Reached want old new ends
reaches_completes command want old new ends (inl excused) caused store out = excused_completes command want old new ends excused.excused caused store out
reaches_completes command want old new ends (inr reached) caused store out = inr reached

completes_at : (command : Command) (files : Option Files) (old new : Scene) (ends : Status) → IfSome files (λ told. Reaches (outcome told command) old new ends) → Caused command old new ends
    → IfSome files (λ told. ¬ (Rose old.store.faults new.store.faults) → ¬ (Rose old.out.faults new.out.faults) → (ends ≡ status.NoMemory) ⊎ Reached (outcome told command) old new ends)
completes_at command None old new ends reaches caused = tt
completes_at command (Some told) old new ends reaches caused = λ store out. reaches_completes command (outcome told command) old new ends reaches caused store out

pub completes : (command : Command) (old new : Scene) (ends : Status) → Runs command old new ends → Completes command old new ends
completes command old new ends runs = completes_at command old.store.files old new ends runs.reaches runs.caused

-- ---- the command that the words spell

same_command : (found command : Command) (spelled : Option Command) → spelled ≡ Some found → spelled ≡ Some command → found ≡ command
same_command found command spelled a b = cc

pub runs_as : (found command : Command) (spelled : Option Command) (old new : Scene) (ends : Status) → spelled ≡ Some found → Runs found old new ends → spelled ≡ Some command → Runs command old new ends
runs_as found command spelled old new ends is runs also = let P : Command → Type 0 = λ k. Runs k old new ends in subst P (same_command found command spelled is also) runs

pub completes_as : (found command : Command) (spelled : Option Command) (old new : Scene) (ends : Status) → spelled ≡ Some found → Runs found old new ends → spelled ≡ Some command → Completes command old new ends
completes_as found command spelled old new ends is runs also = completes command old new ends (runs_as found command spelled old new ends is runs also)
