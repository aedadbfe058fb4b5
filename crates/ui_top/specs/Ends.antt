-- How a command ends, and what it says, that was stopped or has answered.
use Rattle.std.specs.Prelude.{◌≡◌, ◌≤◌, Bool, true, false, List, [], Result, Ok, Err, IfOk, OnErr, IsErrOf, codes, string_bytes}
use Rattle.ui_store.specs.Causes.{Rose}
use Rattle.ui_store.specs.Told.{more}
use Rattle.ui_store.specs.Sinks.{Partly}
use Rattle.ui_store.specs.Views.{SinkView}
use Rattle.ui_exports.specs.Export.{Export}
use Rattle.ui_build.specs.Plan.{Text}
use Rattle.ui_top.specs.Answers.{answers, are_answered}
use Rattle.ui_top.specs.Outcome.{line, refused_as, refusal_line}
use Rattle.ui_top.specs.Scene.{Says}
use Rattle.ui_build.specs.Stops.{refusal_of}
use Rattle.ui_top.specs.declared.answers.Unanswered.{Unanswered}
use Rattle.ui_top.specs.declared.answers.Unanswered.TheVariants as unanswered
use Rattle.ui_top.specs.declared.status.Status.{Status}
use Rattle.ui_top.specs.declared.status.Status.TheVariants as status
use Rattle.ui_build.specs.declared.stop.Stop.{Stop}
use Rattle.ui_build.specs.declared.stop.Stop.TheVariants as stop

abbrev pub status_of : Stop → Status
status_of (stop.Refused refusal) = refused_as (refusal_of refusal)
status_of (stop.ReadFault name) = status.ReadFault
status_of (stop.WriteFault name) = status.WriteFault
status_of stop.NoMemory = status.NoMemory

abbrev pub stop_line : Stop → Text
stop_line (stop.Refused refusal) = refusal_line (refusal_of refusal)
stop_line (stop.ReadFault name) = line (codes "read fault: ") (string_bytes name)
stop_line (stop.WriteFault name) = line (codes "write fault: ") (string_bytes name)
stop_line stop.NoMemory = line (codes "no memory") []

abbrev pub answers_status : Result Bool Unanswered → Status
answers_status (Ok true) = status.Ok
answers_status (Ok false) = status.QueryRefused
answers_status (Err unanswered.OutFault) = status.OutFault
answers_status (Err unanswered.NoMemory) = status.NoMemory

abbrev pub answers_line : Result Bool Unanswered → Text
answers_line (Ok all) = []
answers_line (Err unanswered.OutFault) = line (codes "output fault") []
answers_line (Err unanswered.NoMemory) = line (codes "no memory") []

-- What answering leaves on `out`, as far as it came.
pub record Answered (export : Export) (queries : List Text) (old new : SinkView) (answered : Result Bool Unanswered) : Type 0 where
  pub all : IfOk answered (λ all. all ≡ are_answered export queries)
  pub written : IfOk answered (λ _. new.written ≡ more old.written (answers export queries))
  pub part : OnErr answered (Partly old.written new.written (answers export queries))
  pub later : old.faults ≤ new.faults
  pub fault : IsErrOf answered unanswered.OutFault → Rose old.faults new.faults

-- The queries were answered by what a package exports, and `err` says how that ended.
pub record EndsAnswered (export : Export) (queries : List Text) (out_old out_new err_old err_new : SinkView) (ends : Status) : Type 0 where
  pub answered : Result Bool Unanswered
  pub out : Answered export queries out_old out_new answered
  pub line : Says (answers_line answered) err_old err_new
  pub status : ends ≡ answers_status answered

-- The command was stopped: `err` says why, and `out` stays.
pub record EndsStopped (why : Stop) (out_old out_new err_old err_new : SinkView) (ends : Status) : Type 0 where
  pub out : out_new ≡ out_old
  pub line : Says (stop_line why) err_old err_new
  pub status : ends ≡ status_of why

-- How a command ends by what a package exports, or by what stopped it.
abbrev pub EndsBy : Result Export Stop → List Text → SinkView → SinkView → SinkView → SinkView → Status → Type 0
EndsBy (Ok export) queries out_old out_new err_old err_new ends = EndsAnswered export queries out_old out_new err_old err_new ends
EndsBy (Err s) queries out_old out_new err_old err_new ends = EndsStopped s out_old out_new err_old err_new ends
