-- The outcome of each command over the files that a store tells: of a build by the program's sources, of a dump by the
-- linked file.
use Rattle.std.specs.Prelude.{List, [], ◌∷◌, ◌++◌, map, Option, Some, None, Result, Ok, Err, String, string_bytes, codes, bytes_eq, decimal, if◌then◌else◌}
use Rattle.std.specs.declared.alloc.Global.{Global}
use Rattle.hex.specs.Hex.{encode_lower}
use Rattle.ui_base.specs.Paths.{is_path}
use Rattle.ui_store.specs.Files.{Files}
use Rattle.ui_store.specs.Calls.{Ask}
use Rattle.ui_frame.specs.declared.frame.FrameFault.{FrameFault}
use Rattle.ui_frame.specs.declared.frame.FrameFault.TheVariants as frame
use Rattle.ui_base.specs.declared.fault.Fault.{Fault}
use Rattle.ui_base.specs.declared.value.Pos.{Pos}
use Rattle.ui_exports.specs.Export.{Export}
use Rattle.ui_build.specs.Plan.{Text, Refusal, NoFile, Faulty, Form, TooLong, BadFrame, BadElement, TooMany, Cycle, Stale, Put, Plan}
use Rattle.ui_build.specs.Build.{build}
use Rattle.ui_build.specs.Dump.{dump}
use Rattle.ui_top.specs.Answers.{answers, are_answered}
use Rattle.ui_top.specs.Kinds.{kind_text}
use Rattle.ui_top.specs.declared.status.Status.{Status}
use Rattle.ui_top.specs.declared.status.Status.TheVariants as status

-- What a command is to do: how it ends, the bytes on `out`, the line on `err`, the calls on the store, and the files
-- written, each with what it stands for.
pub record Outcome : Type 0 where
  pub ends : Status
  pub out : Text
  pub line : Text
  pub asks : List Ask
  pub puts : List Put

-- a command with its operands
pub data Command : Type 0 where
  -- the path of a package, and queries: it is built, or its linked file is read
  Build : Text → List Text → Command
  Dump : Text → List Text → Command

abbrev pub line : Text → Text → Text
line label name = label ++ name ++ codes "\n"

abbrev pub refused_as : Refusal → Status
refused_as (NoFile name) = status.NoFile
refused_as (Faulty fault) = status.Refused
refused_as (Form pos) = status.Refused
refused_as (TooLong name) = status.BadFile
refused_as (BadFrame name fault) = status.BadFile
refused_as (BadElement name) = status.BadFile
refused_as TooMany = status.Refused
refused_as (Cycle path) = status.Refused
refused_as (Stale path first second) = status.Stale

-- the test of a container that failed, to the line's end; a fingerprint's with both values
abbrev pub frame_end : FrameFault → Text
frame_end frame.Short = codes ": Short\n"
frame_end frame.Version = codes ": Version\n"
frame_end frame.Flags = codes ": Flags\n"
frame_end frame.Counts = codes ": Counts\n"
frame_end frame.Ends = codes ": Ends\n"
frame_end frame.Length = codes ": Length\n"
frame_end (frame.Fingerprint kept computed) = codes ": Fingerprint kept " ++ encode_lower kept ++ codes " computed " ++ encode_lower computed ++ codes "\n"

-- a place, and the name that a fault speaks of, where there is one, to the line's end
abbrev pub place : Pos → Text
place pos = (pos.file ++ codes ":" ++ decimal pos.line) ++ (codes ":" ++ decimal pos.col ++ codes ": ")

abbrev pub name_end : Text → Text
name_end [] = codes "\n"
name_end (x ∷ xs) = codes " " ++ (x ∷ xs) ++ codes "\n"

abbrev pub line_at : Pos → Text → Text → Text
line_at pos word name = place pos ++ word ++ name_end name

abbrev pub fault_line : Fault → Text
fault_line fault = line_at fault.pos (kind_text fault.kind) fault.name

abbrev pub stale_line : Text → Text → Text → Text
stale_line path first second = (codes "stale: " ++ path ++ codes " ") ++ (encode_lower first ++ codes " " ++ encode_lower second) ++ codes "\n"

abbrev pub refusal_line : Refusal → Text
refusal_line (NoFile name) = codes "no file: " ++ name ++ codes "\n"
refusal_line (Faulty fault) = fault_line fault
refusal_line (Form pos) = line_at pos (codes "Form") []
refusal_line (TooLong name) = codes "bad file: " ++ name ++ codes ": TooLong\n"
refusal_line (BadFrame name fault) = codes "bad file: " ++ name ++ frame_end fault
refusal_line (BadElement name) = codes "bad file: " ++ name ++ codes ": Element\n"
refusal_line TooMany = line (codes "too many packages") []
refusal_line (Cycle path) = line (codes "import cycle: ") path
refusal_line (Stale path first second) = stale_line path first second

abbrev pub answers_end : Export → List Text → Status
answers_end export queries = if are_answered export queries then status.Ok else status.QueryRefused

-- the end and the texts, by what a package declares or why there is none
abbrev pub ends_of : List Text → Result Export Refusal → Status
ends_of queries (Ok export) = answers_end export queries
ends_of queries (Err refusal) = refused_as refusal

abbrev pub out_of : List Text → Result Export Refusal → Text
out_of queries (Ok export) = answers export queries
out_of queries (Err refusal) = []

abbrev pub line_of : Result Export Refusal → Text
line_of (Ok export) = []
line_of (Err refusal) = refusal_line refusal

abbrev pub of_plan : List Text → Plan Export → Outcome
of_plan queries plan = record { ends = ends_of queries plan.value; out = out_of queries plan.value; line = line_of plan.value; asks = plan.asks; puts = plan.puts }

-- how a command comes to what a package exports
abbrev pub plan_of : Files → Command → Plan Export
plan_of files (Build path queries) = build files path
plan_of files (Dump path queries) = dump files path

abbrev pub queries_of : Command → List Text
queries_of (Build path queries) = queries
queries_of (Dump path queries) = queries

unfoldable pub outcome : Files → Command → Outcome
outcome files command = of_plan (queries_of command) (plan_of files command)

-- the texts of words
abbrev pub words_of : List (String Global) → List Text
words_of words = map string_bytes words

-- the command of a word that a path and queries follow
abbrev pub command_at : Text → Text → List Text → Option Command
command_at word path queries = if bytes_eq word (codes "build") then Some (Build path queries) else (if bytes_eq word (codes "dump") then Some (Dump path queries) else None)

-- the command that the words spell
unfoldable pub command_of : List Text → Option Command
command_of [] = None
command_of (word ∷ []) = None
command_of (word ∷ path ∷ queries) = if is_path path then command_at word path queries else None

-- the line of words that spell no command
abbrev pub usage : Text
usage = codes "usage: goui build PATH [QUERY]... | compile PATH | link PATH | dump PATH [QUERY]... | ask PATH | frame NAME | gen N\n"
