-- What a linked file alone gives, and what may stop the reading of it.
use Rattle.std.proofs.Common.{refl, List, Option}
use Rattle.ui_store.specs.Calls.{Hearing}
use Rattle.ui_build.specs.Plan.{Text, Refusal, NoFile, Form, Faulty, TooLong, BadFrame, BadElement, TooMany, Cycle, Stale}
use Rattle.ui_build.specs.Loading.{Loaded, recorded}
use Rattle.ui_build.specs.Heard.{Loads}
use Rattle.ui_build.specs.Dump.{Dumps, IsOfFile, IsReadStop}
use Rattle.ui_build.specs.Stops.{SettlesStop, refusal_of}
use Rattle.ui_build.specs.declared.stop.Stop.{Stop}
use Rattle.ui_build.specs.declared.stop.Stop.TheVariants as stop
use Rattle.ui_build.proofs.Hearing.{IsLinked, recorded_refused}

of_file : (r : Refusal) → IsLinked r → IsOfFile r
of_file (NoFile name) h = tt
of_file (Form pos) h = absurd h
of_file (Faulty fault) h = absurd h
of_file (TooLong name) h = tt
of_file (BadFrame name fault) h = tt
of_file (BadElement name) h = tt
of_file TooMany h = absurd h
of_file (Cycle path) h = absurd h
of_file (Stale path first second) h = absurd h

-- what a file's bytes stop
pub record_stop : (name path : Text) (bytes : Option Text) (s : Stop) → SettlesStop (recorded name path bytes) s → IsReadStop s
record_stop name path bytes (stop.Refused r) is = of_file (refusal_of r) (recorded_refused name path bytes (refusal_of r) is)
record_stop name path bytes (stop.ReadFault asked) is = tt
record_stop name path bytes (stop.WriteFault asked) is = absurd is
record_stop name path bytes stop.NoMemory is = tt

pub dumps : (path : Text) (root : Loaded) (heard : List Hearing) → Loads path root heard → Dumps path root.0.export heard
dumps path root heard loads = record { root = root; loads = loads; stands = refl }
