use Rattle.std.proofs.Common.{string_bytes, Vec, ℕ, option_map}
use Rattle.std.specs.declared.alloc.Global.{Global}
use Rattle.ui_store.specs.Files.{reading}
use Rattle.ui_store.specs.declared.store.AskKind.TheVariants as ask
use Rattle.ui_build.specs.Package.{read_as}
use Rattle.ui_build.proofs.Steps.{told_maybe}
use Rattle.std.proofs.Common.{Option}
use Rattle.ui_build.specs.Heard.{HasRead}
use Rattle.ui_build.specs.Refused.{LacksFile}
use Rattle.ui_build.specs.declared.stop.Stop.TheVariants as stop
use Rattle.ui_build.proofs.Hearing.{heard_none}
use Rattle.ui_build.proofs.files.read_file.Goals as goal

pub returns-in-Err-NoMemory-clause-does : goal.returns-in-Err-NoMemory-clause-does
returns-in-Err-NoMemory-clause-does g c =
    told_maybe (option_map (λ (v : Vec ℕ Global). v.items)) (ask.Read, string_bytes c.args.name) (λ told. read_as (string_bytes c.args.name) (reading told (string_bytes c.args.name) c.args.limit)) _ _ _ _ c.read.ensures.files
    (rw (c.as_str.ensures.value, c.in-Err-NoMemory.field-0-is) at c.in-Err-NoMemory.ensures.asked)

pub returns-in-Err-Failed-clause-heard : goal.returns-in-Err-Failed-clause-heard
returns-in-Err-Failed-clause-heard g c = heard_none (λ (o : Option (Vec ℕ Global)). HasRead (string_bytes c.args.name, option_map (λ v. v.items) o)) (LacksFile (string_bytes c.args.name)) (stop.ReadFault c.args.name) _ _ (rw c.in-Err-Failed.field-0-is at c.in-Err-Failed.ensures.heard) tt

pub returns-in-Err-NoMemory-clause-heard : goal.returns-in-Err-NoMemory-clause-heard
returns-in-Err-NoMemory-clause-heard g c = heard_none (λ (o : Option (Vec ℕ Global)). HasRead (string_bytes c.args.name, option_map (λ v. v.items) o)) (LacksFile (string_bytes c.args.name)) stop.NoMemory _ _ (rw c.in-Err-NoMemory.field-0-is at c.in-Err-NoMemory.ensures.heard) tt
