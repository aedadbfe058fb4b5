use Rattle.std.proofs.Common.{string_bytes}
use Rattle.ui_store.specs.Files.{listing, texts}
use Rattle.ui_store.specs.declared.store.AskKind.TheVariants as ask
use Rattle.ui_build.specs.Package.{listed_as}
use Rattle.ui_build.proofs.Steps.{told_maybe}
use Rattle.std.specs.Prelude.{String, Vec}
use Rattle.std.specs.declared.alloc.Global.{Global}
use Rattle.ui_build.specs.Heard.{HasListed}
use Rattle.ui_build.specs.Refused.{LacksFolder}
use Rattle.ui_build.specs.declared.stop.Stop.TheVariants as stop
use Rattle.ui_build.proofs.Hearing.{heard_none}
use Rattle.ui_build.proofs.files.list_folder.Goals as goal

pub returns-in-Err-NoMemory-clause-does : goal.returns-in-Err-NoMemory-clause-does
returns-in-Err-NoMemory-clause-does g c =
    told_maybe texts (ask.List, string_bytes c.args.folder) (λ told. listed_as (string_bytes c.args.folder) (listing told (string_bytes c.args.folder))) _ _ _ _ c.list.ensures.files
    (rw (c.as_str.ensures.value, c.in-Err-NoMemory.field-0-is) at c.in-Err-NoMemory.ensures.asked)

pub returns-in-Err-Failed-clause-heard : goal.returns-in-Err-Failed-clause-heard
returns-in-Err-Failed-clause-heard g c = heard_none (λ (v : Vec (String Global) Global). HasListed (string_bytes c.args.folder) (texts v)) (LacksFolder (string_bytes c.args.folder)) (stop.ReadFault c.args.folder) _ _ (rw c.in-Err-Failed.field-0-is at c.in-Err-Failed.ensures.heard) tt

pub returns-in-Err-NoMemory-clause-heard : goal.returns-in-Err-NoMemory-clause-heard
returns-in-Err-NoMemory-clause-heard g c = heard_none (λ (v : Vec (String Global) Global). HasListed (string_bytes c.args.folder) (texts v)) (LacksFolder (string_bytes c.args.folder)) stop.NoMemory _ _ (rw c.in-Err-NoMemory.field-0-is at c.in-Err-NoMemory.ensures.heard) tt
