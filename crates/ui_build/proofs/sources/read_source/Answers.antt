use Rattle.std.proofs.Common.{ap, sym, Vec, ℕ, option_map, Option, Ok}
use Rattle.std.specs.declared.alloc.Global.{Global}
use Rattle.std.proofs.lemmas.Result.{err_from_is_err_and}
use Rattle.ui_build.specs.Plan.{done}
use Rattle.ui_build.specs.Package.{file_in, read_file, read_source}
use Rattle.ui_sources.specs.Sources.{source_limit, source_of}
use Rattle.ui_build.specs.Stops.{state}
use Rattle.ui_build.proofs.Steps.{told_none, told_stop, told_then, told_done}
use Rattle.std.proofs.Common.{refl, string_bytes}
use Rattle.ui_build.specs.Heard.{HasRead}
use Rattle.ui_build.specs.Refused.{LacksFile}
use Rattle.ui_sources.specs.declared.source.SourceFile.{SourceFile as InMemory}
use Rattle.ui_build.specs.declared.stop.Stop.TheVariants as stop
use Rattle.ui_build.proofs.Hearing.{heard_none, heard_same, heard_value}
use Rattle.ui_build.proofs.sources.read_source.Goals as goal

pub returns-in_err-name-clause-does : goal.returns-in_err-name-clause-does
returns-in_err-name-clause-does g c =
    let p = err_from_is_err_and c.from_residual.result c.from_residual.ensures.1 in
    rw (p.1, p.2)
    (told_none source_of (λ told. read_source told (file_in c.args.folder.now c.args.part.now)) _ _)

pub returns-in_err-asked-clause-does : goal.returns-in_err-asked-clause-does
returns-in_err-asked-clause-does g c =
    let p = err_from_is_err_and c.from_residual-in_err-asked.result c.from_residual-in_err-asked.ensures.1 in
    rw (p.1, p.2)
    (told_none source_of (λ told. read_source told (file_in c.args.folder.now c.args.part.now)) _ _)

pub returns-in_err-bytes-clause-does : goal.returns-in_err-bytes-clause-does
returns-in_err-bytes-clause-does g c =
    let p = err_from_is_err_and c.from_residual-in_err-bytes.result c.from_residual-in_err-bytes.ensures.1 in
    let name = file_in c.args.folder.now c.args.part.now in
    rw (p.1, p.2)
    (told_stop (option_map (λ (v : Vec ℕ Global). v.items)) source_of (λ told. read_file told name source_limit) (λ told bytes. done (name, bytes)) _ _ _ c.in_err-bytes.field-0.0
    (rw (c.in_ok-asked.ensures, c.in_ok-name.ensures) at c.in_err-bytes.ensures.does))

pub returns-clause-does : goal.returns-clause-does
returns-clause-does g c =
    let name = file_in c.args.folder.now c.args.part.now in
    told_then (option_map (λ (v : Vec ℕ Global). v.items)) source_of (λ told. read_file told name source_limit) (λ told bytes. done (name, bytes)) _ _ _ _ (state (g.S.Store.told c.read_file.new.store).files (g.S.Store.told c.read_file.new.store).asked) c.in_ok-bytes.bytes (Ok (record { name = c.in_ok-name.name; bytes = c.in_ok-bytes.bytes })) c.in_ok-bytes.ensures.files
    (rw (c.in_ok-asked.ensures, c.in_ok-name.ensures) at c.in_ok-bytes.ensures.does)
    (told_done source_of (name, option_map (λ (v : Vec ℕ Global). v.items) c.in_ok-bytes.bytes) (record { name = c.in_ok-name.name; bytes = c.in_ok-bytes.bytes }) _ _ (ap (λ n. (n, option_map (λ (v : Vec ℕ Global). v.items) c.in_ok-bytes.bytes)) (sym c.in_ok-name.ensures)))

pub returns-in_err-name-clause-heard : goal.returns-in_err-name-clause-heard
returns-in_err-name-clause-heard g c =
    let p = err_from_is_err_and c.from_residual.result c.from_residual.ensures.1 in
    rw (p.1, p.2) (heard_none (λ (s : InMemory). HasRead (source_of s)) (LacksFile (file_in c.args.folder.now c.args.part.now)) stop.NoMemory _ _ refl tt)

pub returns-in_err-asked-clause-heard : goal.returns-in_err-asked-clause-heard
returns-in_err-asked-clause-heard g c =
    let p = err_from_is_err_and c.from_residual-in_err-asked.result c.from_residual-in_err-asked.ensures.1 in
    rw (p.1, p.2) (heard_none (λ (s : InMemory). HasRead (source_of s)) (LacksFile (file_in c.args.folder.now c.args.part.now)) stop.NoMemory _ _ refl tt)

pub returns-in_err-bytes-clause-heard : goal.returns-in_err-bytes-clause-heard
returns-in_err-bytes-clause-heard g c =
    let p = err_from_is_err_and c.from_residual-in_err-bytes.result c.from_residual-in_err-bytes.ensures.1 in
    rw (p.1, p.2) (heard_same _ (λ (s : InMemory). HasRead (source_of s)) (LacksFile (file_in c.args.folder.now c.args.part.now)) c.in_err-bytes.field-0.0 _ _ (rw (c.in_ok-asked.ensures, c.in_ok-name.ensures) at c.in_err-bytes.ensures.heard))

pub returns-clause-heard : goal.returns-clause-heard
returns-clause-heard g c =
    heard_value (λ (o : Option (Vec ℕ Global)). HasRead (string_bytes c.in_ok-name.name, option_map (λ v. v.items) o)) (λ (s : InMemory). HasRead (source_of s)) (LacksFile (string_bytes c.in_ok-name.name)) (LacksFile (file_in c.args.folder.now c.args.part.now)) c.in_ok-bytes.bytes _ _ _ _ refl (λ x h. h) (rw c.in_ok-asked.ensures at c.in_ok-bytes.ensures.heard)
