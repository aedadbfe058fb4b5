use Rattle.std.proofs.Common.{◌≡◌, ◌<◌, ap, sym, subst, refl, List, [], length, arith, Ok, Err}
use Rattle.std.specs.Prelude.{filter}
use Rattle.std.proofs.lemmas.Grind.{common_steps}
use Rattle.std.proofs.lemmas.Result.{err_from_is_err_and}
use Rattle.ui_store.specs.Files.{texts}
use Rattle.ui_build.specs.Plan.{NoFile, Plan, ◌>>=◌}
use Rattle.ui_sources.specs.Sources.{SourceFile}
use Rattle.ui_build.specs.Package.{folder, list_folder, read_sources, some_source, is_source, find}
use Rattle.ui_build.specs.Sources.{sources_of}
use Rattle.ui_build.specs.Stops.{state, DoesSeen}
use Rattle.ui_build.specs.declared.stop.Refusal.TheVariants as told
use Rattle.ui_build.specs.declared.stop.Stop.TheVariants as stop
use Rattle.ui_build.proofs.Reading.{some_source-none, some_source-some}
use Rattle.ui_build.proofs.Steps.{told_none, told_stop, told_then, told_done, told_refused}
use Rattle.std.specs.Prelude.{String, Vec}
use Rattle.std.specs.declared.alloc.Global.{Global}
use Rattle.ui_build.specs.Heard.{HasListed, ReadsSources, FindsSources}
use Rattle.ui_build.specs.Refused.{LacksFolder, LacksSource, LacksSources}
use Rattle.ui_sources.specs.declared.source.SourceFile.{SourceFile as InMemory}
use Rattle.ui_build.proofs.Hearing.{heard_none, heard_then, find_unlisted, find_unread, find_empty, finds}
use Rattle.ui_build.proofs.sources.find.Goals as goal

pub returns-in_err-folder-clause-does : goal.returns-in_err-folder-clause-does
returns-in_err-folder-clause-does g c =
    let p = err_from_is_err_and c.from_residual.result c.from_residual.ensures.1 in
    rw (p.1, p.2) (told_none sources_of (λ told. find told (folder c.args.path.now)) _ _)

pub returns-in_err-asked-clause-does : goal.returns-in_err-asked-clause-does
returns-in_err-asked-clause-does g c =
    let p = err_from_is_err_and c.from_residual-in_err-asked.result c.from_residual-in_err-asked.ensures.1 in
    rw (p.1, p.2) (told_none sources_of (λ told. find told (folder c.args.path.now)) _ _)

pub returns-in_err-names-clause-does : goal.returns-in_err-names-clause-does
returns-in_err-names-clause-does g c =
    let p = err_from_is_err_and c.from_residual-in_err-names.result c.from_residual-in_err-names.ensures.1 in
    let dir = folder c.args.path.now in
    rw (p.1, p.2)
    (told_stop texts sources_of (λ told. list_folder told dir) (λ told names. read_sources told dir [] (filter is_source names) >>= λ sources. some_source dir sources) _ _ _ c.in_err-names.field-0.0
    (rw (c.in_ok-asked.ensures, c.in_ok-folder.ensures) at c.in_err-names.ensures.does))

pub returns-in_err-sources-clause-does : goal.returns-in_err-sources-clause-does
returns-in_err-sources-clause-does g c =
    let p = err_from_is_err_and c.from_residual-in_err-sources.result c.from_residual-in_err-sources.ensures.1 in
    let dir = folder c.args.path.now in
    rw (p.1, p.2)
    (told_then texts sources_of (λ told. list_folder told dir) (λ told names. read_sources told dir [] (filter is_source names) >>= λ sources. some_source dir sources) _ _ _ _ (state (g.S.Store.told c.read_sources.new.store).files (g.S.Store.told c.read_sources.new.store).asked) c.in_ok-names.names (Err c.in_err-sources.field-0.0) c.in_ok-names.ensures.files
    (rw (c.in_ok-asked.ensures, c.in_ok-folder.ensures) at c.in_ok-names.ensures.does)
    (told_stop sources_of sources_of (λ told. read_sources told dir [] (filter is_source (texts c.in_ok-names.names))) (λ told sources. some_source dir sources) _ _ _ c.in_err-sources.field-0.0
    (rw (c.as_str.ensures.value, c.in_ok-folder.ensures, c.deref.ensures.value) at c.in_err-sources.ensures.does)))

pub returns-then-is_empty-clause-does : goal.returns-then-is_empty-clause-does
returns-then-is_empty-clause-does g c =
    let dir = folder c.args.path.now in
    let none : length c.in_ok-sources.sources.items ≡ 0 = grind (arith, common_steps) in
    let P : Plan (List SourceFile) → Type 0 = λ q. DoesSeen sources_of (λ _. q) (state (g.S.Store.told c.read_sources.new.store).files (g.S.Store.told c.read_sources.new.store).asked) (state (g.S.Store.told c.read_sources.new.store).files (g.S.Store.told c.read_sources.new.store).asked) (Err (stop.Refused (told.NoFile c.in_ok-folder.folder))) in
    told_then texts sources_of (λ told. list_folder told dir) (λ told names. read_sources told dir [] (filter is_source names) >>= λ sources. some_source dir sources) _ _ _ _ (state (g.S.Store.told c.read_sources.new.store).files (g.S.Store.told c.read_sources.new.store).asked) c.in_ok-names.names (Err (stop.Refused (told.NoFile c.in_ok-folder.folder))) c.in_ok-names.ensures.files
    (rw (c.in_ok-asked.ensures, c.in_ok-folder.ensures) at c.in_ok-names.ensures.does)
    (told_then sources_of sources_of (λ told. read_sources told dir [] (filter is_source (texts c.in_ok-names.names))) (λ told sources. some_source dir sources) _ _ _ _ (state (g.S.Store.told c.read_sources.new.store).files (g.S.Store.told c.read_sources.new.store).asked) c.in_ok-sources.sources (Err (stop.Refused (told.NoFile c.in_ok-folder.folder))) c.in_ok-sources.ensures.files
    (rw (c.as_str.ensures.value, c.in_ok-folder.ensures, c.deref.ensures.value) at c.in_ok-sources.ensures.does)
    (subst P (sym (some_source-none dir c.in_ok-sources.sources.items none)) (told_refused sources_of (NoFile dir) (told.NoFile c.in_ok-folder.folder) _ _ (ap NoFile (sym c.in_ok-folder.ensures)))))

pub returns-clause-does : goal.returns-clause-does
returns-clause-does g c =
    let dir = folder c.args.path.now in
    let some : 0 < length c.in_ok-sources.sources.items = grind (arith, common_steps) in
    let P : Plan (List SourceFile) → Type 0 = λ q. DoesSeen sources_of (λ _. q) (state (g.S.Store.told c.read_sources.new.store).files (g.S.Store.told c.read_sources.new.store).asked) (state (g.S.Store.told c.read_sources.new.store).files (g.S.Store.told c.read_sources.new.store).asked) (Ok c.in_ok-sources.sources) in
    told_then texts sources_of (λ told. list_folder told dir) (λ told names. read_sources told dir [] (filter is_source names) >>= λ sources. some_source dir sources) _ _ _ _ (state (g.S.Store.told c.read_sources.new.store).files (g.S.Store.told c.read_sources.new.store).asked) c.in_ok-names.names (Ok c.in_ok-sources.sources) c.in_ok-names.ensures.files
    (rw (c.in_ok-asked.ensures, c.in_ok-folder.ensures) at c.in_ok-names.ensures.does)
    (told_then sources_of sources_of (λ told. read_sources told dir [] (filter is_source (texts c.in_ok-names.names))) (λ told sources. some_source dir sources) _ _ _ _ (state (g.S.Store.told c.read_sources.new.store).files (g.S.Store.told c.read_sources.new.store).asked) c.in_ok-sources.sources (Ok c.in_ok-sources.sources) c.in_ok-sources.ensures.files
    (rw (c.as_str.ensures.value, c.in_ok-folder.ensures, c.deref.ensures.value) at c.in_ok-sources.ensures.does)
    (subst P (sym (some_source-some dir c.in_ok-sources.sources.items some)) (told_done sources_of (sources_of c.in_ok-sources.sources) c.in_ok-sources.sources _ _ refl)))

pub returns-in_err-folder-clause-heard : goal.returns-in_err-folder-clause-heard
returns-in_err-folder-clause-heard g c =
    let p = err_from_is_err_and c.from_residual.result c.from_residual.ensures.1 in
    rw (p.1, p.2) (heard_none (λ (v : Vec InMemory Global). FindsSources (folder c.args.path.now) (sources_of v)) (LacksSources (folder c.args.path.now)) stop.NoMemory _ _ refl tt)

pub returns-in_err-asked-clause-heard : goal.returns-in_err-asked-clause-heard
returns-in_err-asked-clause-heard g c =
    let p = err_from_is_err_and c.from_residual-in_err-asked.result c.from_residual-in_err-asked.ensures.1 in
    rw (p.1, p.2) (heard_none (λ (v : Vec InMemory Global). FindsSources (folder c.args.path.now) (sources_of v)) (LacksSources (folder c.args.path.now)) stop.NoMemory _ _ refl tt)

pub returns-in_err-names-clause-heard : goal.returns-in_err-names-clause-heard
returns-in_err-names-clause-heard g c =
    let p = err_from_is_err_and c.from_residual-in_err-names.result c.from_residual-in_err-names.ensures.1 in
    rw (p.1, p.2) (find_unlisted _ (λ (v : Vec InMemory Global). FindsSources (folder c.args.path.now) (sources_of v)) (folder c.args.path.now) c.in_err-names.field-0.0 _ _ (rw (c.in_ok-asked.ensures, c.in_ok-folder.ensures) at c.in_err-names.ensures.heard))

pub returns-in_err-sources-clause-heard : goal.returns-in_err-sources-clause-heard
returns-in_err-sources-clause-heard g c =
    let p = err_from_is_err_and c.from_residual-in_err-sources.result c.from_residual-in_err-sources.ensures.1 in
    rw (p.1, p.2)
    (find_unread (λ (v : Vec InMemory Global). ReadsSources (folder c.args.path.now) (filter is_source (texts c.in_ok-names.names)) (sources_of v)) (λ (v : Vec InMemory Global). FindsSources (folder c.args.path.now) (sources_of v)) (folder c.args.path.now) c.in_ok-names.names c.in_err-sources.field-0.0 _ _ _
    (rw (c.in_ok-asked.ensures, c.in_ok-folder.ensures) at c.in_ok-names.ensures.heard) (rw (c.as_str.ensures.value, c.in_ok-folder.ensures, c.deref.ensures.value) at c.in_err-sources.ensures.heard))

pub returns-then-is_empty-clause-heard : goal.returns-then-is_empty-clause-heard
returns-then-is_empty-clause-heard g c =
    let none : length c.in_ok-sources.sources.items ≡ 0 = grind (arith, common_steps) in
    find_empty (λ (v : Vec InMemory Global). FindsSources (folder c.args.path.now) (sources_of v)) (folder c.args.path.now) c.in_ok-folder.folder c.in_ok-names.names c.in_ok-sources.sources _ _ _ c.in_ok-folder.ensures none
    (rw (c.in_ok-asked.ensures, c.in_ok-folder.ensures) at c.in_ok-names.ensures.heard) (rw (c.as_str.ensures.value, c.in_ok-folder.ensures, c.deref.ensures.value) at c.in_ok-sources.ensures.heard)

pub returns-clause-heard : goal.returns-clause-heard
returns-clause-heard g c =
    heard_then (λ (v : Vec (String Global) Global). HasListed (folder c.args.path.now) (texts v)) (λ (v : Vec InMemory Global). ReadsSources (folder c.args.path.now) (filter is_source (texts c.in_ok-names.names)) (sources_of v)) (λ (v : Vec InMemory Global). FindsSources (folder c.args.path.now) (sources_of v)) (LacksFolder (folder c.args.path.now)) (LacksSource (folder c.args.path.now) (filter is_source (texts c.in_ok-names.names))) (LacksSources (folder c.args.path.now)) c.in_ok-names.names c.in_ok-sources.sources c.in_ok-sources.sources _ _ _ (λ x y l r. finds (folder c.args.path.now) (texts c.in_ok-names.names) (sources_of c.in_ok-sources.sources) x y l r)
    (rw (c.in_ok-asked.ensures, c.in_ok-folder.ensures) at c.in_ok-names.ensures.heard) (rw (c.as_str.ensures.value, c.in_ok-folder.ensures, c.deref.ensures.value) at c.in_ok-sources.ensures.heard)
