use Rattle.std.proofs.Common.{◌≡◌, refl, ℕ, Vec, Option, option_map, Ok, Err}
use Rattle.std.specs.declared.alloc.Global.{Global}
use Rattle.std.proofs.lemmas.Result.{err_from_is_err_and}
use Rattle.ui_build.specs.Package.{linked_file, file_limit, read_file}
use Rattle.ui_build.specs.Plan.{settled}
use Rattle.ui_build.specs.Loading.{recorded, load}
use Rattle.ui_build.specs.Views.{loaded_of}
use Rattle.ui_build.specs.Heard.{HasRead, Loads}
use Rattle.ui_build.specs.Refused.{LacksFile, BadLinked}
use Rattle.ui_build.specs.Stops.{state, SettlesStop}
use Rattle.ui_build.specs.declared.loading.Loaded.{Loaded}
use Rattle.ui_build.specs.declared.stop.Stop.TheVariants as stop
use Rattle.ui_build.proofs.Hearing.{heard_none, heard_value, linked_unread, linked_bad, loads}
use Rattle.ui_build.proofs.Dumped.{record_stop}
use Rattle.ui_build.proofs.Steps.{told_none, told_stop, told_settled}
use Rattle.ui_build.proofs.loading.load.Goals as goal

pub returns-in_err-linked-clause-does : goal.returns-in_err-linked-clause-does
returns-in_err-linked-clause-does g c =
    let p = err_from_is_err_and c.from_residual.result c.from_residual.ensures.1 in
    rw (p.1, p.2) (told_none loaded_of (λ told. load told c.args.path.now) _ _)

pub returns-in_err-asked-clause-does : goal.returns-in_err-asked-clause-does
returns-in_err-asked-clause-does g c =
    let p = err_from_is_err_and c.from_residual-in_err-asked.result c.from_residual-in_err-asked.ensures.1 in
    rw (p.1, p.2) (told_none loaded_of (λ told. load told c.args.path.now) _ _)

pub returns-in_err-bytes-clause-does : goal.returns-in_err-bytes-clause-does
returns-in_err-bytes-clause-does g c =
    let p = err_from_is_err_and c.from_residual-in_err-bytes.result c.from_residual-in_err-bytes.ensures.1 in
    let name = linked_file c.args.path.now in
    rw (p.1, p.2)
    (told_stop (option_map (λ (v : Vec ℕ Global). v.items)) loaded_of (λ told. read_file told name file_limit) (λ told bytes. settled (recorded name c.args.path.now bytes)) _ _ (state (g.S.Store.told c.read_file.new.store).files (g.S.Store.told c.read_file.new.store).asked) c.in_err-bytes.field-0.0 (rw (c.in_ok-asked.ensures, c.in_ok-linked.ensures) at c.in_err-bytes.ensures.does))

pub returns-in_err-loaded-clause-does : goal.returns-in_err-loaded-clause-does
returns-in_err-loaded-clause-does g c =
    let p = err_from_is_err_and c.from_residual-in_err-loaded.result c.from_residual-in_err-loaded.ensures.1 in
    let name = linked_file c.args.path.now in
    rw (p.1, p.2)
    (told_settled (option_map (λ (v : Vec ℕ Global). v.items)) loaded_of (λ told. read_file told name file_limit) (λ bytes. recorded name c.args.path.now bytes) (g.S.Store.told c.args.store.now).files (g.S.Store.told c.read_file.new.store).files (g.S.Store.told c.args.store.now).asked (g.S.Store.told c.read_file.new.store).asked c.in_ok-bytes.bytes (Err c.in_err-loaded.field-0.0) c.in_ok-bytes.ensures.files
    (rw (c.in_ok-asked.ensures, c.in_ok-linked.ensures) at c.in_ok-bytes.ensures.does) (rw c.in_ok-linked.ensures at c.in_err-loaded.ensures.settled))

pub returns-clause-does : goal.returns-clause-does
returns-clause-does g c =
    let name = linked_file c.args.path.now in
    told_settled (option_map (λ (v : Vec ℕ Global). v.items)) loaded_of (λ told. read_file told name file_limit) (λ bytes. recorded name c.args.path.now bytes) (g.S.Store.told c.args.store.now).files (g.S.Store.told c.read_file.new.store).files (g.S.Store.told c.args.store.now).asked (g.S.Store.told c.read_file.new.store).asked c.in_ok-bytes.bytes (Ok c.in_ok-loaded.loaded) c.in_ok-bytes.ensures.files
    (rw (c.in_ok-asked.ensures, c.in_ok-linked.ensures) at c.in_ok-bytes.ensures.does) (rw c.in_ok-linked.ensures at c.in_ok-loaded.ensures.settled)

pub returns-in_err-linked-clause-heard : goal.returns-in_err-linked-clause-heard
returns-in_err-linked-clause-heard g c =
    let p = err_from_is_err_and c.from_residual.result c.from_residual.ensures.1 in
    rw (p.1, p.2) (heard_none (λ (l : Loaded). Loads c.args.path.now (loaded_of l)) (BadLinked c.args.path.now) stop.NoMemory _ _ refl tt)

pub returns-in_err-asked-clause-heard : goal.returns-in_err-asked-clause-heard
returns-in_err-asked-clause-heard g c =
    let p = err_from_is_err_and c.from_residual-in_err-asked.result c.from_residual-in_err-asked.ensures.1 in
    rw (p.1, p.2) (heard_none (λ (l : Loaded). Loads c.args.path.now (loaded_of l)) (BadLinked c.args.path.now) stop.NoMemory _ _ refl tt)

pub returns-in_err-bytes-clause-heard : goal.returns-in_err-bytes-clause-heard
returns-in_err-bytes-clause-heard g c =
    let p = err_from_is_err_and c.from_residual-in_err-bytes.result c.from_residual-in_err-bytes.ensures.1 in
    rw (p.1, p.2) (linked_unread _ (λ (l : Loaded). Loads c.args.path.now (loaded_of l)) c.args.path.now c.in_err-bytes.field-0.0 _ _ (rw (c.in_ok-asked.ensures, c.in_ok-linked.ensures) at c.in_err-bytes.ensures.heard))

pub returns-in_err-loaded-clause-heard : goal.returns-in_err-loaded-clause-heard
returns-in_err-loaded-clause-heard g c =
    let p = err_from_is_err_and c.from_residual-in_err-loaded.result c.from_residual-in_err-loaded.ensures.1 in
    let settled : SettlesStop (recorded (linked_file c.args.path.now) c.args.path.now (option_map (λ (v : Vec ℕ Global). v.items) c.in_ok-bytes.bytes)) c.in_err-loaded.field-0.0 = rw c.in_ok-linked.ensures at c.in_err-loaded.ensures.settled in
    rw (p.1, p.2)
    (linked_bad (λ (l : Loaded). Loads c.args.path.now (loaded_of l)) c.args.path.now c.in_ok-bytes.bytes c.in_err-loaded.field-0.0 _ _ (rw (c.in_ok-asked.ensures, c.in_ok-linked.ensures) at c.in_ok-bytes.ensures.heard) settled)

pub returns-clause-heard : goal.returns-clause-heard
returns-clause-heard g c =
    let stands : recorded (linked_file c.args.path.now) c.args.path.now (option_map (λ (v : Vec ℕ Global). v.items) c.in_ok-bytes.bytes) ≡ Ok (loaded_of c.in_ok-loaded.loaded) = rw c.in_ok-linked.ensures at c.in_ok-loaded.ensures.settled in
    heard_value (λ (o : Option (Vec ℕ Global)). HasRead (linked_file c.args.path.now, option_map (λ v. v.items) o)) (λ (l : Loaded). Loads c.args.path.now (loaded_of l)) (LacksFile (linked_file c.args.path.now)) (BadLinked c.args.path.now) c.in_ok-bytes.bytes c.in_ok-loaded.loaded _ _ _ refl (λ x r. loads c.args.path.now (option_map (λ (v : Vec ℕ Global). v.items) c.in_ok-bytes.bytes) (loaded_of c.in_ok-loaded.loaded) x stands r) (rw (c.in_ok-asked.ensures, c.in_ok-linked.ensures) at c.in_ok-bytes.ensures.heard)

pub returns-in_err-loaded-clause-stop : goal.returns-in_err-loaded-clause-stop
returns-in_err-loaded-clause-stop g c =
    let p = err_from_is_err_and c.from_residual-in_err-loaded.result c.from_residual-in_err-loaded.ensures.1 in
    rw (p.1, p.2) (record_stop (linked_file c.args.path.now) c.args.path.now (option_map (λ (v : Vec ℕ Global). v.items) c.in_ok-bytes.bytes) c.in_err-loaded.field-0.0 (rw c.in_ok-linked.ensures at c.in_err-loaded.ensures.settled))
