use Rattle.std.proofs.Common.{sym, subst, refl, Ok}
use Rattle.std.proofs.lemmas.Result.{err_from_is_err_and}
use Rattle.ui_exports.specs.Export.{Export}
use Rattle.ui_build.specs.Plan.{done}
use Rattle.ui_build.specs.Loading as plans
use Rattle.ui_build.specs.Loading.{load}
use Rattle.ui_build.specs.Dump.{Dumps}
use Rattle.ui_build.specs.Heard.{HearsIn, Loads}
use Rattle.ui_build.specs.Refused.{BadLinked}
use Rattle.ui_build.specs.Views.{loaded_of}
use Rattle.ui_build.specs.Stops.{state}
use Rattle.ui_build.specs.declared.loading.Loaded.{Loaded}
use Rattle.ui_build.proofs.Dumped.{dumps}
use Rattle.ui_build.proofs.Hearing.{heard_same, heard_value}
use Rattle.ui_build.proofs.Steps.{told_stop, told_then, told_done}
use Rattle.ui_build.proofs.dumping.dump.Goals as goal

pub returns-in_err-loaded-clause-does : goal.returns-in_err-loaded-clause-does
returns-in_err-loaded-clause-does g c =
    let p = err_from_is_err_and c.from_residual.result c.from_residual.ensures.1 in
    rw (p.1, p.2)
    (told_stop loaded_of (λ (e : Export). e) (λ told. load told c.args.path.now) (λ told (l : plans.Loaded). done l.0.export) _ _ (state (g.S.Store.told c.load.new.store).files (g.S.Store.told c.load.new.store).asked) c.in_err-loaded.field-0.0 c.in_err-loaded.ensures.does)

pub returns-clause-does : goal.returns-clause-does
returns-clause-does g c =
    let l = c.in_ok-loaded.loaded in
    told_then loaded_of (λ (e : Export). e) (λ told. load told c.args.path.now) (λ told (x : plans.Loaded). done x.0.export) (g.S.Store.told c.args.store.now).files (g.S.Store.told c.load.new.store).files (g.S.Store.told c.args.store.now).asked (g.S.Store.told c.load.new.store).asked
    (state (g.S.Store.told c.load.new.store).files (g.S.Store.told c.load.new.store).asked) l (Ok c.package_of-package.result) c.in_ok-loaded.ensures.files c.in_ok-loaded.ensures.does
    (told_done (λ (e : Export). e) l.linked.export c.package_of-package.result (g.S.Store.told c.load.new.store).files (g.S.Store.told c.load.new.store).asked (sym c.package_of-package.ensures))

pub returns-in_err-loaded-clause-heard : goal.returns-in_err-loaded-clause-heard
returns-in_err-loaded-clause-heard g c =
    let p = err_from_is_err_and c.from_residual.result c.from_residual.ensures.1 in
    rw (p.1, p.2) (heard_same _ (Dumps c.args.path.now) (BadLinked c.args.path.now) c.in_err-loaded.field-0.0 _ _ c.in_err-loaded.ensures.heard)

pub returns-clause-heard : goal.returns-clause-heard
returns-clause-heard g c =
    let P : Export → Type 0 = λ x. HearsIn (Dumps c.args.path.now) (BadLinked c.args.path.now) (g.S.Store.told c.args.store.now).heard (g.S.Store.told c.load.new.store).heard (Ok x) in
    subst P (sym c.package_of-package.ensures)
    (heard_value (λ (l : Loaded). Loads c.args.path.now (loaded_of l)) (Dumps c.args.path.now) (BadLinked c.args.path.now) (BadLinked c.args.path.now) c.in_ok-loaded.loaded c.in_ok-loaded.loaded.linked.export _ _ _ refl (λ x loads. dumps c.args.path.now (loaded_of c.in_ok-loaded.loaded) x loads) c.in_ok-loaded.ensures.heard)
