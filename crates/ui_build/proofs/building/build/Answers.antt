use Rattle.std.proofs.Common.{sym, subst, Ok}
use Rattle.std.proofs.lemmas.Result.{err_from_is_err_and}
use Rattle.std.specs.FinMap.{empty, get}
use Rattle.ui_store.specs.declared.store.AskKind.TheVariants as ask
use Rattle.ui_exports.specs.Export.{Export}
use Rattle.ui_order.specs.Tables.{texts}
use Rattle.ui_build.specs.Plan.{asking, ◌>>=◌}
use Rattle.ui_build.specs.Package.{linked_file}
use Rattle.ui_build.specs.Build.{build, build_order, compile_all, export_or}
use Rattle.ui_build.specs.Heard.{Builds, HearsIn}
use Rattle.ui_build.specs.Refused.{BadLinked, BuildRefused}
use Rattle.ui_build.specs.Views.{loaded_of}
use Rattle.ui_build.specs.Stops.{state, DoesSeen}
use Rattle.ui_build.proofs.Hearing.{heard_build, build_unordered, build_uncompiled, build_unread}
use Rattle.ui_build.proofs.Steps.{told_stop}
use Rattle.ui_build.proofs.Linking.{Containers}
use Rattle.ui_build.proofs.Discovered.{Orders}
use Rattle.ui_build.proofs.Built.{build_compile_stop, build_load_stop, build_ok}
use Rattle.ui_build.proofs.building.build.Goals as goal

pub returns-in_err-order-clause-does : goal.returns-in_err-order-clause-does
returns-in_err-order-clause-does g c =
    let p = err_from_is_err_and c.from_residual.result c.from_residual.ensures.1 in
    let path = c.args.path.now in
    rw (p.1, p.2)
    (told_stop texts (λ (e : Export). e) (λ told. build_order told path) (λ told order. compile_all told empty order >>= λ packages. asking (ask.Read, linked_file path) (export_or path (get packages path))) _ _ (state (g.S.Store.told c.build_order.new.store).files (g.S.Store.told c.build_order.new.store).asked) c.in_err-order.field-0.0 c.in_err-order.ensures.does)

pub returns-in_err-compile_all-clause-does : goal.returns-in_err-compile_all-clause-does
returns-in_err-compile_all-clause-does g c =
    let p = err_from_is_err_and c.from_residual-in_err-compile_all.result c.from_residual-in_err-compile_all.ensures.1 in
    let laws : Orders = record { begins = c.discovery_keeps.ensures.begins; keeps = c.discovery_keeps.ensures.keeps; closes = c.discovery_keeps.ensures.closes; imports_first = c.order_is_whole.ensures.imports_first; all = c.order_is_whole.ensures.all; acyclic = c.order_is_whole.ensures.acyclic } in
    rw (p.1, p.2)
    (build_compile_stop laws c.args.path.now c.in_ok-order.order _ _ _ (g.S.Store.told c.build_order.new.store).asked (state (g.S.Store.told c.compile_all.new.store).files (g.S.Store.told c.compile_all.new.store).asked) c.in_err-compile_all.field-0.0 c.in_ok-order.ensures.files c.in_ok-order.ensures.does (rw c.deref.ensures.value at c.in_err-compile_all.ensures.does))

pub returns-in_err-loaded-clause-does : goal.returns-in_err-loaded-clause-does
returns-in_err-loaded-clause-does g c =
    let p = err_from_is_err_and c.from_residual-in_err-loaded.result c.from_residual-in_err-loaded.ensures.1 in
    let laws : Orders = record { begins = c.discovery_keeps.ensures.begins; keeps = c.discovery_keeps.ensures.keeps; closes = c.discovery_keeps.ensures.closes; imports_first = c.order_is_whole.ensures.imports_first; all = c.order_is_whole.ensures.all; acyclic = c.order_is_whole.ensures.acyclic } in
    let containers : Containers = record { passes = c.one_container.ensures.passes; found = c.one_container.ensures.found; one = c.one_container.ensures.one } in
    rw (p.1, p.2)
    (build_load_stop laws containers c.reads_back.ensures c.args.path.now c.in_ok-order.order _ _ _ (g.S.Store.told c.build_order.new.store).asked (state (g.S.Store.told c.compile_all.new.store).files (g.S.Store.told c.compile_all.new.store).asked) (state (g.S.Store.told c.load.new.store).files (g.S.Store.told c.load.new.store).asked) c.in_err-loaded.field-0.0 c.in_ok-order.ensures.files c.in_ok-order.ensures.does (rw c.deref.ensures.value at c.in_ok-compile_all.ensures.does) c.in_err-loaded.ensures.does)

pub returns-clause-does : goal.returns-clause-does
returns-clause-does g c =
    let laws : Orders = record { begins = c.discovery_keeps.ensures.begins; keeps = c.discovery_keeps.ensures.keeps; closes = c.discovery_keeps.ensures.closes; imports_first = c.order_is_whole.ensures.imports_first; all = c.order_is_whole.ensures.all; acyclic = c.order_is_whole.ensures.acyclic } in
    let containers : Containers = record { passes = c.one_container.ensures.passes; found = c.one_container.ensures.found; one = c.one_container.ensures.one } in
    let path = c.args.path.now in
    let P : Export → Type 0 = λ x. DoesSeen (λ (e : Export). e) (λ told. build told path) (state (g.S.Store.told c.args.store.now).files (g.S.Store.told c.args.store.now).asked) (state (g.S.Store.told c.load.new.store).files (g.S.Store.told c.load.new.store).asked) (Ok x) in
    subst P (sym c.package_of-package.ensures)
    (build_ok laws containers c.reads_back.ensures c.args.path.now c.in_ok-order.order c.in_ok-loaded.loaded _ _ _ (g.S.Store.told c.build_order.new.store).asked (state (g.S.Store.told c.compile_all.new.store).files (g.S.Store.told c.compile_all.new.store).asked) (state (g.S.Store.told c.load.new.store).files (g.S.Store.told c.load.new.store).asked) c.in_ok-order.ensures.files c.in_ok-order.ensures.does (rw c.deref.ensures.value at c.in_ok-compile_all.ensures.does) c.in_ok-loaded.ensures.does)

pub returns-in_err-order-clause-heard : goal.returns-in_err-order-clause-heard
returns-in_err-order-clause-heard g c =
    let p = err_from_is_err_and c.from_residual.result c.from_residual.ensures.1 in
    rw (p.1, p.2) (build_unordered _ (Builds c.args.path.now) c.args.path.now c.in_err-order.field-0.0 _ _ c.in_err-order.ensures.heard)

pub returns-in_err-compile_all-clause-heard : goal.returns-in_err-compile_all-clause-heard
returns-in_err-compile_all-clause-heard g c =
    let p = err_from_is_err_and c.from_residual-in_err-compile_all.result c.from_residual-in_err-compile_all.ensures.1 in
    rw (p.1, p.2) (build_uncompiled texts _ (Builds c.args.path.now) c.args.path.now c.in_ok-order.order c.in_err-compile_all.field-0.0 _ _ _ c.in_ok-order.ensures.heard (rw c.deref.ensures.value at c.in_err-compile_all.ensures.heard))

pub returns-in_err-loaded-clause-heard : goal.returns-in_err-loaded-clause-heard
returns-in_err-loaded-clause-heard g c =
    let p = err_from_is_err_and c.from_residual-in_err-loaded.result c.from_residual-in_err-loaded.ensures.1 in
    rw (p.1, p.2) (build_unread texts _ (Builds c.args.path.now) c.args.path.now c.in_ok-order.order c.in_err-loaded.field-0.0 _ _ _ _ c.in_ok-order.ensures.heard (rw c.deref.ensures.value at c.in_ok-compile_all.ensures.heard) c.in_err-loaded.ensures.heard)

pub returns-clause-heard : goal.returns-clause-heard
returns-clause-heard g c =
    let P : Export → Type 0 = λ x. HearsIn (Builds c.args.path.now) (BuildRefused c.args.path.now) (g.S.Store.told c.args.store.now).heard (g.S.Store.told c.load.new.store).heard (Ok x) in
    subst P (sym c.package_of-package.ensures)
    (heard_build texts loaded_of (BadLinked c.args.path.now) (BuildRefused c.args.path.now) c.args.path.now c.in_ok-order.order c.in_ok-loaded.loaded _ _ _ _ c.in_ok-order.ensures.heard (rw c.deref.ensures.value at c.in_ok-compile_all.ensures.heard) c.in_ok-loaded.ensures.heard)
