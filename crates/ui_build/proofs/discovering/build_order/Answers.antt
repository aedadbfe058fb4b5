use Rattle.std.proofs.Common.{suc, Ok, Err}
use Rattle.std.proofs.lemmas.Result.{err_from_is_err_and}
use Rattle.std.specs.Prelude.{String, Vec}
use Rattle.std.specs.declared.alloc.Global.{Global}
use Rattle.ui_order.specs.Found.{Found, begun}
use Rattle.ui_order.specs.Tables.{texts}
use Rattle.ui_build.specs.Plan.{settled}
use Rattle.ui_build.specs.Build.{discover, ordered, package_limit}
use Rattle.ui_build.specs.Heard.{FindsOrder}
use Rattle.ui_build.specs.Stops.{state}
use Rattle.ui_build.proofs.HearingFound.{order_unfound, order_none, order_found}
use Rattle.ui_build.proofs.Steps.{told_stop, told_settled}
use Rattle.ui_build.proofs.discovering.build_order.Goals as goal

pub ordered-requires : goal.ordered-requires
ordered-requires g c = (c.discovery_keeps.ensures.closes c.args.root.now c.in_ok-discovery.discovery c.in_ok-discovery.ensures.found c.in_ok-discovery.ensures.all).1

pub returns-in_err-discovery-clause-does : goal.returns-in_err-discovery-clause-does
returns-in_err-discovery-clause-does g c =
    let p = err_from_is_err_and c.from_residual.result c.from_residual.ensures.1 in
    rw (p.1, p.2)
    (told_stop (λ (d : Found). d) texts (λ told. discover (suc package_limit) told (begun c.args.root.now)) (λ told found. settled (ordered found.read)) _ _ (state (g.S.Store.told c.discover.new.store).files (g.S.Store.told c.discover.new.store).asked) c.in_err-discovery.field-0.0 c.in_err-discovery.ensures.does)

pub returns-in_err-order-clause-does : goal.returns-in_err-order-clause-does
returns-in_err-order-clause-does g c =
    let p = err_from_is_err_and c.from_residual-in_err-order.result c.from_residual-in_err-order.ensures.1 in
    rw (p.1, p.2)
    (told_settled (λ (d : Found). d) texts (λ told. discover (suc package_limit) told (begun c.args.root.now)) (λ found. ordered found.read) (g.S.Store.told c.args.store.now).files (g.S.Store.told c.discover.new.store).files (g.S.Store.told c.args.store.now).asked (g.S.Store.told c.discover.new.store).asked c.in_ok-discovery.discovery (Err c.in_err-order.field-0.0) c.in_ok-discovery.ensures.files c.in_ok-discovery.ensures.does c.in_err-order.ensures)

pub returns-clause-does : goal.returns-clause-does
returns-clause-does g c =
    told_settled (λ (d : Found). d) texts (λ told. discover (suc package_limit) told (begun c.args.root.now)) (λ found. ordered found.read) (g.S.Store.told c.args.store.now).files (g.S.Store.told c.discover.new.store).files (g.S.Store.told c.args.store.now).asked (g.S.Store.told c.discover.new.store).asked c.in_ok-discovery.discovery (Ok c.in_ok-order.order) c.in_ok-discovery.ensures.files c.in_ok-discovery.ensures.does c.in_ok-order.ensures

pub returns-in_err-discovery-clause-heard : goal.returns-in_err-discovery-clause-heard
returns-in_err-discovery-clause-heard g c =
    let p = err_from_is_err_and c.from_residual.result c.from_residual.ensures.1 in
    rw (p.1, p.2) (order_unfound _ (λ (v : Vec (String Global) Global). FindsOrder c.args.root.now (texts v)) c.args.root.now c.in_err-discovery.field-0.0 _ _ c.in_err-discovery.ensures.heard)

pub returns-in_err-order-clause-heard : goal.returns-in_err-order-clause-heard
returns-in_err-order-clause-heard g c =
    let p = err_from_is_err_and c.from_residual-in_err-order.result c.from_residual-in_err-order.ensures.1 in
    rw (p.1, p.2) (order_none (λ (v : Vec (String Global) Global). FindsOrder c.args.root.now (texts v)) c.args.root.now c.in_ok-discovery.discovery c.in_err-order.field-0.0 _ _ c.in_ok-discovery.ensures.heard c.in_err-order.ensures)

pub returns-clause-heard : goal.returns-clause-heard
returns-clause-heard g c = order_found texts c.args.root.now c.in_ok-discovery.discovery c.in_ok-order.order _ _ c.in_ok-discovery.ensures.heard c.in_ok-order.ensures
