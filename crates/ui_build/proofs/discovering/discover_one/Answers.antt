use Rattle.std.proofs.Common.{sym, subst, Ok, Err, string_bytes}
use Rattle.std.proofs.lemmas.Result.{err_from_is_err_and}
use Rattle.ui_order.specs.Found.{Found, IsFound, with_imports}
use Rattle.ui_build.specs.Package.{folder, find, imports_in}
use Rattle.ui_build.specs.Plan.{settled}
use Rattle.ui_build.specs.Build.{within_limit}
use Rattle.ui_build.specs.Sources.{sources_of}
use Rattle.ui_build.specs.Heard.{FindsOne}
use Rattle.ui_build.specs.Stops.{state}
use Rattle.ui_build.proofs.HearingFound.{one_unfound, one_too_many, one_found}
use Rattle.ui_build.proofs.Steps.{told_stop, told_settled}
use Rattle.ui_build.proofs.discovering.discover_one.Goals as goal

pub returns-in_err-sources-clause-does : goal.returns-in_err-sources-clause-does
returns-in_err-sources-clause-does g c =
    let p = err_from_is_err_and c.from_residual.result c.from_residual.ensures.1 in
    let path = string_bytes c.args.path in
    rw (p.1, p.2)
    (told_stop sources_of (λ (d : Found). d) (λ told. find told (folder path)) (λ told sources. settled (within_limit (with_imports c.args.discovery path (imports_in path sources)))) _ _ (state (g.S.Store.told c.find.new.store).files (g.S.Store.told c.find.new.store).asked) c.in_err-sources.field-0.0 (rw c.as_str.ensures.value at c.in_err-sources.ensures.does))

pub returns-in_err-more-clause-does : goal.returns-in_err-more-clause-does
returns-in_err-more-clause-does g c =
    let p = err_from_is_err_and c.from_residual-in_err-more.result c.from_residual-in_err-more.ensures.1 in
    let path = string_bytes c.args.path in
    rw (p.1, p.2)
    (told_settled sources_of (λ (d : Found). d) (λ told. find told (folder path)) (λ sources. within_limit (with_imports c.args.discovery path (imports_in path sources))) (g.S.Store.told c.args.store.now).files (g.S.Store.told c.find.new.store).files (g.S.Store.told c.args.store.now).asked (g.S.Store.told c.find.new.store).asked c.in_ok-sources.sources (Err c.in_err-more.field-0.0) c.in_ok-sources.ensures.files
    (rw c.as_str.ensures.value at c.in_ok-sources.ensures.does) (rw c.deref.ensures.value at c.in_err-more.ensures.settled))

pub returns-clause-does : goal.returns-clause-does
returns-clause-does g c =
    let path = string_bytes c.args.path in
    told_settled sources_of (λ (d : Found). d) (λ told. find told (folder path)) (λ sources. within_limit (with_imports c.args.discovery path (imports_in path sources))) (g.S.Store.told c.args.store.now).files (g.S.Store.told c.find.new.store).files (g.S.Store.told c.args.store.now).asked (g.S.Store.told c.find.new.store).asked c.in_ok-sources.sources (Ok c.in_ok-more.more) c.in_ok-sources.ensures.files
    (rw c.as_str.ensures.value at c.in_ok-sources.ensures.does) (rw c.deref.ensures.value at c.in_ok-more.ensures.settled)

pub returns-clause-found : goal.returns-clause-found
returns-clause-found g c = λ root known. let P : Found → Type 0 = IsFound root in subst P (sym c.in_ok-more.ensures.now) (c.discovery_keeps.ensures.keeps root c.args.discovery (string_bytes c.args.path) _ known)

pub returns-in_err-sources-clause-heard : goal.returns-in_err-sources-clause-heard
returns-in_err-sources-clause-heard g c =
    let p = err_from_is_err_and c.from_residual.result c.from_residual.ensures.1 in
    rw (p.1, p.2) (one_unfound _ (FindsOne c.args.discovery (string_bytes c.args.path)) c.args.discovery (string_bytes c.args.path) c.in_err-sources.field-0.0 _ _ (rw c.as_str.ensures.value at c.in_err-sources.ensures.heard))

pub returns-in_err-more-clause-heard : goal.returns-in_err-more-clause-heard
returns-in_err-more-clause-heard g c =
    let p = err_from_is_err_and c.from_residual-in_err-more.result c.from_residual-in_err-more.ensures.1 in
    rw (p.1, p.2) (one_too_many (FindsOne c.args.discovery (string_bytes c.args.path)) c.args.discovery (string_bytes c.args.path) c.in_ok-sources.sources c.in_err-more.field-0.0 _ _ (rw c.as_str.ensures.value at c.in_ok-sources.ensures.heard) (rw c.deref.ensures.value at c.in_err-more.ensures.settled))

pub returns-clause-heard : goal.returns-clause-heard
returns-clause-heard g c =
    one_found c.args.discovery (string_bytes c.args.path) c.in_ok-sources.sources c.in_ok-more.more _ _ (rw c.as_str.ensures.value at c.in_ok-sources.ensures.heard) (rw c.deref.ensures.value at c.in_ok-more.ensures.settled)
