use Rattle.std.proofs.Common.{◌≡◌, refl, Ok, Err}
use Rattle.std.proofs.lemmas.Result.{err_from_is_err_and}
use Rattle.ui_forms.specs.Form.{Form as SourceForm}
use Rattle.ui_build.specs.Package.{folder, find, form_or}
use Rattle.ui_build.specs.Plan.{settled}
use Rattle.ui_build.specs.Sources.{sources_of}
use Rattle.ui_build.specs.Heard.{FindsSources, ReadsForm}
use Rattle.ui_build.specs.Refused.{LacksSources, LacksForm}
use Rattle.ui_build.specs.Stops.{state, SettlesStop}
use Rattle.ui_build.proofs.Hearing.{heard_value, form_unfound, form_unread, reads_form}
use Rattle.ui_build.proofs.Steps.{told_stop, told_settled}
use Rattle.ui_build.proofs.compiling.read_form.Goals as goal

pub returns-in_err-sources-clause-does : goal.returns-in_err-sources-clause-does
returns-in_err-sources-clause-does g c =
    let p = err_from_is_err_and c.from_residual.result c.from_residual.ensures.1 in
    rw (p.1, p.2)
    (told_stop sources_of (λ (f : SourceForm). f) (λ told. find told (folder c.args.path.now)) (λ told sources. settled (form_or c.args.path.now sources)) _ _ (state (g.S.Store.told c.find.new.store).files (g.S.Store.told c.find.new.store).asked) c.in_err-sources.field-0.0 c.in_err-sources.ensures.does)

pub returns-in_err-form-clause-does : goal.returns-in_err-form-clause-does
returns-in_err-form-clause-does g c =
    let p = err_from_is_err_and c.from_residual-in_err-form.result c.from_residual-in_err-form.ensures.1 in
    rw (p.1, p.2)
    (told_settled sources_of (λ (f : SourceForm). f) (λ told. find told (folder c.args.path.now)) (λ sources. form_or c.args.path.now sources) (g.S.Store.told c.args.store.now).files (g.S.Store.told c.find.new.store).files (g.S.Store.told c.args.store.now).asked (g.S.Store.told c.find.new.store).asked c.in_ok-sources.sources (Err c.in_err-form.field-0.0) c.in_ok-sources.ensures.files
    c.in_ok-sources.ensures.does (rw c.deref.ensures.value at c.in_err-form.ensures.settled))

pub returns-clause-does : goal.returns-clause-does
returns-clause-does g c =
    told_settled sources_of (λ (f : SourceForm). f) (λ told. find told (folder c.args.path.now)) (λ sources. form_or c.args.path.now sources) (g.S.Store.told c.args.store.now).files (g.S.Store.told c.find.new.store).files (g.S.Store.told c.args.store.now).asked (g.S.Store.told c.find.new.store).asked c.in_ok-sources.sources (Ok c.in_ok-form.form) c.in_ok-sources.ensures.files
    c.in_ok-sources.ensures.does (rw c.deref.ensures.value at c.in_ok-form.ensures.settled)

pub returns-in_err-sources-clause-heard : goal.returns-in_err-sources-clause-heard
returns-in_err-sources-clause-heard g c =
    let p = err_from_is_err_and c.from_residual.result c.from_residual.ensures.1 in
    rw (p.1, p.2) (form_unfound _ (λ (f : SourceForm). ReadsForm c.args.path.now f) c.args.path.now c.in_err-sources.field-0.0 _ _ c.in_err-sources.ensures.heard)

pub returns-in_err-form-clause-heard : goal.returns-in_err-form-clause-heard
returns-in_err-form-clause-heard g c =
    let p = err_from_is_err_and c.from_residual-in_err-form.result c.from_residual-in_err-form.ensures.1 in
    let settled : SettlesStop (form_or c.args.path.now (sources_of c.in_ok-sources.sources)) c.in_err-form.field-0.0 = rw c.deref.ensures.value at c.in_err-form.ensures.settled in
    rw (p.1, p.2)
    (form_unread (λ (f : SourceForm). ReadsForm c.args.path.now f) c.args.path.now c.in_ok-sources.sources c.in_err-form.field-0.0 _ _ c.in_ok-sources.ensures.heard settled)

pub returns-clause-heard : goal.returns-clause-heard
returns-clause-heard g c =
    let settled : form_or c.args.path.now (sources_of c.in_ok-sources.sources) ≡ Ok c.in_ok-form.form = rw c.deref.ensures.value at c.in_ok-form.ensures.settled in
    heard_value (λ v. FindsSources (folder c.args.path.now) (sources_of v)) (λ (f : SourceForm). ReadsForm c.args.path.now f) (LacksSources (folder c.args.path.now)) (LacksForm c.args.path.now) c.in_ok-sources.sources c.in_ok-form.form _ _ _ refl (λ x f. reads_form c.args.path.now (sources_of c.in_ok-sources.sources) c.in_ok-form.form x settled f) c.in_ok-sources.ensures.heard
