use Rattle.std.proofs.Common.{sym, subst, List, [], Ok, Err, true, ◌≡◌}
use Rattle.std.specs.List.{AllByRecursion}
use Rattle.std.proofs.lemmas.Result.{err_from_is_err_and}
use Rattle.ui_base.specs.Paths.{is_path}
use Rattle.ui_exports.specs.Linked.{Linked}
use Rattle.ui_forms.specs.Form.{Form as SourceForm, imported}
use Rattle.ui_build.specs.Plan.{Text, settled, ◌>>=◌}
use Rattle.ui_build.specs.Package.{read_form}
use Rattle.ui_build.specs.Loading.{load_all, judgement}
use Rattle.ui_build.specs.Views.{imports_of}
use Rattle.ui_build.specs.Heard.{Compiles}
use Rattle.ui_build.specs.Stops.{state}
use Rattle.ui_build.proofs.Hearing.{heard_compiled, package_unread, package_unloaded, package_refused}
use Rattle.ui_build.proofs.Steps.{told_stop, told_then, told_settled}
use Rattle.ui_build.proofs.compiling.prepare.Goals as goal

pub load_all-requires : goal.load_all-requires
load_all-requires g c = let P : List Text → Type 0 = AllByRecursion (λ p. is_path p ≡ true) in subst P (sym c.imports.ensures.paths) c.imports.ensures.valid

pub returns-in_err-form-clause-does : goal.returns-in_err-form-clause-does
returns-in_err-form-clause-does g c =
    let p = err_from_is_err_and c.from_residual.result c.from_residual.ensures.1 in
    let path = c.args.path.now in
    rw (p.1, p.2)
    (told_stop (λ (f : SourceForm). f) (λ (l : Linked). l) (λ told. read_form told path) (λ told form. load_all told ([], []) (imported form) >>= λ imports. settled (judgement path form imports)) _ _ (state (g.S.Store.told c.read_form.new.store).files (g.S.Store.told c.read_form.new.store).asked) c.in_err-form.field-0.0 c.in_err-form.ensures.does)

pub returns-in_err-imports-clause-does : goal.returns-in_err-imports-clause-does
returns-in_err-imports-clause-does g c =
    let p = err_from_is_err_and c.from_residual-in_err-imports.result c.from_residual-in_err-imports.ensures.1 in
    let path = c.args.path.now in
    let form = c.in_ok-form.form in
    rw (p.1, p.2)
    (told_then (λ (f : SourceForm). f) (λ (l : Linked). l) (λ told. read_form told path) (λ told f. load_all told ([], []) (imported f) >>= λ imports. settled (judgement path f imports)) _ _ _ _ (state (g.S.Store.told c.load_all.new.store).files (g.S.Store.told c.load_all.new.store).asked) form (Err c.in_err-imports.field-0.0) c.in_ok-form.ensures.files c.in_ok-form.ensures.does
    (told_stop imports_of (λ (l : Linked). l) (λ told. load_all told ([], []) (imported form)) (λ told imports. settled (judgement path form imports)) _ _ (state (g.S.Store.told c.load_all.new.store).files (g.S.Store.told c.load_all.new.store).asked) c.in_err-imports.field-0.0 (rw c.imports.ensures.paths at c.in_err-imports.ensures.does)))

pub returns-in_err-linked-clause-does : goal.returns-in_err-linked-clause-does
returns-in_err-linked-clause-does g c =
    let p = err_from_is_err_and c.from_residual-in_err-linked.result c.from_residual-in_err-linked.ensures.1 in
    let path = c.args.path.now in
    let form = c.in_ok-form.form in
    rw (p.1, p.2)
    (told_then (λ (f : SourceForm). f) (λ (l : Linked). l) (λ told. read_form told path) (λ told f. load_all told ([], []) (imported f) >>= λ imports. settled (judgement path f imports)) _ _ _ _ (state (g.S.Store.told c.load_all.new.store).files (g.S.Store.told c.load_all.new.store).asked) form (Err c.in_err-linked.field-0.0) c.in_ok-form.ensures.files c.in_ok-form.ensures.does
    (told_settled imports_of (λ (l : Linked). l) (λ told. load_all told ([], []) (imported form)) (λ imports. judgement path form imports) (g.S.Store.told c.read_form.new.store).files (g.S.Store.told c.load_all.new.store).files (g.S.Store.told c.read_form.new.store).asked (g.S.Store.told c.load_all.new.store).asked c.in_ok-imports.imports (Err c.in_err-linked.field-0.0) c.in_ok-imports.ensures.files
    (rw c.imports.ensures.paths at c.in_ok-imports.ensures.does) c.in_err-linked.ensures.settled))

pub returns-clause-does : goal.returns-clause-does
returns-clause-does g c =
    let path = c.args.path.now in
    let form = c.in_ok-form.form in
    told_then (λ (f : SourceForm). f) (λ (l : Linked). l) (λ told. read_form told path) (λ told f. load_all told ([], []) (imported f) >>= λ imports. settled (judgement path f imports)) _ _ _ _ (state (g.S.Store.told c.load_all.new.store).files (g.S.Store.told c.load_all.new.store).asked) form (Ok c.in_ok-linked.linked) c.in_ok-form.ensures.files c.in_ok-form.ensures.does
    (told_settled imports_of (λ (l : Linked). l) (λ told. load_all told ([], []) (imported form)) (λ imports. judgement path form imports) (g.S.Store.told c.read_form.new.store).files (g.S.Store.told c.load_all.new.store).files (g.S.Store.told c.read_form.new.store).asked (g.S.Store.told c.load_all.new.store).asked c.in_ok-imports.imports (Ok c.in_ok-linked.linked) c.in_ok-imports.ensures.files
    (rw c.imports.ensures.paths at c.in_ok-imports.ensures.does) c.in_ok-linked.ensures.settled)

pub returns-in_err-form-clause-heard : goal.returns-in_err-form-clause-heard
returns-in_err-form-clause-heard g c =
    let p = err_from_is_err_and c.from_residual.result c.from_residual.ensures.1 in
    rw (p.1, p.2) (package_unread _ (Compiles c.args.path.now) c.args.path.now c.in_err-form.field-0.0 _ _ c.in_err-form.ensures.heard)

pub returns-in_err-imports-clause-heard : goal.returns-in_err-imports-clause-heard
returns-in_err-imports-clause-heard g c =
    let p = err_from_is_err_and c.from_residual-in_err-imports.result c.from_residual-in_err-imports.ensures.1 in
    rw (p.1, p.2) (package_unloaded _ (Compiles c.args.path.now) c.args.path.now c.in_ok-form.form c.in_err-imports.field-0.0 _ _ _ c.in_ok-form.ensures.heard (rw c.imports.ensures.paths at c.in_err-imports.ensures.heard))

pub returns-in_err-linked-clause-heard : goal.returns-in_err-linked-clause-heard
returns-in_err-linked-clause-heard g c =
    let p = err_from_is_err_and c.from_residual-in_err-linked.result c.from_residual-in_err-linked.ensures.1 in
    rw (p.1, p.2)
    (package_refused (Compiles c.args.path.now) imports_of c.args.path.now c.in_ok-form.form c.in_ok-imports.imports c.in_err-linked.field-0.0 _ _ _ c.in_err-linked.ensures.settled c.in_ok-form.ensures.heard (rw c.imports.ensures.paths at c.in_ok-imports.ensures.heard))

pub returns-clause-heard : goal.returns-clause-heard
returns-clause-heard g c =
    heard_compiled imports_of c.args.path.now c.in_ok-form.form c.in_ok-imports.imports c.in_ok-linked.linked _ _ _ c.in_ok-linked.ensures.settled c.in_ok-form.ensures.heard (rw c.imports.ensures.paths at c.in_ok-imports.ensures.heard)
