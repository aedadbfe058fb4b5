use Rattle.std.proofs.Common.{◌∙◌}
use Rattle.std.proofs.lemmas.Result.{err_from_is_err_and}
use Rattle.ui_build.specs.Heard.{Compiles}
use Rattle.ui_build.specs.Refused.{BadPackage}
use Rattle.ui_build.specs.Stops.{state}
use Rattle.ui_build.proofs.Hearing.{heard_same, heard_then_none, heard_value}
use Rattle.ui_build.proofs.Sufficient.{Laws}
use Rattle.ui_build.proofs.Compiled.{prepared_ok, prepared_stop, compile_stop, compile_ok, compile_stands}
use Rattle.ui_build.proofs.compiling.compile.Goals as goal

pub returns-in_err-linked-clause-does : goal.returns-in_err-linked-clause-does
returns-in_err-linked-clause-does g c =
    let p = err_from_is_err_and c.from_residual.result c.from_residual.ensures.1 in
    let laws : Laws = record { containers = record { passes = c.one_container.ensures.passes; found = c.one_container.ensures.found; one = c.one_container.ensures.one }; records = c.reads_back.ensures; joins = c.list_of_paths.ensures.marked; marks = c.list_of_paths.ensures.marks; local = c.verdict_is_local.ensures; found = c.accepted_forms.ensures.found } in
    λ files told packages at ready. rw (p.1, p.2) (prepared_stop laws files told packages c.args.path.now (state (g.S.Store.told c.args.store.now).files (g.S.Store.told c.args.store.now).asked) (state (g.S.Store.told c.prepare.new.store).files (g.S.Store.told c.prepare.new.store).asked) c.in_err-linked.field-0.0 at ready c.in_err-linked.ensures.does)

pub returns-in_err-write_files-clause-does : goal.returns-in_err-write_files-clause-does
returns-in_err-write_files-clause-does g c =
    let p = err_from_is_err_and c.from_residual-in_err-write_files.result c.from_residual-in_err-write_files.ensures.1 in
    let laws : Laws = record { containers = record { passes = c.one_container.ensures.passes; found = c.one_container.ensures.found; one = c.one_container.ensures.one }; records = c.reads_back.ensures; joins = c.list_of_paths.ensures.marked; marks = c.list_of_paths.ensures.marks; local = c.verdict_is_local.ensures; found = c.accepted_forms.ensures.found } in
    let old = state (g.S.Store.told c.args.store.now).files (g.S.Store.told c.args.store.now).asked in
    let mid = state (g.S.Store.told c.prepare.new.store).files (g.S.Store.told c.prepare.new.store).asked in
    let new = state (g.S.Store.told c.write_files.new.store).files (g.S.Store.told c.write_files.new.store).asked in
    λ files told packages at ready.
    let a = prepared_ok laws files told packages c.args.path.now c.in_ok-linked.linked old mid at ready c.in_ok-linked.ensures.does in
    rw (p.1, p.2) (compile_stop files told packages c.args.path.now c.in_ok-linked.linked old mid new c.in_err-write_files.field-0.0 a (c.in_err-write_files.ensures.does told a.entry (c.in_ok-linked.ensures.files ∙ at) a.linked))

pub returns-clause-does : goal.returns-clause-does
returns-clause-does g c =
    let laws : Laws = record { containers = record { passes = c.one_container.ensures.passes; found = c.one_container.ensures.found; one = c.one_container.ensures.one }; records = c.reads_back.ensures; joins = c.list_of_paths.ensures.marked; marks = c.list_of_paths.ensures.marks; local = c.verdict_is_local.ensures; found = c.accepted_forms.ensures.found } in
    let old = state (g.S.Store.told c.args.store.now).files (g.S.Store.told c.args.store.now).asked in
    let mid = state (g.S.Store.told c.prepare.new.store).files (g.S.Store.told c.prepare.new.store).asked in
    let new = state (g.S.Store.told c.write_files.new.store).files (g.S.Store.told c.write_files.new.store).asked in
    λ files told packages at ready.
    let a = prepared_ok laws files told packages c.args.path.now c.in_ok-linked.linked old mid at ready c.in_ok-linked.ensures.does in
    compile_ok files told packages c.args.path.now c.in_ok-linked.linked old mid new a (c.in_ok-write_files.ensures.does told a.entry (c.in_ok-linked.ensures.files ∙ at) a.linked)

pub returns-clause-stands : goal.returns-clause-stands
returns-clause-stands g c =
    let laws : Laws = record { containers = record { passes = c.one_container.ensures.passes; found = c.one_container.ensures.found; one = c.one_container.ensures.one }; records = c.reads_back.ensures; joins = c.list_of_paths.ensures.marked; marks = c.list_of_paths.ensures.marks; local = c.verdict_is_local.ensures; found = c.accepted_forms.ensures.found } in
    let old = state (g.S.Store.told c.args.store.now).files (g.S.Store.told c.args.store.now).asked in
    let mid = state (g.S.Store.told c.prepare.new.store).files (g.S.Store.told c.prepare.new.store).asked in
    let new = state (g.S.Store.told c.write_files.new.store).files (g.S.Store.told c.write_files.new.store).asked in
    λ files told packages at ready.
    let a = prepared_ok laws files told packages c.args.path.now c.in_ok-linked.linked old mid at ready c.in_ok-linked.ensures.does in
    compile_stands files told packages c.args.path.now c.in_ok-linked.linked old mid new a (c.in_ok-linked.ensures.files ∙ at) ready c.in_ok-linked.ensures.own (c.in_ok-write_files.ensures.does told a.entry (c.in_ok-linked.ensures.files ∙ at) a.linked).1

pub returns-in_err-linked-clause-heard : goal.returns-in_err-linked-clause-heard
returns-in_err-linked-clause-heard g c =
    let p = err_from_is_err_and c.from_residual.result c.from_residual.ensures.1 in
    rw (p.1, p.2) (heard_same _ (Compiles c.args.path.now) (BadPackage c.args.path.now) c.in_err-linked.field-0.0 _ _ c.in_err-linked.ensures.heard)

pub returns-in_err-write_files-clause-heard : goal.returns-in_err-write_files-clause-heard
returns-in_err-write_files-clause-heard g c =
    let p = err_from_is_err_and c.from_residual-in_err-write_files.result c.from_residual-in_err-write_files.ensures.1 in
    rw (p.1, p.2) (heard_then_none _ (Compiles c.args.path.now) (BadPackage c.args.path.now) (BadPackage c.args.path.now) c.in_ok-linked.linked c.in_err-write_files.field-0.0 _ _ _ c.in_err-write_files.ensures.heard.told c.in_err-write_files.ensures.heard.stop c.in_ok-linked.ensures.heard)

pub returns-clause-heard : goal.returns-clause-heard
returns-clause-heard g c = heard_value (Compiles c.args.path.now) (Compiles c.args.path.now) (BadPackage c.args.path.now) (BadPackage c.args.path.now) c.in_ok-linked.linked c.in_ok-linked.linked _ _ _ c.in_ok-write_files.ensures.heard.told (λ x h. h) c.in_ok-linked.ensures.heard
