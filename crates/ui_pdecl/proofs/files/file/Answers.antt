use Rattle.std.proofs.Common.{refl}
use Rattle.std.proofs.lemmas.Result.{err_from_is_err_and}
use Rattle.ui_pdecl.proofs.FileSteps.{imports_fault, decls_fault, file_read}
use Rattle.ui_pdecl.proofs.files.file.Goals as goal

pub returns-in_err-imports : goal.returns-in_err-imports
returns-in_err-imports c =
    let room = c.args.room in
    let p = err_from_is_err_and c.from_residual-in_err-imports.result c.from_residual-in_err-imports.ensures.1 in
    rw (p.1, p.2) (imports_fault room c.args.words.now c.expect.new.self c.expect_name.new.self c.expect-2.new.self c.in_ok-spot.spot c.in_ok-expect.field-0 c.in_ok-package.package c.in_ok-spot.ensures c.in_ok-package.ensures c.in_ok-expect.ensures _ c.each.new.words (c.in_err-imports.ensures room))

pub returns-in_err-decls : goal.returns-in_err-decls
returns-in_err-decls c =
    let room = c.args.room in
    let p = err_from_is_err_and c.from_residual-in_err-decls.result c.from_residual-in_err-decls.ensures.1 in
    rw (p.1, p.2) (decls_fault room c.args.words.now c.expect.new.self c.expect_name.new.self c.expect-2.new.self c.in_ok-spot.spot c.in_ok-expect.field-0 c.in_ok-package.package c.in_ok-spot.ensures c.in_ok-package.ensures c.in_ok-expect.ensures c.in_ok-imports.imports c.each.new.words (c.in_ok-imports.ensures room) _ c.each-2.new.words (c.in_err-decls.ensures room))

pub returns : goal.returns
returns c =
    let room = c.args.room in
    file_read room c.args.words.now c.expect.new.self c.expect_name.new.self c.expect-2.new.self c.in_ok-spot.spot c.in_ok-expect.field-0 c.in_ok-package.package c.in_ok-spot.ensures c.in_ok-package.ensures c.in_ok-expect.ensures c.in_ok-imports.imports c.each.new.words (c.in_ok-imports.ensures room) c.in_ok-decls.decls c.each-2.new.words _ (c.in_ok-decls.ensures room) refl
