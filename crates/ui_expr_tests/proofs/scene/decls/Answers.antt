use Rattle.std.proofs.Common.{rules}
use Rattle.ui_types.specs.Decls.{AreDecls}
use Rattle.ui_types.specs.Stays.{decls_stay}
use Rattle.ui_expr_tests.proofs.scene.decls.Goals as goal

pub returns-clause-made : goal.returns-clause-made
returns-clause-made c =
    let zero : AreDecls c.intern.new.self c.types.new.decls.items =
    (decls_stay _ _ _ c.in_ok-ty.ensures.grows c.in_ok-types.ensures.made).0 in
    let one : AreDecls c.intern.new.self c.declare.new.decls.items =
    c.declare.ensures c.intern.new.self zero (search rules) in
    let two : AreDecls c.intern.new.self c.declare-2.new.decls.items =
    c.declare-2.ensures c.intern.new.self one (search rules) in
    let three : AreDecls c.intern.new.self c.declare-3.new.decls.items =
    c.declare-3.ensures c.intern.new.self two (search rules) in
    rw c.new-3.ensures three
