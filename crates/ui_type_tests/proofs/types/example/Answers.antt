use Rattle.std.proofs.Common.{rules}
use Rattle.ui_types.specs.Decls.{AreDecls}
use Rattle.ui_type_tests.proofs.types.example.Goals as goal

pub returns : goal.returns
returns c table bound under =
    let none : AreDecls table c.new-decls.result.items = search rules in
    let all : AreDecls table c.declare.new.decls.items = c.declare.ensures table none (c.in_ok-face.ensures table bound under) in
    rw c.new.ensures all
