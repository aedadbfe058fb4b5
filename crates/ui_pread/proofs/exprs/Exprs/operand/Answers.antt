use Rattle.std.proofs.Common.{Ok, refl, ap, ◌∙◌}
use Rattle.ui_tree.specs.Tree.{Tree}
use Rattle.ui_syntax.specs.Exprs.{of_tree}
use Rattle.ui_syntax.specs.Read.{readers}
use Rattle.ui_pread.proofs.Operands.{operand_literal, operand_name}
use Rattle.ui_pread.proofs.exprs.Exprs.operand.Goals as goal

pub returns-in-Some : goal.returns-in-Some
returns-in-Some g c =
    let room = c.args.self.now.types.room in
    operand_literal room (readers room) c.args.site c.args.words.now (Ok c.in_ok-expr_sub.field-0) c.take_literal.new.self c.in_ok-literal.field-0 c.in-Some.literal c.take_literal.new.self c.in_ok-literal.ensures.found c.in-Some.is c.in_ok-literal.ensures.left
    (c.in_ok-expr_sub.ensures ∙ ap (λ (t : Tree). of_tree t c.in-Some.literal.spot 1) c.literal-tree.ensures, refl)

pub returns-in-Some-2 : goal.returns-in-Some-2
returns-in-Some-2 g c =
    let room = c.args.self.now.types.room in
    operand_name room (readers room) c.args.site c.args.words.now (Ok c.in_ok-expr_sub-2.field-0) c.take_name.new.self c.in_ok-literal.field-0 c.take_literal.new.self c.in_ok-literal.ensures.found c.in_default.is c.in_ok-literal.ensures.left
    c.in_ok-name.field-0 c.in-Some-2.name c.take_name.new.self c.in_ok-name.ensures.found c.in-Some-2.is c.in_ok-name.ensures.left
    (c.in_ok-expr_sub-2.ensures ∙ ap (λ (t : Tree). of_tree t c.in-Some-2.name.spot 1) c.name.ensures, refl)
