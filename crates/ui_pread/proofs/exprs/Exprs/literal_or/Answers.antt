use Rattle.std.proofs.Common.{sym, ap, ◌∙◌}
use Rattle.ui_tree.specs.declared.expr.ExprTree.{ExprTree}
use Rattle.ui_tree.specs.View.{view}
use Rattle.ui_syntax.specs.Cover.{as_type, if_named}
use Rattle.ui_syntax.specs.Exprs.{is_some}
use Rattle.ui_syntax.specs.Read.{readers}
use Rattle.ui_pread.proofs.LiteralTurns.{literal_header, literal_unnamed, literal_missed, literal_taken}
use Rattle.ui_pread.proofs.exprs.Exprs.literal_or.Goals as goal

pub returns-then-is_header : goal.returns-then-is_header
returns-then-is_header g c = literal_header c.args.self.now.types.room (readers c.args.self.now.types.room) c.args.site c.args.of c.args.words.now (sym c.is_header.ensures ∙ c.if-is_header.true)

pub returns-then-not-is_named_type : goal.returns-then-not-is_named_type
returns-then-not-is_named_type g c = literal_unnamed c.args.self.now.types.room (readers c.args.self.now.types.room) c.args.site c.args.of c.args.words.now (sym (c.is_named_type.ensures ∙ ap (λ (e : ExprTree). is_some (if_named (as_type (view e)))) c.get.ensures) ∙ c.if-not-is_named_type.true)

pub returns-in-None : goal.returns-in-None
returns-in-None g c = literal_missed c.args.self.now.types.room (readers c.args.self.now.types.room) c.args.site c.args.of c.args.words.now c.take.result c.take.new.self (sym c.is_header.ensures ∙ c.if-is_header.false) c.take.ensures.found c.in-None.is c.take.ensures.left

pub returns-in-Some : goal.returns-in-Some
returns-in-Some g c = literal_taken c.args.self.now.types.room (readers c.args.self.now.types.room) c.args.site c.args.of c.args.words.now c.take.result _ c.take.new.self c.named_literal.result c.named_literal.new.words
    (sym c.is_header.ensures ∙ c.if-is_header.false) (sym (c.is_named_type.ensures ∙ ap (λ (e : ExprTree). is_some (if_named (as_type (view e)))) c.get.ensures) ∙ c.if-not-is_named_type.false) c.take.ensures.found c.in-Some.is c.take.ensures.left c.named_literal.ensures
