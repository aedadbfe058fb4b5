use Rattle.std.proofs.Common.{rules, refl}
use Rattle.ui_parse.proofs.ListLaws.{called_reads, parts_read}
use Rattle.ui_syntax.specs.Read.{readers}
use Rattle.ui_scan.specs.declared.kind.TokenKind.TheVariants.{Semi, RBrace}
use Rattle.ui_ptype.specs.Seen.{see_groups}
use Rattle.ui_syntax.specs.Types.{field, any_end}
use Rattle.ui_ptype.proofs.grammar.Grammar.field_list.Goals as goal

pub returns : goal.returns
returns g c =
    let step = field c.args.self.now.room (readers c.args.self.now.room) in
    rw (← c.new-fields.ensures) (parts_read Semi RBrace _ any_end see_groups _ step (λ s. refl) (λ s. refl) (called_reads see_groups _ step (λ old new s r k. search rules)) c.new-fields.result c.args.words.now c.parts.result c.parts.new.cursor c.parts.ensures)
