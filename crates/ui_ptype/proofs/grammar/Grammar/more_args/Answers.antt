use Rattle.std.proofs.Common.{rules, refl}
use Rattle.ui_parse.proofs.ListLaws.{called_reads, more_parts_read}
use Rattle.ui_syntax.specs.Read.{readers}
use Rattle.ui_scan.specs.declared.kind.TokenKind.TheVariants.{Comma, RBracket}
use Rattle.ui_ptype.specs.Seen.{see_types}
use Rattle.ui_syntax.specs.Types.{one_more, any_end}
use Rattle.ui_ptype.specs.Parts.{type_in}
use Rattle.ui_ptype.proofs.grammar.Grammar.more_args.Goals as goal

pub returns : goal.returns
returns g c =
    let step = one_more (type_in c.args.self.now.room (readers c.args.self.now.room) c.args.lower) in
    rw (← c.in-Ok.ensures) (more_parts_read Comma RBracket _ any_end see_types _ step (λ s. refl) (λ s. refl) (called_reads see_types _ step (λ old new s r k. search rules)) c.in-Ok.all c.args.words.now c.more_parts.result c.more_parts.new.cursor c.more_parts.ensures)
