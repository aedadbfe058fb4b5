use Rattle.std.proofs.Common.{rules, refl}
use Rattle.ui_parse.proofs.ListLaws.{called_reads, parts_read}
use Rattle.ui_syntax.specs.Read.{readers}
use Rattle.ui_scan.specs.declared.kind.TokenKind.TheVariants.{Comma, RBracket}
use Rattle.ui_ptype.specs.Seen.{see_types}
use Rattle.ui_syntax.specs.Types.{one_more, any_end}
use Rattle.ui_ptype.specs.Parts.{type_in}
use Rattle.ui_ptype.proofs.grammar.Grammar.args_behind.Goals as goal

pub returns : goal.returns
returns g c =
    let step = one_more (type_in c.args.self.now.room (readers c.args.self.now.room) c.args.lower) in
    rw (← c.in-Ok.ensures) (parts_read Comma RBracket _ any_end see_types _ step (λ s. refl) (λ s. refl) (called_reads see_types _ step (λ old new s r k. search rules)) c.in-Ok.all c.args.words.now c.parts.result c.parts.new.cursor c.parts.ensures)
