use Rattle.std.proofs.Common.{rules, refl}
use Rattle.ui_parse.proofs.ListLaws.{called_reads, parts_read}
use Rattle.ui_syntax.specs.Read.{readers}
use Rattle.ui_scan.specs.declared.kind.TokenKind.TheVariants.{Comma, RParen}
use Rattle.ui_pread.specs.Seen.{see_arguments}
use Rattle.ui_syntax.specs.Exprs.{argument, call_ending}
use Rattle.ui_pread.proofs.exprs.Exprs.argument_list.Goals as goal

pub returns : goal.returns
returns g c =
    let step = argument c.args.self.now.types.room (readers c.args.self.now.types.room) in
    rw (← c.new-args.ensures) (parts_read Comma RParen _ call_ending see_arguments _ step (λ s. refl) (λ s. refl) (called_reads see_arguments _ step (λ old new s r k. search rules)) c.new-args.result c.args.words.now c.parts.result c.parts.new.cursor c.parts.ensures)
