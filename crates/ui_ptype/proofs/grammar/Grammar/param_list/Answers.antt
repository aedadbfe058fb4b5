use Rattle.std.proofs.Common.{rules, refl}
use Rattle.ui_parse.proofs.ListLaws.{called_reads, parts_read}
use Rattle.ui_syntax.specs.Read.{readers}
use Rattle.ui_scan.specs.declared.kind.TokenKind.TheVariants.{Comma, RParen}
use Rattle.ui_ptype.specs.Seen.{see_params}
use Rattle.ui_syntax.specs.Types.{param, params_ending}
use Rattle.ui_ptype.proofs.grammar.Grammar.param_list.Goals as goal

pub returns : goal.returns
returns g c =
    let step = param c.args.self.now.room (readers c.args.self.now.room) in
    rw (← c.new-params.ensures) (parts_read Comma RParen _ params_ending see_params _ step (λ s. refl) (λ s. refl) (called_reads see_params _ step (λ old new s r k. search rules)) c.new-params.result c.args.words.now c.parts.result c.parts.new.cursor c.parts.ensures)
