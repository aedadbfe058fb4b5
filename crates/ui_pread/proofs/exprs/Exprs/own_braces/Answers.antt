use Rattle.std.proofs.Common.{rules, refl}
use Rattle.ui_parse.proofs.ListLaws.{called_reads, parts_read}
use Rattle.ui_syntax.specs.Read.{readers}
use Rattle.ui_scan.specs.declared.kind.TokenKind.TheVariants.{Comma, RBrace}
use Rattle.ui_ptype.specs.Seen.{see_all}
use Rattle.ui_syntax.specs.Types.{any_end}
use Rattle.ui_syntax.specs.Exprs.{elem, braces}
use Rattle.ui_pread.proofs.exprs.Exprs.own_braces.Goals as goal

pub returns : goal.returns
unfolding braces
returns g c =
    let step = elem c.args.self.now.types.room (readers c.args.self.now.types.room) in
    rw (← c.new-elems.ensures) (parts_read Comma RBrace _ any_end see_all _ step (λ s. refl) (λ s. refl) (called_reads see_all _ step (λ old new s r k. search rules)) c.new-elems.result c.args.words.now c.parts.result c.parts.new.cursor c.parts.ensures)
