use Rattle.std.proofs.Common.{rules}
use Rattle.ui_scan.specs.declared.kind.TokenKind.TheVariants.{Comma}
use Rattle.ui_parse.proofs.ListLaws.{called_reads, chain_read}
use Rattle.ui_ptype.specs.Seen.{see_all}
use Rattle.ui_stmts.specs.Common.{one_expr_more}
use Rattle.ui_psimple.proofs.lists.exprs_from.Goals as goal

pub returns : goal.returns
returns c =
    let step = one_expr_more c.args.budget c.args.header in
    chain_read Comma see_all _ step (called_reads see_all _ step (λ old new s r k. search rules)) c.args.all c.args.words.now c.chain.result c.chain.new.cursor c.chain.ensures
