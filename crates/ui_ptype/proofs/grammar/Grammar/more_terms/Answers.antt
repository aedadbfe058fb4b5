use Rattle.std.proofs.Common.{rules}
use Rattle.ui_parse.proofs.ListLaws.{called_reads, chain_read}
use Rattle.ui_syntax.specs.Read.{readers}
use Rattle.ui_scan.specs.declared.kind.TokenKind.TheVariants.{Or}
use Rattle.ui_ptype.specs.Seen.{see_types}
use Rattle.ui_syntax.specs.Types.{one_more, term}
use Rattle.ui_ptype.proofs.grammar.Grammar.more_terms.Goals as goal

pub returns : goal.returns
returns g c =
    let step = one_more (term c.args.self.now.room (readers c.args.self.now.room)) in
    rw (← c.in-Ok.ensures) (chain_read Or see_types _ step (called_reads see_types _ step (λ old new s r k. search rules)) c.in-Ok.terms c.args.words.now c.chain.result c.chain.new.cursor c.chain.ensures)
