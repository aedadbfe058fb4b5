use Rattle.std.proofs.Common.{rules}
use Rattle.ui_scan.specs.declared.kind.TokenKind.TheVariants.{Comma}
use Rattle.ui_parse.proofs.ListLaws.{called_reads, chain_read}
use Rattle.ui_parse.specs.Names.{one_name_more}
use Rattle.ui_parse.proofs.names.more_names.Goals as goal

pub returns : goal.returns
returns c = chain_read Comma (λ ns. ns) _ one_name_more (called_reads (λ ns. ns) _ one_name_more (λ old new s r k. search rules)) c.args.names c.args.cursor.now c.chain.result c.chain.new.cursor c.chain.ensures
