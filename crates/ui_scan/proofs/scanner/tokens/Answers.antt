use Rattle.ui_scan.proofs.SourceLaws.{tokens_complete, found_tokens, only_tokens}
use Rattle.ui_scan.proofs.scanner.tokens.Goals as goal

pub returns-clause-found : goal.returns-clause-found
returns-clause-found c = found_tokens c.args.bytes.now c.all_tokens.result c.all_tokens.ensures

pub returns-clause-only : goal.returns-clause-only
returns-clause-only c = λ ts found. only_tokens c.args.bytes.now c.all_tokens.result ts (tokens_complete c.args.bytes.now ts found) c.all_tokens.ensures
