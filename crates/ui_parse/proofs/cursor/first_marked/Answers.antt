use Rattle.std.proofs.Common.{◌∙◌}
use Rattle.ui_parse.specs.Reader.{marked}
use Rattle.ui_parse.proofs.Words.{first_word}
use Rattle.ui_parse.proofs.cursor.first_marked.Goals as goal

pub returns-in-len1-up : goal.returns-in-len1-up
returns-in-len1-up c = λ bytes. c.marked.ensures bytes ∙ first_word (marked c.args.kind) bytes c.args.tokens.now _ c.in-len1-up.len_at_least
