use Rattle.ui_parse.specs.Reader.{and_then}
use Rattle.ui_parse.proofs.ListLaws.{reads_fault}
use Rattle.ui_syntax.specs.Cover.{as_type}
use Rattle.ui_syntax.specs.Exprs.{literal_of}
use Rattle.ui_ptype.specs.Parts.{covered}
use Rattle.ui_syntax.specs.Read.{readers}
use Rattle.ui_ptype.specs.Seen.{see, see_type}
use Rattle.ui_pread.specs.Turns.{see_turn, more}
use Rattle.ui_pread.proofs.exprs.Exprs.named_literal.Goals as goal

pub returns-in-Err : goal.returns-in-Err
returns-in-Err g c =
    let room = c.args.self.now.types.room in
    reads_fault see_type (see_turn see) (covered (see c.args.of) (as_type (see c.args.of).tree) c.args.words.now) (λ t us. and_then (literal_of room (readers room) t us) more) c.in-Err.fault c.args.words.now c.in-Err.ensures
