use Rattle.ui_stmts.specs.Decls.{bracketed_group, generic_group}
use Rattle.ui_pdecl.proofs.SpecSteps.{two_readings, read_again}
use Rattle.ui_pdecl.proofs.type_specs.length_or_params.Goals as goal

pub returns : goal.returns
returns c =
    let room = c.args.room in
    let name = c.args.name in
    let ws = c.args.words.now in
    two_readings room name c.args.spot ws c.farther.result c.farther.new.words c.if-room-eq0.false
    (c.farther.ensures (bracketed_group room name c.args.spot ws) (generic_group room name ws) c.bracketed_spec-length.ensures
    (read_again room name c.in-Ok.copy ws c.fork-other.result c.generic_spec-params.result c.generic_spec-params.new.words c.in-Ok.ensures c.fork-other.ensures c.generic_spec-params.ensures))
