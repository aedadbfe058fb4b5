use Rattle.ui_syntax.specs.Read.{readers}
use Rattle.ui_pread.proofs.Conversions.{convert_alone}
use Rattle.ui_pread.proofs.exprs.Exprs.convert_or.Goals as goal

pub returns-in_default : goal.returns-in_default
returns-in_default g c = convert_alone (readers c.args.self.now.types.room) c.args.site c.args.of c.args.words.now c.alone.result c.take.new.self c.take.result c.args.self.now.types.room
    (cc) c.take.ensures.found c.in_default.is c.take.ensures.left c.alone.ensures
