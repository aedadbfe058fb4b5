use Rattle.ui_syntax.specs.Read.{readers}
use Rattle.ui_pread.proofs.Conversions.{behind_alone, behind_convert}
use Rattle.ui_pread.proofs.exprs.Exprs.behind_type.Goals as goal

pub returns-then-of-self : goal.returns-then-of-self
returns-then-of-self g c = behind_alone (readers c.args.self.now.types.room) c.args.site c.args.of c.args.words.now c.alone.result c.args.self.now.types.room c.if-of-self.true c.alone.ensures

pub returns-in-None : goal.returns-in-None
returns-in-None g c = behind_convert (readers c.args.self.now.types.room) c.args.site c.args.of c.args.words.now c.convert_or-in-None.result c.take.new.self c.take.result c.convert_or-in-None.new.words c.args.self.now.types.room
    c.if-of-self.false (cc) c.take.ensures.found c.in-None.is c.take.ensures.left c.convert_or-in-None.ensures
