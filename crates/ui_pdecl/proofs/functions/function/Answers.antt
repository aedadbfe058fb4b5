use Rattle.ui_pdecl.proofs.FunctionSteps.{method_read}
use Rattle.ui_pdecl.proofs.functions.function.Goals as goal

pub returns-in-Some : goal.returns-in-Some
returns-in-Some c = method_read c.args.room c.args.spot c.in-Some.open c.take.result c.args.words.now c.take.new.self c.receiver.new.words c.method.new.words c.in_ok-receiver.receiver c.method.result c.take.ensures.found c.in-Some.is c.take.ensures.left c.in_ok-receiver.ensures c.method.ensures
