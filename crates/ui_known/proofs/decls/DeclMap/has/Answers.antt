use Rattle.std.proofs.Common.{rules}
use Rattle.ui_known.proofs.MapLemmas.{has_shown}
use Rattle.ui_known.proofs.decls.DeclMap.has.Goals as goal

pub returns-clause-shown : goal.returns-clause-shown
returns-clause-shown c table = has_shown table c.args.self.now c.args.name.now c.is_some.result
    (search rules)
