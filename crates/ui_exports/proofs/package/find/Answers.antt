use Rattle.ui_exports.proofs.Entries.{find_declaration}
use Rattle.ui_exports.proofs.package.find.Goals as goal

pub returns : goal.returns
returns c = find_declaration _ _ c.get.result c.get.ensures.value
