use Rattle.ui_forms.proofs.PathLemmas.{path-utf8}
use Rattle.ui_forms.proofs.discovery.text_of.Goals as goal

pub unreachable-requires : goal.unreachable-requires
unreachable-requires c = c.in-Err.ensures.cases.0 (path-utf8 c.args.path.now c.requires)
