use Rattle.ui_pdecl.proofs.TypeTexts.{union_continues, no_union}
use Rattle.ui_pdecl.proofs.lengths.bound_continues.Goals as goal

pub returns-in-Union : goal.returns-in-Union
returns-in-Union c = union_continues c.args.of.now c.in-Union.spot c.in-Union.terms c.as_slice.result.now c.terms_continue.result c.in-Union.is c.as_slice.ensures c.terms_continue.ensures

pub returns-in_default : goal.returns-in_default
returns-in_default c = no_union c.args.of.now c.in_default.not-Union
