use Rattle.std.proofs.Common.{rules}
use Rattle.ui_types.proofs.PartLemmas.{with_types-same}
use Rattle.ui_types.proofs.part.copy_parts.Goals as goal

pub returns : goal.returns
returns g c = let same = with_types-same g.P.Part.with_type g.P.Part.type_of g.met.P.Part.keeps c.args.parts.now in search rules
