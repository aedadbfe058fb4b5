use Rattle.std.proofs.Common.{ap, length, arith}
use Rattle.ui_consts.proofs.NumberingLemmas.{magnitude_short, value_is}
use Rattle.ui_consts.proofs.numbered.value_of.Goals as goal

pub place_of-requires-clause-short : goal.place_of-requires-clause-short
place_of-requires-clause-short c = omega (arith, ap length c.deref.ensures.value, magnitude_short c.in_ok-bytes.bytes.items c.args.value c.in_ok-bytes.ensures.number c.in_ok-bytes.ensures.shortest c.requires.small)

pub returns-clause-value : goal.returns-clause-value
returns-clause-value c = value_is c.in_ok-bytes.bytes.items c.deref.result.now c.args.value c.in_ok-magnitude.magnitude _ c.deref.ensures.value c.in_ok-bytes.ensures.number c.in_ok-bytes.ensures.shortest (omega arith) c.requires.small c.in_ok-magnitude.ensures.place

pub returns-clause-used : goal.returns-clause-used
returns-clause-used c = c.in_ok-magnitude.ensures.used
