use Rattle.std.proofs.Common.{arith}
use Rattle.ui_consts.proofs.WriteLemmas.{holds_is, short_file}
use Rattle.ui_consts.proofs.write.write_linked.Goals as goal

pub returns-clause-holds : goal.returns-clause-holds
returns-clause-holds c = holds_is _ c.in_ok-out.out c.in_ok-x.x c.args.linked.now c.in_ok-file.ensures c.in_ok-out.ensures.spelled c.in_ok-x.ensures

pub returns-clause-bound : goal.returns-clause-bound
returns-clause-bound c = let k = c.in_ok-file.file.ok in let l = short_file _ c.in_ok-out.out c.in_ok-file.ensures c.in_ok-out.ensures.room in omega arith
