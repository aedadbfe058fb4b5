use Rattle.std.proofs.Common.{arith}
use Rattle.ui_frame.proofs.Containers.{first_failing-counts, first_failing-length, first_failing-short, Passes-container, Tables-container}
use Rattle.ui_frame.proofs.frame.cut_short.Goals as goal

pub returns-clause-short : goal.returns-clause-short
returns-clause-short c bytes parts n is h = first_failing-short bytes n h

pub returns-clause-counts : goal.returns-clause-counts
returns-clause-counts c bytes parts n is long h =
    let total = (Tables-container bytes parts is).total_is in
    first_failing-counts bytes n (Passes-container bytes parts is) long (omega arith)

pub returns-clause-length : goal.returns-clause-length
returns-clause-length c bytes parts n is room h =
    let total = (Tables-container bytes parts is).total_is in
    first_failing-length bytes n (Passes-container bytes parts is) (omega arith) h
