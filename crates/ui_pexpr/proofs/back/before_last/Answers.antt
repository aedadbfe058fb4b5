use Rattle.std.proofs.Common.{◌-◌, length, take}
use Rattle.ui_pexpr.proofs.BackWords.{last_of, tail_back}
use Rattle.ui_pexpr.proofs.back.before_last.Goals as goal

pub returns-in-len1-up-clause-words : goal.returns-in-len1-up-clause-words
returns-in-len1-up-clause-words c = λ bytes.
    let ts = c.args.front.now in
    let l = last_of ts c.in-len1-up.len_at_least in
    tail_back bytes ts (take (length ts - 1) ts) l.token l.is
