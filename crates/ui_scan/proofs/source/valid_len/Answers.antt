use Rattle.std.proofs.Common.{sym, rules}
use Rattle.std.proofs.lemmas.Str.{utf8_valid_len-IsUtf8}
use Rattle.ui_scan.proofs.source.valid_len.Goals as goal

pub returns-in-Ok : goal.returns-in-Ok
returns-in-Ok c =
    let utf8 = c.in-Ok.ensures.cases.1 in
    record { len = sym (utf8_valid_len-IsUtf8 c.args.bytes.now utf8); within = search rules }
