use Rattle.std.proofs.Common.{◌≡◌, ◌-◌, List, length, Ok, Err, subst, arith}
use Rattle.ui_grammar.specs.Word.{Word}
use Rattle.ui_parse.specs.View.{Reads}
use Rattle.ui_parse.specs.declared.fault.ParseError.TheVariants.{Fault}
use Rattle.ui_stmts.specs.Decls.{whole_file}
use Rattle.ui_pdecl.specs.Seen.{see_file}
use Rattle.ui_pdecl.proofs.Readings.{result_ok, result_fault}
use Rattle.ui_pdecl.proofs.api.parse_file.Goals as goal

pub returns-in-Ok-clause-parsed : goal.returns-in-Ok-clause-parsed
returns-in-Ok-clause-parsed c = result_ok c.args.own.now c.args.bytes.now c.args.tokens.now c.whole_file.new.words c.in-Ok.body c.with_paths.result
    (subst (λ (v : List Word). Reads see_file (whole_file 199 v) (Ok c.in-Ok.body) c.whole_file.new.words) c.new-words.ensures c.in-Ok.ensures) c.with_paths.ensures.parsed

pub returns-in-Err-Fault-clause-parsed : goal.returns-in-Err-Fault-clause-parsed
returns-in-Err-Fault-clause-parsed c =
    let left = c.whole_file.new.words in
    let long : c.saturating_sub-count.result ≡ length c.args.tokens.now - length left = omega (arith, c.left.ensures) in
    result_fault c.args.own.now c.args.bytes.now c.args.tokens.now left c.saturating_sub-count.result c.file_fault.result
    (subst (λ (v : List Word). Reads see_file (whole_file 199 v) (Err Fault) left) c.new-words.ensures (rw c.in-Err-Fault.field-0-is at c.in-Err-Fault.ensures)) long c.file_fault.ensures
