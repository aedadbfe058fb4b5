use Rattle.std.proofs.Common.{Some, Ok, Err, refl}
use Rattle.ui_tree.specs.declared.part.Placed.{Placed}
use Rattle.ui_parse.specs.Reader.{and_then, pure, expect_name}
use Rattle.ui_parse.proofs.ListLaws.{reads_then, reads_fault}
use Rattle.ui_syntax.specs.Read.{readers}
use Rattle.ui_syntax.specs.Types.{a_lower_type, maybe_args, add_type}
use Rattle.ui_ptype.specs.Seen.{see_type, see_params}
use Rattle.ui_ptype.proofs.grammar.Grammar.qualified.Goals as goal

pub returns-in-Err-maybe_args : goal.returns-in-Err-maybe_args
returns-in-Err-maybe_args g c =
    let room = c.args.self.now.room in
    let args = maybe_args room (a_lower_type room (readers room)) c.args.name in
    reads_then (λ (n : Placed). n) see_params (expect_name c.args.words.now) (λ m u. and_then (args (Some m) u) (λ t. pure (add_type (see_params c.args.params) t))) c.in-Ok.member c.expect_name.new.self (Err c.in-Err-maybe_args.fault) c.maybe_args.new.words
    c.in-Ok.ensures
    (reads_fault see_type see_params (args (Some c.in-Ok.member) c.expect_name.new.self) (λ t. pure (add_type (see_params c.args.params) t)) c.in-Err-maybe_args.fault c.maybe_args.new.words c.in-Err-maybe_args.ensures)

pub returns-in-Ok-add_type : goal.returns-in-Ok-add_type
returns-in-Ok-add_type g c =
    let room = c.args.self.now.room in
    let args = maybe_args room (a_lower_type room (readers room)) c.args.name in
    reads_then (λ (n : Placed). n) see_params (expect_name c.args.words.now) (λ m u. and_then (args (Some m) u) (λ t. pure (add_type (see_params c.args.params) t))) c.in-Ok.member c.expect_name.new.self (Ok c.in-Ok-add_type.params) c.maybe_args.new.words c.in-Ok.ensures
    (reads_then see_type see_params (args (Some c.in-Ok.member) c.expect_name.new.self) (λ t. pure (add_type (see_params c.args.params) t)) c.in-Ok-maybe_args.of c.maybe_args.new.words (Ok c.in-Ok-add_type.params) c.maybe_args.new.words c.in-Ok-maybe_args.ensures (c.in-Ok-add_type.ensures, refl))
