use Rattle.std.proofs.Common.{Result, Ok, Err, refl, sym, ap, ◌∙◌}
use Rattle.ui_tree.specs.declared.expr.ExprTree.{ExprTree}
use Rattle.ui_tree.specs.View.{view}
use Rattle.ui_syntax.specs.Cover.{as_type}
use Rattle.ui_syntax.specs.Exprs.{is_some, instance_of, instance_behind}
use Rattle.ui_syntax.specs.Read.{readers}
use Rattle.ui_parse.specs.declared.fault.ParseError.{ParseError}
use Rattle.ui_parse.specs.Reader.{pure}
use Rattle.ui_parse.proofs.ListLaws.{reads_then, reads_fault}
use Rattle.ui_syntax.specs.Types.{only, args_behind, a_type}
use Rattle.ui_ptype.specs.declared.sub.Sub.{Sub}
use Rattle.ui_ptype.specs.Seen.{see, see_type, see_types}
use Rattle.ui_pread.proofs.Alone.{behind_comma}
use Rattle.ui_ptype.specs.Taken.{covered_fault}
use Rattle.ui_pread.proofs.exprs.Exprs.instance_behind.Goals as goal

pub returns-in-Err : goal.returns-in-Err
returns-in-Err g c =
    let room = c.args.self.now.types.room in
    covered_fault see (instance_behind room (readers room) (see c.args.of) c.args.at.depth (as_type (see c.args.at).tree) c.args.words.now) c.expect.new.self (see c.args.at) (as_type (see c.args.at).tree) c.expect.new.self c.expect.new.self c.in-Err.fault
    (sym (c.is_type.ensures ∙ ap (λ (e : ExprTree). is_some (as_type (view e))) c.get.ensures) ∙ c.if-not-is_type.false) c.in-Err.ensures

pub returns-in-Err-args_behind : goal.returns-in-Err-args_behind
returns-in-Err-args_behind g c =
    let room = c.args.self.now.types.room in
    let inner = readers room in
    let f = see c.args.of in
    let first = c.in-Ok.first in
    let e = c.in-Err-args_behind.fault in
    behind_comma room inner f (see c.args.at) first c.in_ok-expect.field-0 c.args.words.now c.expect.new.self c.expect.new.self (Err e) c.args_behind.new.words c.in-Ok.ensures c.in_ok-expect.ensures
    (reads_fault see_types see (args_behind (a_type room inner) (only (see_type first).tree first.depth) c.expect.new.self) (λ us. pure (instance_of room inner f us)) e c.args_behind.new.words c.in-Err-args_behind.ensures)

pub returns-in-Ok-instance_of : goal.returns-in-Ok-instance_of
returns-in-Ok-instance_of g c =
    let room = c.args.self.now.types.room in
    let inner = readers room in
    let f = see c.args.of in
    let first = c.in-Ok.first in
    let r : Result Sub ParseError = Ok c.in-Ok-instance_of.of in
    behind_comma room inner f (see c.args.at) first c.in_ok-expect.field-0 c.args.words.now c.expect.new.self c.expect.new.self r c.args_behind.new.words c.in-Ok.ensures c.in_ok-expect.ensures
    (reads_then see_types see (args_behind (a_type room inner) (only (see_type first).tree first.depth) c.expect.new.self) (λ us. pure (instance_of room inner f us)) c.in-Ok-args_behind.args c.args_behind.new.words r c.args_behind.new.words c.in-Ok-args_behind.ensures
    (c.in-Ok-instance_of.ensures, refl))
