use Rattle.std.proofs.Common.{Result, Ok, Err, refl, sym, ap, ◌∙◌}
use Rattle.ui_tree.specs.declared.expr.ExprTree.{ExprTree}
use Rattle.ui_tree.specs.View.{view}
use Rattle.ui_syntax.specs.Cover.{only_type, as_type}
use Rattle.ui_syntax.specs.Exprs.{is_some, instance_of, behind_index}
use Rattle.ui_syntax.specs.Read.{readers}
use Rattle.ui_parse.specs.declared.fault.ParseError.{ParseError}
use Rattle.ui_parse.specs.Reader.{pure}
use Rattle.ui_parse.proofs.ListLaws.{reads_then, reads_fault}
use Rattle.ui_syntax.specs.Types.{only, more_args, a_type}
use Rattle.ui_ptype.specs.declared.sub.Sub.{Sub}
use Rattle.ui_ptype.specs.Seen.{see, see_type, see_types}
use Rattle.ui_pread.proofs.Alone.{alone_is, behind_types}
use Rattle.ui_ptype.specs.Taken.{covered_fault}
use Rattle.ui_pread.proofs.exprs.Exprs.behind_index.Goals as goal

pub returns-in-Err : goal.returns-in-Err
returns-in-Err g c =
    let room = c.args.self.now.types.room in
    let x = see c.args.at in
    let some = sym (c.is_type_alone.ensures ∙ ap (λ (e : ExprTree). is_some (only_type (view e))) c.get.ensures) ∙ c.if-not-is_type_alone.false in
    covered_fault see (behind_index room (readers room) (see c.args.of) x (only_type x.tree) c.args.words.now) c.args.words.now x (as_type x.tree) c.args.words.now c.args.words.now c.in-Err.fault
    (ap is_some (alone_is x.tree some) ∙ some) c.in-Err.ensures

pub returns-in-Err-more_args : goal.returns-in-Err-more_args
returns-in-Err-more_args g c =
    let room = c.args.self.now.types.room in
    let inner = readers room in
    let x = see c.args.at in
    let first = c.in-Ok.first in
    let e = c.in-Err-more_args.fault in
    let some = sym (c.is_type_alone.ensures ∙ ap (λ (e : ExprTree). is_some (only_type (view e))) c.get.ensures) ∙ c.if-not-is_type_alone.false in
    behind_types room inner (see c.args.of) x first c.args.words.now c.args.words.now (Err e) c.more_args.new.words some c.in-Ok.ensures
    (reads_fault see_types see (more_args (a_type room inner) (only (see_type first).tree first.depth) c.args.words.now) (λ us. pure (instance_of room inner (see c.args.of) us)) e c.more_args.new.words c.in-Err-more_args.ensures)

pub returns-in-Ok-instance_of : goal.returns-in-Ok-instance_of
returns-in-Ok-instance_of g c =
    let room = c.args.self.now.types.room in
    let inner = readers room in
    let x = see c.args.at in
    let first = c.in-Ok.first in
    let r : Result Sub ParseError = Ok c.in-Ok-instance_of.of in
    let some = sym (c.is_type_alone.ensures ∙ ap (λ (e : ExprTree). is_some (only_type (view e))) c.get.ensures) ∙ c.if-not-is_type_alone.false in
    behind_types room inner (see c.args.of) x first c.args.words.now c.args.words.now r c.more_args.new.words some c.in-Ok.ensures
    (reads_then see_types see (more_args (a_type room inner) (only (see_type first).tree first.depth) c.args.words.now) (λ us. pure (instance_of room inner (see c.args.of) us)) c.in-Ok-more_args.args c.more_args.new.words r c.more_args.new.words c.in-Ok-more_args.ensures
    (c.in-Ok-instance_of.ensures, refl))
