use Rattle.std.proofs.Common.{◌+◌, Some, Err}
use Rattle.ui_tree.specs.declared.part.Placed.{Placed}
use Rattle.ui_parse.specs.Reader.{expect_name}
use Rattle.ui_parse.proofs.ListLaws.{reads_then, reads_fault}
use Rattle.ui_syntax.specs.Read.{readers}
use Rattle.ui_syntax.specs.Types.{a_type, maybe_args}
use Rattle.ui_ptype.specs.Seen.{see_type}
use Rattle.ui_ptype.proofs.NamedTypes.{named_low, named_member, named_alone}
use Rattle.ui_ptype.proofs.grammar.Grammar.named_type.Goals as goal

pub returns-then-self-eq0 : goal.returns-then-self-eq0
returns-then-self-eq0 g c = named_low c.args.self.now.room (a_type c.args.self.now.room (readers c.args.self.now.room)) c.args.name c.args.words.now c.maybe_args.result c.maybe_args.new.words c.if-self-eq0.true c.maybe_args.ensures

pub returns-in-None : goal.returns-in-None
returns-in-None g c = named_alone c.args.self.now.room (a_type c.args.self.now.room (readers c.args.self.now.room)) c.args.name c.args.words.now c.maybe_args-in-None.result c.maybe_args-in-None.new.words
    c.take.result c.take.new.self c.if-self-eq0.false c.take.ensures.found c.in-None.is c.take.ensures.left c.maybe_args-in-None.ensures

pub returns-in-Err : goal.returns-in-Err
returns-in-Err g c =
    let room = c.args.self.now.room in
    let type = a_type room (readers room) in
    named_member room type c.args.name c.args.words.now (Err c.in-Err.fault) c.expect_name.new.self c.take.result c.in-Some.field-0 c.take.new.self c.if-self-eq0.false c.take.ensures.found c.in-Some.is c.take.ensures.left
    (reads_fault (λ (n : Placed). n) see_type (expect_name c.take.new.self) (λ m. maybe_args (room + 1) type c.args.name (Some m)) c.in-Err.fault c.expect_name.new.self c.in-Err.ensures)

pub returns-in-Ok : goal.returns-in-Ok
returns-in-Ok g c =
    let room = c.args.self.now.room in
    let type = a_type room (readers room) in
    named_member room type c.args.name c.args.words.now c.maybe_args-in-Some.result c.maybe_args-in-Some.new.words c.take.result c.in-Some.field-0 c.take.new.self c.if-self-eq0.false c.take.ensures.found c.in-Some.is c.take.ensures.left
    (reads_then (λ (n : Placed). n) see_type (expect_name c.take.new.self) (λ m. maybe_args (room + 1) type c.args.name (Some m)) c.in-Ok.member c.expect_name.new.self c.maybe_args-in-Some.result c.maybe_args-in-Some.new.words
    c.in-Ok.ensures c.maybe_args-in-Some.ensures)
