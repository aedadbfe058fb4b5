use Rattle.std.proofs.Common.{None, Ok, Err, refl, sym, ap, ◌∙◌}
use Rattle.ui_parse.specs.Reader.{pure}
use Rattle.ui_parse.proofs.ListLaws.{reads_then, reads_fault}
use Rattle.ui_syntax.specs.Read.{readers}
use Rattle.ui_syntax.specs.Types.{only, args_behind, a_lower_type, add_type, named_with}
use Rattle.ui_ptype.specs.Seen.{see, see_type, see_types, see_params}
use Rattle.ui_ptype.proofs.EntryReads.{behind_comma}
use Rattle.ui_ptype.proofs.grammar.Grammar.behind_cover.Goals as goal

pub returns-in-Err-args_behind : goal.returns-in-Err-args_behind
returns-in-Err-args_behind g c =
    let room = c.args.self.now.room in
    let first = c.in-Ok.first in
    behind_comma room (readers room) (see_params c.args.params) c.args.name c.args.spot (see c.args.cover) c.args.words.now c.take.new.self c.take.new.self (Err c.in-Err-args_behind.fault) c.args_behind.new.words first c.take.result
    c.take.ensures.found (sym c.is_some.ensures ∙ c.if-is_some.true) c.take.ensures.left c.in-Ok.ensures
    (reads_fault see_types see_params (args_behind (a_lower_type room (readers room)) (only (see_type first).tree first.depth) c.take.new.self) (λ us. pure (add_type (see_params c.args.params) (named_with c.args.name None us))) c.in-Err-args_behind.fault c.args_behind.new.words c.in-Err-args_behind.ensures)

pub returns-in-Ok-add_type : goal.returns-in-Ok-add_type
returns-in-Ok-add_type g c =
    let room = c.args.self.now.room in
    let first = c.in-Ok.first in
    behind_comma room (readers room) (see_params c.args.params) c.args.name c.args.spot (see c.args.cover) c.args.words.now c.take.new.self c.take.new.self (Ok c.in-Ok-add_type.params) c.args_behind.new.words first c.take.result
    c.take.ensures.found (sym c.is_some.ensures ∙ c.if-is_some.true) c.take.ensures.left c.in-Ok.ensures
    (reads_then see_types see_params (args_behind (a_lower_type room (readers room)) (only (see_type first).tree first.depth) c.take.new.self) (λ us. pure (add_type (see_params c.args.params) (named_with c.args.name None us))) c.in-Ok-args_behind.args c.args_behind.new.words (Ok c.in-Ok-add_type.params) c.args_behind.new.words c.in-Ok-args_behind.ensures
    (c.in-Ok-add_type.ensures ∙ ap (add_type (see_params c.args.params)) c.in-Ok-with_args.ensures, refl))
