use Rattle.std.proofs.Common.{suc, Some, Ok, Err, refl}
use Rattle.ui_tree.specs.declared.part.Placed.{Placed}
use Rattle.ui_tree.specs.Tree.{TypeTree}
use Rattle.ui_parse.specs.Reader.{named as a_name}
use Rattle.ui_parse.proofs.ListLaws.{reads_then, reads_fault}
use Rattle.ui_syntax.specs.Cover.{Read}
use Rattle.ui_syntax.specs.Read.{readers}
use Rattle.ui_syntax.specs.Types.{a_type, named_type, opened, some, other_type, plain_type}
use Rattle.ui_ptype.specs.Branches.{reads_took}
use Rattle.ui_ptype.specs.Seen.{see_type, see_maybe}
use Rattle.ui_ptype.proofs.grammar.Grammar.plain_type.Goals as goal

pub returns-in-Err-named_type : goal.returns-in-Err-named_type
unfolding plain_type
returns-in-Err-named_type g c =
    let room = c.args.self.now.room in
    let inner = readers room in
    let e = c.in-Err-named_type.fault in
    reads_took see_maybe (Err e) c.named_type.new.words a_name (λ (n : Placed). opened room inner (named_type (suc room) (a_type room inner) n)) (other_type room inner) c.in-Ok-Some.field-0 c.in-Ok-Some.name c.args.words.now c.take_name.new.self
    c.in-Ok-Some.ensures.found c.in-Ok-Some.field-0-is c.in-Ok-Some.ensures.left
    (reads_fault see_type see_maybe (named_type (suc room) (a_type room inner) c.in-Ok-Some.name c.take_name.new.self) (some {A = Read TypeTree}) e c.named_type.new.words c.in-Err-named_type.ensures)

pub returns-in-Ok : goal.returns-in-Ok
unfolding plain_type
returns-in-Ok g c =
    let room = c.args.self.now.room in
    let inner = readers room in
    let t = c.in-Ok.of in
    reads_took see_maybe (Ok (Some t)) c.named_type.new.words a_name (λ (n : Placed). opened room inner (named_type (suc room) (a_type room inner) n)) (other_type room inner) c.in-Ok-Some.field-0 c.in-Ok-Some.name c.args.words.now c.take_name.new.self
    c.in-Ok-Some.ensures.found c.in-Ok-Some.field-0-is c.in-Ok-Some.ensures.left
    (reads_then see_type see_maybe (named_type (suc room) (a_type room inner) c.in-Ok-Some.name c.take_name.new.self) (some {A = Read TypeTree}) t c.named_type.new.words (Ok (Some t)) c.named_type.new.words c.in-Ok.ensures (refl, refl))
