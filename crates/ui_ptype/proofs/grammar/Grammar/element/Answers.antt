use Rattle.std.proofs.Common.{None, Ok, Err}
use Rattle.ui_parse.proofs.ListLaws.{reads_then, reads_fault}
use Rattle.ui_syntax.specs.Read.{readers}
use Rattle.ui_syntax.specs.Types.{other_type, maybe_union}
use Rattle.ui_ptype.specs.Seen.{see_maybe}
use Rattle.ui_ptype.proofs.ElementReads.{element_named, element_other, union_some, union_none}
use Rattle.ui_ptype.proofs.grammar.Grammar.element.Goals as goal

pub returns-in-Ok-Some : goal.returns-in-Ok-Some
returns-in-Ok-Some g c =
    let room = c.args.self.now.room in
    element_named room (readers room) c.args.words.now c.take_name.new.self c.named_element.result c.named_element.new.words c.in-Ok-Some.field-0 c.in-Ok-Some.name c.in-Ok-Some.ensures.found c.in-Ok-Some.field-0-is c.in-Ok-Some.ensures.left c.named_element.ensures

pub returns-in-Err-other_type : goal.returns-in-Err-other_type
returns-in-Err-other_type g c =
    let room = c.args.self.now.room in
    let inner = readers room in
    let e = c.in-Err-other_type.fault in
    element_other room inner c.args.words.now c.take_name.new.self (Err e) c.other_type.new.words c.in-Ok-None.field-0 c.take.result c.take.new.self c.in-Ok-None.ensures.found c.in-Ok-None.field-0-is c.in-Ok-None.ensures.left
    c.take.ensures.found c.in_default.is c.take.ensures.left
    (reads_fault see_maybe see_maybe (other_type room inner c.take.new.self) (maybe_union room inner) e c.other_type.new.words c.in-Err-other_type.ensures)

pub returns-in-Ok-Some-other_type : goal.returns-in-Ok-Some-other_type
returns-in-Ok-Some-other_type g c =
    let room = c.args.self.now.room in
    let inner = readers room in
    let r = c.union_from-in-Ok-Some-other_type.result in
    let left = c.union_from-in-Ok-Some-other_type.new.words in
    element_other room inner c.args.words.now c.take_name.new.self r left c.in-Ok-None.field-0 c.take.result c.take.new.self c.in-Ok-None.ensures.found c.in-Ok-None.field-0-is c.in-Ok-None.ensures.left
    c.take.ensures.found c.in_default.is c.take.ensures.left
    (reads_then see_maybe see_maybe (other_type room inner c.take.new.self) (maybe_union room inner) c.in-Ok-Some-other_type.field-0 c.other_type.new.words r left c.in-Ok-Some-other_type.ensures
    (union_some room inner c.in-Ok-Some-other_type.field-0 c.in-Ok-Some-other_type.first c.other_type.new.words r left c.in-Ok-Some-other_type.field-0-is c.union_from-in-Ok-Some-other_type.ensures))

pub returns-in-Ok-None-other_type : goal.returns-in-Ok-None-other_type
returns-in-Ok-None-other_type g c =
    let room = c.args.self.now.room in
    let inner = readers room in
    element_other room inner c.args.words.now c.take_name.new.self (Ok None) c.other_type.new.words c.in-Ok-None.field-0 c.take.result c.take.new.self c.in-Ok-None.ensures.found c.in-Ok-None.field-0-is c.in-Ok-None.ensures.left
    c.take.ensures.found c.in_default.is c.take.ensures.left
    (reads_then see_maybe see_maybe (other_type room inner c.take.new.self) (maybe_union room inner) c.in-Ok-None-other_type.field-0 c.other_type.new.words (Ok None) c.other_type.new.words c.in-Ok-None-other_type.ensures
    (union_none room inner c.in-Ok-None-other_type.field-0 c.other_type.new.words c.in-Ok-None-other_type.field-0-is))
