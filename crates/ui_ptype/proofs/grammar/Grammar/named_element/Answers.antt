use Rattle.std.proofs.Common.{suc, Err, sym, ◌∙◌}
use Rattle.ui_scan.specs.declared.kind.TokenKind.TheVariants.{LParen}
use Rattle.ui_base.specs.declared.value.Spot.{Spot}
use Rattle.ui_parse.specs.Reader.{and_then, marked}
use Rattle.ui_parse.proofs.ListLaws.{reads_then, reads_fault}
use Rattle.ui_syntax.specs.Read.{readers}
use Rattle.ui_syntax.specs.Types.{a_type, named_type, opened, signature, method_of, union_from}
use Rattle.ui_ptype.specs.Branches.{reads_if_missed}
use Rattle.ui_ptype.specs.Seen.{see_type, see_maybe}
use Rattle.ui_ptype.proofs.grammar.Grammar.named_element.Goals as goal

pub returns-in-Err-named_type : goal.returns-in-Err-named_type
returns-in-Err-named_type g c =
    let room = c.args.self.now.room in
    let inner = readers room in
    let type = named_type (suc room) (a_type room inner) c.args.name in
    let e = c.in-Err-named_type.fault in
    reads_if_missed see_maybe (Err e) c.named_type.new.words (marked LParen) (λ (_ : Spot). opened room inner (signature room inner (method_of room inner c.args.name))) (λ u. and_then (type u) (union_from room inner)) c.take.result c.args.words.now c.take.new.self
    c.take.ensures.found (sym c.is_some.ensures ∙ c.if-is_some.false) c.take.ensures.left
    (reads_fault see_type see_maybe (type c.take.new.self) (union_from room inner) e c.named_type.new.words c.in-Err-named_type.ensures)

pub returns : goal.returns
returns g c =
    let room = c.args.self.now.room in
    let inner = readers room in
    let type = named_type (suc room) (a_type room inner) c.args.name in
    reads_if_missed see_maybe c.union_from.result c.union_from.new.words (marked LParen) (λ (_ : Spot). opened room inner (signature room inner (method_of room inner c.args.name))) (λ u. and_then (type u) (union_from room inner)) c.take.result c.args.words.now c.take.new.self
    c.take.ensures.found (sym c.is_some.ensures ∙ c.if-is_some.false) c.take.ensures.left
    (reads_then see_type see_maybe (type c.take.new.self) (union_from room inner) c.in-Ok-named_type.first c.named_type.new.words c.union_from.result c.union_from.new.words c.in-Ok-named_type.ensures c.union_from.ensures)
