use Rattle.std.proofs.Common.{◌≡◌, ℕ, suc, Ok, Err, refl, ap, ◌∙◌}
use Rattle.ui_base.specs.declared.value.Spot.{Spot}
use Rattle.ui_scan.specs.declared.kind.TokenKind.TheVariants.{Semi, LBrace, RBrace}
use Rattle.ui_tree.specs.Tree.{TypeTree, interface}
use Rattle.ui_tree.specs.View.{type_view, types}
use Rattle.ui_tree.specs.declared.expr.TypeExpr.{TypeExpr}
use Rattle.ui_ptype.specs.declared.sub.TypeSub.{TypeSub}
use Rattle.ui_ptype.specs.declared.sub.TypeSubs.{TypeSubs}
use Rattle.ui_parse.specs.Reader.{Reader, and_then, pure, expect, parts}
use Rattle.ui_parse.proofs.ListLaws.{reads_then, reads_fault}
use Rattle.ui_syntax.specs.Cover.{Read}
use Rattle.ui_syntax.specs.Read.{readers}
use Rattle.ui_syntax.specs.Types.{Nested, Listed, of_type, one_more, an_element, any_end, empty, interface_type}
use Rattle.ui_ptype.specs.Seen.{see_type, see_types}
use Rattle.ui_ptype.proofs.grammar.Grammar.interface_type.Goals as goal

abbrev elements : ℕ → Nested → Reader (Listed TypeTree)
elements room inner = parts Semi RBrace any_end (one_more (an_element room inner)) empty

abbrev made : Spot → Listed TypeTree → Reader (Read TypeTree)
made s us = pure (of_type (interface s (types us.items)) s (suc us.depth))

is_made : (x : TypeSub) (t : TypeExpr) (s : Spot) (d : ℕ) (l : TypeSubs) → see_type x ≡ of_type (type_view t) s (suc d) → type_view t ≡ interface s (types (see_types l).items) → d ≡ (see_types l).depth
    → see_type x ≡ of_type (interface s (types (see_types l).items)) s (suc (see_types l).depth)
is_made x t s d l seen viewed deep = seen ∙ ap (λ (t : TypeTree). of_type t s (suc d)) viewed ∙ ap (λ (n : ℕ). of_type (interface s (types (see_types l).items)) s (suc n)) deep

pub returns-in-Err : goal.returns-in-Err
unfolding interface_type
returns-in-Err g c =
    let room = c.args.self.now.room in
    let list = elements room (readers room) in
    reads_then (λ (s : Spot). s) see_type (expect LBrace c.args.words.now) (λ _ u. and_then (list u) (made c.args.spot)) c.in_ok-expect.field-0 c.expect.new.self (Err c.in-Err.fault) c.element_list.new.words c.in_ok-expect.ensures
    (reads_fault see_types see_type (list c.expect.new.self) (made c.args.spot) c.in-Err.fault c.element_list.new.words c.in-Err.ensures)

pub returns-in-Ok-type_over : goal.returns-in-Ok-type_over
unfolding interface_type
returns-in-Ok-type_over g c =
    let room = c.args.self.now.room in
    let list = elements room (readers room) in
    reads_then (λ (s : Spot). s) see_type (expect LBrace c.args.words.now) (λ _ u. and_then (list u) (made c.args.spot)) c.in_ok-expect.field-0 c.expect.new.self (Ok c.in-Ok-type_over.of) c.element_list.new.words c.in_ok-expect.ensures
    (reads_then see_types see_type (list c.expect.new.self) (made c.args.spot) c.in-Ok.elems c.element_list.new.words (Ok c.in-Ok-type_over.of) c.element_list.new.words c.in-Ok.ensures (is_made c.in-Ok-type_over.of c.interface.result c.args.spot c.in-Ok.elems.depth c.in-Ok.elems c.in-Ok-type_over.ensures c.interface.ensures refl, refl))
