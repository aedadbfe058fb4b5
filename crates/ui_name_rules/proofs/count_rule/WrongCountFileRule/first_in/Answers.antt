use Rattle.std.proofs.Common.{◌≡◌, true, get_or, map, List, sym, ap, subst, ◌∙◌, length, refl}
use Rattle.std.specs.Prelude.{Option}
use Rattle.ui_frame.specs.declared.section.Section.TheVariants.{Meta, Types, Obj}
use Rattle.ui_base.specs.declared.name.Name.{Name}
use Rattle.ui_edecl.specs.declared.object.ObjEl.TheVariants as object_
use Rattle.ui_file.specs.Words.{Words, nameless}
use Rattle.ui_file.specs.Rules.{KeepsCount, count_in, type_counts, object_counts, no_type, all_pairs, name_before}
use Rattle.ui_file_rules.specs.First.{FirstOf}
use Rattle.ui_file_rules.proofs.Free.{at_section, over_list, free_count}
use Rattle.ui_name_rules.proofs.Roots.{roots_ascend, first_of}
use Rattle.ui_name_rules.proofs.count_rule.WrongCountFileRule.first_in.Goals as goal

pub returns-in-Meta : goal.returns-in-Meta
returns-in-Meta c =
    let x = c.args.self.now.file.now in
    let names : c.items.result.now ≡ _ = c.items.ensures
    ∙ ap (λ (w : Words). w.names) c.args.self.now.agree in
    at_section (λ s k. KeepsCount x s k)
    (λ s. count_in x s) c.args.s Meta c.first_or_none.result c.in-Meta.is
    (subst (λ (o : Option _). FirstOf (KeepsCount x Meta) (count_in x Meta) o)
    (sym c.first_or_none.ensures)
    (roots_ascend x c.listed_in_order-ascends.result
    (c.listed_in_order-ascends.ensures
    ∙ (λ i. all_pairs name_before (map (λ u. get_or (names i) u.object nameless)
    (c.items-in-Meta.ensures i))))))

pub returns-in-Types : goal.returns-in-Types
returns-in-Types c =
    let x = c.args.self.now.file.now in
    at_section (λ s k. KeepsCount x s k)
    (λ s. count_in x s) c.args.s Types c.first_not.result c.in-Types.is
    (over_list (λ ts k. type_counts x (get_or x.types k no_type)
    ≡ true) c.items-count.result.now x.types
    (length c.items-count.result.now) c.first_not.result c.items-count.ensures refl
    c.first_not.ensures)

pub returns-in-Obj : goal.returns-in-Obj
returns-in-Obj c =
    let x = c.args.self.now.file.now in
    at_section (λ s k. KeepsCount x s k)
    (λ s. count_in x s) c.args.s Obj c.first_not-in-Obj.result c.in-Obj.is
    (over_list (λ os k. object_counts x (get_or x.objects k object_.Stub)
    ≡ true) c.items-count-in-Obj.result.now
    x.objects (length c.items-count-in-Obj.result.now) c.first_not-in-Obj.result c.items-count-in-Obj.ensures
    refl c.first_not-in-Obj.ensures)

pub returns-in_default : goal.returns-in_default
returns-in_default c = λ k lt.
    free_count c.args.self.now.file.now c.args.s c.in_default.not-Meta c.in_default.not-Types
    c.in_default.not-Obj k
