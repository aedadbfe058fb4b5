use Rattle.std.proofs.Common.{◌≡◌, ◌≤◌, ◌+◌, ◌++◌, ◌∙◌, List, sym, ap, subst, arith, rules}
use Rattle.ui_base.specs.declared.name.Name.{Name}
use Rattle.ui_types.specs.declared.part.Field.{Field}
use Rattle.ui_types.specs.Ty.{size, sizes}
use Rattle.ui_types.specs.Table.{tree, parts_by}
use Rattle.ui_held.specs.Held.{held}
use Rattle.ui_held.specs.Walk.{Looks}
use Rattle.ui_held.proofs.Lists.{front, front-more, field_smaller}
use Rattle.ui_held.proofs.Walks.{looked_again, looks_more}
use Rattle.ui_held.proofs.held.+look.Goals as goal

pub look-returns-then-contains : goal.look-returns-then-contains
look-returns-then-contains t c =
    looked_again c.args.table.now c.args.names.now.keys c.args.t c.args.walk.now c.requires.walk
    (sym c.contains.ensures ∙ c.if-contains.true)

pub look_fields-look-requires : goal.look_fields-look-requires
look_fields-look-requires t c =
    let d : Field = c.field-item.result in
    let fs = c.args.fields.now in
    let there = ap (λ (f : Field). tree c.args.table.now f.ty) c.field-item.is in
    let small : size (tree c.args.table.now c.field-item.result.ty)
    ≤ sizes (parts_by (λ (f : Field). f.ty) c.args.table.now fs)
    = rw there (field_smaller c.args.table.now fs c.loop-field.field-index d
    c.loop-field-test.true) in (
      omega (arith, c.decreases, small),
      (
        search (
          rules,
          c.requires.ids,
          c.loop-field-test.true,
          c.field-item.is,
        ),
        c.loop-field.invariant.so_far.walk,
      ),
    )

pub look_fields-loop-field-preserved : goal.look_fields-loop-field-preserved
look_fields-loop-field-preserved t c =
    let table = c.args.table.now in
    let names = c.args.names.now.keys in
    let fs = c.args.fields.now in
    let i = c.loop-field.field-index in
    let d : Field = c.field-item.result in
    let more : front table fs (i + 1) ≡ front table fs i ++ held (tree table d.ty)
    = front-more table fs i d c.loop-field-test.true
    ∙ ap (λ (f : Field). front table fs i ++ held (tree table f.ty)) (sym c.field-item.is) in
    record {
      so_far = subst (λ (ns : List Name). Looks table names ns c.args.walk.now c.look.new.walk)
          (sym more)
          (looks_more table names (front table fs i) (held (tree table d.ty))
          c.args.walk.now c.loop-field.walk c.look.new.walk c.loop-field.invariant.so_far
          c.in_ok-look.ensures);
    }
