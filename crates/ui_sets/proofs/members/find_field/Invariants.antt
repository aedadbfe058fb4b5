use Rattle.std.proofs.Common.{◌≡◌, drop, map}
use Rattle.ui_types.specs.Table.{parts_by}
use Rattle.ui_sets.specs.Sites.{find_field}
use Rattle.ui_sets.proofs.members.find_field.Given as goal

abbrev pub invariant-loop-k : goal.invariant-loop-k
invariant-loop-k l =
    find_field l.k (map (λ f. f.name) (drop l.k l.fields))
    (parts_by (λ f. f.ty) l.table (drop l.k l.fields)) l.name l.through
    ≡ find_field 0 (map (λ f. f.name) l.fields) (parts_by (λ f. f.ty) l.table l.fields) l.name
    l.through
