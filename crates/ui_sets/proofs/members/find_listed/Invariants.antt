use Rattle.std.proofs.Common.{◌≡◌, drop, map}
use Rattle.ui_types.specs.Table.{parts_by}
use Rattle.ui_sets.specs.Sites.{find_listed}
use Rattle.ui_sets.proofs.members.find_listed.Given as goal

abbrev pub invariant-loop-method : goal.invariant-loop-method
invariant-loop-method l =
    find_listed (map (λ m. m.name) (drop l.method-index l.methods))
    (parts_by (λ m. m.sig) l.table (drop l.method-index l.methods)) l.name
    ≡ find_listed (map (λ m. m.name) l.methods) (parts_by (λ m. m.sig) l.table l.methods) l.name
