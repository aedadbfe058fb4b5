use Rattle.std.proofs.Common.{◌≡◌, drop}
use Rattle.ui_types.specs.Decls.{shown_methods}
use Rattle.ui_sets.specs.Sites.{find_method}
use Rattle.ui_sets.proofs.members.find_method.Given as goal

abbrev pub invariant-loop-method : goal.invariant-loop-method
invariant-loop-method l = find_method (shown_methods l.table (drop l.method-index l.methods)) l.name
    ≡ find_method (shown_methods l.table l.methods) l.name
