use Rattle.std.proofs.Common.{◌≡◌, ◌++◌, take}
use Rattle.std.specs.List.{flat_map}
use Rattle.ui_types.specs.Decls.{shown_params, shown_methods}
use Rattle.ui_show.specs.Decls.{param_names, method_line}
use Rattle.ui_show.proofs.decls.put_method_lines.Given as goal

abbrev pub invariant-loop-method : goal.invariant-loop-method
invariant-loop-method l = l.out.items ≡ l.initial.out.items
    ++ flat_map (method_line (param_names (shown_params l.table l.params)))
    (shown_methods l.table (take l.method-index l.methods))
