use Rattle.std.proofs.Common.{◌≡◌, drop}
use Rattle.ui_types.specs.Table.{Table}
use Rattle.ui_types.specs.Decls.{find_decl, shown_decls}
use Rattle.ui_types.proofs.list_env.find.Given as goal

abbrev pub invariant-loop-found : goal.invariant-loop-found
invariant-loop-found l = (table : Table) → find_decl (shown_decls table l.decls) l.name ≡ find_decl (shown_decls table (drop l.found-index l.decls)) l.name
