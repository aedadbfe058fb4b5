use Rattle.std.proofs.Common.{◌≡◌, drop}
use Rattle.ui_types.specs.Decls.{find_package}
use Rattle.ui_types.proofs.list_env.find_name.Given as goal

abbrev pub invariant-loop-found : goal.invariant-loop-found
invariant-loop-found l = find_package l.packages l.path ≡ find_package (drop l.found-index l.packages) l.path
