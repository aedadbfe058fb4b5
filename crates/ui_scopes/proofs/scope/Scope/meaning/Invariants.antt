use Rattle.std.proofs.Common.{◌≡◌, drop, option_map}
use Rattle.ui_scopes.specs.Scopes.{find_meaning, or_else}
use Rattle.ui_scopes.proofs.scope.Scope.meaning.Given as goal

abbrev pub invariant-loop-level : goal.invariant-loop-level
invariant-loop-level l = or_else (find_meaning (drop l.level-index l.self.levels) l.name) (option_map (λ m. m.now) l.found) ≡ find_meaning l.self.levels l.name
