use Rattle.std.proofs.Common.{◌≡◌, map}
use Rattle.std.specs.Map.Iter.{deref_pair}
use Rattle.ui_exports.specs.Linked.{belows}
use Rattle.ui_below.specs.Holding.{entry_of}
use Rattle.ui_below.specs.Join.{below_in}
use Rattle.ui_below.proofs.lists.list_of.Given as goal

abbrev pub invariant-loop-path : goal.invariant-loop-path
invariant-loop-path l = belows l.list ≡ map below_in (map (λ p. entry_of (deref_pair p)) l.yielded)
