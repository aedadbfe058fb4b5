use Rattle.std.proofs.Common.{◌≡◌, map}
use Rattle.std.specs.Prelude.{string_bytes}
use Rattle.std.specs.Map.Iter.{deref_pair}
use Rattle.ui_forms.proofs.NumberLemmas.{text_at}
use Rattle.ui_forms.proofs.discovery.paths_of.Given as goal

abbrev pub invariant-loop-path : goal.invariant-loop-path
invariant-loop-path l = map (λ s. string_bytes s) l.paths.items ≡ map (λ p. text_at (deref_pair p)) l.yielded
