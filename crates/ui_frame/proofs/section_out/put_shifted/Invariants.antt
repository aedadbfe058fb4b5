use Rattle.std.proofs.Common.{◌≡◌, ◌+◌, ◌++◌, map, drop}
use Rattle.ui_frame.specs.Container.{words}
use Rattle.ui_frame.proofs.section_out.put_shifted.Given as goal

abbrev pub invariant-loop-end : goal.invariant-loop-end
invariant-loop-end l = l.out.items ++ words (map (λ n. l.start + n) (drop l.end-index l.ends)) ≡ l.initial.out.items ++ words (map (λ n. l.start + n) l.ends)
