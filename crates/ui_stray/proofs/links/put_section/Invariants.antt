use Rattle.std.proofs.Common.{◌≡◌, ◌++◌, map}
use Rattle.std.specs.List.{range_with_len}
use Rattle.ui_stray.specs.Links.{links_of}
use Rattle.ui_stray.proofs.links.put_section.Given as goal

abbrev pub invariant-loop-k : goal.invariant-loop-k
invariant-loop-k l = l.links.items
    ≡ l.initial.links.items ++ map (links_of l.starts l.frame l.s) (range_with_len 0 l.k)
