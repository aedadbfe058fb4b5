use Rattle.std.proofs.Common.{◌≡◌, ◌++◌, take}
use Rattle.ui_frame.specs.Container.{section}
use Rattle.ui_listing.specs.Listing.{lines_from}
use Rattle.ui_listing.proofs.listing.put_elements.Given as goal

abbrev pub invariant-loop-k : goal.invariant-loop-k
invariant-loop-k l = l.out.items ≡ l.initial.out.items ++ lines_from 0 (take l.k (section l.s l.frame))
