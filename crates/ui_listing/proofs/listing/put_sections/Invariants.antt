use Rattle.std.proofs.Common.{◌≡◌, ◌++◌, take}
use Rattle.std.specs.List.{flat_map}
use Rattle.ui_listing.specs.Listing.{section_lines}
use Rattle.ui_listing.proofs.listing.put_sections.Given as goal

abbrev pub invariant-loop-s : goal.invariant-loop-s
invariant-loop-s l = l.out.items ≡ l.initial.out.items ++ flat_map (section_lines l.frame) (take l.s-index l.list)
