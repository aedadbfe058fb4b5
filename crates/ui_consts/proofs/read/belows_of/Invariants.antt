use Rattle.std.proofs.Common.{◌≡◌, map, take}
use Rattle.ui_frame.specs.Container.{section}
use Rattle.ui_frame.specs.declared.section.Section.TheVariants.{Str}
use Rattle.ui_exports.specs.Linked.{belows}
use Rattle.ui_consts.specs.Record.{below_by}
use Rattle.ui_consts.proofs.read.belows_of.Given as goal

abbrev pub invariant-loop-entry : goal.invariant-loop-entry
invariant-loop-entry l = belows l.belows ≡ map (below_by (section Str l.frame)) (take l.entry-index l.entries)
