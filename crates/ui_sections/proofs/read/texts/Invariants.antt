use Rattle.std.proofs.Common.{◌≡◌, take}
use Rattle.ui_frame.specs.Container.{section}
use Rattle.ui_frame.specs.declared.section.Section.TheVariants.{Str}
use Rattle.ui_sections.proofs.read.texts.Given as goal

abbrev pub invariant-texts : goal.invariant-texts
invariant-texts l = l.texts.items ≡ take l.k (section Str l.frame)
