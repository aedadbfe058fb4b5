use Rattle.std.proofs.Common.{◌≡◌, ◌++◌, drop}
use Rattle.ui_frame.specs.Container.{joined}
use Rattle.ui_frame.proofs.section_out.put_contents.Given as goal

abbrev pub invariant-loop-section : goal.invariant-loop-section
invariant-loop-section l = l.out.items ++ joined (joined (drop l.section-index l.sections)) ≡ l.initial.out.items ++ joined (joined l.sections)
