use Rattle.std.proofs.Common.{◌≡◌, ◌+◌, ◌++◌, map, drop, length}
use Rattle.ui_frame.specs.Container.{ends_of, joined, running, words}
use Rattle.ui_frame.proofs.section_out.put_counts.Given as goal

abbrev pub invariant-loop-section : goal.invariant-loop-section
invariant-loop-section l = record {
  written : l.out.items ++ words (running l.count (map length (drop l.section-index l.sections))) ≡ l.initial.out.items ++ words (ends_of l.sections);
  counted : l.count + length (joined (drop l.section-index l.sections)) ≡ length (joined l.sections);
}
