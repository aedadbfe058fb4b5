use Rattle.ui_frame.specs.declared.section.Section.TheVariants.{Name}
use Rattle.ui_strpos.specs.Elements.{name}
use Rattle.ui_consts.specs.Elements.{name_of, spelled_as}
use Rattle.ui_consts.specs.Numbering.{entry}
use Rattle.ui_consts.proofs.WriteLemmas.{Begun}
use Rattle.ui_consts.proofs.write.add_names.Given as goal

abbrev pub invariant-loop-entry : goal.invariant-loop-entry
invariant-loop-entry l = Begun Name (λ e. spelled_as name (name_of (entry e))) l.entries l.entry-index l.initial.out l.out
