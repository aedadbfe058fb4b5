use Rattle.ui_frame.specs.declared.section.Section.TheVariants.{Obj}
use Rattle.ui_eobj.specs.Objects.{constant}
use Rattle.ui_consts.specs.Elements.{object_of, spelled_as}
use Rattle.ui_consts.specs.Numbering.{entry}
use Rattle.ui_consts.proofs.WriteLemmas.{Begun}
use Rattle.ui_consts.proofs.write.add_objects.Given as goal

abbrev pub invariant-loop-entry : goal.invariant-loop-entry
invariant-loop-entry l = Begun Obj (λ e. spelled_as constant (object_of (entry e))) l.entries l.entry-index l.initial.out l.out
