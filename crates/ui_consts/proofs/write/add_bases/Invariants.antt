use Rattle.ui_frame.specs.declared.section.Section.TheVariants.{PosBase}
use Rattle.ui_strpos.specs.Elements.{posbase}
use Rattle.ui_consts.specs.Elements.{base_of, spelled_as}
use Rattle.ui_consts.proofs.WriteLemmas.{Begun}
use Rattle.ui_consts.proofs.write.add_bases.Given as goal

abbrev pub invariant-loop-file : goal.invariant-loop-file
invariant-loop-file l = Begun PosBase (λ file. spelled_as posbase (base_of file)) l.bases l.file-index l.initial.out l.out
