use Rattle.ui_frame.specs.declared.section.Section.TheVariants.{Str}
use Rattle.ui_consts.proofs.WriteLemmas.{Begun}
use Rattle.ui_consts.proofs.write.add_strings.Given as goal

abbrev pub invariant-loop-text : goal.invariant-loop-text
invariant-loop-text l = Begun Str (λ text. text) l.strings l.text-index l.initial.out l.out
