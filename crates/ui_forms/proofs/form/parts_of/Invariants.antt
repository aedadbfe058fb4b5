use Rattle.std.proofs.Common.{◌≡◌, map, drop}
use Rattle.ui_forms.specs.Form.{parts_of, source_of}
use Rattle.ui_base.proofs.StepLemmas.{behind}
use Rattle.ui_forms.proofs.form.parts_of.Given as goal

abbrev pub invariant-loop-file : goal.invariant-loop-file
invariant-loop-file l = behind l.parts (parts_of l.own (map source_of (drop l.file-index l.files))) ≡ parts_of l.own (map source_of l.files)
