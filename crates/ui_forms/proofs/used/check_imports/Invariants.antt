use Rattle.std.proofs.Common.{◌≡◌, drop}
use Rattle.ui_forms.specs.Verdict.{all_used}
use Rattle.ui_forms.proofs.used.check_imports.Given as goal

abbrev pub invariant-loop-part : goal.invariant-loop-part
invariant-loop-part l = all_used (drop l.part-index l.parts) ≡ all_used l.parts
