use Rattle.std.proofs.Common.{◌≡◌, drop}
use Rattle.ui_forms.specs.Form.{are_apart, segments}
use Rattle.ui_forms.specs.Numbers.{has}
use Rattle.ui_forms.proofs.NameLemmas.{apart_from}
use Rattle.ui_forms.proofs.names.are_apart.Given as goal

abbrev pub invariant-loop-import : goal.invariant-loop-import
invariant-loop-import l = apart_from (has l.before) (has l.names) (segments (drop l.import-index l.imports)) ≡ are_apart (has l.names) (segments l.imports)
