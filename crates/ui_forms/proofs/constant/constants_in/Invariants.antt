use Rattle.std.proofs.Common.{◌≡◌, map, drop}
use Rattle.ui_tree.specs.StmtView.{decl_view}
use Rattle.ui_forms.specs.Form.{constants_of}
use Rattle.ui_forms.specs.Numbers.{has}
use Rattle.ui_forms.specs.Sums.{nothing}
use Rattle.ui_base.proofs.StepLemmas.{behind}
use Rattle.ui_forms.proofs.constant.constants_in.Given as goal

abbrev pub invariant-loop-decl : goal.invariant-loop-decl
invariant-loop-decl l = behind l.constants (constants_of (has l.imports) (has l.own) (map decl_view (drop l.decl-index l.decls))) ≡ constants_of (has l.imports) nothing (map decl_view l.decls)
