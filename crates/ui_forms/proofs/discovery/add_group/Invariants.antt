use Rattle.std.proofs.Common.{◌≡◌, map, drop}
use Rattle.ui_forms.specs.Form.{set_with}
use Rattle.ui_forms.proofs.discovery.add_group.Given as goal

abbrev pub invariant-loop-import : goal.invariant-loop-import
invariant-loop-import l = set_with l.paths (map (λ i. i.path.text) (drop l.import-index l.group)) ≡ set_with l.initial.paths (map (λ i. i.path.text) l.group)
