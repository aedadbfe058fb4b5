use Rattle.std.proofs.Common.{◌≡◌, ◌≤◌, take}
use Rattle.ui_file.specs.Rules as rules
use Rattle.ui_type_rules.proofs.limit_rule.all_beside.Given as goal

abbrev pub invariant-loop-part : goal.invariant-loop-part
invariant-loop-part l = record {
  size : l.size ≡ (rules.all_beside l.done (take l.part-index l.parts)).size;
  depth : l.depth ≡ (rules.all_beside l.done (take l.part-index l.parts)).depth;
  small : l.size ≤ 65536;
  shallow : l.depth ≤ 256;
}
