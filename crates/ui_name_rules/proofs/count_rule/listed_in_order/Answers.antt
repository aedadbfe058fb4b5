use Rattle.std.proofs.Common.{◌∙◌}
use Rattle.std.specs.Prelude.{get_or}
use Rattle.ui_file.specs.Words.{nameless}
use Rattle.ui_file.specs.Rules.{name_before}
use Rattle.ui_name_rules.proofs.Pairs.{pairs_map}
use Rattle.ui_name_rules.proofs.count_rule.listed_in_order.Goals as goal

pub returns : goal.returns
returns c =
    c.are_in_order.ensures
    ∙ pairs_map name_before (λ u. get_or c.args.names.now u.object nameless) c.args.objects.now
