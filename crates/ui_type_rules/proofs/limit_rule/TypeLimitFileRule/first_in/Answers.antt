use Rattle.ui_file_rules.proofs.Free.{free_limit}
use Rattle.ui_type_rules.proofs.Extents.{limit_at}
use Rattle.ui_type_rules.proofs.limit_rule.TypeLimitFileRule.first_in.Goals as goal

pub returns-in-Types : goal.returns-in-Types
returns-in-Types c =
    limit_at c.args.self.now.file.now c.args.s c.items.result.now c.first_past.result
    c.in-Types.is c.items.ensures
    c.first_past.ensures

pub returns-in_default : goal.returns-in_default
returns-in_default c = λ k lt. free_limit c.args.self.now.file.now c.args.s c.in_default.not-Types k
