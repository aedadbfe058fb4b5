use Rattle.ui_order.specs.FoundLaws.{IsFound-begun, IsFound-with_imports, reads_one_more, closes_at_end}
use Rattle.ui_order.proofs.laws.discovery_keeps.Goals as goal

pub returns-clause-begins : goal.returns-clause-begins
returns-clause-begins c = IsFound-begun

pub returns-clause-keeps : goal.returns-clause-keeps
returns-clause-keeps c = IsFound-with_imports

pub returns-clause-reads : goal.returns-clause-reads
returns-clause-reads c = reads_one_more

pub returns-clause-closes : goal.returns-clause-closes
returns-clause-closes c = closes_at_end
