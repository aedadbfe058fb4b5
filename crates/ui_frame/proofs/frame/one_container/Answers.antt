use Rattle.std.proofs.Common.{sym, ◌∙◌}
use Rattle.ui_frame.proofs.Containers.{first_failing-none, IsContainer-passed, parts_in-container, Passes-container, Passes-from_none}
use Rattle.ui_frame.proofs.frame.one_container.Goals as goal

pub returns-clause-passes : goal.returns-clause-passes
returns-clause-passes c bytes parts is = first_failing-none bytes (Passes-container bytes parts is)

pub returns-clause-found : goal.returns-clause-found
returns-clause-found c bytes fits passed = IsContainer-passed bytes fits (Passes-from_none bytes passed)

pub returns-clause-one : goal.returns-clause-one
returns-clause-one c bytes parts other is also =
    sym (parts_in-container bytes parts is) ∙ parts_in-container bytes other also
