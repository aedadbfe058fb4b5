use Rattle.std.proofs.Common.{ℕ, List, subst}
use Rattle.ui_base.specs.declared.name.Name as name_
use Rattle.ui_etype.specs.declared.types.TypeEl.{TypeEl}
use Rattle.ui_file.specs.Words.{said}
use Rattle.ui_file_rules.proofs.TwiceSteps.{Again, texts-again, types-again, bases-again, paths-again, names-again}
use Rattle.ui_file_rules.proofs.TypesEqual.{types-decide}
use Rattle.ui_file_rules.proofs.twice_rule.TwiceFileRule.first_in.Goals as goal

pub first_again-requires-in-Types : goal.first_again-requires-in-Types
first_again-requires-in-Types c = λ a b. types-decide a b

pub returns-in-Str : goal.returns-in-Str
returns-in-Str c = texts-again c.args.self.now.file.now c.args.s c.first_again.result c.in-Str.is
    (subst (λ (xs : List (List ℕ)). Again xs c.first_again.result) c.items.ensures
    c.first_again.ensures)

pub returns-in-PosBase : goal.returns-in-PosBase
returns-in-PosBase c =
    bases-again c.args.self.now.file.now c.args.s c.first_again-in-PosBase.result
    (said c.args.self.now.known.now) c.args.self.now.agree c.in-PosBase.is
    (subst (λ (xs : List (List ℕ)). Again xs c.first_again-in-PosBase.result)
    c.items-in-PosBase.ensures c.first_again-in-PosBase.ensures)

pub returns-in-Pkg : goal.returns-in-Pkg
returns-in-Pkg c =
    paths-again c.args.self.now.file.now c.args.s c.first_again-in-Pkg.result
    (said c.args.self.now.known.now) c.args.self.now.agree c.in-Pkg.is
    (subst (λ (xs : List (List ℕ)). Again xs c.first_again-in-Pkg.result) c.items-in-Pkg.ensures
    c.first_again-in-Pkg.ensures)

pub returns-in-Name : goal.returns-in-Name
returns-in-Name c =
    names-again c.args.self.now.file.now c.args.s c.first_again-in-Name.result
    (said c.args.self.now.known.now) c.args.self.now.agree c.in-Name.is
    (subst (λ (xs : List name_.Name). Again xs c.first_again-in-Name.result)
    c.items-in-Name.ensures c.first_again-in-Name.ensures)

pub returns-in-Types : goal.returns-in-Types
returns-in-Types c =
    types-again c.args.self.now.file.now c.args.s c.first_again-in-Types.result c.in-Types.is
    (subst (λ (xs : List TypeEl). Again xs c.first_again-in-Types.result) c.items-in-Types.ensures
    c.first_again-in-Types.ensures)
