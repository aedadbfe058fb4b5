use Rattle.std.proofs.Common.{List, All, sym, subst}
use Rattle.std.proofs.lemmas.List.Elements.{All-push}
use Rattle.ui_strpos.specs.declared.target.Target.{Target}
use Rattle.ui_strpos.specs.Reading.{IsEntry}
use Rattle.ui_strpos.specs.Tables.{added_new, added_again}
use Rattle.ui_strpos.proofs.input.add.Goals as goal

pub returns-then-branch-clause-read : goal.returns-then-branch-clause-read
returns-then-branch-clause-read c = (added_new c.args.table.now.keys c.args.offset c.args.target c.in_ok-insert.field-0 c.insert.new.self.keys c.in_ok-insert.ensures.added c.in_ok-insert.ensures.keys c.if-branch.true).0

pub returns-then-branch-clause-known : goal.returns-then-branch-clause-known
returns-then-branch-clause-known c counts there all =
    let new = added_new c.args.table.now.keys c.args.offset c.args.target c.in_ok-insert.field-0 c.insert.new.self.keys c.in_ok-insert.ensures.added c.in_ok-insert.ensures.keys c.if-branch.true in
    subst (λ (xs : List Target). All (IsEntry counts) xs) (sym new.1) (All-push (IsEntry counts) c.args.table.now.keys c.args.target all there)

pub returns-clause-read : goal.returns-clause-read
returns-clause-read c = added_again c.args.table.now.keys c.args.offset c.args.target c.in_ok-insert.field-0 c.in_ok-insert.ensures.added c.if-branch.false
