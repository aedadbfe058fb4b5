use Rattle.ui_infer.proofs.PushLemmas.{constant_pushed}
use Rattle.ui_infer.proofs.constants.constant.Goals as goal

pub returns-clause-value : goal.returns-clause-value
returns-clause-value c =
    constant_pushed c.args.entries.now.items c.push.new.self.items c.args.k _ c.in_ok-ty.ty
    c.args.done
    c.default_type.ensures.grows c.requires.entries c.in_ok-push.ensures.items
    c.in_ok-ty.ensures.made c.if-done.false
