use Rattle.ui_collect.proofs.ItemLemmas.{one_more}
use Rattle.ui_collect.proofs.items.add.Goals as goal

pub returns : goal.returns
returns c = one_more c.args.found.now.items c.push.new.self.items _ c.in_ok-push.ensures.items
