use Rattle.std.proofs.Common.{refl, sym, ap, ◌∙◌}
use Rattle.ui_needs.specs.Views.{found_in}
use Rattle.ui_needs.specs.Links.{with_number}
use Rattle.ui_needs.proofs.LinkLemmas.{Numbered-more}
use Rattle.ui_needs.proofs.numbers.numbers_of.Goals as goal

pub loop-i-preserved : goal.loop-i-preserved
loop-i-preserved c =
    Numbered-more c.args.items.now (found_in c.loop-i.numbers) (found_in c.add.new.numbers)
    c.loop-i.i c.index-items-i.result c.loop-i.invariant c.loop-i-test.true c.index-items-i.is
    (c.in_ok-add.ensures c.loop-i.i refl
    ∙ ap (λ d. with_number (found_in c.loop-i.numbers) c.loop-i.i d.name.now.text) (sym
    c.index-items-i.is))
