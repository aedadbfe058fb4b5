use Rattle.std.proofs.Common.{refl, sym, ◌∙◌}
use Rattle.ui_file_rules.proofs.Seeing.{inserted}
use Rattle.ui_file_rules.proofs.again.insert_new.Goals as goal

pub returns : goal.returns
returns g c = inserted g.T.PartialEq.eq c.args.seen.now.keys c.insert_full.new.self.keys c.args.x
    _ c.in_ok-is_new.is_new refl (sym c.in_ok-is_new.is_new-is
    ∙ c.in_ok-is_new.ensures.added) c.in_ok-is_new.ensures.keys
