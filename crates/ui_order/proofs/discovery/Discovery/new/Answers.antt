use Rattle.std.specs.Prelude.{string_cmp}
use Rattle.std.proofs.Common.{◌∙◌, ap}
use Rattle.std.specs.BTreeSet.{insert_key}
use Rattle.ui_order.proofs.TableLemmas.{begun_of}
use Rattle.ui_order.proofs.discovery.Discovery.new.Goals as goal

pub returns : goal.returns
returns c =
    begun_of c.insert.new.self.keys c.new.result.entries c.in_ok-from_str.field-0 c.args.root.now
    (c.in_ok-insert.ensures.keys ∙ ap (λ ks. insert_key string_cmp ks c.in_ok-from_str.field-0) c.new-unread.ensures.empty)
    c.new.ensures.empty c.in_ok-from_str.ensures.ok
