use Rattle.std.specs.Prelude.{◌∷◌, [], string_bytes}
use Rattle.std.proofs.Common.{◌∙◌, ap, sym}
use Rattle.std.specs.FinMap.{insert}
use Rattle.ui_order.specs.Found.{with_unread}
use Rattle.ui_order.specs.Tables.{paths_of, graph_of}
use Rattle.ui_order.proofs.TableLemmas.{with_unread-more}
use Rattle.ui_order.proofs.discovery.find_imports.Goals as goal

pub loop-import-preserved : goal.loop-import-preserved
loop-import-preserved c = λ own.
    let read = insert (graph_of c.args.read.now.entries) c.args.path.now own in
    c.in_ok-find_import.ensures own
    ∙ ap (λ x. with_unread read x (string_bytes c.import-item.result ∷ [])) (c.loop-import.invariant own)
    ∙ sym (with_unread-more read (paths_of c.args.unread.now.keys) c.args.imports.now c.loop-import.import-index c.import-item.result c.loop-import-test.true c.import-item.is)
