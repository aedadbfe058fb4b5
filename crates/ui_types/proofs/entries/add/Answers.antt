use Rattle.std.proofs.Common.{◌≡◌, ◌++◌, ◌∷◌, [], sym, ap, ◌∙◌, subst as transport}
use Rattle.ui_types.specs.Entries.{IsTable, trees_of}
use Rattle.ui_types.proofs.TableLemmas.{IsTable-push, trees_of-push}
use Rattle.ui_types.proofs.KeyLemmas.{insert_entry-fresh}
use Rattle.ui_types.proofs.entries.add.Goals as goal

pub returns-clause-table : goal.returns-clause-table
returns-clause-table c =
    let es = c.args.entries.now.entries in
    let more : c.insert.new.self.entries ≡ es ++ (c.args.node, c.args.extent) ∷ [] = c.in_ok-insert.ensures.entries ∙ insert_entry-fresh es c.args.node c.args.extent c.requires.fresh in
    transport IsTable (sym more) (IsTable-push es (c.args.node, c.args.extent) c.requires.table c.requires.entry c.requires.fresh)

pub returns-clause-ok : goal.returns-clause-ok
returns-clause-ok c =
    let es = c.args.entries.now.entries in
    let more : c.insert.new.self.entries ≡ es ++ (c.args.node, c.args.extent) ∷ [] = c.in_ok-insert.ensures.entries ∙ insert_entry-fresh es c.args.node c.args.extent c.requires.fresh in
    ap trees_of more ∙ trees_of-push es (c.args.node, c.args.extent)
