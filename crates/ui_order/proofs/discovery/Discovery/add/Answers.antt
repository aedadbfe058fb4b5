use Rattle.std.specs.Prelude.{◌≡◌, map, string_bytes}
use Rattle.std.proofs.Common.{◌∙◌, ap}
use Rattle.std.specs.FinMap.{insert, remove}
use Rattle.ui_order.specs.Found.{Found, with_unread, with_imports}
use Rattle.ui_order.specs.Tables.{texts, paths_of, graph_of}
use Rattle.ui_order.proofs.TableLemmas.{paths_of-remove, graph_of-insert, with_imports-parts}
use Rattle.ui_order.proofs.discovery.Discovery.add.Goals as goal

pub returns : goal.returns
returns c =
    let p = string_bytes c.args.path in
    let own = texts c.args.imports in
    let unread = paths_of c.self.inside.unread.keys in
    let read = graph_of c.self.inside.read.entries in
    let without : paths_of c.remove.new.self.keys ≡ remove unread p =
    paths_of-remove c.as_str.result.now c.self.inside.unread c.remove.new.self c.remove.ensures.updates ∙ ap (λ x. remove unread x) c.as_str.ensures.value in
    let found : paths_of c.find_imports.new.unread.keys ≡ with_unread (insert read p own) (paths_of c.remove.new.self.keys) own =
    c.in_ok-find_imports.ensures own
    ∙ ap (λ x. with_unread (insert read x own) (paths_of c.remove.new.self.keys) (map string_bytes c.as_slice.result.now)) c.as_str-2.ensures.value
    ∙ ap (λ xs. with_unread (insert read p own) (paths_of c.remove.new.self.keys) (map string_bytes xs)) c.as_slice.ensures.value in
    let inserted : graph_of c.insert.new.self.entries ≡ insert read p own =
    ap graph_of c.in_ok-insert.ensures.entries ∙ graph_of-insert c.self.inside.read.entries c.args.path c.args.imports in
    with_imports-parts unread (paths_of c.remove.new.self.keys) (paths_of c.find_imports.new.unread.keys) read (graph_of c.insert.new.self.entries) p own without found inserted
    ∙ ap (λ (f : Found). with_imports f p own) c.self.view_is
