use Rattle.std.specs.Prelude.{◌++◌, map, string_bytes}
use Rattle.std.proofs.Common.{◌∙◌, ap, sym}
use Rattle.std.specs.BTreeMap as tree
use Rattle.ui_order.proofs.TableLemmas.{sorted_texts}
use Rattle.ui_order.proofs.NameLemmas.{named_more, named_all, keys-graph_of}
use Rattle.ui_order.proofs.table.numbered.Goals as goal

pub loop-path-preserved : goal.loop-path-preserved
loop-path-preserved c =
    let all = map string_bytes (tree.keys c.args.read.now) in
    ap (λ ks. map string_bytes ks ++ map string_bytes c.next.new.self) c.in_ok-insert.ensures.keys
    ∙ named_more c.loop-path.paths.keys c.in_ok-clone.field-0 c.in-Some.path.now c.next.new.self all
    (ap (λ ks. map string_bytes c.loop-path.paths.keys ++ map string_bytes ks) (sym c.in-Some.ensures.steps) ∙ c.loop-path.invariant)
    (sorted_texts (tree.keys c.args.read.now) c.keys-path-items.ensures.ordered)
    c.in_ok-clone.ensures.cases

pub returns : goal.returns
returns c =
    named_all c.loop-path.paths.keys (map string_bytes (tree.keys c.args.read.now))
    (ap (λ ks. map string_bytes c.loop-path.paths.keys ++ map string_bytes ks) (sym c.in-None.ensures.steps.0) ∙ c.loop-path.invariant)
    ∙ sym (keys-graph_of c.args.read.now.entries c.keys-path-items.ensures.ordered)
