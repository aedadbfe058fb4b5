use Rattle.std.proofs.Common.{◌≡◌, length, Ok, map, ap, sym, ◌∙◌, arith}
use Rattle.ui_sources.specs.Sources.{source_of, source_tree, tokens_in, tree_in}
use Rattle.ui_base.proofs.StepLemmas.{each_more, pushed}
use Rattle.ui_sources.proofs.SourceLemmas.{item_short}
use Rattle.ui_sources.proofs.SourceLemmas.{item_tokens, same_count}
use Rattle.ui_sources.proofs.parse.parse_all.Goals as goal

pub bounds-tokens-i : goal.bounds-tokens-i
bounds-tokens-i c =
    let same : length c.args.tokens.now ≡ length c.args.sources.now = same_count source_of (λ v. v.items) tokens_in c.args.sources.now c.args.tokens.now c.requires.scanned in
    omega (arith, same, c.loop-i-test.true)

pub parse-requires-clause-measured : goal.parse-requires-clause-measured
parse-requires-clause-measured c = item_short source_of c.args.sources.now c.loop-i.i c.index-sources-i.result c.requires.measured c.loop-i-test.true c.index-sources-i.is

pub parse-requires-clause-scanned : goal.parse-requires-clause-scanned
parse-requires-clause-scanned c =
    item_tokens source_of (λ v. v.items) c.args.sources.now c.args.tokens.now c.loop-i.i c.index-sources-i.result c.index-tokens-i.result c.requires.scanned c.loop-i-test.true c.index-sources-i.is c.index-tokens-i.is
    ∙ ap Ok (sym c.as_slice.ensures.value)

pub loop-i-preserved : goal.loop-i-preserved
loop-i-preserved c =
    each_more source_of (tree_in c.args.own.now) c.args.sources.now c.loop-i.i (map source_tree c.loop-i.files.items) _ c.index-sources-i.result (source_tree c.in_ok-file.file) (map source_tree c.push.new.self.items) c.loop-i-test.true c.index-sources-i.is c.loop-i.invariant c.in_ok-file.ensures
    (pushed source_tree c.loop-i.files.items c.push.new.self.items c.in_ok-file.file c.in-Ok.ensures.items)
