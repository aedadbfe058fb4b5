use Rattle.ui_forms.specs.Words.{last_segment}
use Rattle.std.proofs.Common.{ap, ◌∙◌}
use Rattle.ui_forms.proofs.NameLemmas.{set_end, set_more, set_none}
use Rattle.ui_forms.proofs.names.segments_of.Goals as goal

pub loop-import-init : goal.loop-import-init
loop-import-init c q = set_none _ c.new-names.result q c.new-names.ensures

pub loop-import-preserved : goal.loop-import-preserved
loop-import-preserved c q = set_more (λ i. last_segment i.path) c.args.imports.now c.loop-import.import-index c.loop-import.names c.import-item.result c.last_segment.result.now q 0 c.add.new.self _ c.loop-import-test.true c.import-item.is (c.last_segment.ensures ∙ ap last_segment c.bytes.ensures) c.in_ok-add.ensures.now (c.loop-import.invariant q)

pub returns : goal.returns
returns c = record { same = λ q. set_end (λ i. last_segment i.path) c.args.imports.now c.loop-import.import-index c.loop-import.names q _ c.loop-import-test.false (c.loop-import.invariant q) }
