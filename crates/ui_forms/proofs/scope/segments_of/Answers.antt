use Rattle.std.proofs.Common.{ap, ◌∙◌, arith}
use Rattle.ui_forms.specs.Words.{last_segment}
use Rattle.ui_forms.proofs.PlaceLemmas.{index_all, index_none, index_turn, segment_of}
use Rattle.ui_forms.proofs.scope.segments_of.Goals as goal

pub loop-place-init : goal.loop-place-init
loop-place-init c = index_none segment_of _ _ c.new-segments.ensures

pub loop-place-preserved : goal.loop-place-preserved
loop-place-preserved c = index_turn segment_of c.loop-place.place c.loop-place.segments _ c.args.imports.now c.index-imports-place.result c.last_segment.result.now c.loop-place.invariant c.loop-place-test.true c.index-imports-place.is (c.last_segment.ensures ∙ ap last_segment c.bytes.ensures) c.in_ok-add.ensures.now

pub returns : goal.returns
returns c = record { same = index_all segment_of c.loop-place.place c.loop-place.segments c.args.imports.now c.loop-place.invariant (omega arith) }
