use Rattle.std.proofs.Common.{sym, ap, ◌∙◌}
use Rattle.ui_forms.specs.Words.{last_segment}
use Rattle.ui_forms.specs.Form.{segments}
use Rattle.ui_forms.specs.Numbers.{has}
use Rattle.ui_forms.proofs.NameLemmas.{apart_end, apart_more, apart_none, apart_repeated, apart_taken}
use Rattle.ui_forms.proofs.names.are_apart.Goals as goal

pub loop-import-init : goal.loop-import-init
loop-import-init c = apart_none (has c.args.names.now) (segments c.args.imports.now) c.new-before.result c.new-before.ensures

pub loop-import-preserved : goal.loop-import-preserved
loop-import-preserved c =
    apart_more (has c.args.names.now) c.args.imports.now c.loop-import.import-index c.loop-import.before c.import-item.result c.loop-import-test.true c.import-item.is c.last_segment-segment.result.now (c.last_segment-segment.ensures ∙ ap last_segment c.bytes.ensures) _ c.loop-import.invariant
    c.add.new.self 0 c.in_ok-add.field-0 (sym c.has.ensures ∙ c.if-has.false) c.in_ok-add.ensures.now c.in_ok-add.ensures.added c.if-not-branch.false

pub returns-then-has : goal.returns-then-has
returns-then-has c =
    apart_taken (has c.args.names.now) c.args.imports.now c.loop-import.import-index c.loop-import.before c.import-item.result c.loop-import-test.true c.import-item.is c.last_segment-segment.result.now (c.last_segment-segment.ensures ∙ ap last_segment c.bytes.ensures) _ c.loop-import.invariant
    (sym c.has.ensures ∙ c.if-has.true)

pub returns-then-not-branch : goal.returns-then-not-branch
returns-then-not-branch c =
    apart_repeated (has c.args.names.now) c.args.imports.now c.loop-import.import-index c.loop-import.before c.import-item.result c.loop-import-test.true c.import-item.is c.last_segment-segment.result.now (c.last_segment-segment.ensures ∙ ap last_segment c.bytes.ensures) _ c.loop-import.invariant
    c.in_ok-add.field-0 c.in_ok-add.ensures.added c.if-not-branch.true

pub returns : goal.returns
returns c = apart_end (has c.args.names.now) c.args.imports.now c.loop-import.import-index c.loop-import.before _ c.loop-import-test.false c.loop-import.invariant
