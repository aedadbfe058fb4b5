use Rattle.std.proofs.Common.{option_map, sym, ap, ◌∙◌, arith}
use Rattle.std.specs.FinMap.{insert}
use Rattle.ui_exports.specs.Adding.{with_decls}
use Rattle.ui_exports.specs.Constants.{declaration}
use Rattle.ui_consts.proofs.ReadSteps.{all_of, from_end, from_none, from_place, from_turn, none_of}
use Rattle.ui_consts.proofs.read.with_constants.Goals as goal

pub returns-then-count : goal.returns-then-count
returns-then-count c = none_of c.args.frame.now c.args.empty c.count-count.result c.count-count.ensures (λ same. c.if-count.true (c.count.ensures ∙ sym same))

pub loop-k-init : goal.loop-k-init
loop-k-init c = from_end c.args.frame.now c.count-count.result c.args.empty c.count-count.result c.requires (omega arith)

pub returns-in_default : goal.returns-in_default
returns-in_default c =
    from_none c.args.frame.now c.count-count.result c.args.empty c.loop-k.k (omega arith) (omega arith) (sym (ap (option_map (λ e. (e.0.now, declaration e.1))) c.in_default.is) ∙ c.in_ok-name.ensures)
    ∙ all_of c.args.frame.now c.args.empty c.count-count.result c.count-count.ensures (sym c.if-count.false ∙ c.count.ensures)

pub loop-k-preserved : goal.loop-k-preserved
loop-k-preserved c =
    from_turn c.args.frame.now c.count-count.result c.args.empty c.loop-k.package _ c.loop-k.k (c.in-Some.name.now, declaration c.in-Some.constant) (omega arith) (omega arith)
    (sym (ap (option_map (λ e. (e.0.now, declaration e.1))) c.in-Some.is) ∙ c.in_ok-name.ensures)
    (c.in_ok-declare.ensures.now ∙ ap (λ text. with_decls c.loop-k.package (insert c.loop-k.package.decls text (declaration c.in-Some.constant))) c.in_ok-name-2.ensures.items) c.loop-k.invariant

pub returns : goal.returns
returns c =
    c.loop-k.invariant ∙ ap (from_place c.args.frame.now c.count-count.result c.args.empty) (omega arith)
    ∙ all_of c.args.frame.now c.args.empty c.count-count.result c.count-count.ensures (sym c.if-count.false ∙ c.count.ensures)
