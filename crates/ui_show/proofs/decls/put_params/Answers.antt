use Rattle.std.proofs.Common.{◌∙◌, ◌++◌, ℕ, List, false, sym, ap, arith}
use Rattle.std.specs.Prelude.{map, codes}
use Rattle.std.proofs.lemmas.List.{take_all}
use Rattle.ui_types.specs.declared.decl.TParam.{TParam}
use Rattle.ui_types.specs.Table.{tree}
use Rattle.ui_show.specs.Pieces.{joined}
use Rattle.ui_show.specs.Types.{type_text}
use Rattle.ui_show.proofs.Joins.{turn, started_more, three_texts}
use Rattle.ui_show.proofs.Texts.{bound_text}
use Rattle.ui_show.proofs.Shown.{params_shown}
use Rattle.ui_show.proofs.decls.put_params.Goals as goal

pub loop-param-preserved : goal.loop-param-preserved
loop-param-preserved c =
    let d : TParam = c.param-item.result in
    let names = map (λ (p : TParam). p.name) c.args.params.now in
    let f = bound_text names c.args.table.now in
    let k = c.loop-param.param-index in
    record {
      out = turn f (codes ", ") false c.args.params.now k d c.loop-param.is_behind
          c.args.out.now.items c.loop-param.out.items c.put_if.new.out.items
          c.put_type.new.out.items c.loop-param-test.true c.loop-param.invariant.out
          c.loop-param.invariant.behind c.in_ok-put_if.ensures
          (three_texts c.put_if.new.out.items d.name (codes " ")
          (type_text names (tree c.args.table.now d.bound)) c.put_type.new.out.items
          c.put.new.out.items c.put-in-loop-param.new.out.items
          (c.in_ok-put.ensures
          ∙ ap (λ (t : List ℕ). c.put_if.new.out.items ++ t) c.bytes.ensures)
          c.in_ok-put-2.ensures c.in_ok-put_type.ensures
          ∙ ap (λ (p : TParam). c.put_if.new.out.items ++ f p) c.param-item.is);
      behind = sym (started_more f (codes ", ") false c.args.params.now k d
          c.loop-param-test.true);
    }

pub returns : goal.returns
returns c =
    let names = map (λ (p : TParam). p.name) c.args.params.now in
    let table = c.args.table.now in
    let f = bound_text names table in
    c.loop-param.invariant.out
    ∙ ap (λ (ps : List TParam). c.args.out.now.items ++ joined (codes ", ") (map f ps))
    (take_all c.loop-param.param-index c.args.params.now
    (let n = c.loop-param-test.false in omega arith))
    ∙ ap (λ (ts : List (List ℕ)). c.args.out.now.items ++ joined (codes ", ") ts)
    (params_shown table c.args.params.now)
