use Rattle.std.proofs.Common.{◌∙◌, ◌++◌, ℕ, List, [], take, get_or, sym, ap, append_assoc}
use Rattle.std.specs.Prelude.{codes, if◌then◌else◌}
use Rattle.std.specs.List.{flat_map}
use Rattle.ui_types.specs.declared.decl.MethodFace.{MethodFace}
use Rattle.ui_types.specs.Table.{tree}
use Rattle.ui_types.specs.Decls.{shown_params, shown_methods}
use Rattle.ui_show.specs.Pieces.{selected}
use Rattle.ui_show.specs.Types.{sig_text}
use Rattle.ui_show.specs.Decls.{param_names, method_line}
use Rattle.ui_show.proofs.Joins.{two_texts, three_texts}
use Rattle.ui_show.proofs.Shown.{names_shown, lines_more, method_shown}
use Rattle.ui_show.proofs.decls.put_method_lines.Goals as goal

pub loop-method-preserved : goal.loop-method-preserved
loop-method-preserved c =
    let d : MethodFace = c.method-item.result in
    let table = c.args.table.now in
    let start = c.loop-method.out.items in
    let names = param_names (shown_params table c.args.params.now) in
    let k = c.loop-method.method-index in
    let at : MethodFace = get_or c.args.methods.now k d in
    let done = flat_map (method_line names) (shown_methods table (take k c.args.methods.now)) in
    let pointer : List ℕ = if d.pointer then codes "(*) " else [] in
    let here = three_texts start (codes "\n\t") pointer (selected d.name)
    c.put_selected.new.out.items c.put.new.out.items c.put_if.new.out.items
    c.in_ok-put.ensures c.in_ok-put_if.ensures c.in_ok-put_selected.ensures in
    let line = two_texts start (codes "\n\t" ++ pointer ++ selected d.name)
    (sig_text names (tree table d.sig)) c.put_sig.new.out.items c.put_selected.new.out.items
    here
    (c.in_ok-put_sig.ensures ∙ ap (λ (ns : List (List ℕ)). c.put_selected.new.out.items
    ++ sig_text ns (tree table d.sig)) (names_shown table c.args.params.now)) in
    line
    ∙ ap (λ (m : MethodFace). start ++ method_line names (method_shown table m)) c.method-item.is
    ∙ ap (λ (ts : List ℕ). ts ++ method_line names (method_shown table at)) c.loop-method.invariant
    ∙ append_assoc c.args.out.now.items done (method_line names (method_shown table at))
    ∙ ap (λ (ts : List ℕ). c.args.out.now.items ++ ts)
    (sym (lines_more names table c.args.methods.now k d c.loop-method-test.true))
