use Rattle.std.proofs.Common.{◌∙◌, ◌++◌, ℕ, List, sym, ap, append_assoc}
use Rattle.std.specs.Prelude.{map, codes}
use Rattle.std.specs.List.{flat_map}
use Rattle.std.proofs.lemmas.Result.{on_ok_weaker}
use Rattle.ui_types.specs.declared.decl.TParam.{TParam}
use Rattle.ui_types.specs.declared.decl.Face.{Face}
use Rattle.ui_types.specs.Table.{tree, trees}
use Rattle.ui_types.specs.Decls.{shown_params, shown_methods, shown_face}
use Rattle.ui_show.specs.Pieces.{qualified}
use Rattle.ui_show.specs.Types.{type_text, sig_text}
use Rattle.ui_show.specs.Decls.{param_names, brackets, method_line, decl_text}
use Rattle.ui_show.proofs.Joins.{two_texts, three_texts}
use Rattle.ui_show.proofs.Shown.{names_shown}
use Rattle.ui_show.proofs.decls.put_decl.Goals as goal

pub returns-in_ok-put_brackets-in-Func : goal.returns-in_ok-put_brackets-in-Func
returns-in_ok-put_brackets-in-Func c =
    let table = c.args.table.now in
    let out = c.args.out.now.items in
    let args = trees table c.args.args.now in
    let ps = shown_params table c.in-Func.params in
    let head = codes "func " ++ qualified c.args.name.now in
    let given = brackets (param_names ps) args ps in
    let sig = sig_text (param_names ps) (tree table c.in-Func.sig) in
    on_ok_weaker c.put_sig.result
    (λ e. three_texts out head given sig c.put_sig.new.out.items
    c.put_head-in-Func.new.out.items c.put_brackets.new.out.items
    (c.in_ok-put_head-in-Func.ensures
    ∙ append_assoc out (codes "func ") (qualified c.args.name.now))
    (c.in_ok-put_brackets-in-Func.ensures
    ∙ ap (λ (qs : List TParam). c.put_head-in-Func.new.out.items
    ++ brackets (param_names (shown_params table qs)) args (shown_params table qs)) c.items.ensures)
    (e ∙ ap (λ (qs : List TParam). c.put_brackets.new.out.items
    ++ sig_text (map (λ (p : TParam). p.name) qs) (tree table c.in-Func.sig)) c.items-in-Func.ensures
    ∙ ap (λ (ns : List (List ℕ)). c.put_brackets.new.out.items
    ++ sig_text ns (tree table c.in-Func.sig)) (names_shown table c.in-Func.params))
    ∙ ap (λ (f : Face). out ++ decl_text c.args.name.now args (shown_face table f))
    (sym c.in-Func.is))
    c.put_sig.ensures

pub returns-in_ok-put_type-in-Defined : goal.returns-in_ok-put_type-in-Defined
returns-in_ok-put_type-in-Defined c =
    let table = c.args.table.now in
    let out = c.args.out.now.items in
    let args = trees table c.args.args.now in
    let ps = shown_params table c.in-Defined.params in
    let head = codes "type " ++ qualified c.args.name.now in
    let given = brackets (param_names ps) args ps in
    let under = type_text (param_names ps) (tree table c.in-Defined.under) in
    let lines = flat_map (method_line (param_names ps)) (shown_methods table c.in-Defined.methods) in
    let front = three_texts out head given (codes " ") c.put-in-Defined.new.out.items
    c.put_head-in-Defined.new.out.items c.put_brackets-in-Defined.new.out.items
    (c.in_ok-put_head-in-Defined.ensures
    ∙ append_assoc out (codes "type ") (qualified c.args.name.now))
    (c.in_ok-put_brackets-in-Defined.ensures
    ∙ ap (λ (qs : List TParam). c.put_head-in-Defined.new.out.items
    ++ brackets (param_names (shown_params table qs)) args (shown_params table qs))
    c.items-in-Defined.ensures)
    c.in_ok-put-in-Defined.ensures in
    let typed = two_texts out (head ++ given ++ codes " ") under
    c.put_type-in-Defined.new.out.items c.put-in-Defined.new.out.items front
    (c.in_ok-put_type-in-Defined.ensures
    ∙ ap (λ (qs : List TParam). c.put-in-Defined.new.out.items
    ++ type_text (map (λ (p : TParam). p.name) qs) (tree table c.in-Defined.under))
    c.items-in-Defined-2.ensures
    ∙ ap (λ (ns : List (List ℕ)). c.put-in-Defined.new.out.items
    ++ type_text ns (tree table c.in-Defined.under)) (names_shown table c.in-Defined.params)) in
    on_ok_weaker c.put_method_lines.result
    (λ e. two_texts out (head ++ given ++ codes " " ++ under) lines
    c.put_method_lines.new.out.items c.put_type-in-Defined.new.out.items typed
    (e ∙ (λ i. c.put_type-in-Defined.new.out.items
    ++ flat_map (method_line (param_names (shown_params table (c.items-in-Defined-3.ensures i))))
    (shown_methods table (c.items-in-Defined-4.ensures i))))
    ∙ ap (λ (f : Face). out ++ decl_text c.args.name.now args (shown_face table f))
    (sym c.in-Defined.is))
    c.put_method_lines.ensures
