use Rattle.std.proofs.Common.{◌≡◌, ◌≤◌, ◌++◌, ◌∙◌, ◌||◌, ℕ, [], List, Bool, false, get_or, sym, ap, arith, rules}
use Rattle.std.specs.Prelude.{map, codes, if◌then◌else◌}
use Rattle.std.proofs.lemmas.Result.{on_ok_weaker}
use Rattle.ui_types.specs.declared.id.TypeId.{TypeId}
use Rattle.ui_types.specs.declared.decl.TParam.{TParam}
use Rattle.ui_types.specs.declared.part.Field.{Field}
use Rattle.ui_types.specs.declared.part.Method.{Method}
use Rattle.ui_types.specs.declared.part.Term.{Term}
use Rattle.ui_types.specs.Ty.{size, sizes}
use Rattle.ui_types.specs.declared.node.TypeNode.{TypeNode}
use Rattle.ui_types.specs.Table.{tree, parts, parts_by, shown}
use Rattle.ui_types.specs.Trees.{size_of_part}
use Rattle.ui_show.specs.Pieces.{selected, joined, tail_of}
use Rattle.ui_show.specs.Types.{type_text, sig_text, type_name, in_brackets, signature, comparable, are_some}
use Rattle.ui_show.proofs.Joins.{turn, started_more, two_texts, three_texts, all_elements}
use Rattle.ui_show.proofs.Texts.{text_at, field_text, method_text, term_text, part_smaller, signature_text, named_text, func_text, struct_text, iface_text, union_text}
use Rattle.ui_show.proofs.types.+put.Goals as goal

pub put_each-put_type-requires : goal.put_each-put_type-requires
put_each-put_type-requires t c =
    let d : TypeId = record { 0 = 0 } in
    let table = c.args.table.now in
    let small : size (tree table (get_or c.args.ids.now c.loop-id.id-index d))
    ≤ sizes (parts table c.args.ids.now)
    = size_of_part table c.args.ids.now c.loop-id.id-index d c.loop-id-test.true in
    (omega (arith, c.decreases, small), c.requires c.loop-id.id-index d c.loop-id-test.true)

pub put_each-loop-id-preserved : goal.put_each-loop-id-preserved
put_each-loop-id-preserved t c =
    let d : TypeId = record { 0 = 0 } in
    let f = text_at (map (λ (p : TParam). p.name) c.args.params.now) c.args.table.now in
    let b = c.args.is_behind in
    let k = c.loop-id.id-index in
    record {
      out = turn f c.args.separator.now b c.args.ids.now k d c.loop-id.is_behind
          c.args.out.now.items c.loop-id.out.items c.put_if.new.out.items
          c.put_type.new.out.items c.loop-id-test.true c.loop-id.invariant.out
          c.loop-id.invariant.behind c.in_ok-put_if.ensures c.in_ok-put_type.ensures;
      behind = sym (started_more f c.args.separator.now b c.args.ids.now k d c.loop-id-test.true);
    }

pub put_elements-returns : goal.put_elements-returns
put_elements-returns t c =
    let names = map (λ (p : TParam). p.name) c.args.params.now in
    let table = c.args.table.now in
    let ms = c.args.methods.now in
    let us = c.args.unions.now in
    let sep = codes "; " in
    on_ok_weaker c.put_each.result
    (λ e. three_texts c.args.out.now.items (joined sep (map (method_text names table) ms))
    (tail_of sep (are_some ms) (comparable c.args.comparable))
    (tail_of sep (are_some ms || c.args.comparable) (map (text_at names table) us))
    c.put_each.new.out.items c.put_methods.new.out.items c.put_comparable.new.out.items
    c.in_ok-put_methods.ensures
    (c.in_ok-put_comparable.ensures ∙ ap (λ (b : Bool). c.put_methods.new.out.items
    ++ tail_of sep b (comparable c.args.comparable)) c.are_some-is_behind.ensures)
    (e ∙ ap (λ (b : Bool). c.put_comparable.new.out.items
    ++ tail_of sep (b || c.args.comparable) (map (text_at names table) us))
    c.are_some-is_behind.ensures)
    ∙ ap (λ (ts : List ℕ). c.args.out.now.items ++ ts)
    (sym (all_elements (method_text names table) (text_at names table) sep ms
    c.args.comparable us)))
    c.put_each.ensures

pub put_fields-put_type-requires : goal.put_fields-put_type-requires
put_fields-put_type-requires t c =
    let d : Field = c.field-item.result in
    let table = c.args.table.now in
    let ps = c.args.fields.now in
    let there = ap (λ (p : Field). tree table p.ty) c.field-item.is in
    let small : size (tree table d.ty) ≤ sizes (parts_by (λ (p : Field). p.ty) table ps)
    = rw there (part_smaller (λ (p : Field). p.ty) table ps c.loop-field.field-index d
    c.loop-field-test.true) in (
      omega (arith, c.decreases, small),
      search (
        rules,
        c.requires,
        c.loop-field-test.true,
        c.field-item.is,
      ),
    )

pub put_fields-loop-field-preserved : goal.put_fields-loop-field-preserved
put_fields-loop-field-preserved t c =
    let d : Field = c.field-item.result in
    let f = field_text (map (λ (p : TParam). p.name) c.args.params.now) c.args.table.now in
    let k = c.loop-field.field-index in
    record {
      out = turn f (codes "; ") false c.args.fields.now k d c.loop-field.is_behind
          c.args.out.now.items c.loop-field.out.items c.put_if.new.out.items
          c.put_type.new.out.items c.loop-field-test.true c.loop-field.invariant.out
          c.loop-field.invariant.behind c.in_ok-put_if.ensures
          (three_texts c.put_if.new.out.items (selected d.name) (codes " ")
          (type_text (map (λ (p : TParam). p.name) c.args.params.now) (tree c.args.table.now d.ty))
          c.put_type.new.out.items c.put_selected.new.out.items c.put.new.out.items
          c.in_ok-put_selected.ensures c.in_ok-put.ensures c.in_ok-put_type.ensures
          ∙ ap (λ (p : Field). c.put_if.new.out.items ++ f p) c.field-item.is);
      behind = sym (started_more f (codes "; ") false c.args.fields.now k d
          c.loop-field-test.true);
    }

pub put_methods-put_sig-requires : goal.put_methods-put_sig-requires
put_methods-put_sig-requires t c =
    let d : Method = c.method-item.result in
    let table = c.args.table.now in
    let ps = c.args.methods.now in
    let there = ap (λ (p : Method). tree table p.sig) c.method-item.is in
    let small : size (tree table d.sig) ≤ sizes (parts_by (λ (p : Method). p.sig) table ps)
    = rw there (part_smaller (λ (p : Method). p.sig) table ps c.loop-method.method-index d
    c.loop-method-test.true) in (
      omega (arith, c.decreases, small),
      search (
        rules,
        c.requires,
        c.loop-method-test.true,
        c.method-item.is,
      ),
    )

pub put_methods-loop-method-preserved : goal.put_methods-loop-method-preserved
put_methods-loop-method-preserved t c =
    let d : Method = c.method-item.result in
    let f = method_text (map (λ (p : TParam). p.name) c.args.params.now) c.args.table.now in
    let k = c.loop-method.method-index in
    record {
      out = turn f (codes "; ") false c.args.methods.now k d c.loop-method.is_behind
          c.args.out.now.items c.loop-method.out.items c.put_if.new.out.items
          c.put_sig.new.out.items c.loop-method-test.true c.loop-method.invariant.out
          c.loop-method.invariant.behind c.in_ok-put_if.ensures
          (two_texts c.put_if.new.out.items (selected d.name)
          (sig_text (map (λ (p : TParam). p.name) c.args.params.now) (tree c.args.table.now d.sig))
          c.put_sig.new.out.items c.put_selected.new.out.items
          c.in_ok-put_selected.ensures c.in_ok-put_sig.ensures
          ∙ ap (λ (p : Method). c.put_if.new.out.items ++ f p) c.method-item.is);
      behind = sym (started_more f (codes "; ") false c.args.methods.now k d
          c.loop-method-test.true);
    }

pub put_terms-put_type-requires : goal.put_terms-put_type-requires
put_terms-put_type-requires t c =
    let d : Term = record { tilde = false; ty = record { 0 = 0 } } in
    let table = c.args.table.now in
    let ps = c.args.terms.now in
    let k = c.loop-term.term-index in
    let small : size (tree table (get_or ps k d).ty)
    ≤ sizes (parts_by (λ (p : Term). p.ty) table ps)
    = part_smaller (λ (p : Term). p.ty) table ps k d c.loop-term-test.true in
    (omega (arith, c.decreases, small), c.requires k d c.loop-term-test.true)

pub put_terms-loop-term-preserved : goal.put_terms-loop-term-preserved
put_terms-loop-term-preserved t c =
    let d : Term = record { tilde = false; ty = record { 0 = 0 } } in
    let names = map (λ (p : TParam). p.name) c.args.params.now in
    let f = term_text names c.args.table.now in
    let k = c.loop-term.term-index in
    let at : Term = get_or c.args.terms.now k d in
    record {
      out = turn f (codes " | ") false c.args.terms.now k d c.loop-term.is_behind
          c.args.out.now.items c.loop-term.out.items c.put_if.new.out.items
          c.put_type.new.out.items c.loop-term-test.true c.loop-term.invariant.out
          c.loop-term.invariant.behind c.in_ok-put_if.ensures
          (two_texts c.put_if.new.out.items (if at.tilde then codes "~" else [])
          (type_text names (tree c.args.table.now at.ty)) c.put_type.new.out.items
          c.put_if-in-loop-term.new.out.items c.in_ok-put_if-2.ensures
          c.in_ok-put_type.ensures);
      behind = sym (started_more f (codes " | ") false c.args.terms.now k d
          c.loop-term-test.true);
    }

pub put_sig-returns-in-Func : goal.put_sig-returns-in-Func
put_sig-returns-in-Func t c =
    let names = map (λ (p : TParam). p.name) c.args.params.now in
    let table = c.args.table.now in
    let f = text_at names table in
    let whole : sig_text names (tree table c.args.t)
    ≡ signature (map f c.in-Func.formals) (map f c.in-Func.results)
    = ap (sig_text names) (sym c.node.ensures.value)
    ∙ ap (λ (n : TypeNode). sig_text names (shown table n)) c.in-Func.is
    ∙ signature_text names table c.in-Func.formals c.in-Func.results in
    on_ok_weaker c.put_signature.result
    (λ e. e ∙ (λ i. c.args.out.now.items
    ++ signature (map f (c.items.ensures i)) (map f (c.items-in-Func.ensures i)))
    ∙ ap (λ (ts : List ℕ). c.args.out.now.items ++ ts) (sym whole))
    c.put_signature.ensures

pub put_type-returns-in_ok-put_type_name-in-Named : goal.put_type-returns-in_ok-put_type_name-in-Named
put_type-returns-in_ok-put_type_name-in-Named t c =
    let names = map (λ (p : TParam). p.name) c.args.params.now in
    let table = c.args.table.now in
    let out = c.args.out.now.items in
    let f = text_at names table in
    let n = c.in-Named.name in
    let whole : type_text names (tree table c.args.t)
    ≡ type_name n ++ in_brackets (map f c.in-Named.args)
    = ap (type_text names) (sym c.node.ensures.value)
    ∙ ap (λ (n : TypeNode). type_text names (shown table n)) c.in-Named.is
    ∙ named_text names table n c.in-Named.args in
    on_ok_weaker c.put_arguments.result
    (λ e. two_texts out (type_name n) (in_brackets (map f c.in-Named.args))
    c.put_arguments.new.out.items c.put_type_name.new.out.items
    c.in_ok-put_type_name-in-Named.ensures
    (e ∙ ap (λ (ts : List TypeId). c.put_type_name.new.out.items ++ in_brackets (map f ts))
    c.items.ensures)
    ∙ ap (λ (ts : List ℕ). out ++ ts) (sym whole))
    c.put_arguments.ensures

pub put_type-returns-in_ok-put-in-Func : goal.put_type-returns-in_ok-put-in-Func
put_type-returns-in_ok-put-in-Func t c =
    let names = map (λ (p : TParam). p.name) c.args.params.now in
    let table = c.args.table.now in
    let out = c.args.out.now.items in
    let f = text_at names table in
    let whole : type_text names (tree table c.args.t)
    ≡ codes "func" ++ signature (map f c.in-Func.formals) (map f c.in-Func.results)
    = ap (type_text names) (sym c.node.ensures.value)
    ∙ ap (λ (n : TypeNode). type_text names (shown table n)) c.in-Func.is
    ∙ func_text names table c.in-Func.formals c.in-Func.results in
    on_ok_weaker c.put_signature.result
    (λ e. two_texts out (codes "func")
    (signature (map f c.in-Func.formals) (map f c.in-Func.results))
    c.put_signature.new.out.items c.put-in-Func.new.out.items c.in_ok-put-in-Func.ensures
    (e ∙ (λ i. c.put-in-Func.new.out.items
    ++ signature (map f (c.items-in-Func.ensures i)) (map f (c.items-in-Func-2.ensures i))))
    ∙ ap (λ (ts : List ℕ). out ++ ts) (sym whole))
    c.put_signature.ensures

pub put_type-returns-in_ok-put_fields-in-Struct : goal.put_type-returns-in_ok-put_fields-in-Struct
put_type-returns-in_ok-put_fields-in-Struct t c =
    let names = map (λ (p : TParam). p.name) c.args.params.now in
    let table = c.args.table.now in
    let out = c.args.out.now.items in
    let f = field_text names table in
    let inner = joined (codes "; ") (map f c.in-Struct.fields) in
    let whole : type_text names (tree table c.args.t) ≡ codes "struct{" ++ inner ++ codes "}"
    = ap (type_text names) (sym c.node.ensures.value)
    ∙ ap (λ (n : TypeNode). type_text names (shown table n)) c.in-Struct.is
    ∙ struct_text names table c.in-Struct.fields in
    on_ok_weaker c.put-in-Struct-2.result
    (λ e. three_texts out (codes "struct{") inner (codes "}")
    c.put-in-Struct-2.new.out.items c.put-in-Struct.new.out.items c.put_fields.new.out.items
    c.in_ok-put-in-Struct.ensures
    (c.in_ok-put_fields-in-Struct.ensures
    ∙ ap (λ (fs : List Field). c.put-in-Struct.new.out.items
    ++ joined (codes "; ") (map f fs)) c.items-in-Struct.ensures)
    e ∙ ap (λ (ts : List ℕ). out ++ ts) (sym whole))
    c.put-in-Struct-2.ensures

pub put_type-returns-in_ok-put_elements-in-Iface : goal.put_type-returns-in_ok-put_elements-in-Iface
put_type-returns-in_ok-put_elements-in-Iface t c =
    let names = map (λ (p : TParam). p.name) c.args.params.now in
    let table = c.args.table.now in
    let out = c.args.out.now.items in
    let f = text_at names table in
    let m = method_text names table in
    let b = c.in-Iface.comparable in
    let inner = joined (codes "; ")
    (map m c.in-Iface.methods ++ comparable b ++ map f c.in-Iface.unions) in
    let whole : type_text names (tree table c.args.t) ≡ codes "interface{" ++ inner ++ codes "}"
    = ap (type_text names) (sym c.node.ensures.value)
    ∙ ap (λ (n : TypeNode). type_text names (shown table n)) c.in-Iface.is
    ∙ iface_text names table c.in-Iface.methods b c.in-Iface.unions in
    on_ok_weaker c.put-in-Iface-2.result
    (λ e. three_texts out (codes "interface{") inner (codes "}")
    c.put-in-Iface-2.new.out.items c.put-in-Iface.new.out.items c.put_elements.new.out.items
    c.in_ok-put-in-Iface.ensures
    (c.in_ok-put_elements-in-Iface.ensures
    ∙ (λ i. c.put-in-Iface.new.out.items
    ++ joined (codes "; ") (map m (c.items-in-Iface.ensures i) ++ comparable b
    ++ map f (c.items-in-Iface-2.ensures i))))
    e ∙ ap (λ (ts : List ℕ). out ++ ts) (sym whole))
    c.put-in-Iface-2.ensures

pub put_type-returns-in-Union : goal.put_type-returns-in-Union
put_type-returns-in-Union t c =
    let names = map (λ (p : TParam). p.name) c.args.params.now in
    let table = c.args.table.now in
    let out = c.args.out.now.items in
    let f = term_text names table in
    let whole : type_text names (tree table c.args.t) ≡ joined (codes " | ") (map f c.in-Union.terms)
    = ap (type_text names) (sym c.node.ensures.value)
    ∙ ap (λ (n : TypeNode). type_text names (shown table n)) c.in-Union.is
    ∙ union_text names table c.in-Union.terms in
    on_ok_weaker c.put_terms.result
    (λ e. e ∙ ap (λ (ts : List Term). out ++ joined (codes " | ") (map f ts))
    c.items-in-Union.ensures ∙ ap (λ (ts : List ℕ). out ++ ts) (sym whole))
    c.put_terms.ensures
