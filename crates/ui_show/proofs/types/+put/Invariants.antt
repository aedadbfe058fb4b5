use Rattle.std.proofs.Common.{◌≡◌, ◌+◌, ◌*◌, ◌++◌, take, false}
use Rattle.std.specs.Prelude.{map, codes}
use Rattle.ui_types.specs.declared.decl.TParam.{TParam}
use Rattle.ui_types.specs.declared.part.Field.{Field}
use Rattle.ui_types.specs.declared.part.Method.{Method}
use Rattle.ui_types.specs.declared.part.Term.{Term}
use Rattle.ui_types.specs.Ty.{size, sizes}
use Rattle.ui_types.specs.Table.{tree, parts, parts_by}
use Rattle.ui_show.specs.Pieces.{tail_of, joined}
use Rattle.ui_show.proofs.Joins.{is_started}
use Rattle.ui_show.proofs.Texts.{text_at, field_text, method_text, term_text}
use Rattle.ui_show.proofs.types.+put.Given as goal

abbrev pub decreases-put_type : goal.decreases-put_type
decreases-put_type l = 8 * size (tree l.table.now l.t)

abbrev pub decreases-put_each : goal.decreases-put_each
decreases-put_each l = 8 * sizes (parts l.table.now l.ids.now) + 1

abbrev pub decreases-put_arguments : goal.decreases-put_arguments
decreases-put_arguments l = 8 * sizes (parts l.table.now l.args.now) + 2

abbrev pub decreases-put_results : goal.decreases-put_results
decreases-put_results l = 8 * sizes (parts l.table.now l.results.now) + 3

abbrev pub decreases-put_signature : goal.decreases-put_signature
decreases-put_signature l =
    8 * (sizes (parts l.table.now l.formals.now) + sizes (parts l.table.now l.results.now)) + 5

abbrev pub decreases-put_sig : goal.decreases-put_sig
decreases-put_sig l = 8 * size (tree l.table.now l.t) + 1

abbrev pub decreases-put_fields : goal.decreases-put_fields
decreases-put_fields l = 8 * sizes (parts_by (λ (f : Field). f.ty) l.table.now l.fields.now) + 1

abbrev pub decreases-put_methods : goal.decreases-put_methods
decreases-put_methods l =
    8 * sizes (parts_by (λ (m : Method). m.sig) l.table.now l.methods.now) + 2

abbrev pub decreases-put_elements : goal.decreases-put_elements
decreases-put_elements l =
    8 * (sizes (parts_by (λ (m : Method). m.sig) l.table.now l.methods.now)
    + sizes (parts l.table.now l.unions.now)) + 5

abbrev pub decreases-put_terms : goal.decreases-put_terms
decreases-put_terms l = 8 * sizes (parts_by (λ (t : Term). t.ty) l.table.now l.terms.now) + 1

abbrev pub invariant-put_each-loop-id : goal.invariant-put_each-loop-id
invariant-put_each-loop-id l = record {
  out : l.out.items ≡ l.initial.out.items ++ tail_of l.separator l.initial.is_behind
      (map (text_at (map (λ (p : TParam). p.name) l.params) l.table) (take l.id-index l.ids));
  behind : l.is_behind ≡ is_started l.initial.is_behind
      (map (text_at (map (λ (p : TParam). p.name) l.params) l.table) (take l.id-index l.ids));
}

abbrev pub invariant-put_fields-loop-field : goal.invariant-put_fields-loop-field
invariant-put_fields-loop-field l = record {
  out : l.out.items ≡ l.initial.out.items ++ joined (codes "; ")
      (map (field_text (map (λ (p : TParam). p.name) l.params) l.table) (take l.field-index l.fields));
  behind : l.is_behind ≡ is_started false
      (map (field_text (map (λ (p : TParam). p.name) l.params) l.table) (take l.field-index l.fields));
}

abbrev pub invariant-put_methods-loop-method : goal.invariant-put_methods-loop-method
invariant-put_methods-loop-method l = record {
  out : l.out.items ≡ l.initial.out.items ++ joined (codes "; ")
      (map (method_text (map (λ (p : TParam). p.name) l.params) l.table)
      (take l.method-index l.methods));
  behind : l.is_behind ≡ is_started false
      (map (method_text (map (λ (p : TParam). p.name) l.params) l.table)
      (take l.method-index l.methods));
}

abbrev pub invariant-put_terms-loop-term : goal.invariant-put_terms-loop-term
invariant-put_terms-loop-term l = record {
  out : l.out.items ≡ l.initial.out.items ++ joined (codes " | ")
      (map (term_text (map (λ (p : TParam). p.name) l.params) l.table) (take l.term-index l.terms));
  behind : l.is_behind ≡ is_started false
      (map (term_text (map (λ (p : TParam). p.name) l.params) l.table) (take l.term-index l.terms));
}
