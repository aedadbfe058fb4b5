-- The types of fields and terms, read in a table.
use Rattle.std.proofs.Common.{◌≡◌, List, [], ◌∷◌, map, refl, ap, ◌∙◌}
use Rattle.ui_types.specs.declared.part.Field.{Field}
use Rattle.ui_types.specs.declared.part.Term.{Term}
use Rattle.ui_types.specs.Ty.{Ty, struct, list_of}
use Rattle.ui_types.specs.Table.{Table, tree, trees, parts_by}
use Rattle.ui_terms.specs.Reading.{shown_terms}
use Rattle.ui_satisfy.specs.Comparable.{parts_of}

pub types_shown : (table : Table) (ts : List Term)
    → trees table (map (λ t. t.ty) ts) ≡ map (λ w. w.ty) (shown_terms table ts)
types_shown table [] = refl
types_shown table (t ∷ ts) = ap (λ (us : List Ty). tree table t.ty ∷ us) (types_shown table ts)

fields_shown : (table : Table) (fs : List Field)
    → trees table (map (λ f. f.ty) fs) ≡ list_of (parts_by (λ f. f.ty) table fs)
fields_shown table [] = refl
fields_shown table (f ∷ fs) = ap (λ (us : List Ty). tree table f.ty ∷ us) (fields_shown table fs)

pub parts_shown : (table : Table) (fs : List Field) (t : Ty)
    → struct (map (λ f. f.name) fs) (parts_by (λ f. f.ty) table fs) ≡ t
    → trees table (map (λ f. f.ty) fs) ≡ parts_of t
parts_shown table fs t e = fields_shown table fs ∙ ap parts_of e
