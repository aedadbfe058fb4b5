-- Lists of what holds a type each: ids, fields, methods and terms.
use Rattle.std.specs.Prelude.{List, [], ◌∷◌}
use Rattle.ui_types.specs.declared.id.TypeId.{TypeId}

-- the parts, each with the type at its place
abbrev pub with_types : {P : Type 0} → (P → TypeId → P) → List P → List TypeId → List P
with_types with_type [] ids = []
with_types with_type (p ∷ ps) [] = p ∷ ps
with_types with_type (p ∷ ps) (t ∷ ts) = with_type p t ∷ with_types with_type ps ts
