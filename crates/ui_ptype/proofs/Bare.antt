-- Names that are types, one after another.
use Rattle.std.proofs.Common.{◌≡◌, ◌++◌, List, [], ◌∷◌, map, sym, ap, ◌∙◌}
use Rattle.std.proofs.lemmas.List.{map-append, append_assoc}
use Rattle.ui_tree.specs.declared.part.Placed.{Placed}
use Rattle.ui_tree.specs.declared.part.Group.{Group}
use Rattle.ui_tree.specs.declared.expr.TypeExpr.{TypeExpr}
use Rattle.ui_tree.specs.View.{group_with, type_view}
use Rattle.ui_syntax.specs.Types.{as_types, bare_group}

pub bare_more : (old now after : List (Group TypeExpr)) (g : Group TypeExpr) (names : List Placed) (n : Placed) → after ≡ now ++ (g ∷ []) → group_with type_view g ≡ bare_group n
    → map (group_with type_view) now ≡ map (group_with type_view) old ++ as_types names → map (group_with type_view) after ≡ map (group_with type_view) old ++ as_types (names ++ (n ∷ []))
bare_more old now after g names n pushed is so_far =
    ap (map (group_with type_view)) pushed ∙ map-append (group_with type_view) now (g ∷ [])
    ∙ ap (λ l. l ++ (group_with type_view g ∷ [])) so_far ∙ ap (λ x. (map (group_with type_view) old ++ as_types names) ++ (x ∷ [])) is
    ∙ append_assoc (map (group_with type_view) old) (as_types names) (bare_group n ∷ [])
    ∙ ap (λ l. map (group_with type_view) old ++ l) (sym (map-append bare_group names (n ∷ [])))
