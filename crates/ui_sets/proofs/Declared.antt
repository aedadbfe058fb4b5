-- The methods that are declared for a type, by its node.
use Rattle.std.proofs.Common.{◌≡◌, suc, List, [], ◌∷◌, length, refl, ap, ◌∙◌, sym}
use Rattle.ui_base.specs.declared.name.Name.{Name}
use Rattle.ui_types.specs.declared.id.TypeId.{TypeId}
use Rattle.ui_types.specs.Ty.{Ty, named}
use Rattle.ui_types.specs.Table.{Table, trees, parts}
use Rattle.ui_types.specs.Trees.{list_of-tys}
use Rattle.ui_types.specs.Decls.{DeclTrees}
use Rattle.ui_sets.specs.Sites.{own_methods, name_methods}

count_of : (table : Table) (ids : List TypeId) → length (trees table ids) ≡ length ids
count_of table [] = refl
count_of table (t ∷ ts) = ap (λ n. suc n) (count_of table ts)

pub own_named : (ds : DeclTrees) (table : Table) (n : Name) (args : List TypeId) (t : Ty)
    → named n (parts table args) ≡ t → own_methods ds t ≡ name_methods ds n (length args)
own_named ds table n args t e =
    ap (λ (u : Ty). own_methods ds u) (sym e) ∙ ap (λ k. name_methods ds n k)
    (ap (λ (ts : List Ty). length ts) (list_of-tys (trees table args)) ∙ count_of table args)
