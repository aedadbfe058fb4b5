-- Writing a list of fields, and then another.
use Rattle.std.proofs.Common.{◌≡◌, List, [], ◌∷◌, ◌++◌, refl}
use Rattle.ui_strpos.specs.Items.{Item, Written, with_item, written}

pub written_append : (xs ys : List Item) (w : Written) → written w (xs ++ ys) ≡ written (written w xs) ys
written_append [] ys w = refl
written_append (x ∷ xs) ys w = written_append xs ys (with_item w x)
