-- What declarations depend on. Go specification, "Type declarations", "Constant declarations",
-- "Alias declarations".
use Rattle.std.specs.Prelude.{ℕ, ◌+◌, ◌*◌, Bool, not, ◌&&◌, List, [], ◌∷◌, ◌++◌, Option, Some, None}
use Rattle.std.specs.Prelude.{bytes_eq, if◌then◌else◌}
use Rattle.ui_tree.specs.Tree.{MaybeType}
use Rattle.ui_collect.specs.Names.{is_blank, is_init}
use Rattle.ui_collect.specs.Items.{What, aliased, made_as, varied, valued, miscounted, called, Item}
use Rattle.ui_needs.specs.declared.numbers.Nodes.{Nodes}
use Rattle.ui_needs.specs.Needs.{Numbers, type_needs, group_needs, result_needs, head_needs}
use Rattle.ui_needs.specs.Needs.{maybe_head, whole_needs, value_needs, values_needs}

-- ---- numbers: 2k is what the k-th declaration's name is declared as, 2k + 1 its underlying type

abbrev pub nodes_at : ℕ → Nodes
nodes_at k = record { meaning = 2 * k; under = 2 * k + 1 }

abbrev pub no_numbers : Numbers
no_numbers n = None

-- neither `_` nor `init` can be referred to
abbrev pub with_number : Numbers → ℕ → List ℕ → Numbers
with_number at k name n =
    if not (is_blank name) && not (is_init name) && bytes_eq n name then Some (nodes_at k) else at n

-- the declarations are counted from k
abbrev pub numbers_from : Numbers → ℕ → List Item → Numbers
numbers_from at k [] = at
numbers_from at k (d ∷ ds) = numbers_from (with_number at k d.name.text) (k + 1) ds

unfoldable pub numbers_of : List Item → Numbers
numbers_of ds = numbers_from no_numbers 0 ds

-- ---- links

-- what the declared name needs
abbrev pub meaning_needs : Numbers → What → List ℕ
meaning_needs at (aliased t) = type_needs at t
meaning_needs at (made_as t) = []
meaning_needs at (varied t) = result_needs at t
meaning_needs at (valued iota t e) = whole_needs at t ++ value_needs at e
meaning_needs at (miscounted iota s t es) = whole_needs at t ++ values_needs at es
meaning_needs at (called ps r) = group_needs at ps ++ result_needs at r

-- what the underlying type of the k-th declaration needs
abbrev pub under_needs : Numbers → ℕ → What → List ℕ
under_needs at k (aliased t) = (2 * k) ∷ head_needs at t
under_needs at k (made_as t) = type_needs at t ++ head_needs at t
under_needs at k (varied t) = (2 * k) ∷ maybe_head at t
under_needs at k (valued iota t e) = (2 * k) ∷ []
under_needs at k (miscounted iota s t es) = (2 * k) ∷ []
under_needs at k (called ps r) = (2 * k) ∷ []

-- the links of all nodes, in the order of their numbers
abbrev pub links_from : Numbers → ℕ → List Item → List (List ℕ)
links_from at k [] = []
links_from at k (d ∷ ds) = meaning_needs at d.what ∷ under_needs at k d.what ∷ links_from at (k +
    1) ds

unfoldable pub links_of : List Item → List (List ℕ)
links_of ds = links_from (numbers_of ds) 0 ds
