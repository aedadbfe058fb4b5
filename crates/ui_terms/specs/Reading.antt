-- Terms in memory, read in a table.
use Rattle.std.specs.Prelude.{◌≡◌, List, [], ◌∷◌, map, All, refl}
use Rattle.ui_types.specs.declared.part.Term.{Term}
use Rattle.ui_types.specs.Table.{Table, IsId, tree, parts_by}
use Rattle.ui_terms.specs.declared.own.OwnTerm.{OwnTerm}
use Rattle.ui_terms.specs.Terms.{TermTree, OwnTree, zipped}

abbrev pub IsTerm : Table → Term → Type 0
IsTerm table t = IsId table t.ty

abbrev pub shown_term : Table → Term → TermTree
shown_term table t = record { tilde = t.tilde; ty = tree table t.ty }

abbrev pub shown_terms : Table → List Term → List TermTree
shown_terms table ts = map (shown_term table) ts

pub record IsOwn (table : Table) (o : OwnTerm) : Type 0 where
  pub ty : IsId table o.ty
  pub under : IsId table o.under

abbrev pub shown_own : Table → OwnTerm → OwnTree
shown_own table o = record { tilde = o.tilde; ty = tree table o.ty; under = tree table o.under }

abbrev pub AreOwn : Table → List OwnTerm → Type 0
AreOwn table = All (IsOwn table)

abbrev pub shown_owns : Table → List OwnTerm → List OwnTree
shown_owns table os = map (shown_own table) os

abbrev pub AreOwns : Table → List (List OwnTerm) → Type 0
AreOwns table = All (AreOwn table)

abbrev pub shown_unions : Table → List (List OwnTerm) → List (List OwnTree)
shown_unions table us = map (shown_owns table) us

-- the terms of a union in memory
pub zipped_terms : (table : Table) (ts : List Term)
    → zipped (map (λ t. t.tilde) ts) (parts_by (λ t. t.ty) table ts) ≡ shown_terms table ts
zipped_terms table [] = refl
zipped_terms table (t ∷ ts) = λ i. shown_term table t ∷ zipped_terms table ts i

pub ruleset reading = (zipped_terms)
