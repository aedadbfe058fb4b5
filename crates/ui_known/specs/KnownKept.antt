-- What a call leaves of an environment with declarations before its own.
use Rattle.std.proofs.Common.{◌≡◌, ℕ, List, ◌∷◌, ◌++◌, length}
use Rattle.ui_types.specs.Table.{Table}
use Rattle.ui_types.specs.Decls.{Packages, DeclTrees, AreDecls, shown_decls}
use Rattle.ui_types.specs.Kept.{Kept}
use Rattle.ui_known.specs.Split.{both_kept}
use Rattle.ui_known.specs.declared.known.Known.{Known}

-- the same reference, the same declarations before, and what is behind as a call leaves it
pub record KnownKept {S : Type 0} (P : S → Packages) (L : S → List ℕ) (D : S → Table → DeclTrees) (F : S → Table → Type 0) (k : Known S) (t : Table) (k' : Known S) (t' : Table) : Type 0 where
  pub same_reference : k'.below.ghost_name ≡ k.below.ghost_name
  pub own : shown_decls t' k'.decls ≡ shown_decls t k.decls
  pub valid : AreDecls t' k'.decls
  pub kept : Kept P L D F k.below.now t k'.below.now t'

pub known_kept : {S : Type 0} (P : S → Packages) (L : S → List ℕ) (D : S → Table → DeclTrees) (F : S → Table → Type 0) (k : Known S) (t : Table) (k' : Known S) (t' : Table)
    → Kept (λ (s : Known S). P s.below.now) (λ (s : Known S). s.below.ghost_name ∷ length s.decls ∷ L s.below.now) (λ (s : Known S) (u : Table). shown_decls u s.decls ++ D s.below.now u) (λ (s : Known S) (u : Table). AreDecls u s.decls × F s.below.now u) k t k' t'
    → KnownKept P L D F k t k' t'
known_kept P L D F k t k' t' h =
    let e : k'.below.ghost_name ∷ length k'.decls ∷ L k'.below.now ≡ k.below.ghost_name ∷ length k.decls ∷ L k.below.now = h.same_lent in
    let n : length k'.decls ≡ length k.decls = cc in
    let two = both_kept t t' k.decls k'.decls (D k.below.now t) (D k'.below.now t') n h.same in
    record {
      same_reference = cc;
      own = two.0;
      valid = h.still_fits.0;
      kept = record { still_fits = h.still_fits.1; same_packages = h.same_packages; same_lent = cc; same = two.1; grows = h.grows };
    }
