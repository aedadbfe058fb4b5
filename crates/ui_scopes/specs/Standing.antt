-- An environment and its table, from call to call: what callers of rules use.
use Rattle.std.specs.Prelude.{◌≡◌, ℕ, List, refl}
use Rattle.std.proofs.Common.{ap, ◌∙◌}
use Rattle.ui_types.specs.Table.{Table, Grows}
use Rattle.ui_types.specs.Trees.{Grows-refl}
use Rattle.ui_types.specs.Decls.{Packages, DeclTrees}
use Rattle.ui_types.specs.Kept.{Kept}
use Rattle.ui_scopes.specs.Scopes.{World, world}

-- the environment fits the table, and its law goes with it
pub record Stands {S : Type 0} (packages : S → Packages) (decls : S → Table → DeclTrees) (fits : S → Table → Type 0) (s : S) (t : Table) : Type 0 where
  pub fits_now : fits s t
  pub law : (a : S) (u v : Table) → Grows u v → fits a u → fits a v × (decls a v ≡ decls a u)

module _ {S : Type 0} {P : S → Packages} {L : S → List ℕ} {D : S → Table → DeclTrees} {F : S → Table → Type 0} where
  pub Stands-kept : {s s' : S} {t t' : Table} → Kept P L D F s t s' t' → Stands P D F s t → Stands P D F s' t'
  Stands-kept k h = record { fits_now = k.still_fits; law = h.law }

  -- where the table alone has grown
  pub Stands-grown : {s : S} {t u : Table} → Grows t u → Stands P D F s t → Kept P L D F s t s u
  Stands-grown {s} {t} {u} g h = let k = h.law s t u g h.fits_now in record { still_fits = k.0; same_packages = refl; same_lent = refl; same = k.1; grows = g }

  pub world-kept : {s s' : S} {t t' : Table} → Kept P L D F s t s' t' → world (P s') (D s' t') ≡ world (P s) (D s t)
  world-kept k = λ i. record { packages = k.same_packages i; decls = k.same i }

pub ruleset standing = (Stands-kept, Stands-grown, world-kept)
