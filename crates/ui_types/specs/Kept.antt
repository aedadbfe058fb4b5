-- What a call leaves of an environment and a table. This project's own.
use Rattle.std.specs.Prelude.{◌≡◌, ℕ, List, refl}
use Rattle.std.proofs.Common.{◌∙◌}
use Rattle.ui_types.specs.Table.{Table, Grows}
use Rattle.ui_types.specs.Trees.{Grows-refl, Grows-trans}
use Rattle.ui_types.specs.Decls.{Packages, DeclTrees}

-- the environment answers as before, the ids that it keeps are of the table, and the table only grew
pub record Kept {S : Type 0} (packages : S → Packages) (lent : S → List ℕ) (decls : S → Table → DeclTrees) (fits : S → Table → Type 0) (s : S) (t : Table) (s' : S) (t' : Table) : Type 0 where
  pub still_fits : fits s' t'
  pub same_packages : packages s' ≡ packages s
  pub same_lent : lent s' ≡ lent s
  pub same : decls s' t' ≡ decls s t
  pub grows : Grows t t'

-- the environment answers as before in every table that it fits
pub record KeptEverywhere {S : Type 0} (packages : S → Packages) (lent : S → List ℕ) (decls : S → Table → DeclTrees) (fits : S → Table → Type 0) (s s' : S) : Type 0 where
  pub same_packages : packages s' ≡ packages s
  pub same_lent : lent s' ≡ lent s
  pub each : (t : Table) → fits s t → fits s' t × (decls s' t ≡ decls s t)

module _ {S : Type 0} {P : S → Packages} {L : S → List ℕ} {D : S → Table → DeclTrees} {F : S → Table → Type 0} where
  pub Kept-refl : (s : S) (t : Table) → F s t → Kept P L D F s t s t
  Kept-refl s t h = record { still_fits = h; same_packages = refl; same_lent = refl; same = refl; grows = Grows-refl t }

  pub Kept-trans : {a b c : S} {t u v : Table} → Kept P L D F a t b u → Kept P L D F b u c v → Kept P L D F a t c v
  Kept-trans h k = record { still_fits = k.still_fits; same_packages = k.same_packages ∙ h.same_packages; same_lent = k.same_lent ∙ h.same_lent; same = k.same ∙ h.same; grows = Grows-trans h.grows k.grows }

  pub KeptEverywhere-refl : (s : S) → KeptEverywhere P L D F s s
  KeptEverywhere-refl s = record { same_packages = refl; same_lent = refl; each = λ t h. (h, refl) }

  pub Kept-everywhere : {s s' : S} {t : Table} → KeptEverywhere P L D F s s' → F s t → Kept P L D F s t s' t
  Kept-everywhere {t = t} h k = record { still_fits = (h.each t k).0; same_packages = h.same_packages; same_lent = h.same_lent; same = (h.each t k).1; grows = Grows-refl t }

  -- the law of an environment, where the table alone has grown
  pub Kept-grown : ((s : S) (t u : Table) → Grows t u → F s t → F s u × (D s u ≡ D s t)) → (s : S) {t u : Table} → Grows t u → F s t → Kept P L D F s t s u
  Kept-grown stays s {t} {u} g h = let k = stays s t u g h in record { still_fits = k.0; same_packages = refl; same_lent = refl; same = k.1; grows = g }

-- one call after another
pub ruleset keeping = (Kept-refl, Kept-trans, KeptEverywhere-refl, Kept-everywhere, Kept-grown)
