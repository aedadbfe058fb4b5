-- The constants of imports that the terms of a source may name. This project's own.
use Rattle.std.specs.Prelude.{◌≡◌, ℕ, List, slice_get, refl}
use Rattle.std.specs.Coded.{Coded, code_by, coded×, coded_ℕ, coded_list}
use Rattle.std.specs.Option.{option_and_then}
use Rattle.std.specs.FinMap.{get}
use Rattle.ui_base.specs.declared.value.Spot.{Spot}
use Rattle.ui_exports.specs.Linked.{Linked, linked_code}
use Rattle.ui_forms.specs.Numbers.{Numbered}
use Rattle.ui_forms.specs.Verdict.{Selection, environment_of, import_by, package_of, value_from}
use Rattle.ui_forms.specs.declared.part.ImportPath.{ImportPath}

-- the linked files of a package's imports, and the imports of a source
pub record Scope : Type 0 where
  pub linked : List Linked
  pub imports : List ImportPath

abbrev pub selection_of : Scope → Selection
selection_of s = value_from (environment_of s.linked) s.imports

-- the numbers lead to these packages by their paths
pub record ArePlaces (index : Numbered) (imports : List Linked) : Type 0 where
  pub same : (path : List ℕ) → option_and_then (slice_get imports) (get index path) ≡ package_of imports path

-- the numbers lead to these imports by their last segments
pub record AreSegments (index : Numbered) (imports : List ImportPath) : Type 0 where
  pub same : (segment : List ℕ) → option_and_then (slice_get imports) (get index segment) ≡ import_by imports segment

abbrev pub spot_code : Coded Spot
spot_code = code_by (ℕ × ℕ) (coded× coded_ℕ coded_ℕ) (λ s. (s.line, s.col)) (λ p. record { line = p.0; col = p.1 }) (λ _. refl)

abbrev pub import_code : Coded ImportPath
import_code = code_by (List ℕ × Spot) (coded× (coded_list coded_ℕ) spot_code) (λ i. (i.path, i.spot)) (λ p. record { path = p.0; spot = p.1 }) (λ _. refl)

abbrev pub scope_code : Coded Scope
scope_code = code_by (List Linked × List ImportPath) (coded× (coded_list linked_code) (coded_list import_code)) (λ s. (s.linked, s.imports)) (λ p. record { linked = p.0; imports = p.1 }) (λ _. refl)
