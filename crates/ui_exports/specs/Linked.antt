-- What a linked file stands for: what its package exports, and the packages below it. This project's own.
use Rattle.std.specs.Prelude.{ℕ, Bool, List, map, refl, Vec}
use Rattle.std.specs.Coded.{Coded, code_by, coded×, coded_ℕ, coded_list, coded_bool}
use Rattle.std.specs.declared.alloc.Global.{Global}
use Rattle.ui_exports.specs.Export.{Export, export_code}
use Rattle.ui_exports.specs.declared.linked.Below.{Below as Held}

-- a package below: its path, the fingerprint of its linked file, and whether it is a direct import
pub record Below : Type 0 where
  pub path : List ℕ
  pub print : List ℕ
  pub direct : Bool

pub record Linked : Type 0 where
  pub export : Export
  pub below : List Below

abbrev pub below_code : Coded Below
below_code =
    code_by (List ℕ × (List ℕ × Bool)) (coded× (coded_list coded_ℕ) (coded× (coded_list coded_ℕ) coded_bool))
    (λ b. (b.path, (b.print, b.direct)))
    (λ t. record { path = t.0; print = t.1.0; direct = t.1.1 })
    (λ _. refl)

abbrev pub linked_code : Coded Linked
linked_code =
    code_by (Export × List Below) (coded× export_code (coded_list below_code))
    (λ l. (l.export, l.below))
    (λ t. record { export = t.0; below = t.1 })
    (λ _. refl)

-- a package below as it lies in memory
abbrev pub below : Held → Below
below b = record { path = b.path; print = b.print; direct = b.direct }

abbrev pub belows : Vec Held Global → List Below
belows v = map below v.items
