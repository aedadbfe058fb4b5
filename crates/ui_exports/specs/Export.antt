-- What a package of constants exports. This project's own.
use Rattle.std.specs.Prelude.{ℕ, List, refl}
use Rattle.std.specs.Ordering.{nat_cmp}
use Rattle.std.specs.Cmp.Lexicographic.{slice_cmp}
use Rattle.std.specs.FinMap.{FinMap, code}
use Rattle.std.specs.Coded.{Coded, code_by, coded×, coded_ℕ, coded_list}

-- an untyped whole constant: the place of its name, and its value. Lines and columns count from 1, columns in bytes
pub record Declaration : Type 0 where
  pub file : List ℕ
  pub line : ℕ
  pub column : ℕ
  pub value : ℕ

-- the constants by their names
abbrev pub Declarations : Type 0
Declarations = FinMap (slice_cmp nat_cmp) Declaration

pub record Export : Type 0 where
  pub path : List ℕ
  pub name : List ℕ
  pub decls : Declarations

abbrev pub declaration_code : Coded Declaration
declaration_code =
    code_by (List ℕ × (ℕ × (ℕ × ℕ))) (coded× (coded_list coded_ℕ) (coded× coded_ℕ (coded× coded_ℕ coded_ℕ)))
    (λ d. (d.file, (d.line, (d.column, d.value))))
    (λ t. record { file = t.0; line = t.1.0; column = t.1.1.0; value = t.1.1.1 })
    (λ _. refl)

abbrev pub export_code : Coded Export
export_code =
    code_by (List ℕ × (List ℕ × Declarations)) (coded× (coded_list coded_ℕ) (coded× (coded_list coded_ℕ) (code (coded_list coded_ℕ) declaration_code)))
    (λ e. (e.path, (e.name, e.decls)))
    (λ t. record { path = t.0; name = t.1.0; decls = t.1.1 })
    (λ _. refl)
