-- The elements PosBase, Pkg and Name. This project's own, after `cmd/compile/internal/noder` of the Go tree.
use Rattle.std.specs.Prelude.{ℕ, List, length, nat_lt, nat_eq, bytes_eq, codes, not, ◌||◌, if◌then◌else◌, Bool, true, Option, Some, None}
use Rattle.ui_base.specs.Names.{is_name}
use Rattle.ui_base.specs.Paths.{is_path}
use Rattle.ui_strpos.specs.declared.fault.Cause.{Cause}
use Rattle.ui_strpos.specs.declared.fault.Cause.TheVariants.{BadCode, BadText}
use Rattle.ui_strpos.specs.declared.posbase.PosBaseEl.{PosBaseEl}
use Rattle.ui_strpos.specs.declared.pkg.PkgEl.{PkgEl}
use Rattle.ui_strpos.specs.declared.name.NameEl.{NameEl}
use Rattle.ui_strpos.specs.declared.name.NameKind.{NameKind}
use Rattle.ui_strpos.specs.declared.name.NameKind.TheVariants.{Alias, Const, Defined, Func, Var, Stub}
use Rattle.ui_strpos.specs.Reading.{Context, text_of}
use Rattle.ui_strpos.specs.Format.{Format, uint_field, truth_field, use_field, seq, via}

-- ---- tests of a field's value

abbrev pub any : {A : Type 0} → Context → A → Option Cause
any c x = None

-- the String element that is used passes a test
abbrev pub text_passes : (List ℕ → Bool) → Context → ℕ → Option Cause
text_passes test c k = if test (text_of c k) then None else Some BadText

abbrev pub code_below : ℕ → Context → ℕ → Option Cause
code_below limit c n = if nat_lt n limit then None else Some BadCode

-- a flag that is always 1
abbrev pub set_flag : Context → Bool → Option Cause
set_flag c b = if b then None else Some BadCode

-- ---- texts

abbrev pub is_some_text : List ℕ → Bool
is_some_text bytes = not (nat_eq (length bytes) 0)

-- the package of the predeclared names
abbrev pub is_builtin : List ℕ → Bool
is_builtin bytes = bytes_eq bytes (codes "builtin")

abbrev pub is_package_path : List ℕ → Bool
is_package_path path = is_builtin path || is_path path

-- the name of the package with a path
abbrev pub is_package_name : List ℕ → List ℕ → Bool
is_package_name path name = if is_builtin path then is_builtin name else is_name name

-- the use of a String that is a name
abbrev pub name_use : Format ℕ
name_use = use_field 0 (text_passes is_name)

-- ---- the elements

-- Str(file) B(1)
abbrev pub posbase : Format PosBaseEl
posbase = via (λ x. record { file = x.0 }) (λ v. (v.file, true)) (seq (use_field 0 (text_passes is_some_text)) (λ _. truth_field set_flag))

-- Str(path) Str(name)
abbrev pub package_name : ℕ → Format ℕ
package_name path = use_field 0 (λ c name. text_passes (is_package_name (text_of c path)) c name)

abbrev pub pkg : Format PkgEl
pkg = via (λ x. record { path = x.0; name = x.1 }) (λ v. (v.path, v.name)) (seq (use_field 0 (text_passes is_package_path)) package_name)

abbrev pub code_of : NameKind → ℕ
code_of Alias = 0
code_of Const = 1
code_of Defined = 2
code_of Func = 3
code_of Var = 4
code_of Stub = 5

abbrev pub kind_of : ℕ → NameKind
kind_of n = if nat_eq n 0 then Alias else if nat_eq n 1 then Const else if nat_eq n 2 then Defined else if nat_eq n 3 then Func else if nat_eq n 4 then Var else Stub

abbrev pub kind : Format NameKind
kind = via kind_of code_of (uint_field (code_below 6))

-- a use of Pkg, Str(name), and the kind's code
abbrev pub name : Format NameEl
name = via (λ x. record { pkg = x.0; name = x.1.0; kind = x.1.1 }) (λ v. (v.pkg, (v.name, v.kind))) (seq (use_field 3 any) (λ _. seq name_use (λ _. kind)))
