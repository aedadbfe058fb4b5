-- The ObjDict of a declaration without type parameters, derived types, method entries and sub-dictionaries. This project's
-- own, after `cmd/compile/internal/noder` of the Go tree.
use Rattle.std.specs.Prelude.{ℕ, nat_eq, if◌then◌else◌, Option, Some, None}
use Rattle.ui_strpos.specs.declared.fault.Cause.{Cause}
use Rattle.ui_strpos.specs.declared.fault.Cause.TheVariants.{BadCode}
use Rattle.ui_strpos.specs.Reading.{Context}
use Rattle.ui_strpos.specs.Format.{Format, uint_field, seq, via}
use Rattle.ui_edecl.specs.declared.dictionary.DictEl.{DictEl}

-- a number that is always 0
abbrev pub zero_number : Context → ℕ → Option Cause
zero_number c n = if nat_eq n 0 then None else Some BadCode

abbrev pub zero_field : Format ℕ
zero_field = uint_field zero_number

-- U(0); no parameters, derived types, method entries and sub-dictionaries, each U(0); U(0) U(0)
abbrev pub dictionary : Format DictEl
dictionary =
    via (λ x. record {}) (λ v. (0, (0, (0, (0, (0, (0, 0)))))))
    (seq zero_field (λ _. seq zero_field (λ _. seq zero_field (λ _. seq zero_field (λ _. seq zero_field (λ _. seq zero_field (λ _. zero_field)))))))
