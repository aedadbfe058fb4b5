-- The Obj of a constant. This project's own, after `cmd/compile/internal/noder` of the Go tree.
use Rattle.std.specs.Prelude.{ℕ, ◌^◌, nat_lt, ◌&&◌, if◌then◌else◌, Bool, true, false, Option, Some, None}
use Rattle.ui_strpos.specs.declared.fault.Cause.{Cause}
use Rattle.ui_strpos.specs.declared.fault.Cause.TheVariants.{BadCode}
use Rattle.ui_strpos.specs.Reading.{Context}
use Rattle.ui_strpos.specs.Elements.{any, set_flag}
use Rattle.ui_strpos.specs.Format.{Format, uint_field, truth_field, use_field, seq, via}
use Rattle.ui_eobj.specs.Values.{clear_flag, whole_value}
use Rattle.ui_eobj.specs.declared.object.PosEl.{PosEl}
use Rattle.ui_eobj.specs.declared.object.ConstEl.{ConstEl}

-- lines and columns count from 1 and have 32 bits
abbrev pub place_number : Context → ℕ → Option Cause
place_number c n = if nat_lt 0 n && nat_lt n (2 ^ 32) then None else Some BadCode

-- B(1), a use of PosBase, U(line) U(column)
abbrev pub pos : Format PosEl
pos =
    via (λ x. record { base = x.1.0; line = x.1.1.0; column = x.1.1.1 }) (λ v. (true, (v.base, (v.line, v.column))))
    (seq (truth_field set_flag) (λ _. seq (use_field 2 any) (λ _. seq (uint_field place_number) (λ _. uint_field place_number))))

-- B(0) and a use of Type
abbrev pub plain_type : Format ℕ
plain_type = via (λ x. x.1) (λ k. (false, k)) (seq (truth_field clear_flag) (λ _. use_field 5 any))

-- place, type and value
abbrev pub constant : Format ConstEl
constant = via (λ x. record { pos = x.0; ty = x.1.0; value = x.1.1 }) (λ v. (v.pos, (v.ty, v.value))) (seq pos (λ _. seq plain_type (λ _. whole_value)))
