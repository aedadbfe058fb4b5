-- The two roots of a file. This project's own, after `cmd/compile/internal/noder` of the Go tree.
use Rattle.std.specs.Prelude.{ℕ, List, length, nat_eq, if◌then◌else◌, Bool, true, false, Option, Some, None}
use Rattle.std.specs.declared.cmp.Ordering.TheVariants.{Less}
use Rattle.std.specs.Ordering.{nat_cmp, is_lt}
use Rattle.std.specs.Cmp.Lexicographic.{slice_cmp}
use Rattle.ui_base.specs.Paths.{is_path}
use Rattle.ui_strpos.specs.declared.fault.Cause.{Cause}
use Rattle.ui_strpos.specs.declared.fault.Cause.TheVariants.{BadCode, BadText, WrongCount}
use Rattle.ui_strpos.specs.Reading.{Context, text_of}
use Rattle.ui_strpos.specs.Elements.{any, text_passes}
use Rattle.ui_strpos.specs.Format.{Format, uint_field, truth_field, use_field, seq, via, counted, counted_by}
use Rattle.ui_eobj.specs.Values.{clear_flag}
use Rattle.ui_eobj.specs.declared.root.ObjectUse.{ObjectUse}
use Rattle.ui_eobj.specs.declared.root.BelowEl.{BelowEl}
use Rattle.ui_eobj.specs.declared.root.PublicRootEl.{PublicRootEl}
use Rattle.ui_eobj.specs.declared.root.PrivateRootEl.{PrivateRootEl}

abbrev pub no_arguments : Context → ℕ → Option Cause
no_arguments c n = if nat_eq n 0 then None else Some BadCode

-- B(0), a use of Obj and, since there are no type arguments, U(0)
abbrev pub object_use : Format ObjectUse
object_use = via (λ x. record { object = x.1.0 }) (λ v. (false, (v.object, 0))) (seq (truth_field clear_flag) (λ _. seq (use_field 6 any) (λ _. uint_field no_arguments)))

-- a use of Pkg, B(0), a count and so many objects
abbrev pub public_root : Format PublicRootEl
public_root = via (λ x. record { pkg = x.0; objects = x.1.1 }) (λ v. (v.pkg, (false, v.objects))) (seq (use_field 3 any) (λ _. seq (truth_field clear_flag) (λ _. counted object_use)))

abbrev pub is_print : List ℕ → Bool
is_print bytes = nat_eq (length bytes) 8

-- one text comes before another, by bytes
abbrev pub is_before : List ℕ → List ℕ → Bool
is_before a b = is_lt (slice_cmp nat_cmp a b)

-- a valid path, which comes after the one before it
abbrev pub next_path : Option BelowEl → Context → ℕ → Option Cause
next_path None c k = text_passes is_path c k
next_path (Some b) c k = if is_path (text_of c k) then (if is_before (text_of c b.path) (text_of c k) then None else Some WrongCount) else Some BadText

-- Str(path) Str(fingerprint) B(direct)
abbrev pub below_entry : Option BelowEl → Format BelowEl
below_entry before =
    via (λ x. record { path = x.0; print = x.1.0; direct = x.1.1 }) (λ v. (v.path, (v.print, v.direct)))
    (seq (use_field 0 (next_path before)) (λ _. seq (use_field 0 (text_passes is_print)) (λ _. truth_field any)))

-- a count and so many packages below, ascending by path
abbrev pub private_root : Format PrivateRootEl
private_root = via (λ x. record { below = x }) (λ v. v.below) (counted_by below_entry)
