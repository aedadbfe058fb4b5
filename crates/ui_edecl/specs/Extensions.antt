-- The ObjExt of each kind of declaration: whether its bodies are kept. This project's own, after `cmd/compile/internal/noder`
-- of the Go tree.
use Rattle.std.specs.Prelude.{ℕ, List, nat_eq, if◌then◌else◌, Bool, is_some, Option, Some, None}
use Rattle.ui_strpos.specs.Reading.{Context}
use Rattle.ui_strpos.specs.Elements.{any}
use Rattle.ui_strpos.specs.Format.{Format, truth_field, use_field, via, variant, by_shape, choose, no_format, nothing_more, with_option, times_of}
use Rattle.ui_edecl.specs.declared.extension.KeptEl.{KeptEl}
use Rattle.ui_edecl.specs.declared.extension.ObjExtEl.{ObjExtEl}
use Rattle.ui_edecl.specs.declared.extension.ObjExtEl.TheVariants as extension_

abbrev pub is_set : Context → Bool → Bool
is_set c b = b

-- B(kept) and, if 1, a use of Body
abbrev pub kept : Format KeptEl
kept = via (λ x. record { body = x.1 }) (λ v. (is_some v.body, v.body)) (with_option (truth_field any) is_set (use_field 9 any))

-- a function has 3 and a defined type 2, as the codes of names; all others 0
abbrev pub kind_of : ObjExtEl → ℕ
kind_of (extension_.Func b) = 3
kind_of (extension_.Defined bs) = 2
kind_of extension_.Other = 0

abbrev pub as_func : ObjExtEl → Option KeptEl
as_func (extension_.Func b) = Some b
as_func e = None

abbrev pub as_defined : ObjExtEl → Option (List KeptEl)
as_defined (extension_.Defined bs) = Some bs
as_defined e = None

abbrev pub as_other : ObjExtEl → Option (Unit {0})
as_other extension_.Other = Some tt
as_other e = None

abbrev pub shape_methods : Context → ℕ
shape_methods c = c.shape.methods

-- one per method of the Obj of the same number
abbrev pub bodies : Format (List KeptEl)
bodies = times_of shape_methods kept

abbrev pub func : Format ObjExtEl
func = variant (λ b. extension_.Func b) as_func kept

abbrev pub defined : Format ObjExtEl
defined = variant (λ bs. extension_.Defined bs) as_defined bodies

abbrev pub other : Format ObjExtEl
other = variant (λ x. extension_.Other) as_other (nothing_more tt)

abbrev pub cases : ℕ → Format ObjExtEl
cases k = choose (nat_eq k 3) func (choose (nat_eq k 2) defined (choose (nat_eq k 0) other no_format))

abbrev pub shape_kind : Context → ℕ
shape_kind c = if nat_eq c.shape.code 3 then 3 else if nat_eq c.shape.code 2 then 2 else 0

-- the fields of the kind that the Name of the same number says
abbrev pub extension : Format ObjExtEl
extension = by_shape shape_kind kind_of cases
