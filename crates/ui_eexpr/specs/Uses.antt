-- Types, objects and functions that an element of a body uses. This project's own, after
-- `cmd/compile/internal/noder` of the Go tree.
use Rattle.std.specs.Prelude.{ℕ, Bool, true, false, Option, Some, None}
use Rattle.ui_strpos.specs.Elements.{any}
use Rattle.ui_strpos.specs.Format.{Format, uint_field, truth_field, use_field, seq, via, variant}
use Rattle.ui_strpos.specs.Format.{tagged, choose, counted}
use Rattle.ui_eobj.specs.Values.{clear_flag}
use Rattle.ui_eobj.specs.Roots.{object_use}
use Rattle.ui_eobj.specs.declared.root.ObjectUse.{ObjectUse}
use Rattle.ui_etype.specs.Types.{outer_use}
use Rattle.ui_eexpr.specs.declared.uses.OuterUse.{OuterUse}
use Rattle.ui_eexpr.specs.declared.uses.InstanceUse.{InstanceUse}
use Rattle.ui_eexpr.specs.declared.callee.CalleeEl.{CalleeEl}
use Rattle.ui_eexpr.specs.declared.callee.CalleeEl.TheVariants.{Plain, Instance}

-- a type
abbrev pub outer : Format OuterUse
outer = via (λ t. record { ty = t }) (λ v. v.ty) outer_use

-- B(0), a use of Obj, and the type arguments
abbrev pub instance : Format InstanceUse
instance =
    via (λ x. record { object = x.1.0; args = x.1.1 }) (λ v. (false, (v.object, v.args)))
    (seq (truth_field clear_flag) (λ _. seq (use_field 6 any) (λ _. counted outer)))

-- ---- functions
abbrev pub is_instance : CalleeEl → Bool
is_instance (Plain o) = false
is_instance (Instance d) = true

abbrev pub as_plain : CalleeEl → Option ObjectUse
as_plain (Plain o) = Some o
as_plain (Instance d) = None

abbrev pub as_instance : CalleeEl → Option ℕ
as_instance (Plain o) = None
as_instance (Instance d) = Some d

abbrev pub plain : Format CalleeEl
plain = variant (λ o. Plain o) as_plain object_use

abbrev pub dictionary_entry : Format CalleeEl
dictionary_entry = variant (λ d. Instance d) as_instance (uint_field any)

-- B(0) and an object without arguments, or B(1) and a sub-dictionary
abbrev pub callee : Format CalleeEl
callee = tagged (truth_field any) is_instance (λ b. choose b dictionary_entry plain)
