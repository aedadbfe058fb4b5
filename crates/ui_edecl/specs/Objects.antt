-- The Obj of each kind of declaration. This project's own, after `cmd/compile/internal/noder` of the Go tree.
use Rattle.std.specs.Prelude.{ℕ, List, bytes_eq, nat_eq, not, ◌&&◌, ◌||◌, if◌then◌else◌, Bool, Option, Some, None}
use Rattle.ui_base.specs.Names.{is_name, is_exported}
use Rattle.ui_strpos.specs.declared.fault.Cause.{Cause}
use Rattle.ui_strpos.specs.declared.fault.Cause.TheVariants.{BadText, WrongCount}
use Rattle.ui_strpos.specs.Reading.{Context, text_of}
use Rattle.ui_strpos.specs.Elements.{any, text_passes, name_use}
use Rattle.ui_strpos.specs.Format.{Format, truth_field, use_field, seq, via, variant, by_shape, choose, no_format, nothing_more, counted_by, times_of}
use Rattle.ui_eobj.specs.declared.object.PosEl.{PosEl}
use Rattle.ui_eobj.specs.Objects.{pos}
use Rattle.ui_eobj.specs.Roots.{is_before}
use Rattle.ui_etype.specs.declared.uses.TypeUse.{TypeUse}
use Rattle.ui_etype.specs.declared.sel.Sel.{Sel}
use Rattle.ui_etype.specs.Types.{outer_use, sel_by}
use Rattle.ui_edecl.specs.Values.{constant_value}
use Rattle.ui_edecl.specs.declared.value.ValueEl.{ValueEl}
use Rattle.ui_edecl.specs.declared.param.ParamEl.{ParamEl}
use Rattle.ui_edecl.specs.declared.method.DeclaredMethodEl.{DeclaredMethodEl}
use Rattle.ui_edecl.specs.declared.object.ObjEl.{ObjEl}
use Rattle.ui_edecl.specs.declared.object.ObjEl.TheVariants as object_

-- ---- type parameters

-- Str(name)
abbrev pub param_el : Format ParamEl
param_el = via (λ k. record { name = k }) (λ v. v.name) name_use

abbrev pub shape_params : Context → ℕ
shape_params c = c.shape.params

-- as many as the dictionary of the same number has parameters
abbrev pub params : Format (List ParamEl)
params = times_of shape_params param_el

-- ---- methods of defined types

-- Methods ascend by name and then by path. Two of one name that isn't exported differ by their packages, whose order
-- isn't tested here.
abbrev pub may_follow : List ℕ → List ℕ → Bool
may_follow one other = is_before one other || (bytes_eq one other && not (is_exported one))

-- a name, which may stand after the one before it
abbrev pub next_method : Option DeclaredMethodEl → Context → ℕ → Option Cause
next_method None c k = text_passes is_name c k
next_method (Some b) c k = if is_name (text_of c k) then (if may_follow (text_of c b.sel.name) (text_of c k) then None else Some WrongCount) else Some BadText

-- Sel Pos B(pointer) T, ascending
abbrev pub method_el : Option DeclaredMethodEl → Format DeclaredMethodEl
method_el before =
    via (λ x. record { sel = x.0; pos = x.1.0; pointer = x.1.1.0; sig = x.1.1.1 }) (λ v. (v.sel, (v.pos, (v.pointer, v.sig))))
    (seq (sel_by (use_field 0 (next_method before))) (λ _. seq pos (λ _. seq (truth_field any) (λ _. outer_use))))

-- ---- objects, by the codes of their names

abbrev pub code_of : ObjEl → ℕ
code_of (object_.Alias p t) = 0
code_of (object_.Const p t v) = 1
code_of (object_.Defined p ps t ms) = 2
code_of (object_.Func p ps t) = 3
code_of (object_.Var p t) = 4
code_of object_.Stub = 5

abbrev pub as_alias : ObjEl → Option (PosEl × TypeUse)
as_alias (object_.Alias p t) = Some (p, t)
as_alias o = None

abbrev pub as_const : ObjEl → Option (PosEl × (TypeUse × ValueEl))
as_const (object_.Const p t v) = Some (p, (t, v))
as_const o = None

abbrev pub as_defined : ObjEl → Option (PosEl × (List ParamEl × (TypeUse × List DeclaredMethodEl)))
as_defined (object_.Defined p ps t ms) = Some (p, (ps, (t, ms)))
as_defined o = None

abbrev pub as_func : ObjEl → Option (PosEl × (List ParamEl × TypeUse))
as_func (object_.Func p ps t) = Some (p, (ps, t))
as_func o = None

abbrev pub as_var : ObjEl → Option (PosEl × TypeUse)
as_var (object_.Var p t) = Some (p, t)
as_var o = None

abbrev pub as_stub : ObjEl → Option (Unit {0})
as_stub object_.Stub = Some tt
as_stub o = None

-- Pos T
abbrev pub placed : Format (PosEl × TypeUse)
placed = seq pos (λ _. outer_use)

abbrev pub alias : Format ObjEl
alias = variant (λ x. object_.Alias x.0 x.1) as_alias placed

-- Pos T V
abbrev pub constant : Format ObjEl
constant = variant (λ x. object_.Const x.0 x.1.0 x.1.1) as_const (seq pos (λ _. seq outer_use (λ _. constant_value)))

-- Pos, the parameters' names, T underlying, and the methods
abbrev pub defined : Format ObjEl
defined = variant (λ x. object_.Defined x.0 x.1.0 x.1.1.0 x.1.1.1) as_defined (seq pos (λ _. seq params (λ _. seq outer_use (λ _. counted_by method_el))))

-- Pos, the parameters' names, T
abbrev pub func : Format ObjEl
func = variant (λ x. object_.Func x.0 x.1.0 x.1.1) as_func (seq pos (λ _. seq params (λ _. outer_use)))

abbrev pub var : Format ObjEl
var = variant (λ x. object_.Var x.0 x.1) as_var placed

-- nothing
abbrev pub stub : Format ObjEl
stub = variant (λ x. object_.Stub) as_stub (nothing_more tt)

abbrev pub cases : ℕ → Format ObjEl
cases k = choose (nat_eq k 0) alias (choose (nat_eq k 1) constant (choose (nat_eq k 2) defined (choose (nat_eq k 3) func (choose (nat_eq k 4) var (choose (nat_eq k 5) stub no_format)))))

abbrev pub shape_code : Context → ℕ
shape_code c = c.shape.code

-- the fields of the kind that the Name of the same number says
abbrev pub object : Format ObjEl
object = by_shape shape_code code_of cases
