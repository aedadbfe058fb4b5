-- The shape of a type: its node without its parts. This project's own.
use Rattle.std.specs.Prelude.{Bool}
use Rattle.ui_types.specs.Ty.{Ty, Tys, basic, named, pointer, slice, array, map_of, func, struct}
use Rattle.ui_types.specs.Ty.{iface, union, param, no_types, types}
use Rattle.ui_types.specs.Same.{same_type}

-- as many parts, each of them `z`
abbrev pub fill : Ty → Tys → Tys
fill z no_types = no_types
fill z (types t ts) = types z (fill z ts)

-- the type with `z` in the place of each part
abbrev pub filled : Ty → Ty → Ty
filled z (basic b) = basic b
filled z (named n ts) = named n (fill z ts)
filled z (pointer t) = pointer z
filled z (slice t) = slice z
filled z (array len t) = array len z
filled z (map_of k t) = map_of z z
filled z (func ps rs) = func (fill z ps) (fill z rs)
filled z (struct ns ts) = struct ns (fill z ts)
filled z (iface ns ts c us) = iface ns (fill z ts) c (fill z us)
filled z (union ms ts) = union ms (fill z ts)
filled z (param k) = param k

-- the same in each part's place
abbrev pub shape : Ty → Ty
shape t = filled (param 0) t

-- They differ in their parts alone: in no name, length or mark, nor in the number of parts.
unfoldable pub same_shape : Ty → Ty → Bool
same_shape t u = same_type (shape t) (shape u)
