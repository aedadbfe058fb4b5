-- Types as they are written: the parts from left to right, and then the rule of the form. A form
-- that isn't taken is refused at its first token. Go specification, "Types", "Array types",
-- "Struct types", "Function types", "Interface types".
use Rattle.std.specs.Prelude.{ℕ, ◌^◌, ℤ, pos, negsuc, nat_lt, Bool, true, false, List, [], ◌∷◌}
use Rattle.std.specs.Prelude.{◌++◌, Option, Some, None, Ok, if◌then◌else◌}
use Rattle.ui_base.specs.Names.{is_exported}
use Rattle.ui_base.specs.declared.name.Name.{Name}
use Rattle.ui_base.specs.declared.value.Spot.{Spot}
use Rattle.ui_base.specs.declared.value.Value.{Value}
use Rattle.ui_base.specs.declared.value.Value.TheVariants.{Whole, Str, Truth}
use Rattle.ui_base.specs.declared.fault.FaultKind.TheVariants as fault
use Rattle.ui_types.specs.Ty as ty
use Rattle.ui_types.specs.Ty.{Ty, Tys, no_types, types, snoc}
use Rattle.ui_tree.specs.declared.part.Placed.{Placed}
use Rattle.ui_tree.specs.Spots.{tree_spot, type_spot}
use Rattle.ui_tree.specs.Tree as tree
use Rattle.ui_tree.specs.Tree.{TypeTree, Types, Groups, MaybeType, Tree}
use Rattle.ui_scopes.specs.Scopes.{World, ScopeTree}
use Rattle.ui_scopes.specs.Steps.{Checks, ◌>>=◌, refuse, made_at, under_at}
use Rattle.ui_rules.specs.Kinds.{not_taken}
use Rattle.ui_rules.specs.Forms.{constant_of}
use Rattle.ui_rules.specs.Rules.{operand_of}
use Rattle.ui_face_rules.specs.TypeNames.{named_type}

-- ---- array lengths

-- "Array types": a constant that isn't negative and that an `int` can hold
abbrev pub whole_length : List ℕ → Spot → ℤ → Checks ℕ
whole_length file at (pos n) = if nat_lt n (2 ^ 63) then Ok n else refuse file at fault.BadLength
whole_length file at (negsuc n) = refuse file at fault.BadLength

abbrev pub value_length : List ℕ → Spot → Value → Checks ℕ
value_length file at (Whole z) = whole_length file at z
value_length file at (Str text) = refuse file at fault.BadLength
value_length file at (Truth b) = refuse file at fault.BadLength

abbrev pub length_of : World → ScopeTree → Tree → Checks ℕ
length_of w s e = operand_of w s e >>= constant_of w s.file (tree_spot e) >>= λ c. value_length
    s.file (tree_spot e) c.value

-- ---- types of values

-- "Interface types", "General interfaces": an interface that constrains types alone
abbrev pub has_unions : Tys → Bool
has_unions no_types = false
has_unions (types u us) = true

abbrev pub is_constraint : Ty → Bool
is_constraint (ty.basic b) = false
is_constraint (ty.named n ts) = false
is_constraint (ty.pointer t) = false
is_constraint (ty.slice t) = false
is_constraint (ty.array len t) = false
is_constraint (ty.map_of k t) = false
is_constraint (ty.func ps rs) = false
is_constraint (ty.struct ns ts) = false
is_constraint (ty.iface ns ts true us) = true
is_constraint (ty.iface ns ts false us) = has_unions us
is_constraint (ty.union ms ts) = false
is_constraint (ty.param k) = false

abbrev pub unconstrained : List ℕ → Spot → Ty → Ty → Checks Ty
unconstrained file at t under = if is_constraint under then refuse file at fault.ConstraintUse else
    Ok t

-- no value has the type of a constraint
abbrev pub of_values : World → List ℕ → Spot → Ty → Checks Ty
of_values w file at t = under_at w file at t >>= unconstrained file at t

-- ---- fields and parameters

-- a field's name has the empty path exactly where it is exported
abbrev pub field_name : List ℕ → List ℕ → Name
field_name path n = if is_exported n then record { path = []; name = n }
    else record { path = path; name = n }

-- the type once more for each of these names
abbrev pub more_types : Tys → List Placed → Ty → Tys
more_types done [] t = done
more_types done (n ∷ ns) t = more_types (snoc done t) ns t

-- the type of a group: once for each name, or once where there is none
abbrev pub with_group : Tys → List Placed → Ty → Tys
with_group done [] t = snoc done t
with_group done (n ∷ ns) t = more_types done (n ∷ ns) t

-- fields with their types
pub record FieldTypes : Type 0 where
  pub names : List Name
  pub types_of : Tys

abbrev pub fields_of : List Name → Tys → FieldTypes
fields_of ns ts = record { names = ns; types_of = ts }

abbrev pub with_field : List ℕ → FieldTypes → List ℕ → Ty → FieldTypes
with_field path done n t = fields_of (done.names ++ field_name path n ∷ []) (snoc done.types_of t)

abbrev pub with_fields : List ℕ → FieldTypes → List Placed → Ty → FieldTypes
with_fields path done [] t = done
with_fields path done (n ∷ ns) t = with_fields path (with_field path done n.text t) ns t

-- ---- the rules

-- an interface is taken without elements
abbrev pub interface_type : List ℕ → Spot → Types → Checks Ty
interface_type file at tree.types_end = Ok (ty.iface [] no_types false no_types)
interface_type file at (tree.type_and t ts) = refuse file (type_spot t) not_taken

-- each part of a type that holds values is unconstrained, by `of_values`
unfoldable mutual
  pub type_of : World → ScopeTree → TypeTree → Checks Ty
  type_of w s (tree.named p m tree.no_args) = named_type w s p m
  type_of w s (tree.named p m (tree.args ts)) = refuse s.file p.spot not_taken
  type_of w s (tree.parenthesized at t) = type_of w s t
  type_of w s (tree.pointer at t) = type_of w s t >>= of_values w s.file (type_spot t) >>= λ u.
      made_at s.file at (ty.pointer u)
  type_of w s (tree.slice at t) = type_of w s t >>= of_values w s.file (type_spot t) >>= λ u.
      made_at s.file at (ty.slice u)
  type_of w s (tree.array at e t) = length_of w s e >>= λ n. type_of w s t >>= of_values w s.file
      (type_spot t) >>= λ u. made_at s.file at (ty.array n u)
  type_of w s (tree.counted at t) = refuse s.file at not_taken
  type_of w s (tree.mapping at k t) = type_of w s k >>= of_values w s.file (type_spot k) >>= λ u.
      type_of w s t >>= of_values w s.file (type_spot t) >>= λ v. made_at s.file at (ty.map_of u v)
  type_of w s (tree.func at ps r) = group_types w s no_types ps >>= λ us. result_types w s r >>= λ
      vs. made_at s.file at (ty.func us vs)
  type_of w s (tree.listed at gs) = refuse s.file at not_taken
  type_of w s (tree.struct at fs) = field_types w s (fields_of [] no_types) fs >>= λ f. made_at
      s.file at (ty.struct f.names f.types_of)
  type_of w s (tree.interface at es) = interface_type s.file at es
  type_of w s (tree.method p gs r) = refuse s.file p.spot not_taken
  type_of w s (tree.union at ts) = refuse s.file at not_taken
  type_of w s (tree.tilde at t) = refuse s.file at not_taken

  -- the types so far, and those of more groups
  pub group_types : World → ScopeTree → Tys → Groups → Checks Tys
  group_types w s done tree.groups_end = Ok done
  group_types w s done (tree.group_and ns t gs) = type_of w s t >>= of_values w s.file (type_spot
      t) >>= λ u. group_types w s (with_group done ns u) gs

  -- the fields so far, and those of more groups
  pub field_types : World → ScopeTree → FieldTypes → Groups → Checks FieldTypes
  field_types w s done tree.groups_end = Ok done
  field_types w s done (tree.group_and ns t gs) = type_of w s t >>= of_values w s.file (type_spot
      t) >>= λ u. field_types w s (with_fields s.path done ns u) gs

  -- the results of a function: several in parentheses, or one
  pub result_types : World → ScopeTree → MaybeType → Checks Tys
  result_types w s tree.no_type = Ok no_types
  result_types w s (tree.given_type (tree.listed at gs)) = group_types w s no_types gs
  result_types w s (tree.given_type t) = type_of w s t >>= of_values w s.file (type_spot t) >>= λ u.
      Ok (types u no_types)

-- the type of values
abbrev pub element_of : World → ScopeTree → TypeTree → Checks Ty
element_of w s t = type_of w s t >>= of_values w s.file (type_spot t)
