-- What declarations make of their names. Go specification, "Constant declarations", "Alias
-- declarations", "Type definitions", "Variable declarations", "Function declarations".
use Rattle.std.specs.Prelude.{ℕ, Bool, true, false, List, [], Option, Some, None, Ok}
use Rattle.std.specs.Prelude.{if◌then◌else◌}
use Rattle.ui_base.specs.declared.value.Spot.{Spot}
use Rattle.ui_base.specs.declared.value.Value.{Value}
use Rattle.ui_base.specs.declared.kind.Basic.{Basic}
use Rattle.ui_base.specs.declared.fault.FaultKind.TheVariants as fault
use Rattle.ui_types.specs.Ty as ty
use Rattle.ui_types.specs.Ty.{Ty, no_types}
use Rattle.ui_types.specs.Same.{same_type}
use Rattle.ui_types.specs.Decls.{FaceTree, alias, constant, variable, function, defined}
use Rattle.ui_const.specs.Kinds.{holds}
use Rattle.ui_tree.specs.Spots.{tree_spot, type_spot}
use Rattle.ui_tree.specs.Tree as tree
use Rattle.ui_tree.specs.Tree.{TypeTree, Groups, MaybeType, Tree, Trees}
use Rattle.ui_scopes.specs.Scopes.{World, ScopeTree}
use Rattle.ui_scopes.specs.Steps.{Checks, ◌>>=◌, refuse, made_at, under_at}
use Rattle.ui_rules.specs.Kinds.{is_untyped, suits, not_taken}
use Rattle.ui_rules.specs.Constants.{Constant}
use Rattle.ui_rules.specs.Forms.{constant_of}
use Rattle.ui_rules.specs.Rules.{operand_of}
use Rattle.ui_collect.specs.Items.{What, aliased, made_as, varied, valued, miscounted, called}
use Rattle.ui_face_rules.specs.Types.{type_of, element_of, group_types, result_types, is_constraint}

-- ---- constants

-- "Assignability", "Representability": an untyped constant takes the type, where a value of the
-- type's kind can be this one
abbrev pub represented : List ℕ → Spot → Ty → Basic → Value → Checks FaceTree
represented file at t kind v =
    if holds kind v then Ok (constant t v)
    else (if suits kind v then refuse file at fault.NotRepresentable
    else refuse file at fault.NotAssignable)

-- the types of two typed constants must be identical
abbrev pub assigned_basic : List ℕ → Spot → Ty → Basic → Constant → Checks FaceTree
assigned_basic file at t kind c =
    if is_untyped c.kind then represented file at t kind c.value
    else (if same_type t c.ty then Ok (constant t c.value) else refuse file at fault.NotAssignable)

-- "Constants": only a value of a basic type is a constant
abbrev pub assigned : List ℕ → Spot → Ty → Constant → Ty → Checks FaceTree
assigned file at t c (ty.basic kind) = assigned_basic file at t kind c
assigned file at t c (ty.named n ts) = refuse file at fault.NotAssignable
assigned file at t c (ty.pointer u) = refuse file at fault.NotAssignable
assigned file at t c (ty.slice u) = refuse file at fault.NotAssignable
assigned file at t c (ty.array len u) = refuse file at fault.NotAssignable
assigned file at t c (ty.map_of k u) = refuse file at fault.NotAssignable
assigned file at t c (ty.func ps rs) = refuse file at fault.NotAssignable
assigned file at t c (ty.struct ns ts) = refuse file at fault.NotAssignable
assigned file at t c (ty.iface ns ts b us) = refuse file at fault.NotConst
assigned file at t c (ty.union ms ts) = refuse file at fault.NotAssignable
assigned file at t c (ty.param k) = refuse file at fault.NotAssignable

-- the value of an expression
abbrev pub constant_in : World → ScopeTree → Tree → Checks Constant
constant_in w s e = operand_of w s e >>= constant_of w s.file (tree_spot e)

-- the value, as one of the type
abbrev pub typed_constant : World → ScopeTree → Spot → Ty → Tree → Checks FaceTree
typed_constant w s at t e = constant_in w s e >>= λ c. under_at w s.file at t >>= assigned s.file
    (tree_spot e) t c

-- a constant has the type that is written, else that of its value
abbrev pub constant_face : World → ScopeTree → MaybeType → Tree → Checks FaceTree
constant_face w s tree.no_type e = constant_in w s e >>= λ c. Ok (constant c.ty c.value)
constant_face w s (tree.given_type t) e = element_of w s t >>= λ u. typed_constant w s (type_spot
    t) u e

-- names and expressions that differ in number: the expressions are checked, from left to right
abbrev pub each_constant : World → ScopeTree → MaybeType → Trees → Checks (Unit {0})
each_constant w s t tree.trees_end = Ok tt
each_constant w s t (tree.tree_and e es) = constant_face w s t e >>= λ _. each_constant w s t es

-- ---- types, variables and functions

-- "Type definitions": the underlying type of a new type; a constraint isn't taken yet
abbrev pub new_type : List ℕ → Spot → Ty → Checks FaceTree
new_type file at u = if is_constraint u then refuse file at not_taken else Ok (defined [] u [])

abbrev pub defined_face : World → ScopeTree → TypeTree → Checks FaceTree
defined_face w s t = type_of w s t >>= under_at w s.file (type_spot t) >>= new_type s.file
    (type_spot t)

abbrev pub alias_face : World → ScopeTree → TypeTree → Checks FaceTree
alias_face w s t = type_of w s t >>= λ u. Ok (alias u)

-- a variable without a written type isn't taken yet
abbrev pub variable_face : World → ScopeTree → Spot → MaybeType → Checks FaceTree
variable_face w s at tree.no_type = refuse s.file at not_taken
variable_face w s at (tree.given_type t) = element_of w s t >>= λ u. Ok (variable u)

abbrev pub function_face : World → ScopeTree → Spot → Groups → MaybeType → Checks FaceTree
function_face w s at ps r = group_types w s no_types ps >>= λ us. result_types w s r >>= λ vs.
    made_at s.file at (ty.func us vs) >>= λ t. Ok (function [] t)

-- ---- both nodes of a declaration, where its name stands at the spot

abbrev pub no_face : Checks (Option FaceTree)
no_face = Ok None

abbrev pub some_face : Checks FaceTree → Checks (Option FaceTree)
some_face m = m >>= λ f. Ok (Some f)

-- what the name is declared as; a new type's name is known before
abbrev pub meaning_face : World → ScopeTree → Spot → What → Checks (Option FaceTree)
meaning_face w s at (aliased t) = some_face (alias_face w s t)
meaning_face w s at (made_as t) = no_face
meaning_face w s at (varied t) = some_face (variable_face w s at t)
meaning_face w s at (valued iota t e) = some_face (constant_face w s t e)
meaning_face w s at (miscounted iota first t es) = each_constant w s t es >>= λ _. refuse s.file
    first fault.AssignCount
meaning_face w s at (called ps r) = some_face (function_face w s at ps r)

-- the underlying type of what it is declared as
abbrev pub under_face : World → ScopeTree → What → Checks (Option FaceTree)
under_face w s (aliased t) = no_face
under_face w s (made_as t) = some_face (defined_face w s t)
under_face w s (varied t) = no_face
under_face w s (valued iota t e) = no_face
under_face w s (miscounted iota first t es) = no_face
under_face w s (called ps r) = no_face
