-- Types whose text is the text of an expression as well.
use Rattle.std.specs.Prelude.{Bool, true, false, ◌&&◌, List, [], ◌∷◌}
use Rattle.ui_tree.specs.declared.part.Placed.{Placed}
use Rattle.ui_tree.specs.Tree.{TypeTree, named, parenthesized, pointer, slice, array, counted, mapping, func, listed, struct, interface, method, union, tilde, Types, types_end, type_and, Groups, groups_end, group_and, MaybeType, no_type, given_type}

abbrev pub no_groups : Groups → Bool
no_groups groups_end = true
no_groups (group_and ns t gs) = false

abbrev pub no_names : List Placed → Bool
no_names [] = true
no_names (n ∷ ns) = false

abbrev pub one_name : List Placed → Bool
one_name (n ∷ []) = true
one_name _ = false

-- A name is, with type arguments too, and what is made of such a type by parentheses or by `*`.
abbrev pub is_expression : TypeTree → Bool
is_expression (named n m vs) = true
is_expression (parenthesized s t) = is_expression t
is_expression (pointer s t) = is_expression t
is_expression (slice s t) = false
is_expression (array s e t) = false
is_expression (counted s t) = false
is_expression (mapping s k t) = false
is_expression (func s gs r) = false
is_expression (listed s gs) = false
is_expression (struct s gs) = false
is_expression (interface s us) = false
is_expression (method n gs r) = false
is_expression (union s us) = false
is_expression (tilde s t) = false

-- Behind a name, the text of this type goes on with an expression: `n *T`, `n (T)`, `n [e] (T)`.
abbrev pub continues : TypeTree → Bool
continues (named n m vs) = false
continues (parenthesized s t) = true
continues (pointer s t) = is_expression t
continues (slice s t) = false
continues (array s e t) = continues t
continues (counted s t) = false
continues (mapping s k t) = false
continues (func s gs r) = false
continues (listed s gs) = false
continues (struct s gs) = false
continues (interface s us) = false
continues (method n gs r) = false
continues (union s us) = false
continues (tilde s t) = false

-- The type ends with a signature without results: parentheses behind it would be its results. Go specification,
-- "Conversions": `func()(x)` is the signature `func() x`, and `(func())(x)` a conversion.
abbrev mutual
  pub ends_open : TypeTree → Bool
  ends_open (named n m vs) = false
  ends_open (parenthesized s t) = false
  ends_open (pointer s t) = ends_open t
  ends_open (slice s t) = ends_open t
  ends_open (array s e t) = ends_open t
  ends_open (counted s t) = ends_open t
  ends_open (mapping s k t) = ends_open t
  ends_open (func s gs r) = result_is_open r
  ends_open (listed s gs) = false
  ends_open (struct s gs) = false
  ends_open (interface s us) = false
  ends_open (method n gs r) = result_is_open r
  ends_open (union s us) = false
  ends_open (tilde s t) = ends_open t

  pub result_is_open : MaybeType → Bool
  result_is_open no_type = true
  result_is_open (given_type t) = ends_open t

abbrev pub all_expressions : Types → Bool
all_expressions types_end = true
all_expressions (type_and t us) = is_expression t && all_expressions us

abbrev pub bound_continues : TypeTree → Bool
bound_continues (union s (type_and t us)) = continues t && all_expressions us
bound_continues _ = false

-- one type parameter whose text, with its name, is an expression too, as `N *P | Q`: an array's length
abbrev pub is_length : Groups → Bool
is_length groups_end = false
is_length (group_and ns t gs) = one_name ns && (no_groups gs && bound_continues t)
