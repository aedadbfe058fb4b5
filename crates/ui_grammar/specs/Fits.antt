-- Which trees have the place that they stand in: levels of operators, the rule for headers, expressions before types, and
-- the depth. Go specification, "Operators", "Composite literals", "Conversions", "Function types", "General interfaces".
use Rattle.std.specs.Prelude.{◌≡◌, ◌<◌, ◌≤◌, ℕ, suc, max, Bool, true, false, ◌&&◌, ◌||◌, [], ◌∷◌, Option, Some, None}
use Rattle.ui_tree.specs.declared.part.Placed.{Placed}
use Rattle.ui_tree.specs.Tree.{TypeTree, named, parenthesized, pointer, slice, array, counted, mapping, func, listed, struct, interface, method, union, tilde, Args, no_args, args, Types, types_end, type_and, Groups, groups_end, group_and, MaybeType, no_type, given_type, Tree, literal, name, paren, convert, composite, elided, keyed, instance, selector, assert, index, sliced, call, type_arg, unary, binary, Trees, trees_end, tree_and, MaybeTree, absent, given}
use Rattle.ui_grammar.specs.Operator.{level_of}
use Rattle.ui_grammar.specs.Both.{is_expression, ends_open, no_names}

-- ---- places

-- where an expression stands: in a header, as an argument, as an element of a literal or a part of one, or elsewhere
pub data Place : Type 0 where
  in_header : Place
  plain : Place
  argument : Place
  element : Place
  item : Place

-- where a type stands: before the braces of a literal, as a result, as an element of an interface, as a bound, as a term of
-- one, or elsewhere
pub data TypePlace : Type 0 where
  plain_type : TypePlace
  of_literal : TypePlace
  result : TypePlace
  interface_element : TypePlace
  bound : TypePlace
  term : TypePlace

-- the place of a part that nothing encloses: a header's rule holds for it too
abbrev pub within : Place → Place
within in_header = in_header
within plain = plain
within argument = plain
within element = plain
within item = plain

abbrev pub is_header : Place → Bool
is_header in_header = true
is_header plain = false
is_header argument = false
is_header element = false
is_header item = false

abbrev pub takes_braces : Place → Bool
takes_braces in_header = false
takes_braces plain = false
takes_braces argument = false
takes_braces element = true
takes_braces item = true

-- a type that parentheses may not enclose there
abbrev pub takes_type : TypePlace → Bool
takes_type plain_type = true
takes_type of_literal = false
takes_type result = true
takes_type interface_element = false
takes_type bound = false
takes_type term = true

-- a type that a literal may have
abbrev pub takes_literal_type : TypePlace → Bool
takes_literal_type plain_type = true
takes_literal_type of_literal = true
takes_literal_type result = true
takes_literal_type interface_element = false
takes_literal_type bound = false
takes_literal_type term = true

-- A type in parentheses: as a result, parentheses are those of a list.
abbrev pub takes_parentheses : TypePlace → Bool
takes_parentheses plain_type = true
takes_parentheses of_literal = false
takes_parentheses result = false
takes_parentheses interface_element = false
takes_parentheses bound = false
takes_parentheses term = true

abbrev pub takes_union : TypePlace → Bool
takes_union plain_type = false
takes_union of_literal = false
takes_union result = false
takes_union interface_element = true
takes_union bound = true
takes_union term = false

-- ---- tests of a tree

-- how tightly the outermost operator binds: 6 for a unary one, 7 where there is none
abbrev pub level : Tree → ℕ
level (literal s k v) = 7
level (name n) = 7
level (paren s e) = 7
level (convert s t e) = 7
level (composite s t es) = 7
level (elided s es) = 7
level (keyed s k e) = 7
level (instance s f us) = 7
level (selector s e n) = 7
level (assert s e t) = 7
level (index s e i) = 7
level (sliced s e l h m) = 7
level (call s f es spread) = 7
level (type_arg t) = 7
level (unary s o e) = 6
level (binary s o l r) = level_of o

abbrev pub is_named : TypeTree → Bool
is_named (named n m vs) = true
is_named _ = false

abbrev pub is_pointer : TypeTree → Bool
is_pointer (pointer s t) = true
is_pointer _ = false

abbrev pub all_named : Groups → Bool
all_named groups_end = true
all_named (group_and [] t gs) = false
all_named (group_and (n ∷ ns) t gs) = all_named gs

abbrev pub all_bare : Groups → Bool
all_bare groups_end = true
all_bare (group_and ns t gs) = no_names ns && all_bare gs

-- ---- depth: nested types, expressions, literal values in braces, and signatures, which count as func types

-- `p.T` counts two, as the expression does: a text that is both has one depth
abbrev pub name_depth : Option Placed → ℕ
name_depth None = 1
name_depth (Some p) = 2

abbrev mutual
  pub type_depth : TypeTree → ℕ
  type_depth (named n m no_args) = name_depth m
  type_depth (named n m (args us)) = suc (max (name_depth m) (types_depth us))
  type_depth (parenthesized s t) = suc (type_depth t)
  type_depth (pointer s t) = suc (type_depth t)
  type_depth (slice s t) = suc (type_depth t)
  type_depth (array s e t) = suc (max (depth e) (type_depth t))
  type_depth (counted s t) = suc (type_depth t)
  type_depth (mapping s k t) = suc (max (type_depth k) (type_depth t))
  type_depth (func s gs r) = suc (max (groups_depth gs) (maybe_type_depth r))
  type_depth (listed s gs) = groups_depth gs
  type_depth (struct s gs) = suc (groups_depth gs)
  type_depth (interface s us) = suc (types_depth us)
  type_depth (method n gs r) = suc (max (groups_depth gs) (maybe_type_depth r))
  type_depth (union s us) = types_depth us
  type_depth (tilde s t) = type_depth t

  pub types_depth : Types → ℕ
  types_depth types_end = 0
  types_depth (type_and t us) = max (type_depth t) (types_depth us)

  pub groups_depth : Groups → ℕ
  groups_depth groups_end = 0
  groups_depth (group_and ns t gs) = max (type_depth t) (groups_depth gs)

  pub maybe_type_depth : MaybeType → ℕ
  maybe_type_depth no_type = 0
  maybe_type_depth (given_type t) = type_depth t

  pub depth : Tree → ℕ
  depth (literal s k v) = 1
  depth (name n) = 1
  depth (paren s e) = suc (depth e)
  depth (convert s t e) = suc (max (type_depth t) (depth e))
  depth (composite s t es) = suc (max (type_depth t) (suc (trees_depth es)))
  depth (elided s es) = suc (trees_depth es)
  depth (keyed s k e) = max (depth k) (depth e)
  depth (instance s f us) = suc (max (depth f) (types_depth us))
  depth (selector s e n) = suc (depth e)
  depth (assert s e t) = suc (max (depth e) (type_depth t))
  depth (index s e i) = suc (max (depth e) (depth i))
  depth (sliced s e l h m) = suc (max (depth e) (max (maybe_depth l) (max (maybe_depth h) (maybe_depth m))))
  depth (call s f es spread) = suc (max (depth f) (trees_depth es))
  depth (type_arg t) = type_depth t
  depth (unary s o e) = suc (depth e)
  depth (binary s o l r) = suc (max (depth l) (depth r))

  pub trees_depth : Trees → ℕ
  trees_depth trees_end = 0
  trees_depth (tree_and e es) = max (depth e) (trees_depth es)

  pub maybe_depth : MaybeTree → ℕ
  maybe_depth absent = 0
  maybe_depth (given e) = depth e

-- ---- trees that fit

abbrev mutual
  pub FitsType : TypeTree → TypePlace → Type 0
  FitsType (named n m vs) q = (takes_literal_type q ≡ true) × FitsArgs vs
  FitsType (parenthesized s t) q = (takes_parentheses q ≡ true) × FitsType t plain_type
  FitsType (pointer s t) q = (takes_type q ≡ true) × FitsType t plain_type
  FitsType (slice s t) q = (takes_literal_type q ≡ true) × FitsType t plain_type
  FitsType (array s e t) q = (takes_literal_type q ≡ true) × Fits e plain × FitsType t plain_type
  FitsType (counted s t) q = (q ≡ of_literal) × FitsType t plain_type
  FitsType (mapping s k t) q = (takes_literal_type q ≡ true) × FitsType k plain_type × FitsType t plain_type
  FitsType (func s gs r) q = (takes_type q ≡ true) × ((all_named gs || all_bare gs) ≡ true) × FitsGroups gs plain_type × FitsMaybeType r result
  FitsType (listed s gs) q = (q ≡ result) × ((all_named gs || all_bare gs) ≡ true) × FitsGroups gs plain_type
  FitsType (struct s gs) q = (takes_literal_type q ≡ true) × (all_named gs ≡ true) × FitsGroups gs plain_type
  FitsType (interface s us) q = (takes_type q ≡ true) × FitsTypes us interface_element
  FitsType (method n gs r) q = (q ≡ interface_element) × ((all_named gs || all_bare gs) ≡ true) × FitsGroups gs plain_type × FitsMaybeType r result
  FitsType (union s us) q = (takes_union q ≡ true) × FitsTypes us term
  FitsType (tilde s t) q = (q ≡ term) × FitsType t plain_type

  pub FitsMaybeType : MaybeType → TypePlace → Type 0
  FitsMaybeType no_type q = Unit {0}
  FitsMaybeType (given_type t) q = FitsType t q

  pub FitsArgs : Args → Type 0
  FitsArgs no_args = Unit {0}
  FitsArgs (args us) = FitsTypes us plain_type

  pub FitsTypes : Types → TypePlace → Type 0
  FitsTypes types_end q = Unit {0}
  FitsTypes (type_and t us) q = FitsType t q × FitsTypes us q

  pub FitsGroups : Groups → TypePlace → Type 0
  FitsGroups groups_end q = Unit {0}
  FitsGroups (group_and ns t gs) q = FitsType t q × FitsGroups gs q

  pub Fits : Tree → Place → Type 0
  Fits (literal s k v) p = Unit {0}
  Fits (name n) p = Unit {0}
  Fits (paren s e) p = Fits e plain
  -- The type is no expression; `*` before one is an operator, and parentheses behind a signature are its results.
  Fits (convert s t e) p = (is_expression t ≡ false) × (is_pointer t ≡ false) × (ends_open t ≡ false) × FitsType t plain_type × Fits e plain
  -- in a header no braces follow a type's name
  Fits (composite s t es) p = ((is_named t && is_header p) ≡ false) × FitsType t of_literal × FitsTrees es element
  Fits (elided s es) p = (takes_braces p ≡ true) × FitsTrees es element
  Fits (keyed s k e) p = (p ≡ element) × Fits k item × Fits e item
  Fits (instance s f us) p = (level f ≡ 7) × Fits f (within p) × FitsTypes us plain_type
  Fits (selector s e n) p = (level e ≡ 7) × Fits e (within p)
  Fits (assert s e t) p = (level e ≡ 7) × Fits e (within p) × FitsType t plain_type
  Fits (index s e i) p = (level e ≡ 7) × Fits e (within p) × Fits i plain
  Fits (sliced s e l h m) p = (level e ≡ 7) × Fits e (within p) × FitsMaybe l × FitsMaybe h × FitsMaybe m
  Fits (call s f es spread) p = (level f ≡ 7) × Fits f (within p) × FitsTrees es argument
  -- A type stands as an argument where it is no expression.
  Fits (type_arg t) p = (p ≡ argument) × (is_expression t ≡ false) × FitsType t plain_type
  Fits (unary s o e) p = (6 ≤ level e) × Fits e (within p)
  Fits (binary s o l r) p = (level_of o ≤ level l) × (level_of o < level r) × Fits l (within p) × Fits r (within p)

  pub FitsMaybe : MaybeTree → Type 0
  FitsMaybe absent = Unit {0}
  FitsMaybe (given e) = Fits e plain

  pub FitsTrees : Trees → Place → Type 0
  FitsTrees trees_end p = Unit {0}
  FitsTrees (tree_and e es) p = Fits e p × FitsTrees es p
