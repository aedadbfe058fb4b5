-- Trees of expressions that are the trees of types too.
use Rattle.std.specs.Prelude.{ℕ, Bool, true, false, Option, Some, None}
use Rattle.ui_base.specs.declared.value.Spot.{Spot}
use Rattle.ui_tree.specs.declared.part.Placed.{Placed}
use Rattle.ui_tree.specs.declared.part.PrefixOp.{PrefixOp}
use Rattle.ui_tree.specs.declared.part.PrefixOp.TheVariants.{Plus, Minus, Not, Flip, Deref, Address}
use Rattle.ui_tree.specs.Tree.{TypeTree, named, parenthesized, pointer, slice, array, counted, mapping, func, listed, struct, interface, method, union, tilde, no_args, args, Types, types_end, type_and, Tree, literal, name, paren, convert, composite, elided, keyed, instance, selector, assert, index, sliced, call, type_arg, unary, binary}

-- a tree that was read, the spot of its first word, and its depth
pub record Read (T : Type 0) : Type 0 where
  pub tree : T
  pub spot : Spot
  pub depth : ℕ

-- the type, where the tree is one and no expression
abbrev pub only_type : Tree → Option TypeTree
only_type (literal s k v) = None
only_type (name n) = None
only_type (paren s e) = None
only_type (convert s t e) = None
only_type (composite s t es) = None
only_type (elided s es) = None
only_type (keyed s k e) = None
only_type (instance s f us) = None
only_type (selector s e n) = None
only_type (assert s e t) = None
only_type (index s e i) = None
only_type (sliced s e l h m) = None
only_type (call s f es spread) = None
only_type (type_arg t) = Some t
only_type (unary s o e) = None
only_type (binary s o l r) = None

-- a type's name with its package's, where the tree is one
abbrev pub TypeName : Type 0
TypeName = Placed × Option Placed

abbrev pub member_of : Tree → Placed → Option TypeName
member_of (name n) m = Some (n, Some m)
member_of (literal s k v) m = None
member_of (paren s e) m = None
member_of (convert s t e) m = None
member_of (composite s t es) m = None
member_of (elided s es) m = None
member_of (keyed s k e) m = None
member_of (instance s f us) m = None
member_of (selector s e n) m = None
member_of (assert s e t) m = None
member_of (index s e i) m = None
member_of (sliced s e l h p) m = None
member_of (call s f es spread) m = None
member_of (type_arg t) m = None
member_of (unary s o e) m = None
member_of (binary s o l r) m = None

abbrev pub name_of : Tree → Option TypeName
name_of (name n) = Some (n, None)
name_of (selector s e m) = member_of e m
name_of (literal s k v) = None
name_of (paren s e) = None
name_of (convert s t e) = None
name_of (composite s t es) = None
name_of (elided s es) = None
name_of (keyed s k e) = None
name_of (instance s f us) = None
name_of (assert s e t) = None
name_of (index s e i) = None
name_of (sliced s e l h m) = None
name_of (call s f es spread) = None
name_of (type_arg t) = None
name_of (unary s o e) = None
name_of (binary s o l r) = None

abbrev pub with_args : Option TypeName → Option Types → Option TypeTree
with_args None us = None
with_args (Some n) None = None
with_args (Some n) (Some us) = Some (named n.0 n.1 (args us))

abbrev pub without_args : Option TypeName → Option TypeTree
without_args None = None
without_args (Some n) = Some (named n.0 n.1 no_args)

abbrev pub one_type : Option TypeTree → Option Types
one_type None = None
one_type (Some t) = Some (type_and t types_end)

abbrev pub pointed : PrefixOp → Spot → Option TypeTree → Option TypeTree
pointed Deref s (Some t) = Some (pointer s t)
pointed Deref s None = None
pointed Plus s t = None
pointed Minus s t = None
pointed Not s t = None
pointed Flip s t = None
pointed Address s t = None

abbrev pub enclosed : Spot → Option TypeTree → Option TypeTree
enclosed s None = None
enclosed s (Some t) = Some (parenthesized s t)

-- the type that the text of the tree is too
abbrev pub as_type : Tree → Option TypeTree
as_type (name n) = without_args (name_of (name n))
as_type (selector s e m) = without_args (name_of (selector s e m))
as_type (index s f i) = with_args (name_of f) (one_type (as_type i))
as_type (instance s f us) = with_args (name_of f) (Some us)
as_type (paren s e) = enclosed s (as_type e)
as_type (unary s o e) = pointed o s (as_type e)
as_type (type_arg t) = Some t
as_type (literal s k v) = None
as_type (convert s t e) = None
as_type (composite s t es) = None
as_type (elided s es) = None
as_type (keyed s k e) = None
as_type (assert s e t) = None
as_type (sliced s e l h m) = None
as_type (call s f es spread) = None
as_type (binary s o l r) = None

-- a type's name, with arguments or without, that a literal may have
abbrev pub if_named : Option TypeTree → Option TypeTree
if_named None = None
if_named (Some (named n m vs)) = Some (named n m vs)
if_named (Some (parenthesized s t)) = None
if_named (Some (pointer s t)) = None
if_named (Some (slice s t)) = None
if_named (Some (array s e t)) = None
if_named (Some (counted s t)) = None
if_named (Some (mapping s k t)) = None
if_named (Some (func s gs r)) = None
if_named (Some (listed s gs)) = None
if_named (Some (struct s gs)) = None
if_named (Some (interface s us)) = None
if_named (Some (method n gs r)) = None
if_named (Some (union s us)) = None
if_named (Some (tilde s t)) = None

-- what braces make a literal of, other than a type's name
abbrev pub has_literals : TypeTree → Bool
has_literals (named n m vs) = false
has_literals (parenthesized s t) = false
has_literals (pointer s t) = false
has_literals (slice s t) = true
has_literals (array s e t) = true
has_literals (counted s t) = true
has_literals (mapping s k t) = true
has_literals (func s gs r) = false
has_literals (listed s gs) = false
has_literals (struct s gs) = true
has_literals (interface s us) = false
has_literals (method n gs r) = false
has_literals (union s us) = false
has_literals (tilde s t) = false

abbrev pub is_counted : TypeTree → Bool
is_counted (named n m vs) = false
is_counted (parenthesized s t) = false
is_counted (pointer s t) = false
is_counted (slice s t) = false
is_counted (array s e t) = false
is_counted (counted s t) = true
is_counted (mapping s k t) = false
is_counted (func s gs r) = false
is_counted (listed s gs) = false
is_counted (struct s gs) = false
is_counted (interface s us) = false
is_counted (method n gs r) = false
is_counted (union s us) = false
is_counted (tilde s t) = false

abbrev pub is_parenthesized : TypeTree → Bool
is_parenthesized (named n m vs) = false
is_parenthesized (parenthesized s t) = true
is_parenthesized (pointer s t) = false
is_parenthesized (slice s t) = false
is_parenthesized (array s e t) = false
is_parenthesized (counted s t) = false
is_parenthesized (mapping s k t) = false
is_parenthesized (func s gs r) = false
is_parenthesized (listed s gs) = false
is_parenthesized (struct s gs) = false
is_parenthesized (interface s us) = false
is_parenthesized (method n gs r) = false
is_parenthesized (union s us) = false
is_parenthesized (tilde s t) = false
