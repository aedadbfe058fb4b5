-- Readers of types within a budget of depth, over the readers that have one level less. Go specification, "Types".
use Rattle.std.specs.Prelude.{ℕ, suc, max, Bool, true, false, not, ◌&&◌, List, [], ◌∷◌, ◌++◌, map, Option, Some, None, nat_le, if◌then◌else◌}
use Rattle.ui_base.specs.declared.value.Spot.{Spot}
use Rattle.ui_scan.specs.declared.kind.TokenKind.TheVariants.{LParen, RParen, LBracket, RBracket, LBrace, RBrace, Comma, Semi, Period, Ellipsis, Mul, Or, Tilde, Map, Func, Struct, Interface}
use Rattle.ui_tree.specs.declared.part.Placed.{Placed}
use Rattle.ui_tree.specs.declared.part.Group.{Group}
use Rattle.ui_tree.specs.Tree.{TypeTree, named, parenthesized, pointer, slice, array, counted, mapping, func, listed, struct, interface, method, union, tilde, no_args, args, MaybeType, no_type, given_type, Tree}
use Rattle.ui_tree.specs.View.{types, groups, kept}
use Rattle.ui_grammar.specs.Fits.{name_depth}
use Rattle.ui_parse.specs.Reader.{Reader, ◌>>=◌, pure, refuse, take_by, marked, named as a_name, expect, expect_name, Ending, chain, parts, more_parts}
use Rattle.ui_syntax.specs.declared.site.Site.{Site}
use Rattle.ui_syntax.specs.declared.site.Site.TheVariants as site
use Rattle.ui_syntax.specs.declared.site.TypeSite.{TypeSite}
use Rattle.ui_syntax.specs.declared.site.TypeSite.TheVariants as at
use Rattle.ui_syntax.specs.declared.site.Style.{Style}
use Rattle.ui_syntax.specs.declared.site.Style.TheVariants.{Open, Bare, Named}
use Rattle.ui_syntax.specs.Cover.{Read, only_type, as_type}

-- what was read one after the other, with the greatest depth
pub record Listed (T : Type 0) : Type 0 where
  pub items : List T
  pub depth : ℕ

abbrev pub add : {T : Type 0} → Listed T → T → ℕ → Listed T
add l t k = record { items = l.items ++ (t ∷ []); depth = max l.depth k }

abbrev pub only : {T : Type 0} → T → ℕ → Listed T
only t k = record { items = t ∷ []; depth = k }

abbrev pub empty : {T : Type 0} → Listed T
empty = record { items = []; depth = 0 }

abbrev pub of_type : TypeTree → Spot → ℕ → Read TypeTree
of_type t s k = record { tree = t; spot = s; depth = k }

abbrev pub some : {A : Type 0} → A → Reader (Option A)
some a = pure (Some a)

abbrev pub or_refuse : {A : Type 0} → Option A → Reader A
or_refuse None = refuse
or_refuse (Some a) = pure a

-- The readers of one budget, and those of types and of expressions of the next lower one. A reader of types that may be
-- left out takes nothing where none begins. Those of elements begin behind the brace.
pub record Nested : Type 0 where
  pub level : Site → ℕ → Reader (Read Tree)
  pub maybe_type : TypeSite → Reader (Option (Read TypeTree))
  pub braces : Reader (Listed Tree)
  pub lower_level : Site → ℕ → Reader (Read Tree)
  pub lower_maybe_type : TypeSite → Reader (Option (Read TypeTree))

-- ---- lists of types

abbrev pub any_end : {S : Type 0} → Ending S
any_end = record { may = λ s. true; must = λ s. false }

abbrev pub one_more : Reader (Read TypeTree) → Listed TypeTree → Reader (Listed TypeTree)
one_more type l = type >>= (λ t. pure (add l t.tree t.depth))

-- what follows the first type argument, up to the bracket
abbrev pub more_args : Reader (Read TypeTree) → Listed TypeTree → Reader (Listed TypeTree)
more_args type = more_parts Comma RBracket any_end (one_more type)

-- likewise behind a comma
abbrev pub args_behind : Reader (Read TypeTree) → Listed TypeTree → Reader (Listed TypeTree)
args_behind type = parts Comma RBracket any_end (one_more type)

-- { "," Type } of the arguments of a type's name, behind the bracket
abbrev pub all_args : Reader (Read TypeTree) → Reader (Listed TypeTree)
all_args type = type >>= (λ t. more_args type (only t.tree t.depth))

abbrev pub named_with : Placed → Option Placed → Listed TypeTree → Read TypeTree
named_with p m us = of_type (named p m (args (types us.items))) p.spot (suc (max (name_depth m) us.depth))

abbrev pub named_without : Placed → Option Placed → Read TypeTree
named_without p m = of_type (named p m no_args) p.spot (name_depth m)

-- [ TArgs ], where there is room: the arguments have one level less
abbrev pub maybe_args : ℕ → Reader (Read TypeTree) → Placed → Option Placed → Reader (Read TypeTree)
maybe_args room type p m =
    if nat_le (suc (name_depth m)) room then take_by (marked LBracket) (λ _. all_args type >>= (λ us. pure (named_with p m us))) (pure (named_without p m))
    else pure (named_without p m)

-- [ "." name ] [ TArgs ], behind a name
unfoldable pub named_type : ℕ → Reader (Read TypeTree) → Placed → Reader (Read TypeTree)
named_type room type p =
    if nat_le 2 room then take_by (marked Period) (λ _. expect_name >>= (λ m. maybe_args room type p (Some m))) (maybe_args room type p None)
    else maybe_args room type p None

-- ---- parameters: what was read of them, with the names that wait for a type

pub record Params : Type 0 where
  pub groups : List (Group TypeTree)
  pub waiting : List Placed
  pub style : Style
  pub depth : ℕ

abbrev pub no_params : Params
no_params = record { groups = []; waiting = []; style = Open; depth = 0 }

abbrev pub group : List Placed → TypeTree → Group TypeTree
group ns t = record { names = ns; of = t }

abbrev pub bare_group : Placed → Group TypeTree
bare_group p = group [] (named p None no_args)

-- names without a type are types
abbrev pub as_types : List Placed → List (Group TypeTree)
as_types = map bare_group

abbrev pub is_empty : List Placed → Bool
is_empty [] = true
is_empty (p ∷ ps) = false

abbrev pub bare_depth : List Placed → ℕ
bare_depth [] = 0
bare_depth (p ∷ ps) = 1

abbrev pub add_type : Params → Read TypeTree → Params
add_type ps t = record { groups = (ps.groups ++ as_types ps.waiting) ++ (group [] t.tree ∷ []); waiting = []; style = Bare; depth = max (max ps.depth (bare_depth ps.waiting)) t.depth }

abbrev pub add_named : Params → Placed → Read TypeTree → Params
add_named ps p t = record { groups = ps.groups ++ (group (ps.waiting ++ (p ∷ [])) t.tree ∷ []); waiting = []; style = Named; depth = max ps.depth t.depth }

abbrev pub add_name : Params → Placed → Params
add_name ps p = record { groups = ps.groups; waiting = ps.waiting ++ (p ∷ []); style = ps.style; depth = ps.depth }

abbrev pub add_maybe : Params → Placed → Option (Read TypeTree) → Params
add_maybe ps p None = add_name ps p
add_maybe ps p (Some t) = add_named ps p t

abbrev pub is_named : Style → Bool
is_named Open = false
is_named Bare = false
is_named Named = true

-- names wait for a type where another parameter has a name
abbrev pub params_ending : Ending Params
params_ending = record { may = λ ps. not (is_named ps.style && not (is_empty ps.waiting)); must = λ ps. false }

abbrev pub all_params : Params → Listed (Group TypeTree)
all_params ps = record { items = ps.groups ++ as_types ps.waiting; depth = max ps.depth (bare_depth ps.waiting) }

module _ (room : ℕ) (inner : Nested) where
  -- the budget is one above the room of the parts
  abbrev pub budget : ℕ
  budget = suc room

  abbrev pub a_type : Reader (Read TypeTree)
  a_type = inner.maybe_type at.Plain >>= or_refuse

  abbrev pub a_lower_type : Reader (Read TypeTree)
  a_lower_type = inner.lower_maybe_type at.Plain >>= or_refuse

  abbrev pub an_element : Reader (Read TypeTree)
  an_element = inner.maybe_type at.Element >>= or_refuse

  -- ---- parameters and results

  -- n [X], where X is no array's length
  abbrev pub add_argument : Params → Placed → Option TypeTree → ℕ → Reader Params
  add_argument ps p None k = refuse
  add_argument ps p (Some t) k = pure (add_type ps (named_with p None (only t k)))

  abbrev pub add_array : Params → Placed → Spot → Read Tree → Option (Read TypeTree) → Reader Params
  add_array ps p s x None = add_argument ps p (as_type x.tree) x.depth
  add_array ps p s x (Some t) = pure (add_named ps p (of_type (array s x.tree t.tree) s (suc (max x.depth t.depth))))

  -- behind n [X]: a type, of which X is the length, or none
  abbrev pub behind_bracket : Params → Placed → Spot → Read Tree → Option TypeTree → Reader Params
  behind_bracket ps p s x None = inner.lower_maybe_type at.Plain >>= add_array ps p s x
  behind_bracket ps p s x (Some t) = pure (add_type ps (named_with p None (only t x.depth)))

  abbrev pub close_bracket : Params → Placed → Spot → Read Tree → Reader Params
  close_bracket ps p s x = expect RBracket >>= (λ _. behind_bracket ps p s x (only_type x.tree))

  abbrev pub behind_cover : Params → Placed → Spot → Read Tree → Option TypeTree → Reader Params
  behind_cover ps p s x None = close_bracket ps p s x
  behind_cover ps p s x (Some t) = take_by (marked Comma) (λ _. args_behind a_lower_type (only t x.depth) >>= (λ us. pure (add_type ps (named_with p None us)))) (close_bracket ps p s x)

  -- n [, whose bracket may be of a type's arguments or of a type: the one as the other has one level less
  unfoldable pub bracketed : Params → Placed → Spot → Reader Params
  bracketed ps p s =
      take_by (marked RBracket) (λ _. a_lower_type >>= (λ t. pure (add_named ps p (of_type (slice s t.tree) s (suc t.depth)))))
      (inner.lower_level site.Argument 1 >>= (λ x. behind_cover ps p s x (as_type x.tree)))

  abbrev pub maybe_named : Params → Placed → Reader Params
  maybe_named ps p = inner.maybe_type at.Plain >>= (λ t. pure (add_maybe ps p t))

  -- n.m [ TArgs ]
  abbrev pub qualified : Params → Placed → Reader Params
  qualified ps p = expect_name >>= (λ m. maybe_args room a_lower_type p (Some m) >>= (λ t. pure (add_type ps t)))

  -- a first name, where it isn't said yet whether parameters have names
  unfoldable pub open_name : Params → Placed → Reader Params
  open_name ps p =
      if nat_le 2 room then take_by (marked Period) (λ _. qualified ps p) (take_by (marked LBracket) (λ s. bracketed ps p s) (maybe_named ps p))
      else maybe_named ps p

  abbrev pub bare_param : Params → Reader Params
  bare_param ps = a_type >>= (λ t. pure (add_type ps t))

  abbrev pub param_by : Style → Params → Reader Params
  param_by Open ps = take_by a_name (open_name ps) (bare_param ps)
  param_by Bare ps = bare_param ps
  param_by Named ps = take_by a_name (maybe_named ps) refuse

  unfoldable pub param : Params → Reader Params
  param ps = if nat_le 1 room then param_by ps.style ps else refuse

  -- [ Param { "," Param } [ "," ] ] ")"
  unfoldable pub params : Reader (Listed (Group TypeTree))
  params = parts Comma RParen params_ending param no_params >>= (λ ps. pure (all_params ps))

  pub record Results : Type 0 where
    pub of : MaybeType
    pub depth : ℕ

  abbrev pub result_of : Option (Read TypeTree) → Results
  result_of None = record { of = no_type; depth = 0 }
  result_of (Some t) = record { of = given_type t.tree; depth = t.depth }

  -- [ Type | Params ]
  unfoldable pub results : Reader Results
  results = take_by (marked LParen) (λ s. params >>= (λ gs. pure (record { of = given_type (listed s (groups kept gs.items)); depth = gs.depth }))) (inner.maybe_type at.Plain >>= (λ t. pure (result_of t)))

  -- Sig, behind its parenthesis: what is made of its parameters and results, with its depth
  unfoldable pub signature : (List (Group TypeTree) → MaybeType → ℕ → Read TypeTree) → Reader (Read TypeTree)
  signature make = params >>= (λ gs. results >>= (λ r. pure (make gs.items r.of (suc (max gs.depth r.depth)))))

  abbrev pub func_of : Spot → List (Group TypeTree) → MaybeType → ℕ → Read TypeTree
  func_of s gs r k = of_type (func s (groups kept gs) r) s k

  abbrev pub method_of : Placed → List (Group TypeTree) → MaybeType → ℕ → Read TypeTree
  method_of p gs r k = of_type (method p (groups kept gs) r) p.spot k

  -- ---- structs and interfaces, behind the keyword

  abbrev pub add_field : Listed (Group TypeTree) → List Placed → Reader (Listed (Group TypeTree))
  add_field l ns = a_type >>= (λ t. pure (add l (group ns t.tree) t.depth))

  abbrev pub one_name_more : List Placed → Reader (List Placed)
  one_name_more ns = expect_name >>= (λ p. pure (ns ++ (p ∷ [])))

  -- Names Type
  unfoldable pub field : Listed (Group TypeTree) → Reader (Listed (Group TypeTree))
  field l = if nat_le 1 room then (expect_name >>= (λ p. chain Comma one_name_more (p ∷ []) >>= add_field l)) else refuse

  unfoldable pub struct_type : Spot → Reader (Read TypeTree)
  struct_type s = expect LBrace >>= (λ _. parts Semi RBrace any_end field empty >>= (λ gs. pure (of_type (struct s (groups kept gs.items)) s (suc gs.depth))))

  unfoldable pub interface_type : Spot → Reader (Read TypeTree)
  interface_type s = expect LBrace >>= (λ _. parts Semi RBrace any_end (one_more an_element) empty >>= (λ us. pure (of_type (interface s (types us.items)) s (suc us.depth))))

  -- ---- types

  abbrev pub map_type : Spot → Reader (Read TypeTree)
  map_type s = expect LBracket >>= (λ _. a_type >>= (λ k. expect RBracket >>= (λ _. a_type >>= (λ t. pure (of_type (mapping s k.tree t.tree) s (suc (max k.depth t.depth)))))))

  abbrev pub array_type : Spot → Reader (Read TypeTree)
  array_type s = inner.level site.Plain 1 >>= (λ e. expect RBracket >>= (λ _. a_type >>= (λ t. pure (of_type (array s e.tree t.tree) s (suc (max e.depth t.depth))))))

  abbrev pub counted_type : Reader (Read TypeTree) → Spot → Reader (Read TypeTree)
  counted_type type s = expect RBracket >>= (λ _. type >>= (λ t. pure (of_type (counted s t.tree) s (suc t.depth))))

  -- [...]T has a literal behind it, for which there has to be room
  abbrev pub counted_or_array : TypeSite → Spot → Reader (Read TypeTree)
  counted_or_array at.Plain s = array_type s
  counted_or_array at.Element s = array_type s
  counted_or_array at.Operand s = take_by (marked Ellipsis) (λ _. counted_type a_type s) (array_type s)
  counted_or_array at.Argument s = if nat_le 2 room then take_by (marked Ellipsis) (λ _. counted_type a_lower_type s) (array_type s) else array_type s

  unfoldable pub bracket_type : TypeSite → Spot → Reader (Read TypeTree)
  bracket_type p s = take_by (marked RBracket) (λ _. a_type >>= (λ t. pure (of_type (slice s t.tree) s (suc t.depth)))) (counted_or_array p s)

  abbrev pub func_type : Spot → Reader (Read TypeTree)
  func_type s = expect LParen >>= (λ _. signature (func_of s))

  abbrev pub opened : Reader (Read TypeTree) → Reader (Option (Read TypeTree))
  opened r = r >>= some

  abbrev pub deep_type : TypeSite → Reader (Option (Read TypeTree)) → Reader (Option (Read TypeTree))
  deep_type p other =
      if nat_le 1 room then take_by (marked LBracket) (λ s. opened (bracket_type p s)) (take_by (marked Map) (λ s. opened (map_type s)) other)
      else other

  -- types that no expression begins with
  unfoldable pub operand_type : TypeSite → Reader (Option (Read TypeTree)) → Reader (Option (Read TypeTree))
  operand_type p other =
      take_by (marked Func) (λ s. opened (func_type s)) (take_by (marked Struct) (λ s. opened (struct_type s)) (take_by (marked Interface) (λ s. opened (interface_type s)) (deep_type p other)))

  abbrev pub pointer_type : Spot → Reader (Read TypeTree)
  pointer_type s = a_type >>= (λ t. pure (of_type (pointer s t.tree) s (suc t.depth)))

  abbrev pub parenthesized_type : Spot → Reader (Read TypeTree)
  parenthesized_type s = a_type >>= (λ t. expect RParen >>= (λ _. pure (of_type (parenthesized s t.tree) s (suc t.depth))))

  abbrev pub marked_type : Reader (Option (Read TypeTree))
  marked_type = if nat_le 1 room then take_by (marked Mul) (λ s. opened (pointer_type s)) (take_by (marked LParen) (λ s. opened (parenthesized_type s)) (pure None)) else pure None

  -- a type without a name
  abbrev pub other_type : Reader (Option (Read TypeTree))
  other_type = operand_type at.Plain marked_type

  unfoldable pub plain_type : Reader (Option (Read TypeTree))
  plain_type = take_by a_name (λ p. opened (named_type budget a_type p)) other_type

  -- ---- elements of interfaces: a term has the budget of its union

  unfoldable pub term : Reader (Read TypeTree)
  term = take_by (marked Tilde) (λ s. plain_type >>= (λ m. or_refuse m >>= (λ t. pure (of_type (tilde s t.tree) s t.depth)))) (plain_type >>= or_refuse)

  -- { "|" Term } behind a first term
  unfoldable pub union_from : Read TypeTree → Reader (Option (Read TypeTree))
  union_from t = chain Or (one_more term) (only t.tree t.depth) >>= (λ us. pure (Some (of_type (union t.spot (types us.items)) t.spot us.depth)))

  abbrev pub maybe_union : Option (Read TypeTree) → Reader (Option (Read TypeTree))
  maybe_union None = pure None
  maybe_union (Some t) = union_from t

  abbrev pub tilde_of : Spot → Read TypeTree → Read TypeTree
  tilde_of s t = of_type (tilde s t.tree) s t.depth

  -- name Sig | Term { "|" Term }
  unfoldable pub element : Reader (Option (Read TypeTree))
  element = take_by a_name (λ p. take_by (marked LParen) (λ _. opened (signature (method_of p))) (named_type budget a_type p >>= union_from))
      (take_by (marked Tilde) (λ s. (plain_type >>= or_refuse) >>= (λ t. union_from (tilde_of s t))) (other_type >>= maybe_union))

  unfoldable pub maybe_type : TypeSite → Reader (Option (Read TypeTree))
  maybe_type at.Plain = plain_type
  maybe_type at.Element = element
  maybe_type at.Operand = operand_type at.Operand (pure None)
  maybe_type at.Argument = operand_type at.Argument (pure None)
