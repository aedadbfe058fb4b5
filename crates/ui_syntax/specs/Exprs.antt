-- Readers of expressions within a budget of depth, over the readers that have one level less. Go specification,
-- "Expressions". A tree of a type alone is read where a site takes one.
use Rattle.std.specs.Prelude.{ℕ, zero, suc, max, Bool, true, false, not, ◌&&◌, List, [], ◌∷◌, ◌++◌, Option, Some, None, nat_le, if◌then◌else◌}
use Rattle.ui_base.specs.declared.value.Spot.{Spot}
use Rattle.ui_base.specs.declared.value.Value.{Value}
use Rattle.ui_base.specs.declared.kind.BinOp.{BinOp}
use Rattle.ui_scan.specs.declared.kind.TokenKind.TheVariants.{LParen, RParen, LBracket, RBracket, LBrace, RBrace, Comma, Period, Colon, Ellipsis}
use Rattle.ui_tree.specs.declared.part.LiteralKind.{LiteralKind}
use Rattle.ui_tree.specs.declared.part.PrefixOp.{PrefixOp}
use Rattle.ui_tree.specs.declared.part.PrefixOp.TheVariants.{Plus, Minus, Not, Flip, Deref, Address}
use Rattle.ui_tree.specs.Tree.{TypeTree, parenthesized, pointer, Tree, literal, name, paren, convert, composite, elided, keyed, instance, selector, assert, index, sliced, call, type_arg, unary, binary, MaybeTree, absent, given}
use Rattle.ui_tree.specs.View.{trees, types}
use Rattle.ui_grammar.specs.Word.{Word, ident, lit, mark}
use Rattle.ui_grammar.specs.Operator.{operator_of, prefix_of, level_of}
use Rattle.ui_parse.specs.Reader.{Reader, ◌>>=◌, pure, refuse, take_by, marked, named as a_name, eat, expect, Ending, parts}
use Rattle.ui_syntax.specs.declared.site.Site.{Site}
use Rattle.ui_syntax.specs.declared.site.Site.TheVariants.{Header, Plain, Wrapped, Argument}
use Rattle.ui_syntax.specs.declared.site.TypeSite.TheVariants as at
use Rattle.ui_syntax.specs.Cover.{Read, only_type, as_type, if_named, has_literals, is_counted}
use Rattle.ui_syntax.specs.Types.{Nested, Listed, add, only, empty, of_type, any_end, more_args, args_behind, a_type, maybe_type}

abbrev pub of_tree : Tree → Spot → ℕ → Read Tree
of_tree e s k = record { tree = e; spot = s; depth = k }

-- ---- words

pub record Literal : Type 0 where
  pub kind : LiteralKind
  pub spot : Spot
  pub value : Value

abbrev pub a_literal : Word → Option Literal
a_literal (ident p) = None
a_literal (lit k s v) = Some (record { kind = k; spot = s; value = v })
a_literal (mark k s) = None

pub record Prefix : Type 0 where
  pub op : PrefixOp
  pub spot : Spot

abbrev pub prefix_at : Option PrefixOp → Spot → Option Prefix
prefix_at None s = None
prefix_at (Some o) s = Some (record { op = o; spot = s })

abbrev pub a_prefix : Word → Option Prefix
a_prefix (ident p) = None
a_prefix (lit k s v) = None
a_prefix (mark k s) = prefix_at (prefix_of k) s

abbrev pub if_binds : ℕ → Option BinOp → Option BinOp
if_binds least None = None
if_binds least (Some o) = if nat_le least (level_of o) then Some o else None

-- a binary operator that binds so tightly
abbrev pub an_operator : ℕ → Word → Option BinOp
an_operator least (ident p) = None
an_operator least (lit k s v) = None
an_operator least (mark k s) = if_binds least (operator_of k)

-- ---- sites

abbrev pub is_header : Site → Bool
is_header Header = true
is_header Plain = false
is_header Wrapped = false
is_header Argument = false

abbrev pub takes_types : Site → Bool
takes_types Header = false
takes_types Plain = false
takes_types Wrapped = true
takes_types Argument = true

-- the site of an operand of an operator other than `*`
abbrev pub operand_site : Site → Site
operand_site Header = Header
operand_site Plain = Plain
operand_site Wrapped = Plain
operand_site Argument = Plain

abbrev pub prefix_site : PrefixOp → Site → Site
prefix_site Deref s = s
prefix_site Plus s = operand_site s
prefix_site Minus s = operand_site s
prefix_site Not s = operand_site s
prefix_site Flip s = operand_site s
prefix_site Address s = operand_site s

-- within parentheses
abbrev pub inner_site : Site → Site
inner_site Header = Wrapped
inner_site Plain = Wrapped
inner_site Wrapped = Wrapped
inner_site Argument = Argument

-- ---- arguments of a call

pub record Arguments : Type 0 where
  pub items : List Tree
  pub depth : ℕ
  pub spread : Bool

abbrev pub no_arguments : Arguments
no_arguments = record { items = []; depth = 0; spread = false }

abbrev pub is_some : {A : Type 0} → Option A → Bool
is_some None = false
is_some (Some a) = true

-- nothing but the end follows `...`
abbrev pub call_ending : Ending Arguments
call_ending = record { may = λ l. true; must = λ l. l.spread }

abbrev pub add_argument : Arguments → Read Tree → Option Spot → Arguments
add_argument l x spread = record { items = l.items ++ (x.tree ∷ []); depth = max l.depth x.depth; spread = is_some spread }

module _ (room : ℕ) (inner : Nested) where
  abbrev pub an_expr : Reader (Read Tree)
  an_expr = inner.level Plain 1

  -- ---- operands

  -- the type alone, where the site takes it; `[...]T` stands before braces only
  abbrev pub alone : Site → Read TypeTree → Reader (Read Tree)
  alone site t = if takes_types site && not (is_counted t.tree) then pure (of_tree (type_arg t.tree) t.spot t.depth) else refuse

  abbrev pub convert_or : Site → Read TypeTree → Reader (Read Tree)
  convert_or site t =
      if is_counted t.tree then refuse
      else take_by (marked LParen) (λ _. an_expr >>= (λ e. eat Comma >>= (λ _. expect RParen >>= (λ _. pure (of_tree (convert t.spot t.tree e.tree) t.spot (suc (max t.depth e.depth))))))) (alone site t)

  abbrev pub literal_of : Read TypeTree → Reader (Read Tree)
  literal_of t = inner.braces >>= (λ es. pure (of_tree (composite t.spot t.tree (trees es.items)) t.spot (suc (max t.depth (suc es.depth)))))

  -- a literal or a conversion of a type that is no expression, or the type itself
  unfoldable pub behind_type : Site → Read TypeTree → Reader (Read Tree)
  behind_type site t =
      if nat_le t.depth room then (if has_literals t.tree then take_by (marked LBrace) (λ _. literal_of t) (convert_or site t) else convert_or site t)
      else alone site t

  abbrev pub maybe_behind : Site → Option (Read TypeTree) → Reader (Read Tree)
  maybe_behind site None = refuse
  maybe_behind site (Some t) = behind_type site t

  -- a type for itself has as much room as an expression, else one level less
  abbrev pub type_operand : Site → Reader (Read Tree)
  type_operand Argument = maybe_type room inner at.Argument >>= maybe_behind Argument
  type_operand Header = inner.maybe_type at.Operand >>= maybe_behind Header
  type_operand Plain = inner.maybe_type at.Operand >>= maybe_behind Plain
  type_operand Wrapped = inner.maybe_type at.Operand >>= maybe_behind Wrapped

  abbrev pub enclose : Site → Spot → Read Tree → Option TypeTree → Reader (Read Tree)
  enclose site s x None = pure (of_tree (paren s x.tree) s (suc x.depth))
  enclose site s x (Some t) = behind_type site (of_type (parenthesized s t) s (suc x.depth))

  -- behind "("
  unfoldable pub parenthesized_operand : Site → Spot → Reader (Read Tree)
  parenthesized_operand site s = inner.level (inner_site site) 1 >>= (λ x. expect RParen >>= (λ _. enclose site s x (only_type x.tree)))

  unfoldable pub operand : Site → Reader (Read Tree)
  operand site =
      take_by a_literal (λ l. pure (of_tree (literal l.spot l.kind l.value) l.spot 1)) (take_by a_name (λ p. pure (of_tree (name p) p.spot 1))
      (if nat_le 1 room then take_by (marked LParen) (λ s. parenthesized_operand site s) (type_operand site) else type_operand site))

  -- ---- what follows an operand

  abbrev pub asserted : Read Tree → Reader (Read Tree)
  asserted f = expect LParen >>= (λ _. a_type room inner >>= (λ t. expect RParen >>= (λ _. pure (of_tree (assert f.spot f.tree t.tree) f.spot (suc (max f.depth t.depth))))))

  -- behind "."
  unfoldable pub selected : Read Tree → Reader (Read Tree)
  selected f = take_by a_name (λ p. pure (of_tree (selector f.spot f.tree p) f.spot (suc f.depth))) (asserted f)

  abbrev pub slice_of : Read Tree → MaybeTree → ℕ → MaybeTree → ℕ → MaybeTree → ℕ → Read Tree
  slice_of f low i high j most k = of_tree (sliced f.spot f.tree low high most) f.spot (suc (max f.depth (max i (max j k))))

  abbrev pub third_bound : Read Tree → MaybeTree → ℕ → Read Tree → Reader (Read Tree)
  third_bound f low i h = an_expr >>= (λ m. expect RBracket >>= (λ _. pure (slice_of f low i (given h.tree) h.depth (given m.tree) m.depth)))

  abbrev pub second_bound : Read Tree → MaybeTree → ℕ → Read Tree → Reader (Read Tree)
  second_bound f low i h = take_by (marked Colon) (λ _. third_bound f low i h) (expect RBracket >>= (λ _. pure (slice_of f low i (given h.tree) h.depth absent 0)))

  -- behind the first ":"
  unfoldable pub bounds : Read Tree → MaybeTree → ℕ → Reader (Read Tree)
  bounds f low i = take_by (marked RBracket) (λ _. pure (slice_of f low i absent 0 absent 0)) (an_expr >>= second_bound f low i)

  abbrev pub instance_of : Read Tree → Listed TypeTree → Read Tree
  instance_of f us = of_tree (instance f.spot f.tree (types us.items)) f.spot (suc (max f.depth us.depth))

  abbrev pub instance_behind : Read Tree → ℕ → Option TypeTree → Reader (Read Tree)
  instance_behind f k None = refuse
  instance_behind f k (Some t) = take_by (marked Comma) (λ _. args_behind (a_type room inner) (only t k) >>= (λ us. pure (instance_of f us))) refuse

  -- behind the first part between brackets, which is an expression, or a type alone
  abbrev pub behind_index : Read Tree → Read Tree → Option TypeTree → Reader (Read Tree)
  behind_index f x (Some t) = more_args (a_type room inner) (only t x.depth) >>= (λ us. pure (instance_of f us))
  behind_index f x None =
      take_by (marked Colon) (λ _. bounds f (given x.tree) x.depth)
      (take_by (marked RBracket) (λ _. pure (of_tree (index f.spot f.tree x.tree) f.spot (suc (max f.depth x.depth)))) (instance_behind f x.depth (as_type x.tree)))

  -- behind "["
  unfoldable pub indexed : Read Tree → Reader (Read Tree)
  indexed f = take_by (marked Colon) (λ _. bounds f absent 0) (inner.level Argument 1 >>= (λ x. behind_index f x (only_type x.tree)))

  unfoldable pub argument : Arguments → Reader Arguments
  argument l = inner.level Argument 1 >>= (λ x. eat Ellipsis >>= (λ s. pure (add_argument l x s)))

  -- behind "("
  unfoldable pub called : Read Tree → Reader (Read Tree)
  called f = parts Comma RParen call_ending argument no_arguments >>= (λ l. pure (of_tree (call f.spot f.tree (trees l.items) l.spread) f.spot (suc (max f.depth l.depth))))

  abbrev pub literal_or : (Read Tree → Reader (Read Tree)) → Site → Read Tree → Option TypeTree → Reader (Read Tree)
  literal_or again site f None = pure f
  literal_or again site f (Some t) = if is_header site then pure f else take_by (marked LBrace) (λ _. literal_of (of_type t f.spot f.depth) >>= again) (pure f)

  abbrev pub one_suffix : (Read Tree → Reader (Read Tree)) → Site → Read Tree → Reader (Read Tree)
  one_suffix again site f =
      take_by (marked Period) (λ _. selected f >>= again) (take_by (marked LBracket) (λ _. indexed f >>= again)
      (take_by (marked LParen) (λ _. called f >>= again) (literal_or again site f (if_named (as_type f.tree)))))

  -- The number bounds the turns, and each makes the tree deeper.
  unfoldable pub suffixes : Site → ℕ → Read Tree → Reader (Read Tree)
  suffixes site zero f = pure f
  suffixes site (suc n) f = if not (is_some (only_type f.tree)) && nat_le f.depth room then one_suffix (suffixes site n) site f else pure f

  unfoldable pub primary : Site → Reader (Read Tree)
  primary site = operand site >>= suffixes site (suc (suc room))

  -- ---- operators

  abbrev pub prefixed_by : Prefix → Read Tree → Option TypeTree → Read Tree
  prefixed_by o x None = of_tree (unary o.spot o.op x.tree) o.spot (suc x.depth)
  prefixed_by o x (Some t) = of_tree (type_arg (pointer o.spot t)) o.spot (suc x.depth)

  unfoldable pub prefixed : Site → Prefix → Reader (Read Tree)
  prefixed site o = inner.level (prefix_site o.op site) 6 >>= (λ x. pure (prefixed_by o x (only_type x.tree)))

  unfoldable pub unary_expr : Site → Reader (Read Tree)
  unary_expr site = if nat_le 1 room then take_by a_prefix (λ o. prefixed site o) (primary site) else primary site

  abbrev pub binary_of : BinOp → Read Tree → Read Tree → Read Tree
  binary_of o l r = of_tree (binary l.spot o l.tree r.tree) l.spot (suc (max l.depth r.depth))

  -- The number bounds the turns, and each makes the tree deeper.
  unfoldable pub operations : Site → ℕ → ℕ → Read Tree → Reader (Read Tree)
  operations site least zero l = pure l
  operations site least (suc n) l =
      if not (is_some (only_type l.tree)) && nat_le l.depth room
      then take_by (an_operator least) (λ o. inner.level (operand_site site) (suc (level_of o)) >>= (λ r. operations site least n (binary_of o l r))) (pure l)
      else pure l

  unfoldable pub level : Site → ℕ → Reader (Read Tree)
  level site least = unary_expr site >>= operations site least (suc (suc room))

  -- ---- literals' elements, behind the brace

  -- Expr | Lit
  abbrev pub item : Reader (Read Tree)
  item = if nat_le 1 room then take_by (marked LBrace) (λ s. inner.braces >>= (λ es. pure (of_tree (elided s (trees es.items)) s (suc es.depth)))) an_expr else an_expr

  abbrev pub add_elem : Listed Tree → Read Tree → Reader (Listed Tree)
  add_elem l k = take_by (marked Colon) (λ _. item >>= (λ e. pure (add l (keyed k.spot k.tree e.tree) (max k.depth e.depth)))) (pure (add l k.tree k.depth))

  -- [ Item ":" ] Item
  unfoldable pub elem : Listed Tree → Reader (Listed Tree)
  elem l = item >>= add_elem l

  unfoldable pub braces : Reader (Listed Tree)
  braces = parts Comma RBrace any_end elem empty
