-- Readers of expressions depend on the words up to the next one alone.
use Rattle.std.proofs.Common.{ℕ, zero, suc, Option, Some, None}
use Rattle.ui_base.specs.declared.value.Spot.{Spot}
use Rattle.ui_scan.specs.declared.kind.TokenKind.TheVariants.{LParen, RParen, LBracket, RBracket, LBrace, RBrace, Comma, Period, Colon, Ellipsis}
use Rattle.ui_tree.specs.Tree.{TypeTree, Tree, MaybeTree, given, absent}
use Rattle.ui_parse.specs.Reader.{Reader, marked, named as a_name}
use Rattle.ui_parse.proofs.Steady.{Steady, steady_pure, steady_refuse, steady_bind, steady_if, steady_take, steady_eat, steady_expect, steady_parts}
use Rattle.ui_syntax.specs.declared.site.Site.{Site}
use Rattle.ui_syntax.specs.declared.site.Site.TheVariants.{Header, Plain, Wrapped, Argument}
use Rattle.ui_syntax.specs.declared.site.TypeSite.TheVariants as at
use Rattle.ui_syntax.specs.Cover.{Read, only_type, as_type, if_named}
use Rattle.ui_syntax.specs.Types.{Nested, Listed, any_end, a_type}
use Rattle.ui_syntax.specs.Exprs.{a_literal, Prefix, a_prefix, an_operator, prefix_site, inner_site, Arguments, call_ending, an_expr, alone, convert_or, literal_of, behind_type, maybe_behind, type_operand, enclose, parenthesized_operand, operand, asserted, selected, third_bound, second_bound, bounds, instance_behind, behind_index, indexed, argument, called, literal_or, one_suffix, suffixes, primary, prefixed, unary_expr, operations, level, item, add_elem, elem, braces}
use Rattle.ui_syntax.proofs.SteadyTypes.{AreSteady, steady_more_args, steady_args_behind, steady_a_type, steady_maybe_type}

module _ (room : ℕ) (inner : Nested) (is : AreSteady inner) where
  steady_an_expr : Steady (an_expr room inner)
  steady_an_expr = is.level Plain 1

  -- ---- operands

  pub steady_alone : (site : Site) (t : Read TypeTree) → Steady (alone room inner site t)
  steady_alone site t = steady_if _ (steady_pure _) steady_refuse

  pub steady_convert_or : (site : Site) (t : Read TypeTree) → Steady (convert_or room inner site t)
  steady_convert_or site t = steady_if _ steady_refuse
      (steady_take (marked LParen) (λ _. steady_bind steady_an_expr (λ e. steady_bind (steady_eat Comma) (λ _. steady_bind (steady_expect RParen) (λ _. steady_pure _)))) (steady_alone site t))

  pub steady_literal_of : (t : Read TypeTree) → Steady (literal_of room inner t)
  steady_literal_of t = steady_bind is.braces (λ es. steady_pure _)

  pub steady_behind_type : (site : Site) (t : Read TypeTree) → Steady (behind_type room inner site t)
  unfolding behind_type
  steady_behind_type site t = steady_if _ (steady_if _ (steady_take (marked LBrace) (λ _. steady_literal_of t) (steady_convert_or site t)) (steady_convert_or site t)) (steady_alone site t)

  pub steady_maybe_behind : (site : Site) (x : Option (Read TypeTree)) → Steady (maybe_behind room inner site x)
  steady_maybe_behind site None = steady_refuse
  steady_maybe_behind site (Some t) = steady_behind_type site t

  steady_type_operand : (site : Site) → Steady (type_operand room inner site)
  steady_type_operand Argument = steady_bind (steady_maybe_type room inner is at.Argument) (steady_maybe_behind Argument)
  steady_type_operand Header = steady_bind (is.maybe_type at.Operand) (steady_maybe_behind Header)
  steady_type_operand Plain = steady_bind (is.maybe_type at.Operand) (steady_maybe_behind Plain)
  steady_type_operand Wrapped = steady_bind (is.maybe_type at.Operand) (steady_maybe_behind Wrapped)

  pub steady_enclose : (site : Site) (s : Spot) (x : Read Tree) (t : Option TypeTree) → Steady (enclose room inner site s x t)
  steady_enclose site s x None = steady_pure _
  steady_enclose site s x (Some t) = steady_behind_type site _

  pub steady_parenthesized_operand : (site : Site) (s : Spot) → Steady (parenthesized_operand room inner site s)
  unfolding parenthesized_operand
  steady_parenthesized_operand site s = steady_bind (is.level (inner_site site) 1) (λ x. steady_bind (steady_expect RParen) (λ _. steady_enclose site s x (only_type x.tree)))

  steady_operand : (site : Site) → Steady (operand room inner site)
  unfolding operand
  steady_operand site = steady_take a_literal (λ l. steady_pure _) (steady_take a_name (λ p. steady_pure _)
      (steady_if _ (steady_take (marked LParen) (λ s. steady_parenthesized_operand site s) (steady_type_operand site)) (steady_type_operand site)))

  -- ---- what follows an operand

  steady_asserted : (f : Read Tree) → Steady (asserted room inner f)
  steady_asserted f = steady_bind (steady_expect LParen) (λ _. steady_bind (steady_a_type room inner is) (λ t. steady_bind (steady_expect RParen) (λ _. steady_pure _)))

  steady_selected : (f : Read Tree) → Steady (selected room inner f)
  unfolding selected
  steady_selected f = steady_take a_name (λ p. steady_pure _) (steady_asserted f)

  steady_third_bound : (f : Read Tree) (low : MaybeTree) (i : ℕ) (h : Read Tree) → Steady (third_bound room inner f low i h)
  steady_third_bound f low i h = steady_bind steady_an_expr (λ m. steady_bind (steady_expect RBracket) (λ _. steady_pure _))

  steady_second_bound : (f : Read Tree) (low : MaybeTree) (i : ℕ) (h : Read Tree) → Steady (second_bound room inner f low i h)
  steady_second_bound f low i h = steady_take (marked Colon) (λ _. steady_third_bound f low i h) (steady_bind (steady_expect RBracket) (λ _. steady_pure _))

  steady_bounds : (f : Read Tree) (low : MaybeTree) (i : ℕ) → Steady (bounds room inner f low i)
  unfolding bounds
  steady_bounds f low i = steady_take (marked RBracket) (λ _. steady_pure _) (steady_bind steady_an_expr (steady_second_bound f low i))

  steady_instance_behind : (f : Read Tree) (k : ℕ) (x : Option TypeTree) → Steady (instance_behind room inner f k x)
  steady_instance_behind f k None = steady_refuse
  steady_instance_behind f k (Some t) = steady_take (marked Comma) (λ _. steady_bind (steady_args_behind (a_type room inner) (steady_a_type room inner is) _) (λ us. steady_pure _)) steady_refuse

  steady_behind_index : (f x : Read Tree) (t : Option TypeTree) → Steady (behind_index room inner f x t)
  steady_behind_index f x (Some t) = steady_bind (steady_more_args (a_type room inner) (steady_a_type room inner is) _) (λ us. steady_pure _)
  steady_behind_index f x None = steady_take (marked Colon) (λ _. steady_bounds f (given x.tree) x.depth) (steady_take (marked RBracket) (λ _. steady_pure _) (steady_instance_behind f x.depth (as_type x.tree)))

  steady_indexed : (f : Read Tree) → Steady (indexed room inner f)
  unfolding indexed
  steady_indexed f = steady_take (marked Colon) (λ _. steady_bounds f absent 0) (steady_bind (is.level Argument 1) (λ x. steady_behind_index f x (only_type x.tree)))

  pub steady_argument : (l : Arguments) → Steady (argument room inner l)
  unfolding argument
  steady_argument l = steady_bind (is.level Argument 1) (λ x. steady_bind (steady_eat Ellipsis) (λ s. steady_pure _))

  steady_called : (f : Read Tree) → Steady (called room inner f)
  unfolding called
  steady_called f = steady_bind (steady_parts Comma RParen call_ending (argument room inner) steady_argument _) (λ l. steady_pure _)

  module _ (again : Read Tree → Reader (Read Tree)) (again_is : (f : Read Tree) → Steady (again f)) where
    steady_literal_or : (site : Site) (f : Read Tree) (x : Option TypeTree) → Steady (literal_or room inner again site f x)
    steady_literal_or site f None = steady_pure f
    steady_literal_or site f (Some t) = steady_if _ (steady_pure f) (steady_take (marked LBrace) (λ _. steady_bind (steady_literal_of _) again_is) (steady_pure f))

    steady_one_suffix : (site : Site) (f : Read Tree) → Steady (one_suffix room inner again site f)
    steady_one_suffix site f = steady_take (marked Period) (λ _. steady_bind (steady_selected f) again_is) (steady_take (marked LBracket) (λ _. steady_bind (steady_indexed f) again_is)
        (steady_take (marked LParen) (λ _. steady_bind (steady_called f) again_is) (steady_literal_or site f (if_named (as_type f.tree)))))

  pub steady_suffixes : (site : Site) (n : ℕ) (f : Read Tree) → Steady (suffixes room inner site n f)
  unfolding suffixes
  steady_suffixes site zero f = steady_pure f
  steady_suffixes site (suc n) f = steady_if _ (steady_one_suffix (suffixes room inner site n) (steady_suffixes site n) site f) (steady_pure f)

  steady_primary : (site : Site) → Steady (primary room inner site)
  unfolding primary
  steady_primary site = steady_bind (steady_operand site) (steady_suffixes site (suc (suc room)))

  -- ---- operators

  pub steady_prefixed : (site : Site) (o : Prefix) → Steady (prefixed room inner site o)
  unfolding prefixed
  steady_prefixed site o = steady_bind (is.level (prefix_site o.op site) 6) (λ x. steady_pure _)

  steady_unary_expr : (site : Site) → Steady (unary_expr room inner site)
  unfolding unary_expr
  steady_unary_expr site = steady_if _ (steady_take a_prefix (λ o. steady_prefixed site o) (steady_primary site)) (steady_primary site)

  pub steady_operations : (site : Site) (least n : ℕ) (l : Read Tree) → Steady (operations room inner site least n l)
  unfolding operations
  steady_operations site least zero l = steady_pure l
  steady_operations site least (suc n) l = steady_if _ (steady_take (an_operator least) (λ o. steady_bind (is.level _ _) (λ r. steady_operations site least n _)) (steady_pure l)) (steady_pure l)

  pub steady_level : (site : Site) (least : ℕ) → Steady (level room inner site least)
  unfolding level
  steady_level site least = steady_bind (steady_unary_expr site) (steady_operations site least (suc (suc room)))

  -- ---- literals' elements

  steady_item : Steady (item room inner)
  steady_item = steady_if _ (steady_take (marked LBrace) (λ s. steady_bind is.braces (λ es. steady_pure _)) steady_an_expr) steady_an_expr

  steady_add_elem : (l : Listed Tree) (k : Read Tree) → Steady (add_elem room inner l k)
  steady_add_elem l k = steady_take (marked Colon) (λ _. steady_bind steady_item (λ e. steady_pure _)) (steady_pure _)

  pub steady_elem : (l : Listed Tree) → Steady (elem room inner l)
  unfolding elem
  steady_elem l = steady_bind steady_item (steady_add_elem l)

  pub steady_braces : Steady (braces room inner)
  unfolding braces
  steady_braces = steady_parts Comma RBrace any_end (elem room inner) steady_elem _
