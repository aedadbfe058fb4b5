-- Readers of types depend on the words up to the next one alone.
use Rattle.std.proofs.Common.{ℕ, suc, List, Option, Some, None}
use Rattle.ui_base.specs.declared.value.Spot.{Spot}
use Rattle.ui_scan.specs.declared.kind.TokenKind.TheVariants.{LParen, RParen, LBracket, RBracket, LBrace, RBrace, Comma, Semi, Period, Ellipsis, Mul, Or, Tilde, Map, Func, Struct, Interface}
use Rattle.ui_tree.specs.declared.part.Placed.{Placed}
use Rattle.ui_tree.specs.declared.part.Group.{Group}
use Rattle.ui_tree.specs.Tree.{TypeTree, MaybeType, Tree}
use Rattle.ui_parse.specs.Reader.{Reader, marked, named as a_name}
use Rattle.ui_parse.proofs.Steady.{Steady, steady_pure, steady_refuse, steady_bind, steady_if, steady_take, steady_expect, steady_expect_name, steady_chain, steady_parts, steady_more_parts}
use Rattle.ui_syntax.specs.declared.site.Site.{Site}
use Rattle.ui_syntax.specs.declared.site.Site.TheVariants as site
use Rattle.ui_syntax.specs.declared.site.TypeSite.{TypeSite}
use Rattle.ui_syntax.specs.declared.site.TypeSite.TheVariants as at
use Rattle.ui_syntax.specs.declared.site.Style.{Style}
use Rattle.ui_syntax.specs.declared.site.Style.TheVariants.{Open, Bare, Named}
use Rattle.ui_syntax.specs.Cover.{Read, only_type, as_type}
use Rattle.ui_syntax.specs.Types.{Listed, Nested, or_refuse, any_end, one_more, more_args, args_behind, all_args, maybe_args, named_type, Params, params_ending, add_argument, add_array, behind_bracket, close_bracket, behind_cover, bracketed, maybe_named, qualified, open_name, bare_param, param_by, param, params, results, signature, add_field, one_name_more, field, struct_type, interface_type, map_type, array_type, counted_type, counted_or_array, bracket_type, func_type, deep_type, operand_type, pointer_type, parenthesized_type, marked_type, other_type, plain_type, term, union_from, maybe_union, element, maybe_type, a_type, a_lower_type, an_element, opened}

-- the readers of a budget, and those of the next lower one
pub record AreSteady (n : Nested) : Type 0 where
  pub level : (s : Site) (least : ℕ) → Steady (n.level s least)
  pub maybe_type : (p : TypeSite) → Steady (n.maybe_type p)
  pub braces : Steady n.braces
  pub lower_level : (s : Site) (least : ℕ) → Steady (n.lower_level s least)
  pub lower_maybe_type : (p : TypeSite) → Steady (n.lower_maybe_type p)

pub steady_or_refuse : {A : Type 0} (x : Option A) → Steady (or_refuse x)
steady_or_refuse None = steady_refuse
steady_or_refuse (Some a) = steady_pure a

-- ---- lists of types

module _ (type : Reader (Read TypeTree)) (type_is : Steady type) where
  pub steady_one_more : (l : Listed TypeTree) → Steady (one_more type l)
  steady_one_more l = steady_bind type_is (λ t. steady_pure _)

  pub steady_more_args : (l : Listed TypeTree) → Steady (more_args type l)
  steady_more_args l = steady_more_parts Comma RBracket any_end (one_more type) steady_one_more l

  pub steady_args_behind : (l : Listed TypeTree) → Steady (args_behind type l)
  steady_args_behind l = steady_parts Comma RBracket any_end (one_more type) steady_one_more l

  steady_all_args : Steady (all_args type)
  steady_all_args = steady_bind type_is (λ t. steady_more_args _)

  pub steady_maybe_args : (room : ℕ) (p : Placed) (m : Option Placed) → Steady (maybe_args room type p m)
  steady_maybe_args room p m = steady_if _ (steady_take (marked LBracket) (λ _. steady_bind steady_all_args (λ us. steady_pure _)) (steady_pure _)) (steady_pure _)

  pub steady_named_type : (room : ℕ) (p : Placed) → Steady (named_type room type p)
  unfolding named_type
  steady_named_type room p = steady_if _ (steady_take (marked Period) (λ _. steady_bind steady_expect_name (λ m. steady_maybe_args room p (Some m))) (steady_maybe_args room p None)) (steady_maybe_args room p None)

module _ (room : ℕ) (inner : Nested) (is : AreSteady inner) where
  pub steady_a_type : Steady (a_type room inner)
  steady_a_type = steady_bind (is.maybe_type at.Plain) steady_or_refuse

  pub steady_a_lower_type : Steady (a_lower_type room inner)
  steady_a_lower_type = steady_bind (is.lower_maybe_type at.Plain) steady_or_refuse

  pub steady_an_element : Steady (an_element room inner)
  steady_an_element = steady_bind (is.maybe_type at.Element) steady_or_refuse

  -- ---- parameters and results

  steady_add_argument : (ps : Params) (p : Placed) (x : Option TypeTree) (k : ℕ) → Steady (add_argument room inner ps p x k)
  steady_add_argument ps p None k = steady_refuse
  steady_add_argument ps p (Some t) k = steady_pure _

  steady_add_array : (ps : Params) (p : Placed) (s : Spot) (x : Read Tree) (t : Option (Read TypeTree)) → Steady (add_array room inner ps p s x t)
  steady_add_array ps p s x None = steady_add_argument ps p (as_type x.tree) x.depth
  steady_add_array ps p s x (Some t) = steady_pure _

  steady_behind_bracket : (ps : Params) (p : Placed) (s : Spot) (x : Read Tree) (t : Option TypeTree) → Steady (behind_bracket room inner ps p s x t)
  steady_behind_bracket ps p s x None = steady_bind (is.lower_maybe_type at.Plain) (λ t. steady_add_array ps p s x t)
  steady_behind_bracket ps p s x (Some t) = steady_pure _

  steady_close_bracket : (ps : Params) (p : Placed) (s : Spot) (x : Read Tree) → Steady (close_bracket room inner ps p s x)
  steady_close_bracket ps p s x = steady_bind (steady_expect RBracket) (λ _. steady_behind_bracket ps p s x (only_type x.tree))

  steady_behind_cover : (ps : Params) (p : Placed) (s : Spot) (x : Read Tree) (t : Option TypeTree) → Steady (behind_cover room inner ps p s x t)
  steady_behind_cover ps p s x None = steady_close_bracket ps p s x
  steady_behind_cover ps p s x (Some t) = steady_take (marked Comma) (λ _. steady_bind (steady_args_behind (a_lower_type room inner) steady_a_lower_type _) (λ us. steady_pure _)) (steady_close_bracket ps p s x)

  steady_bracketed : (ps : Params) (p : Placed) (s : Spot) → Steady (bracketed room inner ps p s)
  unfolding bracketed
  steady_bracketed ps p s = steady_take (marked RBracket) (λ _. steady_bind steady_a_lower_type (λ t. steady_pure _)) (steady_bind (is.lower_level site.Argument 1) (λ x. steady_behind_cover ps p s x (as_type x.tree)))

  steady_maybe_named : (ps : Params) (p : Placed) → Steady (maybe_named room inner ps p)
  steady_maybe_named ps p = steady_bind (is.maybe_type at.Plain) (λ t. steady_pure _)

  steady_qualified : (ps : Params) (p : Placed) → Steady (qualified room inner ps p)
  steady_qualified ps p = steady_bind steady_expect_name (λ m. steady_bind (steady_maybe_args (a_lower_type room inner) steady_a_lower_type room p (Some m)) (λ t. steady_pure _))

  steady_open_name : (ps : Params) (p : Placed) → Steady (open_name room inner ps p)
  unfolding open_name
  steady_open_name ps p = steady_if _ (steady_take (marked Period) (λ _. steady_qualified ps p) (steady_take (marked LBracket) (λ s. steady_bracketed ps p s) (steady_maybe_named ps p))) (steady_maybe_named ps p)

  steady_bare_param : (ps : Params) → Steady (bare_param room inner ps)
  steady_bare_param ps = steady_bind steady_a_type (λ t. steady_pure _)

  steady_param_by : (b : Style) (ps : Params) → Steady (param_by room inner b ps)
  steady_param_by Open ps = steady_take a_name (steady_open_name ps) (steady_bare_param ps)
  steady_param_by Bare ps = steady_bare_param ps
  steady_param_by Named ps = steady_take a_name (steady_maybe_named ps) steady_refuse

  pub steady_param : (ps : Params) → Steady (param room inner ps)
  unfolding param
  steady_param ps = steady_if _ (steady_param_by ps.style ps) steady_refuse

  pub steady_params : Steady (params room inner)
  unfolding params
  steady_params = steady_bind (steady_parts Comma RParen params_ending (param room inner) steady_param _) (λ ps. steady_pure _)

  pub steady_results : Steady (results room inner)
  unfolding results
  steady_results = steady_take (marked LParen) (λ s. steady_bind steady_params (λ gs. steady_pure _)) (steady_bind (is.maybe_type at.Plain) (λ t. steady_pure _))

  pub steady_signature : (make : List (Group TypeTree) → MaybeType → ℕ → Read TypeTree) → Steady (signature room inner make)
  unfolding signature
  steady_signature make = steady_bind steady_params (λ gs. steady_bind steady_results (λ r. steady_pure _))

  -- ---- structs and interfaces

  steady_add_field : (l : Listed (Group TypeTree)) (ns : List Placed) → Steady (add_field room inner l ns)
  steady_add_field l ns = steady_bind steady_a_type (λ t. steady_pure _)

  pub steady_one_name_more : (ns : List Placed) → Steady (one_name_more room inner ns)
  steady_one_name_more ns = steady_bind steady_expect_name (λ p. steady_pure _)

  pub steady_field : (l : Listed (Group TypeTree)) → Steady (field room inner l)
  unfolding field
  steady_field l = steady_if _ (steady_bind steady_expect_name (λ p. steady_bind (steady_chain Comma (one_name_more room inner) steady_one_name_more _) (λ ns. steady_add_field l ns))) steady_refuse

  steady_struct_type : (s : Spot) → Steady (struct_type room inner s)
  unfolding struct_type
  steady_struct_type s = steady_bind (steady_expect LBrace) (λ _. steady_bind (steady_parts Semi RBrace any_end (field room inner) steady_field _) (λ gs. steady_pure _))

  steady_interface_type : (s : Spot) → Steady (interface_type room inner s)
  unfolding interface_type
  steady_interface_type s = steady_bind (steady_expect LBrace)
      (λ _. steady_bind (steady_parts Semi RBrace any_end (one_more (an_element room inner)) (steady_one_more (an_element room inner) steady_an_element) _) (λ us. steady_pure _))

  -- ---- types

  steady_opened : {r : Reader (Read TypeTree)} → Steady r → Steady (opened room inner r)
  steady_opened of = steady_bind of (λ t. steady_pure (Some t))

  steady_map_type : (s : Spot) → Steady (map_type room inner s)
  steady_map_type s = steady_bind (steady_expect LBracket) (λ _. steady_bind steady_a_type (λ k. steady_bind (steady_expect RBracket) (λ _. steady_bind steady_a_type (λ t. steady_pure _))))

  steady_array_type : (s : Spot) → Steady (array_type room inner s)
  steady_array_type s = steady_bind (is.level site.Plain 1) (λ e. steady_bind (steady_expect RBracket) (λ _. steady_bind steady_a_type (λ t. steady_pure _)))

  steady_counted_type : (type : Reader (Read TypeTree)) → Steady type → (s : Spot) → Steady (counted_type room inner type s)
  steady_counted_type type type_is s = steady_bind (steady_expect RBracket) (λ _. steady_bind type_is (λ t. steady_pure _))

  steady_counted_or_array : (p : TypeSite) (s : Spot) → Steady (counted_or_array room inner p s)
  steady_counted_or_array at.Plain s = steady_array_type s
  steady_counted_or_array at.Element s = steady_array_type s
  steady_counted_or_array at.Operand s = steady_take (marked Ellipsis) (λ _. steady_counted_type (a_type room inner) steady_a_type s) (steady_array_type s)
  steady_counted_or_array at.Argument s = steady_if _ (steady_take (marked Ellipsis) (λ _. steady_counted_type (a_lower_type room inner) steady_a_lower_type s) (steady_array_type s)) (steady_array_type s)

  pub steady_bracket_type : (p : TypeSite) (s : Spot) → Steady (bracket_type room inner p s)
  unfolding bracket_type
  steady_bracket_type p s = steady_take (marked RBracket) (λ _. steady_bind steady_a_type (λ t. steady_pure _)) (steady_counted_or_array p s)

  steady_func_type : (s : Spot) → Steady (func_type room inner s)
  steady_func_type s = steady_bind (steady_expect LParen) (λ _. steady_signature _)

  steady_deep_type : (p : TypeSite) (other : Reader (Option (Read TypeTree))) → Steady other → Steady (deep_type room inner p other)
  steady_deep_type p other other_is = steady_if _ (steady_take (marked LBracket) (λ s. steady_opened (steady_bracket_type p s)) (steady_take (marked Map) (λ s. steady_opened (steady_map_type s)) other_is)) other_is

  pub steady_operand_type : (p : TypeSite) (other : Reader (Option (Read TypeTree))) → Steady other → Steady (operand_type room inner p other)
  unfolding operand_type
  steady_operand_type p other other_is = steady_take (marked Func) (λ s. steady_opened (steady_func_type s))
      (steady_take (marked Struct) (λ s. steady_opened (steady_struct_type s)) (steady_take (marked Interface) (λ s. steady_opened (steady_interface_type s)) (steady_deep_type p other other_is)))

  steady_pointer_type : (s : Spot) → Steady (pointer_type room inner s)
  steady_pointer_type s = steady_bind steady_a_type (λ t. steady_pure _)

  steady_parenthesized_type : (s : Spot) → Steady (parenthesized_type room inner s)
  steady_parenthesized_type s = steady_bind steady_a_type (λ t. steady_bind (steady_expect RParen) (λ _. steady_pure _))

  steady_marked_type : Steady (marked_type room inner)
  steady_marked_type = steady_if _ (steady_take (marked Mul) (λ s. steady_opened (steady_pointer_type s)) (steady_take (marked LParen) (λ s. steady_opened (steady_parenthesized_type s)) (steady_pure None))) (steady_pure None)

  steady_other_type : Steady (other_type room inner)
  steady_other_type = steady_operand_type at.Plain (marked_type room inner) steady_marked_type

  pub steady_plain_type : Steady (plain_type room inner)
  unfolding plain_type
  steady_plain_type = steady_take a_name (λ p. steady_opened (steady_named_type (a_type room inner) steady_a_type (suc room) p)) steady_other_type

  -- ---- elements of interfaces

  pub steady_term : Steady (term room inner)
  unfolding term
  steady_term = steady_take (marked Tilde) (λ s. steady_bind steady_plain_type (λ m. steady_bind (steady_or_refuse m) (λ t. steady_pure _))) (steady_bind steady_plain_type steady_or_refuse)

  pub steady_union_from : (t : Read TypeTree) → Steady (union_from room inner t)
  unfolding union_from
  steady_union_from t = steady_bind (steady_chain Or (one_more (term room inner)) (steady_one_more (term room inner) steady_term) _) (λ us. steady_pure _)

  pub steady_maybe_union : (x : Option (Read TypeTree)) → Steady (maybe_union room inner x)
  steady_maybe_union None = steady_pure None
  steady_maybe_union (Some t) = steady_union_from t

  steady_element : Steady (element room inner)
  unfolding element
  steady_element = steady_take a_name
      (λ p. steady_take (marked LParen) (λ _. steady_opened (steady_signature _)) (steady_bind (steady_named_type (a_type room inner) steady_a_type (suc room) p) steady_union_from))
      (steady_take (marked Tilde) (λ s. steady_bind (steady_bind steady_plain_type steady_or_refuse) (λ t. steady_union_from _)) (steady_bind steady_other_type steady_maybe_union))

  pub steady_maybe_type : (p : TypeSite) → Steady (maybe_type room inner p)
  unfolding maybe_type
  steady_maybe_type at.Plain = steady_plain_type
  steady_maybe_type at.Element = steady_element
  steady_maybe_type at.Operand = steady_operand_type at.Operand _ (steady_pure None)
  steady_maybe_type at.Argument = steady_operand_type at.Argument _ (steady_pure None)
