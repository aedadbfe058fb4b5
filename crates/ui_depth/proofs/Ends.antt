-- Single readers leave an end of their words.
use Rattle.std.proofs.Common.{ℕ, suc, max, Some}
use Rattle.ui_base.specs.declared.value.Spot.{Spot}
use Rattle.ui_scan.specs.declared.kind.TokenKind.TheVariants.{LParen, RParen, LBracket, RBracket, LBrace, RBrace, Comma, Semi}
use Rattle.ui_tree.specs.Tree.{TypeTree, convert}
use Rattle.ui_parse.specs.Reader.{◌>>=◌, pure, eat, expect}
use Rattle.ui_parse.proofs.Steady.{Steady, steady_pure, steady_bind, steady_eat, steady_expect, steady_parts}
use Rattle.ui_syntax.specs.declared.site.Site.TheVariants.{Plain}
use Rattle.ui_syntax.specs.Cover.{Read}
use Rattle.ui_syntax.specs.Types.{Nested, any_end, one_more, an_element, field, struct_type, interface_type, map_type, func_type, pointer_type, parenthesized_type, opened}
use Rattle.ui_syntax.specs.Exprs.{of_tree, an_expr}
use Rattle.ui_syntax.proofs.SteadyTypes.{AreSteady, steady_one_more, steady_a_type, steady_an_element, steady_field, steady_signature}

module _ (room : ℕ) (inner : Nested) (is : AreSteady inner) where
  -- ---- types

  pub steady_func : (s : Spot) → Steady (opened room inner (func_type room inner s))
  steady_func s = steady_bind (steady_bind (steady_expect LParen) (λ _. steady_signature room inner is _)) (λ t. steady_pure (Some t))

  pub steady_struct : (s : Spot) → Steady (opened room inner (struct_type room inner s))
  unfolding struct_type
  steady_struct s = steady_bind (steady_bind (steady_expect LBrace) (λ _. steady_bind (steady_parts Semi RBrace any_end (field room inner) (steady_field room inner is) _) (λ gs. steady_pure _))) (λ t. steady_pure (Some t))

  pub steady_interface : (s : Spot) → Steady (opened room inner (interface_type room inner s))
  unfolding interface_type
  steady_interface s = steady_bind (steady_bind (steady_expect LBrace)
      (λ _. steady_bind (steady_parts Semi RBrace any_end (one_more (an_element room inner)) (steady_one_more (an_element room inner) (steady_an_element room inner is)) _) (λ us. steady_pure _))) (λ t. steady_pure (Some t))

  pub steady_map : (s : Spot) → Steady (opened room inner (map_type room inner s))
  steady_map s = steady_bind (steady_bind (steady_expect LBracket) (λ _. steady_bind (steady_a_type room inner is) (λ k. steady_bind (steady_expect RBracket) (λ _. steady_bind (steady_a_type room inner is) (λ t. steady_pure _))))) (λ t. steady_pure (Some t))

  pub steady_pointer : (s : Spot) → Steady (opened room inner (pointer_type room inner s))
  steady_pointer s = steady_bind (steady_bind (steady_a_type room inner is) (λ t. steady_pure _)) (λ t. steady_pure (Some t))

  pub steady_parenthesized : (s : Spot) → Steady (opened room inner (parenthesized_type room inner s))
  steady_parenthesized s = steady_bind (steady_bind (steady_a_type room inner is) (λ t. steady_bind (steady_expect RParen) (λ _. steady_pure _))) (λ t. steady_pure (Some t))

  -- ---- expressions

  pub steady_conversion : (t : Read TypeTree) → Steady (an_expr room inner >>= (λ e. eat Comma >>= (λ _. expect RParen >>= (λ _. pure (of_tree (convert t.spot t.tree e.tree) t.spot (suc (max t.depth e.depth)))))))
  steady_conversion t = steady_bind (is.level Plain 1) (λ e. steady_bind (steady_eat Comma) (λ _. steady_bind (steady_expect RParen) (λ _. steady_pure _)))
